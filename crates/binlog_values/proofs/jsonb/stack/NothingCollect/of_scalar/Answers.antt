use Rattle.binlog_values.specs.JsonbContainers.{lent_scalar}
use Rattle.binlog_values.proofs.JsonbWalk.{checked_scalar}
use Rattle.binlog_values.proofs.jsonb.stack.NothingCollect.of_scalar.Goals as goal

pub returns : goal.returns
returns c = λ limit levels n. checked_scalar limit levels n (lent_scalar c.args.value) c.check_scalar.result c.check_scalar.ensures.checked
