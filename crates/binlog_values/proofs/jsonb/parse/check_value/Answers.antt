use Rattle.std.proofs.Common.{sym}
use Rattle.binlog_values.specs.JsonbViews.{view_of}
use Rattle.binlog_values.specs.JsonbContainers.{frame, lent_scalar}
use Rattle.binlog_values.proofs.JsonbParsing.{checked_container, checked_single}
use Rattle.binlog_values.proofs.jsonb.parse.check_value.Goals as goal

pub returns-in-Container : goal.returns-in-Container
returns-in-Container c =
    let root = frame c.in-Container.root in
    checked_container (view_of c.args.value.now) root c.limit_of-limit.result c.read_container.new.counter c.read_container.result (sym c.in-Container.ensures) c.limit_of-limit.ensures.limit c.read_container.ensures.kept (rw c.requires at c.read_container.ensures.tree)

pub returns-in-Scalar : goal.returns-in-Scalar
returns-in-Scalar c = rw c.requires (checked_single (view_of c.args.value.now) (lent_scalar c.in-Scalar.scalar) c.check_scalar.result c.in-Scalar.ensures c.check_scalar.ensures.checked c.check_scalar.ensures.memory)
