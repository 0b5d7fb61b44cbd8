use Rattle.std.proofs.Common.{refl}
use Rattle.std.proofs.lemmas.Result.{err_from_is_err_and}
use Rattle.binlog_values.specs.JsonbValues.{JsonbValue, scalar}
use Rattle.binlog_values.specs.JsonbContainers.{lent_scalar}
use Rattle.binlog_values.proofs.JsonbWalk.{err_scalar, ok_scalar}
use Rattle.binlog_values.proofs.jsonb.stack.CollectedCollect.of_scalar.Goals as goal

pub returns-in_err-scalar_of : goal.returns-in_err-scalar_of
returns-in_err-scalar_of c = λ limit levels n.
    let p = err_from_is_err_and c.from_residual.result c.from_residual.ensures.1 in
    let v : JsonbValue = scalar (lent_scalar c.args.value) in
    rw (p.1, p.2) (err_scalar limit levels n v v _ refl tt c.in_err-scalar_of.ensures.scalar)

pub returns : goal.returns
returns c = λ limit levels n.
    let v : JsonbValue = scalar (lent_scalar c.args.value) in
    ok_scalar limit levels n v v c.in_ok-scalar_of.field-0 refl tt c.in_ok-scalar_of.ensures.scalar
