use Rattle.std.proofs.Common.{◌≡◌, sym, refl}
use Rattle.std.proofs.lemmas.Result.{err_from_is_err_and}
use Rattle.binlog_values.specs.JsonbValues.{JsonbValue, scalar}
use Rattle.binlog_values.specs.JsonbViews.{view_of}
use Rattle.binlog_values.specs.JsonbDocuments.{limit_of}
use Rattle.binlog_values.specs.JsonbContainers.{frame, lent_scalar}
use Rattle.binlog_values.proofs.JsonbWalk.{err_scalar, ok_scalar}
use Rattle.binlog_values.proofs.JsonbParsing.{parsed_container, parsed_scalar}
use Rattle.binlog_values.proofs.jsonb.parse.read_value.Goals as goal

pub returns-in_err-scalar_of-in-Scalar : goal.returns-in_err-scalar_of-in-Scalar
returns-in_err-scalar_of-in-Scalar c =
    let p = err_from_is_err_and c.from_residual.result c.from_residual.ensures.1 in
    let v : JsonbValue = scalar (lent_scalar c.in-Scalar.scalar) in
    let e = c.in_err-scalar_of-in-Scalar.ensures in
    let is : v ≡ view_of c.args.value.now = c.in-Scalar.ensures in
    rw (p.1, p.2, c.requires, sym is) (parsed_scalar v _ tt (λ is. e.simple is) (err_scalar (limit_of v) 100 0 v v _ refl tt e.scalar))

pub returns-in-Container : goal.returns-in-Container
returns-in-Container c =
    let root = frame c.in-Container.root in
    let limit = c.limit_of-limit.result in
    parsed_container (view_of c.args.value.now) root limit c.read_container.new.counter c.read_container.result (sym c.in-Container.ensures) c.limit_of-limit.ensures.limit c.limit_of-limit.ensures.whole c.read_container.ensures.bound c.read_container.ensures.kept (rw c.requires at c.read_container.ensures.tree)

pub returns-in_ok-scalar_of-in-Scalar : goal.returns-in_ok-scalar_of-in-Scalar
returns-in_ok-scalar_of-in-Scalar c =
    let v : JsonbValue = scalar (lent_scalar c.in-Scalar.scalar) in
    let e = c.in_ok-scalar_of-in-Scalar.ensures in
    let is : v ≡ view_of c.args.value.now = c.in-Scalar.ensures in
    rw (c.requires, sym is) (parsed_scalar v _ tt (λ is. e.simple is) (ok_scalar (limit_of v) 100 0 v v c.in_ok-scalar_of-in-Scalar.field-0 refl tt e.scalar))
