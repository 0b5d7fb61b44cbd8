use Rattle.std.proofs.Common.{◌≡◌, Some, subst}
use Rattle.changed_rows.specs.Tables.{TablesKept}
use Rattle.changed_rows.proofs.Kept.{tells_as, tells_if}
use Rattle.changed_rows.proofs.tables.KeptTables.is_last.Goals as goal

pub returns-in-Some-clause-tells : goal.returns-in-Some-clause-tells
returns-in-Some-clause-tells c =
    let is = subst (λ (k : TablesKept). k.last ≡ Some c.in-Some.table) c.self.view_is c.in-Some.is in
    λ given. tells_if c.args.self.now.last c.in-Some.table c.args.event.now is (tells_as c.in-Some.table c.args.event.now (c.is_of.ensures.0 given))
