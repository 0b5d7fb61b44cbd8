use Rattle.std.proofs.Common.{List, Option, Some, sym, ap, subst}
use Rattle.std.specs.List.{All}
use Rattle.std.specs.Option.{option_map}
use Rattle.std.specs.Arc.{arc_value}
use Rattle.binlog_table.specs.TableMap.{TableMap}
use Rattle.mysql_binlog_rows.specs.Kept.{Planned}
use Rattle.binlog_kept.specs.Opened.{IsToldBy, IsToldIf}
use Rattle.binlog_kept.proofs.open_plans.OpenPlans.rows.Goals as goal

pub rows_by-requires-clause-told : goal.rows_by-requires-clause-told
rows_by-requires-clause-told c =
    let t = arc_value c.in-Some.table in
    let kept = c.self.inside.plans.items in
    let told : All (IsToldBy t) kept = subst (λ (o : Option TableMap). All (IsToldIf o) kept) (ap (option_map arc_value) c.in-Some.is) c.self.invariant in
    let lent : All (IsToldBy t) c.deref.result.now = subst (λ (ps : List (Option Planned)). All (IsToldBy t) ps) (sym c.deref.ensures.value) told in
    subst (λ (u : TableMap). All (IsToldBy u) c.deref.result.now) (sym c.deref-in-Some.ensures) lent
