use Rattle.std.proofs.Common.{◌≡◌, take, false}
use Rattle.std.specs.List.{list_any}
use Rattle.changed_rows.specs.declared.pattern.Case.TheVariants as case
use Rattle.changed_rows.specs.Patterns.{matches_table}
use Rattle.changed_rows.proofs.table_names.has_match.Given as goal

abbrev pub invariant-loop-pattern : goal.invariant-loop-pattern
invariant-loop-pattern l = list_any (λ name. matches_table case.Exact name.now l.database l.table) (take l.pattern-index l.patterns) ≡ false
