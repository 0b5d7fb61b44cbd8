use Rattle.std.proofs.Common.{◌≡◌, take, false}
use Rattle.std.specs.Prelude.{not}
use Rattle.std.specs.List.{list_any}
use Rattle.changed_rows.specs.Patterns.{has_point}
use Rattle.change_lines.proofs.arguments.lacks_point.Given as goal

abbrev pub invariant-loop-pattern : goal.invariant-loop-pattern
invariant-loop-pattern l = list_any (λ name. not (has_point name.now)) (take l.pattern-index l.patterns) ≡ false
