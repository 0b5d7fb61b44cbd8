use Rattle.std.proofs.Common.{◌≡◌, ◌++◌, ◌∷◌, map}
use Rattle.std.specs.List.{flat_map}
use Rattle.std.specs.Map.{values_of}
use Rattle.std.specs.Map.Iter.{deref_pair}
use Rattle.std.specs.Io.KnownBytes.{Appends}
use Rattle.changed_rows.specs.Counted.{name_text, numbers_text, sum_of, head_text}
use Rattle.changed_rows.proofs.count.Counts.print.Given as goal

abbrev pub invariant-loop-name : goal.invariant-loop-name
invariant-loop-name g l =
    Appends (g.O.Write.contents l.fn.out) (g.O.Write.contents l.out) (head_text ++ flat_map (λ e. numbers_text e.1 (name_text e.0)) (map deref_pair l.yielded))
    × (l.sums ≡ sum_of (l.self.others ∷ values_of (map deref_pair l.yielded)))
