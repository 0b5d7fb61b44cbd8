use Rattle.std.proofs.Common.{◌≡◌, ℕ, ◌++◌, List, ap, sym, ◌∙◌, append_assoc, subst, rules}
use Rattle.std.proofs.Output.{has_written_append, has_written_of_eq}
use Rattle.std.proofs.lemmas.Grind.{flat_map-append}
use Rattle.std.specs.Fmt.{decimal}
use Rattle.std.specs.Int.Digits.{AllBelowBase}
use Rattle.std.specs.Slice.Iter.{chunks_rest}
use Rattle.binlog_decimal.specs.Lemmas.DecimalGroups.{below-back}
use Rattle.binlog_decimal.proofs.digits.write_digits.Goals as goal

pub loop-chunk-preserved : goal.loop-chunk-preserved
loop-chunk-preserved g c =
    let chunk = c.in-Some.chunk.now in
    let rest = chunks_rest c.next.new.self in
    let steps = c.in-Some.ensures.steps in
    let size = c.loop-chunk.invariant.size in
    let parts : chunks_rest c.loop-chunk.chunk-iterator ≡ chunk ++ rest = steps.1.0 in
    record {
      can_next = search rules;
      is_finite = tt;
      size = steps.0 ∙ size;
      below = below-back 10 chunk rest (subst (AllBelowBase 10) parts c.loop-chunk.invariant.below);
      written = λ plain.
          let so_far = c.loop-chunk.invariant.written plain in (
            so_far.0 ++ chunk,
            has_written_of_eq _ _ _ _ _ (sym (flat_map-append decimal so_far.0 chunk)) (has_written_append _ _ _ _ _ _ so_far.1 (search rules)),
            append_assoc so_far.0 chunk rest ∙ ap (λ (l : List ℕ). so_far.0 ++ l) (sym parts) ∙ so_far.2,
          );
    }
