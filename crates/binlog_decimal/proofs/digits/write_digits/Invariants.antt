use Rattle.std.proofs.Common.{◌≡◌, ◌++◌, List, ℕ}
use Rattle.std.specs.List.{flat_map}
use Rattle.std.specs.Fmt.{HasWritten, IsPlainFormatter, decimal}
use Rattle.std.specs.Int.Digits.{AllBelowBase}
use Rattle.std.specs.Slice.Iter.{chunks_rest, chunks_size}
use Rattle.binlog_decimal.proofs.digits.write_digits.Given as goal

-- the digits written so far are those that are no longer in the rest
abbrev pub invariant-loop-chunk : goal.invariant-loop-chunk
invariant-loop-chunk g l = record {
  can_next : (goal.iterator-loop-chunk g).can_next l.chunk-iterator;
  is_finite : (goal.iterator-loop-chunk g).is_finite l.chunk-iterator;
  size : chunks_size l.chunk-iterator ≡ 32;
  below : AllBelowBase 10 (chunks_rest l.chunk-iterator);
  written : IsPlainFormatter l.initial.f → (done : List ℕ) × HasWritten g.W.Write.write_str_gives l.initial.f (flat_map decimal done) l.f
      × (done ++ chunks_rest l.chunk-iterator ≡ l.fn.digits);
}
