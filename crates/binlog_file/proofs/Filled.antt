-- The bytes that were taken into the start of a buffer.
use Rattle.std.proofs.Common.{◌≡◌, ℕ, ◌+◌, ◌-◌, List, ◌++◌, length, take, drop, slice_range, Option, sym, ap, subst, ◌∙◌, arith, take_all}
use Rattle.std.specs.Io.KnownBytes.{Consumes}
use Rattle.std.proofs.KnownBytes.{Consumes-trans}
use lib.Seq.{take-add, take-append-le}

-- a buffer of which all was lent, after that
pub whole : (n : ℕ) (new old : List ℕ) → length new ≡ n → take n (new ++ drop (length new) old) ≡ new
whole n new old len = take-append-le n new (drop (length new) old) (omega arith) ∙ take_all n new (omega arith)

-- what was taken before, and the part that was taken now
pub one_more_part : (first mid last : Option (List ℕ)) (from count : ℕ) (old new : List ℕ) → Consumes first mid (take from old) → take from new ≡ take from old → Consumes mid last (slice_range new from (from + count))
    → Consumes first last (take (from + count) new)
one_more_part first mid last from count old new before same part =
    let end : from + ((from + count) - from) ≡ from + count = omega arith in
    let joined : take from old ++ slice_range new from (from + count) ≡ take (from + count) new =
    ap (λ (l : List ℕ). l ++ slice_range new from (from + count)) (sym same) ∙ sym (take-add from ((from + count) - from) new) ∙ ap (λ (n : ℕ). take n new) end in
    subst (Consumes first last) joined (Consumes-trans first mid last (take from old) (slice_range new from (from + count)) before part)
