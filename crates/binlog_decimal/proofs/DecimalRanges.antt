-- Bytes are a packed decimal if the number of each group has no more digits than the group.
use Rattle.std.proofs.Common.{◌≡◌, ℕ, ◌+◌, ◌^◌, ◌<◌, List, [], ◌∷◌, ◌++◌, length, take, drop, refl, sym, subst, ◌∙◌, arith, inl, inr}
use Rattle.std.specs.Int.Digits.{AllBelowBase, number_from_digits}
use Rattle.std.proofs.lemmas.Bool.{cases_lt}
use Rattle.std.proofs.lemmas.List.{length-take-le, length-drop, take-append-drop}
use Rattle.binlog_decimal.specs.Decimals.{DecimalView, IsPacked, packed_size, digits_size, group_width, integer_groups, fraction_groups, flipped_bytes}
use Rattle.binlog_decimal.specs.DecimalGroups.{IsCut, low_digits, ungrouped_digits, digits_in, bytes_in}
use Rattle.binlog_decimal.specs.Lemmas.DecimalGroups.{bytes_in-integer, below-low_digits, length-low_digits, cut-nil, cut-group, cut-append, cut-parts}
use Rattle.binlog_decimal.specs.DecimalMasks.{unmasked_bytes, is_minus}
use Rattle.binlog_decimal.specs.Lemmas.DecimalMasks.{below-flipped_bytes, below-inverted_bytes, length-inverted_bytes, length-flipped_bytes}
use Rattle.binlog_decimal.specs.Lemmas.PackedDecimals.{groups_of, groups_of-small, bytes_in-groups_of}
use Rattle.binlog_decimal.specs.DecimalLaws.{AreInRange}
use Rattle.binlog_decimal.proofs.DecimalSteps.{below-take, below-drop, group_bytes-low_digits, group-refused}
use Rattle.binlog_decimal.proofs.DecimalBytes.{decoded, packed_bytes-cuts}

ranges-cut : (sizes bytes : List ℕ) → AllBelowBase 256 bytes → length bytes ≡ bytes_in sizes → AreInRange sizes bytes → IsCut sizes bytes (ungrouped_digits sizes bytes)
unfolding ungrouped_digits
ranges-cut [] [] below long h = cut-nil
ranges-cut [] (b ∷ bytes) below long h = absurd (omega arith)
ranges-cut (size ∷ sizes) bytes below long h =
    let w = group_width size in
    let n = number_from_digits 256 (take w bytes) in
    let front : length (take w bytes) ≡ w = length-take-le w bytes (omega arith) in
    let back : length (drop w bytes) ≡ bytes_in sizes = omega (arith, length-drop w bytes) in
    let group : IsCut (size ∷ []) (take w bytes) (low_digits 10 size n) = cut-group size (take w bytes) (low_digits 10 size n) (below-low_digits 10 size n (omega arith)) (length-low_digits 10 size n) (group_bytes-low_digits size (take w bytes) (below-take 256 w bytes below) front h.0) in
    let all = cut-append (size ∷ []) sizes (take w bytes) (drop w bytes) (low_digits 10 size n) (ungrouped_digits sizes (drop w bytes)) group (ranges-cut sizes (drop w bytes) (below-drop 256 w bytes below) back h.1) in
    subst (λ (l : List ℕ). IsCut (size ∷ sizes) l (low_digits 10 size n ++ ungrouped_digits sizes (drop w bytes))) (take-append-drop w bytes) all

cut-ranges : (sizes bytes ds : List ℕ) → AllBelowBase 10 sizes → length bytes ≡ bytes_in sizes → IsCut sizes bytes ds → AreInRange sizes bytes
cut-ranges [] bytes ds most long h = tt
cut-ranges (size ∷ sizes) bytes ds most long h =
    let w = group_width size in
    let front : length (take w bytes) ≡ w = length-take-le w bytes (omega arith) in
    let back : length (drop w bytes) ≡ bytes_in sizes = omega (arith, length-drop w bytes) in
    let whole : IsCut (size ∷ sizes) (take w bytes ++ drop w bytes) ds = subst (λ (l : List ℕ). IsCut (size ∷ sizes) l ds) (sym (take-append-drop w bytes)) h in
    let parts = cut-parts (size ∷ []) sizes (take w bytes) (drop w bytes) ds (omega (arith, front)) whole in
    let low : number_from_digits 256 (take w bytes) < 10 ^ size =
    elim (cases_lt (number_from_digits 256 (take w bytes)) (10 ^ size)) [
      | inl l ↦ l
      | inr l ↦ absurd (group-refused size (take w bytes) (omega (arith, most.0)) l (take (digits_in (size ∷ [])) ds) parts.0)
    ] in
    (low, cut-ranges sizes (drop w bytes) (drop (digits_in (size ∷ [])) ds) most.1 back parts.1)

length-unmasked_bytes : (x : List ℕ) → length (unmasked_bytes x) ≡ length x
length-unmasked_bytes x = length-inverted_bytes (is_minus x) (flipped_bytes x) ∙ length-flipped_bytes x

pub packed_in-range : (i f : ℕ) (x : List ℕ) (d : DecimalView) → length x ≡ packed_size i f → IsPacked i f x d → AreInRange (groups_of i f) (unmasked_bytes x)
packed_in-range i f x d long h =
    let n = digits_size i in
    let plain = unmasked_bytes x in
    let cuts = packed_bytes-cuts i f x (take n plain) (drop n plain) d h refl refl in
    let whole = cut-append (integer_groups i) (fraction_groups f) (take n plain) (drop n plain) d.integer d.fraction cuts.0 cuts.1 in
    cut-ranges (groups_of i f) plain (d.integer ++ d.fraction) (groups_of-small i f) (length-unmasked_bytes x ∙ long ∙ sym (bytes_in-groups_of i f))
    (subst (λ (l : List ℕ). IsCut (groups_of i f) l (d.integer ++ d.fraction)) (take-append-drop n plain) whole)

pub in_range-packed_bytes : (i f : ℕ) (x : List ℕ) → 0 < i + f → AllBelowBase 256 x → length x ≡ packed_size i f → AreInRange (groups_of i f) (unmasked_bytes x) → (d : DecimalView) × IsPacked i f x d
in_range-packed_bytes i f x some below long h =
    let n = digits_size i in
    let plain = unmasked_bytes x in
    let held = below-inverted_bytes (is_minus x) (flipped_bytes x) (below-flipped_bytes x below) in
    let size : length plain ≡ bytes_in (groups_of i f) = length-unmasked_bytes x ∙ long ∙ sym (bytes_in-groups_of i f) in
    let digits = ungrouped_digits (groups_of i f) plain in
    let cut : IsCut (groups_of i f) plain digits = ranges-cut (groups_of i f) plain held size h in
    let front : length (take n plain) ≡ bytes_in (integer_groups i) = length-take-le n plain (omega (arith, length-unmasked_bytes x, long)) ∙ sym (bytes_in-integer i) in
    let parts = cut-parts (integer_groups i) (fraction_groups f) (take n plain) (drop n plain) digits front (subst (λ (l : List ℕ). IsCut (groups_of i f) l digits) (sym (take-append-drop n plain)) cut) in
    let k = digits_in (integer_groups i) in (
      record { negative = is_minus x; integer = take k digits; fraction = drop k digits },
      decoded i f x (take n plain) (drop n plain) (take k digits) (drop k digits) (is_minus x) below some refl (take-append-drop n plain) parts.0 parts.1,
    )
