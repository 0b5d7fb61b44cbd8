-- The bytes of whole packed decimals: how they are written, read and refused.
use Rattle.std.proofs.Common.{◌≡◌, ℕ, ◌+◌, ◌*◌, ◌/◌, ◌%◌, ◌<◌, ◌≤◌, Bool, List, [], ◌∷◌, ◌++◌, length, take, drop, replicate, Option, Result, Ok, Err, sym, ap, subst, ◌∙◌, append-nil, arith, inr}
use Rattle.std.specs.Result.{OnOk}
use Rattle.std.specs.Int.Digits.{AllBelowBase}
use Rattle.std.specs.Io.KnownBytes.{Appends}
use Rattle.std.proofs.KnownBytes.{Appends-trans}
use Rattle.std.proofs.lemmas.List.{length-take-le, length-drop, take_all, take-append-drop, take_at, drop_at}
use Rattle.binlog_base.specs.declared.fault.Fault.{Fault}
use Rattle.binlog_base.specs.Format.{Parses}
use Rattle.binlog_decimal.specs.Decimals.{DecimalView, IsPacked, packed_bytes, packed_size, group_width, grouped_bytes, integer_groups, fraction_groups, digits_size, inverted_bytes, flipped_bytes}
use Rattle.binlog_decimal.specs.DecimalGroups.{IsCut, digits_in}
use Rattle.binlog_decimal.specs.Lemmas.DecimalGroups.{bytes_in-nines, digits_in-integer, digits_in-fraction, bytes_in-integer, length-grouped_bytes}
use Rattle.binlog_decimal.specs.DecimalMasks.{is_minus, unmasked_bytes}
use Rattle.binlog_decimal.specs.Lemmas.DecimalMasks.{masked_bytes-unmasked_bytes}
use Rattle.binlog_decimal.specs.DecimalReads.{Unpacks, UnpacksDecimal}
use Rattle.binlog_decimal.specs.PackedDecimals.{packed_digits}
use Rattle.binlog_decimal.specs.Lemmas.PackedDecimals.{unmasked_bytes-packed_bytes, exact_packed_digits}
use Rattle.binlog_decimal.proofs.DecimalSteps.{unpacks-then, unpacks-stop}

-- ---- what is written

-- appending bytes in two steps is appending them all
pub appended : {X : Type 0} (r : Result X Fault) (old mid new : Option (List ℕ)) (a b all : List ℕ) → Appends old mid a → OnOk r (Appends mid new b) → all ≡ a ++ b → OnOk r (Appends old new all)
appended (Ok x) old mid new a b all h k is = subst (λ (l : List ℕ). Appends old new l) (sym is) (Appends-trans old mid new a b h k)
appended (Err e) old mid new a b all h k is = tt

-- ---- groups before and after the point

pub integer_parts : (count : ℕ) (bytes group nines : List ℕ) → length bytes ≡ digits_size count → group ≡ take (group_width (count % 9)) bytes → nines ≡ drop (group_width (count % 9)) bytes → (group ++ nines ≡ bytes) × (length group ≡ group_width (count % 9)) × (length nines / 4 ≡ count / 9)
integer_parts count bytes group nines long is after =
    let w = group_width (count % 9) in
    let within : w ≤ length bytes = omega arith in
    let front : length group ≡ w = ap length is ∙ length-take-le w bytes within in
    let back : length nines ≡ 4 * (count / 9) = omega (arith, ap length after, length-drop w bytes, long) in
    (ap (λ (l : List ℕ). l ++ nines) is ∙ ap (λ (l : List ℕ). take w bytes ++ l) after ∙ take-append-drop w bytes, front, omega (arith, back))

pub integer-then : {Y : Type 0} (count : ℕ) (bytes group nines ds es : List ℕ) (r : Result Y Fault) → length bytes ≡ digits_size count → group ≡ take (group_width (count % 9)) bytes → nines ≡ drop (group_width (count % 9)) bytes
    → IsCut ((count % 9) ∷ []) group ds → Unpacks r (replicate (length nines / 4) 9) nines es → Unpacks r (integer_groups count) bytes (ds ++ es)
integer-then count bytes group nines ds es r long is after h k =
    let parts = integer_parts count bytes group nines long is after in
    subst (λ (l : List ℕ). Unpacks r (integer_groups count) l (ds ++ es)) parts.0
    (unpacks-then ((count % 9) ∷ []) (replicate (count / 9) 9) group nines ds es r h (subst (λ (n : ℕ). Unpacks r (replicate n 9) nines es) parts.2 k))

pub integer-stop : (X Y : Type 0) (count : ℕ) (bytes group nines ds es : List ℕ) (e : Fault) → length bytes ≡ digits_size count → group ≡ take (group_width (count % 9)) bytes → nines ≡ drop (group_width (count % 9)) bytes
    → Unpacks {X = X} (Err e) ((count % 9) ∷ []) group ds → Unpacks {X = Y} (Err e) (integer_groups count) bytes es
integer-stop X Y count bytes group nines ds es e long is after h =
    let parts = integer_parts count bytes group nines long is after in
    subst (λ (l : List ℕ). Unpacks {X = Y} (Err e) (integer_groups count) l es) parts.0
    (unpacks-stop X Y ((count % 9) ∷ []) (replicate (count / 9) 9) group nines ds es e (omega (arith, parts.1)) h)

fraction_parts : (count : ℕ) (bytes nines group : List ℕ) → length bytes ≡ digits_size count → nines ≡ take (count / 9 * 4) bytes → group ≡ drop (count / 9 * 4) bytes → (nines ++ group ≡ bytes) × (length nines ≡ 4 * (count / 9)) × (length nines / 4 ≡ count / 9)
fraction_parts count bytes nines group long is after =
    let w = count / 9 * 4 in
    let within : w ≤ length bytes = omega arith in
    let front : length nines ≡ w = ap length is ∙ length-take-le w bytes within in
    (ap (λ (l : List ℕ). l ++ group) is ∙ ap (λ (l : List ℕ). take w bytes ++ l) after ∙ take-append-drop w bytes, omega (arith, front), omega (arith, front))

pub fraction-then : {Y : Type 0} (count : ℕ) (bytes nines group ds es : List ℕ) (r : Result Y Fault) → length bytes ≡ digits_size count → nines ≡ take (count / 9 * 4) bytes → group ≡ drop (count / 9 * 4) bytes
    → IsCut (replicate (length nines / 4) 9) nines ds → Unpacks r ((count % 9) ∷ []) group es → Unpacks r (fraction_groups count) bytes (ds ++ es)
fraction-then count bytes nines group ds es r long is after h k =
    let parts = fraction_parts count bytes nines group long is after in
    subst (λ (l : List ℕ). Unpacks r (fraction_groups count) l (ds ++ es)) parts.0
    (unpacks-then (replicate (count / 9) 9) ((count % 9) ∷ []) nines group ds es r (subst (λ (n : ℕ). IsCut (replicate n 9) nines ds) parts.2 h) k)

pub fraction-stop : (X Y : Type 0) (count : ℕ) (bytes nines group ds es : List ℕ) (e : Fault) → length bytes ≡ digits_size count → nines ≡ take (count / 9 * 4) bytes → group ≡ drop (count / 9 * 4) bytes
    → Unpacks {X = X} (Err e) (replicate (length nines / 4) 9) nines ds → Unpacks {X = Y} (Err e) (fraction_groups count) bytes es
fraction-stop X Y count bytes nines group ds es e long is after h =
    let parts = fraction_parts count bytes nines group long is after in
    subst (λ (l : List ℕ). Unpacks {X = Y} (Err e) (fraction_groups count) l es) parts.0
    (unpacks-stop X Y (replicate (count / 9) 9) ((count % 9) ∷ []) nines group ds es e (omega (arith, parts.1, bytes_in-nines (count / 9)))
    (subst (λ (n : ℕ). Unpacks {X = X} (Err e) (replicate n 9) nines ds) parts.2 h))

-- ---- whole decimals

-- the digits that the bytes hold in groups are those of the decimal packed in them
pub decoded : (i f : ℕ) (x front back before after : List ℕ) (negative : Bool) → AllBelowBase 256 x → 0 < i + f → negative ≡ is_minus x → front ++ back ≡ unmasked_bytes x → IsCut (integer_groups i) front before → IsCut (fraction_groups f) back after
    → IsPacked i f x (record { negative = negative; integer = before; fraction = after })
unfolding packed_bytes
decoded i f x front back before after negative below some sign parts h k =
    let count : length before ≡ i = h.count ∙ digits_in-integer i in
    let others : length after ≡ f = k.count ∙ digits_in-fraction f in
    let integer : grouped_bytes (integer_groups (length before)) before ≡ front = ap (λ (n : ℕ). grouped_bytes (integer_groups n) before) count ∙ h.grouping in
    let fraction : grouped_bytes (fraction_groups (length after)) after ≡ back = ap (λ (n : ℕ). grouped_bytes (fraction_groups n) after) others ∙ k.grouping in
    record {
      digits = (h.below, k.below, omega arith);
      before = count;
      after = others;
      written = ap (λ (b : Bool). flipped_bytes (inverted_bytes b (grouped_bytes (integer_groups (length before)) before ++ grouped_bytes (fraction_groups (length after)) after))) sign
          ∙ ap (λ (l : List ℕ). flipped_bytes (inverted_bytes (is_minus x) (l ++ grouped_bytes (fraction_groups (length after)) after))) integer
          ∙ ap (λ (l : List ℕ). flipped_bytes (inverted_bytes (is_minus x) (front ++ l))) fraction ∙ ap (λ (l : List ℕ). flipped_bytes (inverted_bytes (is_minus x) l)) parts ∙ masked_bytes-unmasked_bytes x below;
    }

-- the bytes of a packed decimal hold its digits in groups
pub packed_bytes-cuts : (i f : ℕ) (x front back : List ℕ) (d : DecimalView) → IsPacked i f x d → front ≡ take (digits_size i) (unmasked_bytes x) → back ≡ drop (digits_size i) (unmasked_bytes x) → IsCut (integer_groups i) front d.integer × IsCut (fraction_groups f) back d.fraction
packed_bytes-cuts i f x front back d h is split =
    let before = grouped_bytes (integer_groups i) d.integer in
    let after = grouped_bytes (fraction_groups f) d.fraction in
    let count : length d.integer ≡ digits_in (integer_groups i) = h.before ∙ sym (digits_in-integer i) in
    let others : length d.fraction ≡ digits_in (fraction_groups f) = h.after ∙ sym (digits_in-fraction f) in
    let all : unmasked_bytes x ≡ before ++ after = ap unmasked_bytes (sym h.written) ∙ unmasked_bytes-packed_bytes d h.digits
    ∙ ap (λ (n : ℕ). grouped_bytes (integer_groups n) d.integer ++ grouped_bytes (fraction_groups (length d.fraction)) d.fraction) h.before
    ∙ ap (λ (n : ℕ). before ++ grouped_bytes (fraction_groups n) d.fraction) h.after in
    let width : length before ≡ digits_size i = length-grouped_bytes (integer_groups i) d.integer count ∙ bytes_in-integer i in (
      record { below = h.digits.0; count = count; grouping = sym (is ∙ ap (take (digits_size i)) all ∙ take_at before after (digits_size i) width) },
      record { below = h.digits.1; count = others; grouping = sym (split ∙ ap (drop (digits_size i)) all ∙ drop_at before after (digits_size i) width) },
    )

-- the bytes of the groups before and after the point, without the sign encoding
pub record AreHalves (i : ℕ) (x front back : List ℕ) (negative : Bool) : Type 0 where
  pub below : AllBelowBase 256 x
  pub sign : negative ≡ is_minus x
  pub before : front ≡ take (digits_size i) (unmasked_bytes x)
  pub after : back ≡ drop (digits_size i) (unmasked_bytes x)

pub halves : (i size : ℕ) (x bytes front back : List ℕ) (negative : Bool) → AllBelowBase 256 x → negative ≡ is_minus x → bytes ≡ inverted_bytes negative (flipped_bytes x) → size ≡ digits_size i → front ≡ take size bytes → back ≡ drop size bytes → AreHalves i x front back negative
halves i size x bytes front back negative below sign is long before after =
    let all : bytes ≡ unmasked_bytes x = is ∙ ap (λ (b : Bool). inverted_bytes b (flipped_bytes x)) sign in
    record {
      below = below;
      sign = sign;
      before = before ∙ ap (take size) all ∙ ap (λ (n : ℕ). take n (unmasked_bytes x)) long;
      after = after ∙ ap (drop size) all ∙ ap (λ (n : ℕ). drop n (unmasked_bytes x)) long;
    }

pub unpacked : (i f : ℕ) (x front back before after : List ℕ) (negative : Bool) → 0 < i + f → AreHalves i x front back negative → IsCut (integer_groups i) front before → IsCut (fraction_groups f) back after
    → IsPacked i f x (record { negative = negative; integer = before; fraction = after })
unpacked i f x front back before after negative some halves h k =
    let parts : front ++ back ≡ unmasked_bytes x = ap (λ (l : List ℕ). l ++ back) halves.before ∙ ap (λ (l : List ℕ). take (digits_size i) (unmasked_bytes x) ++ l) halves.after ∙ take-append-drop (digits_size i) (unmasked_bytes x) in
    decoded i f x front back before after negative halves.below some halves.sign parts h k

pub no_integer : (X : Type 0) (i f : ℕ) (x front back ds : List ℕ) (negative : Bool) (e : Fault) → AreHalves i x front back negative → Unpacks {X = X} (Err e) (integer_groups i) front ds → UnpacksDecimal (Err e) i f x
no_integer X i f x front back ds negative e halves h = (h.0, λ d p. h.1 d.integer (packed_bytes-cuts i f x front back d p halves.before halves.after).0)

pub no_fraction : (X : Type 0) (i f : ℕ) (x front back ds : List ℕ) (negative : Bool) (e : Fault) → AreHalves i x front back negative → Unpacks {X = X} (Err e) (fraction_groups f) back ds → UnpacksDecimal (Err e) i f x
no_fraction X i f x front back ds negative e halves h = (h.0, λ d p. h.1 d.fraction (packed_bytes-cuts i f x front back d p halves.before halves.after).1)

-- what is unpacked from bytes of the right length is what the format reads from them
pub packed_at : (r : Result DecimalView Fault) (i f : ℕ) (x : List ℕ) → 0 < i + f → length x ≡ packed_size i f → UnpacksDecimal r i f x → Parses (packed_digits i f) r x []
unfolding packed_digits
packed_at (Ok d) i f x some long h = ap (packed_digits i f).parse (sym (append-nil x)) ∙ (exact_packed_digits i f some).complete x [] d h
packed_at (Err e) i f x some long h =
    let all : take (packed_size i f) x ≡ x = take_all (packed_size i f) x (omega arith) in
    (exact_packed_digits i f some).refused_complete x e (inr (omega arith, λ d p. h.1 d (subst (λ (y : List ℕ). IsPacked i f y d) all p), h.0))
