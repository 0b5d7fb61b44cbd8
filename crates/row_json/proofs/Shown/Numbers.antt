-- Numbers and names with the same JSON are the same.
use Rattle.std.proofs.Common.{◌≡◌, ℕ, zero, suc, ◌*◌, ◌^◌, ◌<◌, ◌≤◌, ◌==◌, Bool, true, false, ℤ, pos, negsuc, List, [], ◌∷◌, length, refl, sym, ap, subst, arith}
use Rattle.std.specs.Prelude.{Option, Some, None, decimal, if◌then◌else◌, nat_lt, slice_index, unsigned_abs}
use Rattle.std.specs.Fmt.{signed_decimal}
use Rattle.std.proofs.lemmas.Bool.{ltb-false}
use Rattle.std.proofs.Math.Nat.{mul-le-mul_right, pow-suc, pow-le-pow_right}
use Rattle.byteorder.specs.Endian.{big_from, little_from, big_number, little_number}
use Rattle.binlog_base.specs.Coding.{IsSigned}
use Rattle.binlog_base.specs.Numbers.{AreBytes}
use Rattle.json.specs.Json.{Json, number, string}
use Rattle.row_json.specs.Values.{base64_json, number_json, string_or_number, enum_json, set_of_bits, set_json, name_of}
use Rattle.row_json.specs.Shown.{Shown, bytes, name, number as whole, shown_number, name_or_number, shown_enum, shown_set}
use Rattle.row_json.proofs.Shown.Numerals.{Numeral, decimal_numeral, same_numbers}
use Rattle.row_json.proofs.Shown.Bytes.{same_base64}

-- ---- decimals

pub same_decimals : (m n : ℕ) → m < 10 ^ 64 → n < 10 ^ 64 → decimal m ≡ decimal n → m ≡ n
same_decimals m n hm hn e = same_numbers (decimal_numeral m hm) (decimal_numeral n hn) e

not_minus : (n : ℕ) (ds : List ℕ) → n < 10 ^ 64 → decimal n ≡ 45 ∷ ds → ⊥
not_minus n ds h e = let is : Numeral n (45 ∷ ds) = subst (Numeral n) e (decimal_numeral n h) in absurd (omega (arith, is.digits.0))

pub signed_size : (z : ℤ) → IsSigned 8 z → unsigned_abs z < 2 ^ 64
signed_size (pos n) h = omega arith
signed_size (negsuc n) h = omega arith

pub same_signed : (y z : ℤ) → unsigned_abs y < 2 ^ 64 → unsigned_abs z < 2 ^ 64 → signed_decimal y ≡ signed_decimal z → y ≡ z
same_signed (pos m) (pos n) hy hz e = ap pos (same_decimals m n (omega arith) (omega arith) e)
same_signed (negsuc m) (negsuc n) hy hz e =
    let same : suc m ≡ suc n = same_decimals (suc m) (suc n) (omega arith) (omega arith) (cc) in
    ap negsuc (omega arith)
same_signed (pos m) (negsuc n) hy hz e = absurd (not_minus m (decimal (suc n)) (omega arith) e)
same_signed (negsuc m) (pos n) hy hz e = absurd (not_minus n (decimal (suc m)) (omega arith) (sym e))

-- ---- numbers in bytes

pub big_below : (i n : ℕ) (xs : List ℕ) → AreBytes xs → big_from i n xs < 256 ^ n
big_below i zero xs h = omega arith
big_below i (suc n) xs h =
    let high : slice_index xs i * 256 ^ n ≤ 255 * 256 ^ n = mul-le-mul_right (256 ^ n) (omega (arith, h i)) in
    omega (arith, high, big_below (suc i) n xs h, pow-suc 256 n)

pub little_below : (i n : ℕ) (xs : List ℕ) → AreBytes xs → little_from i n xs < 256 ^ n
little_below i zero xs h = omega arith
little_below i (suc n) xs h = omega (arith, h i, little_below (suc i) n xs h, pow-suc 256 n)

pub short_power : (n : ℕ) → n ≤ 8 → 256 ^ n ≤ 2 ^ 64
short_power n h = pow-le-pow_right {n = 256} (omega arith) h

big_fits : (xs : List ℕ) → AreBytes xs → nat_lt 8 (length xs) ≡ false → big_number (length xs) xs < 10 ^ 64
big_fits xs h e = omega (arith, big_below 0 (length xs) xs h, short_power (length xs) (ltb-false 8 (length xs) e))

little_fits : (xs : List ℕ) → AreBytes xs → nat_lt 8 (length xs) ≡ false → little_number (length xs) xs < 10 ^ 64
little_fits xs h e = omega (arith, little_below 0 (length xs) xs h, short_power (length xs) (ltb-false 8 (length xs) e))

-- numbers of up to 8 bytes, or more bytes in base64
same_by_length : (j : List ℕ → Json) (of : List ℕ → Shown) (x y : List ℕ) (p q : Bool) → AreBytes x → AreBytes y →
    ((z : List ℕ) (b : List ℕ) → j z ≡ base64_json b → ⊥) → (p ≡ false → q ≡ false → j x ≡ j y → of x ≡ of y) →
    (if p then base64_json x else j x) ≡ (if q then base64_json y else j y) → (if p then bytes x else of x) ≡ (if q then bytes y else of y)
same_by_length j of x y true true hx hy apart same e = ap bytes (same_base64 x y hx hy e)
same_by_length j of x y true false hx hy apart same e = absurd (apart y x (sym e))
same_by_length j of x y false true hx hy apart same e = absurd (apart x y e)
same_by_length j of x y false false hx hy apart same e = same refl refl e

pub same_bits_json : (x y : List ℕ) → AreBytes x → AreBytes y → number_json (λ b. big_number (length b) b) x ≡ number_json (λ b. big_number (length b) b) y →
    shown_number (λ b. whole (pos (big_number (length b) b))) x ≡ shown_number (λ b. whole (pos (big_number (length b) b))) y
same_bits_json x y hx hy e = same_by_length (λ b. number (decimal (big_number (length b) b))) (λ b. whole (pos (big_number (length b) b))) x y (nat_lt 8 (length x)) (nat_lt 8 (length y)) hx hy
    (λ z b f. cc) (λ p q f. ap (λ (n : ℕ). whole (pos n)) (same_decimals (big_number (length x) x) (big_number (length y) y) (big_fits x hx p) (big_fits y hy q) (cc))) e

-- ---- names

same_names : (m n : ℕ) (s t : Option (List ℕ)) → m < 10 ^ 64 → n < 10 ^ 64 → string_or_number m s ≡ string_or_number n t → name_or_number m s ≡ name_or_number n t
same_names m n None None hm hn e = ap (λ (k : ℕ). whole (pos k)) (same_decimals m n hm hn (cc))
same_names m n None (Some t) hm hn e = absurd (cc)
same_names m n (Some s) None hm hn e = absurd (cc)
same_names m n (Some s) (Some t) hm hn e = cc

enum_by : (m n : ℕ) (s t : Option (List ℕ)) (p q : Bool) → m < 10 ^ 64 → n < 10 ^ 64 → (if p then string [] else string_or_number m s) ≡ (if q then string [] else string_or_number n t) →
    (if p then name [] else name_or_number m s) ≡ (if q then name [] else name_or_number n t)
enum_by m n s t true true hm hn e = refl
enum_by m n s None true false hm hn e = absurd (cc)
enum_by m n s (Some t) true false hm hn e = cc
enum_by m n None t false true hm hn e = absurd (cc)
enum_by m n (Some s) t false true hm hn e = cc
enum_by m n s t false false hm hn e = same_names m n s t hm hn e

pub same_enum_json : (names : List (Option (List ℕ))) (m n : ℕ) → m < 10 ^ 64 → n < 10 ^ 64 → enum_json names m ≡ enum_json names n → shown_enum names m ≡ shown_enum names n
same_enum_json names m n hm hn e = enum_by m n (name_of names m) (name_of names n) (m == 0) (n == 0) hm hn e

-- an ENUM's number beside a number
number_by : (m n : ℕ) (s : Option (List ℕ)) (p : Bool) → m < 10 ^ 64 → n < 10 ^ 64 → (if p then string [] else string_or_number m s) ≡ number (decimal n) →
    (if p then name [] else name_or_number m s) ≡ whole (pos n)
number_by m n s true hm hn e = absurd (cc)
number_by m n None false hm hn e = ap (λ (k : ℕ). whole (pos k)) (same_decimals m n hm hn (cc))
number_by m n (Some s) false hm hn e = absurd (cc)

pub same_enum_number : (names : List (Option (List ℕ))) (m n : ℕ) → m < 10 ^ 64 → n < 10 ^ 64 → enum_json names m ≡ number (decimal n) → shown_enum names m ≡ whole (pos n)
same_enum_number names m n hm hn e = number_by m n (name_of names m) (m == 0) hm hn e

named_not_base64 : (n : ℕ) (s : Option (List ℕ)) (b : List ℕ) → string_or_number n s ≡ base64_json b → ⊥
named_not_base64 n None b e = cc
named_not_base64 n (Some s) b e = cc

pub same_set_json : (names : List (Option (List ℕ))) (x y : List ℕ) → AreBytes x → AreBytes y → set_json names x ≡ set_json names y →
    shown_number (λ b. shown_set names (little_number (length b) b)) x ≡ shown_number (λ b. shown_set names (little_number (length b) b)) y
same_set_json names x y hx hy e = same_by_length (λ b. set_of_bits names (little_number (length b) b)) (λ b. shown_set names (little_number (length b) b)) x y
    (nat_lt 8 (length x)) (nat_lt 8 (length y)) hx hy
    (λ z b. named_not_base64 (little_number (length z) z) _ b)
    (λ p q. same_names (little_number (length x) x) (little_number (length y) y) _ _ (little_fits x hx p) (little_fits y hy q)) e
