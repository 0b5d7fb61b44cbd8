-- What is written of a number is a spelling of it, and no spelling of it is shorter.
use Rattle.std.proofs.Common.{◌≡◌, ℕ, zero, suc, ◌+◌, ◌-◌, ◌*◌, ◌/◌, ◌%◌, ◌<◌, ◌≤◌, ◌^◌, List, [], ◌∷◌, ◌++◌, length, refl, sym, ap, subst, ◌∙◌, arith, inl, inr, append-nil}
use Rattle.std.specs.Prelude.{nat_lt, ◌==◌}
use Rattle.std.proofs.lemmas.Bool.{cases_lt, le-ltb, lt-ltb, ltb-true, ltb-false}
use Rattle.std.proofs.lemmas.List.{length-append}
use Rattle.std.proofs.Math.Nat.{pow-suc, mod-lt, mod-eq_of_lt}
use Rattle.byteorder.specs.Endian.{little_number, little_bytes}
use Rattle.byteorder.specs.Numbers.{little_number-reads_back, length-bytes_low_first, little_from-lt}
use Rattle.binlog_base.specs.declared.fault.Fault.TheVariants.{BadLenEnc, BadVarLen}
use Rattle.binlog_base.specs.Format.{Format, no_bytes, refusal, map_value, choice}
use Rattle.binlog_base.specs.Lemmas.Format.{choice_cases, bytes_width}
use Rattle.binlog_base.specs.Numbers.{little_endian, lenenc_after, lenenc, lenenc_bytes, groups, groups_bytes, varlen, varlen_bytes, AreBytes}
use Rattle.binlog_base.specs.Coding.{plain_number}
use Rattle.binlog_base.specs.Fixed.{fixed}
use Rattle.binlog_base.specs.Lemmas.Fixed.{fixed_width}

pub little_written : (w n : ℕ) → n < 256 ^ w → (little_endian w).spells (little_bytes w n) n
unfolding fixed
little_written w n fits =
    let x = little_bytes w n in
    let read : little_number w x ≡ n = ap (little_number w) (sym (append-nil x)) ∙ little_number-reads_back w n [] fits in
    (x, x, [], sym (append-nil x), (refl, length-bytes_low_first 0 w n), (refl, sym read))

pub little_width : (w : ℕ) (x : List ℕ) (n : ℕ) → (little_endian w).spells x n → length x ≡ w
little_width w = fixed_width little_number plain_number w

-- a byte spells the number that it is
pub byte_written : (b : ℕ) → b < 256 → (little_endian 1).spells (b ∷ []) b
byte_written b fits =
    let one : little_bytes 1 b ≡ b ∷ [] = ap (λ (n : ℕ). n ∷ []) (mod-eq_of_lt fits) in
    subst (λ (x : List ℕ). (little_endian 1).spells x b) one (little_written 1 b fits)

-- a byte is the only spelling of its number in one byte
number_of_byte : (x : List ℕ) (b : ℕ) → length x ≡ 1 → b ≡ little_number 1 x → x ≡ b ∷ []
number_of_byte [] b one h = absurd (omega arith)
number_of_byte (a ∷ []) b one h = let e : a ≡ b = omega (arith, h) in ap (λ (n : ℕ). n ∷ []) e
number_of_byte (a ∷ c ∷ x) b one h = absurd (omega arith)

pub byte_spelled : (x : List ℕ) (b : ℕ) → (little_endian 1).spells x b → x ≡ b ∷ []
unfolding fixed
byte_spelled x b s =
    let whole : x ≡ s.0 = s.3 ∙ ap (λ (t : List ℕ). s.1 ++ t) s.5.0 ∙ append-nil s.1 ∙ sym s.4.0 in
    number_of_byte x b (bytes_width 1 (little_number 1) x b s) (s.5.1 ∙ ap (little_number 1) (sym whole))

pub lenenc_written : (n : ℕ) → n < 256 ^ 8 → lenenc.spells (lenenc_bytes n) n
unfolding lenenc lenenc_bytes lenenc_after
lenenc_written n fits =
    elim (cases_lt n 251) [
      | inl a ↦ let t = lt-ltb n 251 a in rw (t) (n, n ∷ [], [], refl, byte_written n (omega arith), rw (t) (refl, refl))
      | inr a ↦
          let f = le-ltb n 251 a in
          elim (cases_lt n (256 ^ 2)) [
            | inl b ↦ let t = lt-ltb n (256 ^ 2) b in rw (f, t) (252, 252 ∷ [], little_bytes 2 n, refl, byte_written 252 (omega arith), little_written 2 n b)
            | inr b ↦
                let g = le-ltb n (256 ^ 2) b in
                elim (cases_lt n (256 ^ 3)) [
                  | inl d ↦ let t = lt-ltb n (256 ^ 3) d in rw (f, g, t) (253, 253 ∷ [], little_bytes 3 n, refl, byte_written 253 (omega arith), little_written 3 n d)
                  | inr d ↦ let h = le-ltb n (256 ^ 3) d in rw (f, g, h) (254, 254 ∷ [], little_bytes 8 n, refl, byte_written 254 (omega arith), little_written 8 n fits)
                ]
          ]
    ]

groups_written : (k n : ℕ) → 0 < k → n < 128 ^ k → (groups k).spells (groups_bytes k n) n
unfolding groups groups_bytes
groups_written zero n some fits = absurd (omega arith)
groups_written (suc k) n some fits =
    elim (cases_lt n 128) [
      | inl a ↦ let t = lt-ltb n 128 a in rw (t) (n, n ∷ [], [], refl, byte_written n (omega arith), rw (t) (refl, refl))
      | inr a ↦
          let f = le-ltb n 128 a in
          let low : n % 128 < 128 = mod-lt n (omega arith) in
          let byte = n % 128 + 128 in
          let g = le-ltb byte 128 (omega arith) in
          let p = pow-suc 128 k in
          let k_some : 0 < k = elim (cases_lt 0 k) [ inl h ↦ h | inr h ↦ let z : k ≡ 0 = omega arith in absurd (let q : 128 ^ k ≡ 1 = ap (λ (j : ℕ). 128 ^ j) z in omega (arith, p, q)) ] in
          let high_fits : n / 128 < 128 ^ k = omega (arith, p) in
          let whole : n ≡ (byte - 128) + 128 * (n / 128) = omega arith in
          rw (f) (byte, byte ∷ [], groups_bytes k (n / 128), refl, byte_written byte (omega arith), rw (g) (n / 128, groups_bytes k (n / 128), [], sym (append-nil (groups_bytes k (n / 128))), groups_written k (n / 128) k_some high_fits, (refl, whole)))
    ]

pub varlen_written : (n : ℕ) → n < 2 ^ 32 → varlen.spells (varlen_bytes n) n
unfolding varlen varlen_bytes
varlen_written n fits =
    let t = lt-ltb n (2 ^ 32) fits in
    (n, groups_bytes 5 n, [], sym (append-nil (groups_bytes 5 n)), groups_written 5 n (omega arith) (omega arith), rw (t) (refl, refl))

-- of a list of bytes, all but the first are bytes
bytes_after : (y z : List ℕ) → length y ≡ 1 → AreBytes (y ++ z) → AreBytes z
bytes_after [] z one all = absurd (omega arith)
bytes_after (b ∷ []) z one all = λ i. all (suc i)
bytes_after (b ∷ c ∷ y) z one all = absurd (omega arith)

bytes_before : (y z : List ℕ) → AreBytes (y ++ z) → AreBytes y
bytes_before [] z all = λ i. omega arith
bytes_before (b ∷ y) z all = elim [ zero ↦ all 0 | suc i ↦ bytes_before y z (λ k. all (suc k)) i ]

pub little_endian-lt : (w : ℕ) (x : List ℕ) (n : ℕ) → AreBytes x → (little_endian w).spells x n → n < 256 ^ w
unfolding fixed
little_endian-lt w x n all s =
    let whole : x ≡ s.0 = s.3 ∙ ap (λ (t : List ℕ). s.1 ++ t) s.5.0 ∙ append-nil s.1 ∙ sym s.4.0 in
    subst (λ (m : ℕ). m < 256 ^ w) (ap (little_number w) whole ∙ sym s.5.1) (little_from-lt 0 w x all)

length-lenenc_bytes : (n : ℕ) → (length (lenenc_bytes n) ≤ 9) × (n < 256 ^ 3 → length (lenenc_bytes n) ≤ 4) × (n < 256 ^ 2 → length (lenenc_bytes n) ≤ 3) × (n < 251 → length (lenenc_bytes n) ≤ 1)
unfolding lenenc_bytes
length-lenenc_bytes n =
    elim (cases_lt n 251) [
      | inl a ↦ let t = lt-ltb n 251 a in rw (t) (omega arith, λ _. omega arith, λ _. omega arith, λ _. omega arith)
      | inr a ↦
          let f = le-ltb n 251 a in
          elim (cases_lt n (256 ^ 2)) [
            | inl b ↦ let t = lt-ltb n (256 ^ 2) b in rw (f, t) (omega arith, λ _. omega arith, λ _. omega arith, λ h. absurd (omega arith))
            | inr b ↦
                let g = le-ltb n (256 ^ 2) b in
                elim (cases_lt n (256 ^ 3)) [
                  | inl d ↦ let t = lt-ltb n (256 ^ 3) d in rw (f, g, t) (omega arith, λ _. omega arith, λ h. absurd (omega arith), λ h. absurd (omega arith))
                  | inr d ↦ let e = le-ltb n (256 ^ 3) d in rw (f, g, e) (omega arith, λ h. absurd (omega arith), λ h. absurd (omega arith), λ h. absurd (omega arith))
                ]
          ]
    ]

abbrev from_fe : ℕ → Format ℕ
from_fe first = choice (first == 254) (little_endian 8) (refusal BadLenEnc)

abbrev from_fd : ℕ → Format ℕ
from_fd first = choice (first == 253) (little_endian 3) (from_fe first)

abbrev from_fc : ℕ → Format ℕ
from_fc first = choice (first == 252) (little_endian 2) (from_fd first)

pub lenenc_shortest : (x : List ℕ) (n : ℕ) → AreBytes x → lenenc.spells x n → length (lenenc_bytes n) ≤ length x
unfolding lenenc lenenc_after
lenenc_shortest x n all s =
    let first = s.0 in
    let z = s.2 in
    let one = little_width 1 s.1 first s.4 in
    let len : length x ≡ 1 + length z = ap length s.3 ∙ length-append s.1 z ∙ ap (λ (m : ℕ). m + length z) one in
    let after : AreBytes z = bytes_after s.1 z one (subst AreBytes s.3 all) in
    let most = length-lenenc_bytes n in
    elim (choice_cases (nat_lt first 251) (no_bytes first) (from_fc first) z n s.5) [
      | inl a ↦ let small = ltb-true first 251 a.0 in let same = a.1.1 in omega (arith, len, most.3 (omega (arith, small, same)))
      | inr a ↦
          elim (choice_cases (first == 252) (little_endian 2) (from_fd first) z n a.1) [
            | inl b ↦ omega (arith, len, little_width 2 z n b.1, most.2 (little_endian-lt 2 z n after b.1))
            | inr b ↦
                elim (choice_cases (first == 253) (little_endian 3) (from_fe first) z n b.1) [
                  | inl d ↦ omega (arith, len, little_width 3 z n d.1, most.1 (little_endian-lt 3 z n after d.1))
                  | inr d ↦
                      elim (choice_cases (first == 254) (little_endian 8) (refusal BadLenEnc) z n d.1) [
                        | inl e ↦ omega (arith, len, little_width 8 z n e.1, most.0)
                        | inr e ↦ absurd e.1
                      ]
                ]
          ]
    ]

abbrev more_groups : ℕ → ℕ → Format ℕ
more_groups k byte = map_value (groups k) (λ high. (byte - 128) + 128 * high)

groups_shortest : (k m : ℕ) (x : List ℕ) (n : ℕ) → AreBytes x → (groups k).spells x n → length (groups_bytes m n) ≤ length x
unfolding groups groups_bytes
groups_shortest zero m x n all s = absurd s
groups_shortest (suc k) zero x n all s = omega arith
groups_shortest (suc k) (suc m) x n all s =
    let byte = s.0 in
    let one = little_width 1 s.1 byte s.4 in
    let len : length x ≡ 1 + length s.2 = ap length s.3 ∙ length-append s.1 s.2 ∙ ap (λ (m : ℕ). m + length s.2) one in
    let after : AreBytes s.2 = bytes_after s.1 s.2 one (subst AreBytes s.3 all) in
    let front : AreBytes s.1 = bytes_before s.1 s.2 (subst AreBytes s.3 all) in
    let byte_fits = little_endian-lt 1 s.1 byte front s.4 in
    elim (cases_lt n 128) [
      | inl a ↦ let t = lt-ltb n 128 a in rw (t) (omega (arith, len))
      | inr a ↦
          let f = le-ltb n 128 a in
          elim (choice_cases (nat_lt byte 128) (no_bytes byte) (more_groups k byte) s.2 n s.5) [
            | inl b ↦ let small = ltb-true byte 128 b.0 in let same = b.1.1 in absurd (omega (arith, small, same))
            | inr b ↦
                let high = b.1.0 in
                let large = ltb-false byte 128 b.0 in
                let value : n ≡ (byte - 128) + 128 * high = b.1.5.1 in
                let quotient : n / 128 ≡ high = omega (arith, large, byte_fits, value) in
                let whole : s.2 ≡ b.1.1 = b.1.3 ∙ ap (λ (t : List ℕ). b.1.1 ++ t) b.1.5.0 ∙ append-nil b.1.1 in
                let more = groups_shortest k m b.1.1 high (subst AreBytes whole after) b.1.4 in
                rw (f, quotient) (omega (arith, len, more, ap length whole))
          ]
    ]

pub varlen_shortest : (x : List ℕ) (n : ℕ) → AreBytes x → varlen.spells x n → length (varlen_bytes n) ≤ length x
unfolding varlen varlen_bytes
varlen_shortest x n all s =
    elim (choice_cases (nat_lt s.0 (2 ^ 32)) (no_bytes s.0) (refusal BadVarLen) s.2 n s.5) [
      | inl a ↦
          let whole : x ≡ s.1 = s.3 ∙ ap (λ (t : List ℕ). s.1 ++ t) a.1.0 ∙ append-nil s.1 in
          let least = groups_shortest 5 5 s.1 s.0 (subst AreBytes whole all) s.4 in
          subst (λ (m : ℕ). length (groups_bytes 5 m) ≤ length x) (sym a.1.1) (omega (arith, least, ap length whole))
      | inr a ↦ absurd a.1
    ]
