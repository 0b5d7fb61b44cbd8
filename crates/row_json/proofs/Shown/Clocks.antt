-- Dates and times with the same text have the same fields.
use Rattle.std.proofs.Common.{◌≡◌, ℕ, zero, suc, ◌-◌, ◌/◌, ◌%◌, ◌^◌, ◌<◌, ◌≤◌, min, Bool, true, false, List, [], ◌∷◌, ◌++◌, take, refl, sym, ◌∙◌, append_assoc, arith}
use Rattle.std.specs.Char.{digit_value}
use Rattle.std.proofs.lemmas.List.{append-nil}
use Rattle.binlog_decimal.specs.DecimalText.{fraction_digits_text}
use Rattle.binlog_decimal.specs.TimeText.{six_digits}
use Rattle.row_json.specs.Times.{two_digits, four_digits, date_text, clock_text, datetime_text, time_text}
use Rattle.row_json.specs.Shown.{shown_fraction}
use Rattle.row_json.proofs.Shown.Numerals.{two_digits_numeral, four_digits_numeral, same_numbers, parted}
use Rattle.row_json.proofs.Shown.Fractions.{same_fractions}

-- ---- the end of a clock

pub record SameEnd (k s t u v : ℕ) : Type 0 where
  pub second : s ≡ t
  pub fraction : u / 10 ^ (6 - k) ≡ v / 10 ^ (6 - k)

end_by : (k s t u v : ℕ) → k ≤ 6 → s < 10 ^ 64 → t < 10 ^ 64 → u < 1000000 → v < 1000000 →
    two_digits s ++ fraction_digits_text (take k (six_digits u)) ≡ two_digits t ++ fraction_digits_text (take k (six_digits v)) → SameEnd k s t u v
end_by zero s t u v most hs ht hu hv e = record {
  second = same_numbers (two_digits_numeral s hs) (two_digits_numeral t ht) (sym (append-nil (two_digits s)) ∙ (e ∙ append-nil (two_digits t)));
  fraction = omega arith;
}
end_by (suc k) s t u v most hs ht hu hv e =
    let is = parted 46 46 _ _ (two_digits_numeral s hs) (two_digits_numeral t ht) (omega arith) (omega arith) e in
    record { second = is.number; fraction = same_fractions k u v (omega arith) hu hv is.rest }

-- ---- clocks

pub record SameClock (decimals h i s u h₂ i₂ s₂ u₂ : ℕ) : Type 0 where
  pub hour : h ≡ h₂
  pub minute : i ≡ i₂
  pub second : s ≡ s₂
  pub fraction : shown_fraction decimals u ≡ shown_fraction decimals u₂

-- fields of which all digits are written
pub record AreShort (x y z : ℕ) : Type 0 where
  pub first : x < 10 ^ 64
  pub middle : y < 10 ^ 64
  pub last : z < 10 ^ 64

pub same_clocks : (n h i s u h₂ i₂ s₂ u₂ : ℕ) → AreShort h i s → AreShort h₂ i₂ s₂ → clock_text n h i s u ≡ clock_text n h₂ i₂ s₂ u₂ → SameClock n h i s u h₂ i₂ s₂ u₂
same_clocks n h i s u h₂ i₂ s₂ u₂ a b e =
    let hours = parted 58 58 _ _ (two_digits_numeral h a.first) (two_digits_numeral h₂ b.first) (omega arith) (omega arith) e in
    let minutes = parted 58 58 _ _ (two_digits_numeral i a.middle) (two_digits_numeral i₂ b.middle) (omega arith) (omega arith) hours.rest in
    let last = end_by (min n 6) s s₂ (u % 1000000) (u₂ % 1000000) (omega arith) a.last b.last (omega arith) (omega arith) minutes.rest in
    record { hour = hours.number; minute = minutes.number; second = last.second; fraction = last.fraction }

-- ---- times

pub record SameTime (decimals : ℕ) (p q : Bool) (h i s u h₂ i₂ s₂ u₂ : ℕ) : Type 0 where
  pub sign : p ≡ q
  pub clock : SameClock decimals h i s u h₂ i₂ s₂ u₂

no_sign : (n h i s u : ℕ) (x : List ℕ) → h < 10 ^ 64 → 45 ∷ x ≡ clock_text n h i s u → ⊥
no_sign n h i s u x a e =
    let is = parted {m = 0} {xs = []} 45 58 x _ (record { digits = tt; value = refl }) (two_digits_numeral h a) (omega arith) (omega arith) e in
    absurd (omega (arith, is.stop))

pub same_times : (n : ℕ) (p q : Bool) (h i s u h₂ i₂ s₂ u₂ : ℕ) → AreShort h i s → AreShort h₂ i₂ s₂ → time_text n p h i s u ≡ time_text n q h₂ i₂ s₂ u₂ →
    SameTime n p q h i s u h₂ i₂ s₂ u₂
same_times n true true h i s u h₂ i₂ s₂ u₂ a b e = record { sign = refl; clock = same_clocks n h i s u h₂ i₂ s₂ u₂ a b (cc) }
same_times n false false h i s u h₂ i₂ s₂ u₂ a b e = record { sign = refl; clock = same_clocks n h i s u h₂ i₂ s₂ u₂ a b e }
same_times n true false h i s u h₂ i₂ s₂ u₂ a b e = absurd (no_sign n h₂ i₂ s₂ u₂ (clock_text n h i s u) b.first e)
same_times n false true h i s u h₂ i₂ s₂ u₂ a b e = absurd (no_sign n h i s u (clock_text n h₂ i₂ s₂ u₂) a.first (sym e))

-- ---- dates

pub record SameDate (y m d y₂ m₂ d₂ : ℕ) : Type 0 where
  pub year : y ≡ y₂
  pub month : m ≡ m₂
  pub day : d ≡ d₂

-- a date with another text after it
pub record SameDateThen (y m d y₂ m₂ d₂ s t : ℕ) (x x₂ : List ℕ) : Type 0 where
  pub date : SameDate y m d y₂ m₂ d₂
  pub mark : s ≡ t
  pub rest : x ≡ x₂

pub same_dates : (y m d y₂ m₂ d₂ : ℕ) → AreShort y m d → AreShort y₂ m₂ d₂ → date_text y m d ≡ date_text y₂ m₂ d₂ → SameDate y m d y₂ m₂ d₂
same_dates y m d y₂ m₂ d₂ a b e =
    let years = parted 45 45 _ _ (four_digits_numeral y a.first) (four_digits_numeral y₂ b.first) (omega arith) (omega arith) e in
    let months = parted 45 45 _ _ (two_digits_numeral m a.middle) (two_digits_numeral m₂ b.middle) (omega arith) (omega arith) years.rest in
    record { year = years.number; month = months.number; day = same_numbers (two_digits_numeral d a.last) (two_digits_numeral d₂ b.last) months.rest }

date_then : (y m d : ℕ) (x : List ℕ) → date_text y m d ++ x ≡ four_digits y ++ (45 ∷ (two_digits m ++ (45 ∷ (two_digits d ++ x))))
date_then y m d x = simp append_assoc

pub same_dates_then : (y m d y₂ m₂ d₂ s t : ℕ) (x x₂ : List ℕ) → AreShort y m d → AreShort y₂ m₂ d₂ → 10 ≤ digit_value s → 10 ≤ digit_value t →
    date_text y m d ++ s ∷ x ≡ date_text y₂ m₂ d₂ ++ t ∷ x₂ → SameDateThen y m d y₂ m₂ d₂ s t x x₂
same_dates_then y m d y₂ m₂ d₂ s t x x₂ a b hs ht e =
    let parts = sym (date_then y m d (s ∷ x)) ∙ (e ∙ date_then y₂ m₂ d₂ (t ∷ x₂)) in
    let years = parted 45 45 _ _ (four_digits_numeral y a.first) (four_digits_numeral y₂ b.first) (omega arith) (omega arith) parts in
    let months = parted 45 45 _ _ (two_digits_numeral m a.middle) (two_digits_numeral m₂ b.middle) (omega arith) (omega arith) years.rest in
    let days = parted s t x x₂ (two_digits_numeral d a.last) (two_digits_numeral d₂ b.last) hs ht months.rest in
    record { date = record { year = years.number; month = months.number; day = days.number }; mark = days.stop; rest = days.rest }

-- ---- both

pub record SameDatetime (decimals y m d h i s u y₂ m₂ d₂ h₂ i₂ s₂ u₂ : ℕ) : Type 0 where
  pub date : SameDate y m d y₂ m₂ d₂
  pub clock : SameClock decimals h i s u h₂ i₂ s₂ u₂

pub same_datetimes : (n y m d h i s u y₂ m₂ d₂ h₂ i₂ s₂ u₂ mark : ℕ) → 10 ≤ digit_value mark → AreShort y m d → AreShort y₂ m₂ d₂ → AreShort h i s → AreShort h₂ i₂ s₂ →
    datetime_text n y m d mark h i s u ≡ datetime_text n y₂ m₂ d₂ mark h₂ i₂ s₂ u₂ → SameDatetime n y m d h i s u y₂ m₂ d₂ h₂ i₂ s₂ u₂
same_datetimes n y m d h i s u y₂ m₂ d₂ h₂ i₂ s₂ u₂ mark stop a b ta tb e =
    let is = same_dates_then y m d y₂ m₂ d₂ mark mark (clock_text n h i s u) (clock_text n h₂ i₂ s₂ u₂) a b stop stop e in
    record { date = is.date; clock = same_clocks n h i s u h₂ i₂ s₂ u₂ ta tb is.rest }
