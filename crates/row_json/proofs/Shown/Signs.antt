-- A TIME with its sign is a TIME.
use Rattle.std.proofs.Common.{◌≡◌, ℕ, zero, suc, ◌+◌, ◌*◌, ◌/◌, ◌%◌, ◌^◌, ◌<◌, Bool, true, false, ℤ, pos, refl, arith}
use Rattle.std.specs.Prelude.{Some, None, unwrap_or, if◌then◌else◌, nat_lt, unsigned_abs, ◌-ℤ◌}
use Rattle.std.specs.Int.{is_negative}
use Rattle.std.proofs.lemmas.Int.{ints}
use Rattle.binlog_base.specs.Numbers.{twos_complement}
use Rattle.binlog_base.specs.Values.{PlainValue, Time}
use Rattle.row_json.specs.declared.kind.Kind.{Kind}
use Rattle.row_json.specs.declared.kind.Kind.TheVariants as kind
use Rattle.binlog_cells.specs.OldTimes.{digits_of_time, signed_time}
use Rattle.row_json.specs.Values.{with_sign}
use Rattle.row_json.specs.Shown.{IsInRange}

-- a time whose text has all digits
pub record IsTime (v : PlainValue) : Type 0 where
  pub sign : Bool
  pub days : ℕ
  pub hours : ℕ
  pub minutes : ℕ
  pub seconds : ℕ
  pub micros : ℕ
  pub is : v ≡ Time sign days hours minutes seconds micros
  pub hours_short : days * 24 + hours < 10 ^ 64
  pub minutes_short : minutes < 10 ^ 64
  pub seconds_short : seconds < 10 ^ 64

below : (n : ℕ) → n < 10 ^ 60 → unsigned_abs (twos_complement 3 n) < 10 ^ 62
below n h = by (nat_lt n 8388608)
  where
    by : (p : Bool) → unsigned_abs (if p then pos n else pos n -ℤ pos 16777216) < 10 ^ 62
    by true = omega arith
    by false = omega (arith, ints)

signed : (z : ℤ) (v : PlainValue) → unsigned_abs z < 10 ^ 62 → IsTime v → IsTime (unwrap_or (if is_negative z then Some (signed_time z) else None) v)
signed z v h is = by (is_negative z)
  where
    by : (p : Bool) → IsTime (unwrap_or (if p then Some (signed_time z) else None) v)
    by false = is
    by true = record {
      sign = is_negative z;
      days = unsigned_abs z / 10000 / 24;
      hours = unsigned_abs z / 10000 % 24;
      minutes = unsigned_abs z / 100 % 100;
      seconds = unsigned_abs z % 100;
      micros = 0;
      is = refl;
      hours_short = omega arith;
      minutes_short = omega arith;
      seconds_short = omega arith;
    }

unchanged : (p : Bool) (d h i s u : ℕ) → IsInRange (Time p d h i s u) → IsTime (Time p d h i s u)
unchanged p d h i s u fits = record {
  sign = p;
  days = d;
  hours = h;
  minutes = i;
  seconds = s;
  micros = u;
  is = refl;
  hours_short = omega (arith, fits.0, fits.1);
  minutes_short = omega (arith, fits.2);
  seconds_short = omega (arith, fits.3);
}

old_time : (p : Bool) (d h i s u : ℕ) → IsInRange (Time p d h i s u) → IsTime (with_sign kind.OldTime (Time p d h i s u))
old_time true d h i s u fits = unchanged true d h i s u fits
old_time false d h i s (suc u) fits = unchanged false d h i s (suc u) fits
old_time false d h i s zero fits =
    signed (twos_complement 3 (digits_of_time d h i s)) (Time false d h i s zero) (below (digits_of_time d h i s) (omega (arith, fits.0, fits.1, fits.2, fits.3))) (unchanged false d h i s zero fits)

pub time_with_sign : (k : Kind) (p : Bool) (d h i s u : ℕ) → IsInRange (Time p d h i s u) → IsTime (with_sign k (Time p d h i s u))
time_with_sign kind.OldTime p d h i s u fits = old_time p d h i s u fits
time_with_sign _ p d h i s u fits = unchanged p d h i s u fits
