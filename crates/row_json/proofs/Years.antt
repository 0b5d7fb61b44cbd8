-- The year of a day since 1970.
use Rattle.std.proofs.Common.{◌≡◌, ◌≤◌, ℕ, ℤ, pos, negsuc, arith, refl, to_z, of_z}
use mir.Syntax.{w16}
use Rattle.std.specs.Int.{FitsUnsignedBits}
use Rattle.std.specs.Prelude.{◌<ℤ◌}
use Rattle.std.proofs.lemmas.Int.{ints}
use Rattle.jiff_core.specs.Calendar.{IsCivilDate, days_from_civil}
use Rattle.jiff_core.proofs.SignedLemmas.{back_small}
use Rattle.jiff_core.proofs.CalendarLemmas.{day_count-epoch, days_from_civil-day_count, day_count-lt_year}

pub year_of_day : (y : ℤ) (m d n : ℕ) → IsCivilDate y m d → days_from_civil y m d ≡ pos n → (year : ℕ) × (y ≡ pos year) × (year ≤ 9999)
year_of_day (pos k) m d n civil e =
    let upper = civil.0.1 in
    (k, refl, omega (arith, ints))
year_of_day (negsuc k) m d n civil e =
    let earlier : negsuc k <ℤ pos 1970 = omega (arith, ints) in
    let less = day_count-lt_year (negsuc k) m d (pos 1970) 1 1 civil (omega arith) earlier in
    let count = rw e at (days_from_civil-day_count (negsuc k) m d) in
    absurd (omega (arith, less, count, day_count-epoch))

-- such a year is a number of 16 bits
pub year_fits : (y : ℤ) (k : ℕ) → y ≡ pos k → k ≤ 9999 → FitsUnsignedBits 16 (to_z w16 (of_z w16 y))
year_fits y k e small =
    let back : to_z w16 (of_z w16 (pos k)) ≡ pos k = back_small w16 (pos k) (omega arith) in
    rw (e, back) (omega arith)
