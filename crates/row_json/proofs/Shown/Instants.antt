-- Seconds since 1970 with the same text are the same.
use Rattle.std.proofs.Common.{◌≡◌, ℕ, ◌/◌, ◌%◌, ◌==◌, ◌&&◌, Bool, true, false, pos, List, ◌∷◌, refl, sym, ◌∙◌, append_assoc, arith}
use Rattle.std.specs.Prelude.{codes, if◌then◌else◌}
use Rattle.std.specs.Bool.{MatchBool}
use Rattle.std.proofs.lemmas.List.{append_cancel_right}
use Rattle.std.proofs.lemmas.Int.{ints}
use Rattle.jiff_core.proofs.CalendarLemmas.{days_in_month_bounds}
use Rattle.row_json.specs.Times.{date_text, clock_text, datetime_text, IsInstantText, IsTimestampText}
use Rattle.row_json.specs.Shown.{instant, no_instant, shown_fraction, shown_instant}
use Rattle.row_json.proofs.Shown.Clocks.{AreShort, same_datetimes, same_dates_then}

-- ---- instants

short_date : {n s u : ℕ} {text : List ℕ} (a : IsInstantText n s u text) → AreShort a.year a.month a.day
short_date a = record {
  first = omega (arith, ints, a.civil.0.1);
  middle = omega (arith, a.civil.1.1);
  last = omega (arith, a.civil.2.1, (days_in_month_bounds (pos a.year) a.month).0);
}

short_clock : (s : ℕ) → AreShort (s / 3600 % 24) (s / 60 % 60) (s % 60)
short_clock s = record { first = omega arith; middle = omega arith; last = omega arith }

by_parts : (s t : ℕ) → s / 86400 ≡ t / 86400 → s / 3600 % 24 ≡ t / 3600 % 24 → s / 60 % 60 ≡ t / 60 % 60 → s % 60 ≡ t % 60 → s ≡ t
by_parts s t days hours minutes seconds = omega arith

record SameInstant (decimals s u t v : ℕ) : Type 0 where
  seconds : s ≡ t
  fraction : shown_fraction decimals u ≡ shown_fraction decimals v

same_instants : (n s u t v : ℕ) (x y : List ℕ) → IsInstantText n s u x → IsInstantText n t v y → x ≡ y → SameInstant n s u t v
same_instants n s u t v x y a b e =
    let texts = append_cancel_right _ _ (codes "Z") (sym a.is ∙ (e ∙ b.is)) in
    let same = same_datetimes n a.year a.month a.day (s / 3600 % 24) (s / 60 % 60) (s % 60) u b.year b.month b.day (t / 3600 % 24) (t / 60 % 60) (t % 60) v 84 (omega arith)
    (short_date a) (short_date b) (short_clock s) (short_clock t) texts in
    let days : s / 86400 ≡ t / 86400 = cc (a.days, b.days, same.date.year, same.date.month, same.date.day) in
    record { seconds = by_parts s t days same.clock.hour same.clock.minute same.clock.second; fraction = same.clock.fraction }

-- ---- no time

not_none : (n s u : ℕ) (x : List ℕ) → IsInstantText n s u x → x ≡ datetime_text n 0 0 0 32 0 0 0 0 → ⊥
not_none n s u x a e =
    let text = sym (append_assoc (date_text a.year a.month a.day) (84 ∷ clock_text n (s / 3600 % 24) (s / 60 % 60) (s % 60) u) (codes "Z")) ∙ (sym a.is ∙ e) in
    let same = same_dates_then a.year a.month a.day 0 0 0 84 32 _ _ (short_date a) (record { first = omega arith; middle = omega arith; last = omega arith }) (omega arith) (omega arith) text in
    absurd (omega (arith, same.mark))

-- ---- timestamps

same_by : (n s u t v : ℕ) (p q : Bool) (x : List ℕ) → MatchBool p (x ≡ datetime_text n 0 0 0 32 0 0 0 0) (IsInstantText n s u x) → MatchBool q (x ≡ datetime_text n 0 0 0 32 0 0 0 0) (IsInstantText n t v x) →
    (if p then no_instant else instant s (shown_fraction n u)) ≡ (if q then no_instant else instant t (shown_fraction n v))
same_by n s u t v true true x a b = refl
same_by n s u t v true false x a b = absurd (not_none n t v x b a)
same_by n s u t v false true x a b = absurd (not_none n s u x a b)
same_by n s u t v false false x a b = let same = same_instants n s u t v x x a b refl in cc (same.seconds, same.fraction)

pub same_timestamps : (n s u t v : ℕ) (x : List ℕ) → IsTimestampText n s u x → IsTimestampText n t v x → shown_instant n s u ≡ shown_instant n t v
same_timestamps n s u t v x a b = same_by n s u t v ((s == 0) && (u == 0)) ((t == 0) && (v == 0)) x a b
