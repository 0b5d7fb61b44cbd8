use Rattle.std.proofs.Common.{◌≡◌, ◌/◌, ◌%◌, ℕ, ℤ, pos, List, ◌++◌, rules, arith, ap, subst, ◌∙◌}
use Rattle.std.specs.Prelude.{codes}
use Rattle.jiff_core.specs.Calendar.{IsCivilDate, days_from_civil}
use Rattle.row_json.specs.Times.{datetime_text}
use Rattle.std.proofs.lemmas.Int.{ints, to_z-of_z}
use Rattle.std.proofs.lemmas.Grind.{common_steps}
use Rattle.row_json.proofs.Years.{year_of_day, year_fits}
use Rattle.row_json.proofs.instant.push_instant.Goals as goal

pub returns : goal.returns
returns c =
    let d = c.in-Ok.date in
    let year = c.in-Ok-try_from.year in
    let a = c.args in
    let y : d.year ≡ pos year = first_of (search rules, search (rules, to_z-of_z), grind (arith, common_steps, ints)) in
    let day : days_from_civil d.year d.month d.day ≡ pos (a.seconds / 86400) = c.in-Ok.ensures.value ∙ first_of (search (rules, to_z-of_z), search rules, grind (arith, common_steps, ints)) in
    record {
      year = year;
      month = d.month;
      day = d.day;
      civil = subst (λ (z : ℤ). IsCivilDate z d.month d.day) y (d.year_in, d.month_in, d.day_in);
      days = subst (λ (z : ℤ). days_from_civil z d.month d.day ≡ pos (a.seconds / 86400)) y day;
      is = c.push.ensures ∙ ap (λ (l : List ℕ). l ++ codes "Z") (c.push_datetime.ensures.text
          ∙ (λ i. c.requires i ++ datetime_text a.decimals (c.from-2.ensures i) (c.from-3.ensures i) (c.from-4.ensures i) 84 (c.from-5.ensures i) (a.seconds / 60 % 60) (a.seconds % 60) a.microseconds));
    }

pub unreachable-requires-in_default-try_from : goal.unreachable-requires-in_default-try_from
unreachable-requires-in_default-try_from c =
    let d = c.in-Ok.date in
    let days = c.args.seconds / 86400 in
    let day : days_from_civil d.year d.month d.day ≡ pos days = c.in-Ok.ensures.value ∙ search rules in
    let y = year_of_day d.year d.month d.day days (d.year_in, d.month_in, d.day_in) day in
    c.in_default-try_from.ensures (year_fits d.year y.0 y.1 y.2)
