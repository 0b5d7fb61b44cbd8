use Rattle.std.proofs.Common.{ℕ, ap, sym, ◌∙◌}
use Rattle.std.specs.Prelude.{decimal}
use Rattle.json.specs.Json.{number}
use Rattle.row_json.specs.Values.{year_json}
use Rattle.row_json.proofs.Steps.{adds_token, adds_equal}
use Rattle.row_json.proofs.Bytes.{year_0, year_number}
use Rattle.row_json.proofs.text.write_year_number.Goals as goal

pub returns-then-year-eq1900-clause-written : goal.returns-then-year-eq1900-clause-written
returns-then-year-eq1900-clause-written c =
    adds_equal c.u64.result c.args.out.now c.u64.new.self (number (decimal 0)) _ (year_0 ∙ ap (λ (y : ℕ). year_json (decimal y)) (sym c.if-year-eq1900.true)) (adds_token c.u64.result _ _ _ c.u64.ensures)

pub returns-else-year-eq1900-clause-written : goal.returns-else-year-eq1900-clause-written
returns-else-year-eq1900-clause-written c =
    let u = c.u64-else-year-eq1900 in
    adds_equal u.result c.args.out.now u.new.self (number (decimal c.from.result)) _ (ap (λ (y : ℕ). number (decimal y)) c.from.ensures ∙ year_number c.args.year c.ranges.year.fits c.if-year-eq1900.false) (adds_token u.result _ _ _ u.ensures)
