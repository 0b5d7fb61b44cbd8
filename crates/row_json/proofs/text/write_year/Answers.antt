use Rattle.std.proofs.Common.{◌≡◌, true, false, List, ℕ, Bor, sym, ap, ◌∙◌}
use Rattle.std.specs.Prelude.{codes, decimal, Some, None}
use Rattle.std.specs.Option.{option_map}
use Rattle.std.specs.Str.{bytes_eq}
use Rattle.json.specs.Json.{number}
use Rattle.row_json.specs.Values.{base64_json, number_or_string}
use Rattle.row_json.proofs.Steps.{adds_token, adds_equal}
use Rattle.row_json.proofs.Bytes.{zero_year, later_year}
use Rattle.row_json.proofs.text.write_year.Goals as goal

pub returns-then-eq-clause-written : goal.returns-then-eq-clause-written
returns-then-eq-clause-written c =
    let e : bytes_eq c.args.year.now (codes "1900") ≡ true = ap (bytes_eq c.args.year.now) (sym c.as_slice.ensures) ∙ (sym c.eq.ensures ∙ c.if-eq.true) in
    adds_equal c.u64.result c.args.out.now c.u64.new.self (number (decimal 0)) _ (zero_year c.args.year.now e) (adds_token c.u64.result _ _ _ c.u64.ensures)

pub returns-in-Some-clause-written : goal.returns-in-Some-clause-written
returns-in-Some-clause-written c =
    let e : bytes_eq c.args.year.now (codes "1900") ≡ false = ap (bytes_eq c.args.year.now) (sym c.as_slice.ensures) ∙ (sym c.eq.ensures ∙ c.if-eq.false) in
    let text = sym (ap (option_map (λ (t : Bor (List ℕ)). t.now)) c.in-Some.is) ∙ c.str_in.ensures in
    adds_equal c.write_number_or_string.result c.args.out.now c.write_number_or_string.new.out (number_or_string c.in-Some.year.now) _ (later_year c.args.year.now (Some c.in-Some.year.now) e text) c.write_number_or_string.ensures.written

pub returns-in-None-clause-written : goal.returns-in-None-clause-written
returns-in-None-clause-written c =
    let e : bytes_eq c.args.year.now (codes "1900") ≡ false = ap (bytes_eq c.args.year.now) (sym c.as_slice.ensures) ∙ (sym c.eq.ensures ∙ c.if-eq.false) in
    let text = sym (ap (option_map (λ (t : Bor (List ℕ)). t.now)) c.in-None.is) ∙ c.str_in.ensures in
    adds_equal c.write_base64.result c.args.out.now c.write_base64.new.out (base64_json c.args.year.now) _ (later_year c.args.year.now None e text) c.write_base64.ensures.written
