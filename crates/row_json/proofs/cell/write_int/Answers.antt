use Rattle.std.proofs.Common.{ℤ, rules, refl, ap, ◌∙◌}
use Rattle.std.proofs.lemmas.Int.{to_z-of_z}
use Rattle.std.specs.Fmt.{signed_decimal}
use Rattle.json.specs.Json as json
use Rattle.row_json.proofs.Steps.{token_wrote}
use Rattle.row_json.proofs.Bytes.{other_int}
use Rattle.row_json.proofs.cell.write_int.Goals as goal

pub returns-in_default-clause-written : goal.returns-in_default-clause-written
returns-in_default-clause-written c =
    let column = c.args.column.now in
    let is = c.kind.ensures in
    token_wrote c.i64.result c.args.out.now c.i64.new.self _ (json.number _) _ refl c.i64.ensures
    (other_int column column.kind c.args.number _ (λ d e. c.in_default.not-Timestamp d (is ∙ e)) (λ e. c.in_default.not-Enum (is ∙ e)) (ap (λ (z : ℤ). json.number (signed_decimal z)) (search (rules, to_z-of_z))))
