use Rattle.std.proofs.Common.{◌≡◌, sym, ap, subst, ◌∙◌}
use Rattle.std.specs.Prelude.{IsUtf8}
use Rattle.json.specs.Json as json
use Rattle.row_json.specs.declared.charset.Charset.TheVariants.{Utf8mb4}
use Rattle.row_json.specs.declared.kind.Kind.TheVariants as kind
use Rattle.binlog_decimal.specs.DecimalText.{decimal_text}
use Rattle.row_json.proofs.Bytes.{text_value}
use Rattle.row_json.proofs.Steps.{adds_token, wrote_value}
use Rattle.row_json.proofs.cell.write_decimal.Goals as goal

pub returns-in-Text-Utf8mb4-clause-written : goal.returns-in-Text-Utf8mb4-clause-written
returns-in-Text-Utf8mb4-clause-written c =
    let column = c.args.column.now in
    let number = c.text_in-number.result.now in
    let text : number ≡ decimal_text c.args.decimal.now = c.text_in-number.ensures in
    let is : column.kind ≡ kind.Text Utf8mb4 = sym c.in-Text-Utf8mb4.ensures ∙ ap kind.Text c.in-Text-Utf8mb4.field-0-is in
    wrote_value c.string.result c.args.out.now c.string.new.self _ (json.string number)
    (text_value column (decimal_text c.args.decimal.now) (json.string number) is (subst IsUtf8 text c.text_in-number.utf8) (ap json.string text))
    (adds_token c.string.result _ _ _ c.string.ensures)
