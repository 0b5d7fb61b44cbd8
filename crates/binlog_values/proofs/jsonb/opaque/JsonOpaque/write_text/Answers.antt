use Rattle.std.proofs.Common.{◌≡◌, ◌++◌, ◌∷◌, [], List, ℕ, ap, ◌∙◌}
use Rattle.std.specs.Fmt.{decimal}
use Rattle.std.specs.List.{concat}
use Rattle.base64.specs.Engines.{standard}
use Rattle.base64.specs.GeneralPurpose.{encode_of}
use Rattle.binlog_base.specs.ColumnTypes.{column_number}
use Rattle.binlog_values.specs.JsonbOpaques.{type_prefix}
use Rattle.binlog_decimal.proofs.InlineTexts.{all_written}
use Rattle.binlog_values.proofs.JsonbOpaques.{appended}
use Rattle.binlog_values.proofs.jsonb.opaque.JsonOpaque.write_text.Goals as goal

pub returns-in_ok-push_str-in-Ok : goal.returns-in_ok-push_str-in-Ok
returns-in_ok-push_str-in-Ok c =
    let old = c.args.text.now.bytes.items in
    let first = type_prefix ++ (decimal (column_number c.args.self.now.field_type) ++ 58 ∷ []) in
    let second = encode_of standard c.args.self.now.value.items in
    let wrote = c.in-Ok.ensures.writes in
    let all = all_written c.new-prefix.result c.write.new.self wrote.parts wrote.calls c.new-prefix.ensures.intact in
    let text : c.as_str.result.now ≡ first = c.as_str.ensures.value ∙ all.1 ∙ ap (λ (l : List ℕ). l ++ concat wrote.parts) c.new-prefix.ensures.text ∙ wrote.whole ∙ ap (λ (n : ℕ). type_prefix ++ (decimal n ++ 58 ∷ [])) c.from-number.ensures in
    let middle : c.push_str.new.self.bytes.items ≡ old ++ first = c.in_ok-push_str-in-Ok.ensures.bytes ∙ ap (λ (l : List ℕ). old ++ l) text in
    appended c.encode_string.result old first second c.push_str.new.self.bytes.items c.encode_string.new.output.bytes.items middle (rw c.deref.ensures.value at c.encode_string.ensures.ok) c.encode_string.ensures.err
