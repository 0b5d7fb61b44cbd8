use Rattle.std.proofs.Common.{◌≡◌, List, ℕ, Bool, true, rules, sym, ap, ◌∙◌, Bor}
use Rattle.std.proofs.lemmas.Str.{IsUtf8-from_ascii, is_utf8-from_IsUtf8}
use Rattle.std.specs.Prelude.{◌&&◌, Some, None, if◌then◌else◌}
use Rattle.std.specs.Option.{option_map}
use Rattle.std.specs.Str.{is_utf8, IsAscii}
use Rattle.row_json.specs.Charsets.{may_be_text}
use Rattle.row_json.proofs.Bytes.{checked_text}
use Rattle.row_json.proofs.charset.str_in.Goals as goal

pub from_utf8_unchecked-requires : goal.from_utf8_unchecked-requires
from_utf8_unchecked-requires c = IsUtf8-from_ascii _ (search rules)

pub returns-then-is_ascii : goal.returns-then-is_ascii
returns-then-is_ascii c =
    let bytes = c.args.bytes.now in
    let may : may_be_text c.args.charset bytes ≡ true = search rules in
    let ascii : IsAscii bytes = search rules in
    let utf8 = is_utf8-from_IsUtf8 bytes (IsUtf8-from_ascii bytes ascii) in
    ap Some c.from_utf8_unchecked.ensures ∙ sym (λ i. if may i && utf8 i then Some bytes else None)

pub returns-else-is_ascii : goal.returns-else-is_ascii
returns-else-is_ascii c =
    let bytes = c.args.bytes.now in
    let may : may_be_text c.args.charset bytes ≡ true = search rules in
    (ap (option_map (λ (t : Bor (List ℕ)). t.now)) c.ok.ensures.value ∙ checked_text c.from_utf8.result bytes c.from_utf8.ensures) ∙ sym (ap (λ (b : Bool). if b && is_utf8 bytes then Some bytes else None) may)
