-- Texts of latin1 that are ASCII.
use Rattle.std.proofs.Common.{◌≡◌, ◌-◌, ℕ, suc, List, [], ◌∷◌, ◌++◌, refl, ap, ◌∙◌}
use Rattle.std.specs.Prelude.{◌&&◌, nat_lt, if◌then◌else◌, encode_utf8, slice_index_or}
use Rattle.std.specs.Str.{IsAscii}
use Rattle.std.proofs.lemmas.Bool.{lt-leb}
use Rattle.std.proofs.lemmas.Str.{encode_ascii}
use Rattle.row_json.specs.Charsets.{windows_characters, latin1_character, latin1_text}

-- they are their own bytes
pub latin1_ascii : (bytes : List ℕ) → IsAscii bytes → latin1_text bytes ≡ bytes
latin1_ascii [] h = refl
latin1_ascii (b ∷ bs) h =
    let same : latin1_character b ≡ b = ap (λ t. if t && nat_lt b 160 then slice_index_or windows_characters (b - 128) 0 else b) (lt-leb 128 b (h 0)) in
    λ i. (ap encode_utf8 same ∙ encode_ascii b (h 0)) i ++ latin1_ascii bs (λ k. h (suc k)) i
