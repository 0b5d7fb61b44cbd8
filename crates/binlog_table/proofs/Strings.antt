-- Writing strings one after the other.
use Rattle.std.proofs.Common.{◌≡◌, ℕ, ◌+◌, ◌<◌, ◌^◌, ◌-◌, List, ◌∷◌, ◌++◌, length, take, drop, ap, sym, ◌∙◌, subst, arith, get_or}
use Rattle.std.proofs.lemmas.List.{take_all, drop_more, take-append-drop}
use Rattle.std.proofs.lemmas.Grind.{flat_map-append}
use Rattle.std.specs.List.{flat_map}
use Rattle.std.specs.Prelude.{Result}
use Rattle.binlog_base.specs.Strings.{lenenc_string_bytes}
use Rattle.binlog_base.specs.Writing.{Appends}

-- a string of fewer than 2^64 bytes is written whole
pub appends_whole : {X E : Type 0} (r : Result X E) (old new text bytes : List ℕ) → bytes ≡ text → length bytes < 2 ^ 64
    → Appends r old new (lenenc_string_bytes (take (2 ^ 64 - 1) bytes)) → Appends r old new (lenenc_string_bytes text)
appends_whole r old new text bytes same short h =
    subst (λ t. Appends r old new (lenenc_string_bytes t)) (take_all (2 ^ 64 - 1) bytes (omega (arith, short)) ∙ same) h

-- the strings so far, one more, and the others
pub strings_split : (texts : List (List ℕ)) (i : ℕ) (text : List ℕ) → i < length texts → text ≡ get_or texts i text
    → flat_map lenenc_string_bytes (take i texts) ++ (lenenc_string_bytes text ++ flat_map lenenc_string_bytes (drop (i + 1) texts)) ≡ flat_map lenenc_string_bytes texts
strings_split texts i text lt is =
    let here : drop i texts ≡ text ∷ drop (i + 1) texts = drop_more texts i text lt ∙ ap (λ (t : List ℕ). t ∷ drop (i + 1) texts) (sym is) in
    ap (λ (t : List (List ℕ)). flat_map lenenc_string_bytes (take i texts) ++ flat_map lenenc_string_bytes t) (sym here)
    ∙ sym (flat_map-append lenenc_string_bytes (take i texts) (drop i texts)) ∙ ap (flat_map lenenc_string_bytes) (take-append-drop i texts)
