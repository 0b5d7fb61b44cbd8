-- The pieces of a line whose long texts stand apart.
use Rattle.std.proofs.Common.{◌≡◌, ◌+◌, ◌<◌, ◌≤◌, ℕ, List, [], ◌∷◌, ◌++◌, length, drop, get_or, refl, sym, ap, ◌∙◌, append_assoc, subst, arith}
use Rattle.std.specs.List.{flat_map}
use Rattle.std.proofs.lemmas.List.{drop_more, drop_all}
use Rattle.json.specs.Print.{escape}
use Rattle.row_json.specs.declared.charset.Charset.{Charset}
use Rattle.row_json.specs.declared.charset.Charset.TheVariants.{Ascii, Latin1, Utf8mb3, Utf8mb4, Binary, Other}
use Rattle.row_json.specs.declared.long.LongText.{LongText}
use Rattle.std.specs.Prelude.{Option}
use Rattle.change_lines.proofs.Beginnings.{WroteSoFar}
use Rattle.row_json.specs.LongLines.{LinePart, utf8_of, characters, part_bytes}

-- no bytes have no characters
no_bytes : (c : Charset) (bytes : List ℕ) → length bytes ≡ 0 → escape (utf8_of c bytes) ≡ []
no_bytes Latin1 [] none = refl
no_bytes Ascii [] none = refl
no_bytes Utf8mb3 [] none = refl
no_bytes Utf8mb4 [] none = refl
no_bytes Binary [] none = refl
no_bytes Other [] none = refl
no_bytes c (b ∷ bs) none = absurd (omega (arith, none))

pub no_characters : (t : LongText) → length t.bytes.now ≡ 0 → escape (characters t) ≡ []
no_characters t none = no_bytes t.charset t.bytes.now none

-- what is left of a line from a part on
abbrev pub left_from : ℕ → List LinePart → List ℕ → List ℕ
left_from i ps rest = flat_map part_bytes (drop i ps) ++ rest

pub part_left : (i : ℕ) (ps : List LinePart) (rest : List ℕ) (p : LinePart) → i < length ps → p ≡ get_or ps i p → left_from i ps rest ≡ p.before ++ (escape (characters p.text) ++ left_from (i + 1) ps rest)
part_left i ps rest p below here =
    let at : drop i ps ≡ p ∷ drop (i + 1) ps = drop_more ps i p below ∙ ap (λ (q : LinePart). q ∷ drop (i + 1) ps) (sym here) in
    let joined : ((p.before ++ escape (characters p.text)) ++ flat_map part_bytes (drop (i + 1) ps)) ++ rest ≡ p.before ++ (escape (characters p.text) ++ (flat_map part_bytes (drop (i + 1) ps) ++ rest)) = simp append_assoc in
    ap (λ (qs : List LinePart). flat_map part_bytes qs ++ rest) at ∙ joined

pub no_part_left : (i : ℕ) (ps : List LinePart) (rest : List ℕ) → length ps ≤ i → left_from i ps rest ≡ rest
no_part_left i ps rest past = ap (λ (qs : List LinePart). flat_map part_bytes qs ++ rest) (drop_all i ps past)

-- what is left before a part is written: what stands before it, its text, and what is left after it
pub before_part : (a b : Option (List ℕ)) (whole : List ℕ) (i : ℕ) (ps : List LinePart) (rest : List ℕ) (p : LinePart) (before : List ℕ) (text : LongText) → WroteSoFar a b whole (left_from i ps rest) → i < length ps → p ≡ get_or ps i p →
    before ≡ p.before → text ≡ p.text → WroteSoFar a b whole (before ++ (escape (characters text) ++ left_from (i + 1) ps rest))
before_part a b whole i ps rest p before text so_far below here is_before is_text =
    let step = subst (λ (t : List ℕ). WroteSoFar a b whole t) (part_left i ps rest p below here) so_far in
    let first = subst (λ (t : List ℕ). WroteSoFar a b whole (t ++ (escape (characters p.text) ++ left_from (i + 1) ps rest))) (sym is_before) step in
    subst (λ (t : LongText). WroteSoFar a b whole (before ++ (escape (characters t) ++ left_from (i + 1) ps rest))) (sym is_text) first
