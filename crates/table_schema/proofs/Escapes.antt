-- What is written of a text is read as that text.
use Rattle.std.proofs.Common.{◌≡◌, ◌==◌, ℕ, false, List, [], ◌∷◌, ◌++◌, Some, refl, ap, ◌∙◌, inl, inr, if◌then◌else◌}
use Rattle.std.specs.Option.{option_map}
use Rattle.std.proofs.lemmas.Bool.Decides.{eqb_tells}
use Rattle.table_schema.specs.Texts.{escaped_byte, escaped, plain_step, then_text, text_behind, text_of}
use Rattle.table_schema.specs.declared.texts.Step.TheVariants as step

escaped_plain : (b : ℕ) → (b == 0) ≡ false → (b == 9) ≡ false → (b == 10) ≡ false → (b == 92) ≡ false → escaped_byte b ≡ b ∷ []
escaped_plain b z t n s =
    ap (λ c. if c then 92 ∷ 48 ∷ [] else if b == 9 then 92 ∷ 116 ∷ [] else if b == 10 then 92 ∷ 110 ∷ [] else if b == 92 then 92 ∷ 92 ∷ [] else b ∷ []) z
    ∙ ap (λ c. if c then 92 ∷ 116 ∷ [] else if b == 10 then 92 ∷ 110 ∷ [] else if b == 92 then 92 ∷ 92 ∷ [] else b ∷ []) t
    ∙ ap (λ c. if c then 92 ∷ 110 ∷ [] else if b == 92 then 92 ∷ 92 ∷ [] else b ∷ []) n
    ∙ ap (λ c. if c then 92 ∷ 92 ∷ [] else b ∷ []) s

step_plain : (b : ℕ) → (b == 0) ≡ false → (b == 92) ≡ false → plain_step b ≡ step.Byte b
step_plain b z s =
    ap (λ c. if c then step.Backslash else if b == 0 then step.Refused else step.Byte b) s
    ∙ ap (λ c. if c then step.Refused else step.Byte b) z

plain : (b : ℕ) (rest : List ℕ) → (b == 0) ≡ false → (b == 9) ≡ false → (b == 10) ≡ false → (b == 92) ≡ false → text_behind false (escaped_byte b ++ rest) ≡ option_map (λ t. b ∷ t) (text_behind false rest)
plain b rest z t n s = ap (λ x. text_behind false (x ++ rest)) (escaped_plain b z t n s) ∙ ap (λ x. then_text x (λ q. text_behind q rest)) (step_plain b z s)

-- a byte of a text and the text behind it
byte_read : (b : ℕ) (rest : List ℕ) → text_behind false (escaped_byte b ++ rest) ≡ option_map (λ t. b ∷ t) (text_behind false rest)
byte_read b rest =
    elim (eqb_tells b 0) [
      | inl zero ↦ rw zero.1 refl
      | inr a ↦ elim (eqb_tells b 9) [
        | inl tab ↦ rw tab.1 refl
        | inr c ↦ elim (eqb_tells b 10) [
          | inl line ↦ rw line.1 refl
          | inr d ↦ elim (eqb_tells b 92) [
            | inl slash ↦ rw slash.1 refl
            | inr e ↦ plain b rest a.0 c.0 d.0 e.0
          ]
        ]
      ]
    ]

-- a text
pub text_read : (t : List ℕ) → text_of (escaped t) ≡ Some t
text_read [] = refl
text_read (b ∷ bs) = byte_read b (escaped bs) ∙ ap (option_map (λ t. b ∷ t)) (text_read bs)
