-- Names of values that were written are read as those names.
use Rattle.std.proofs.Common.{◌≡◌, ◌==◌, ℕ, false, List, [], ◌∷◌, ◌++◌, Option, Some, None, refl, ap, ◌∙◌, append_assoc, append-nil, inl, inr, if◌then◌else◌}
use Rattle.std.specs.Option.{option_map}
use Rattle.std.specs.List.{flat_map}
use Rattle.std.proofs.lemmas.Bool.Decides.{eqb_tells}
use Rattle.table_schema.specs.declared.values.Place.TheVariants as place
use Rattle.table_schema.specs.declared.values.Move.TheVariants as move
use Rattle.table_schema.specs.Values.{name_move, then_values, quoted_byte, quoted, more_quoted, values_text, with_byte, onto_names, values_from, values_of}

quoted_plain : (b : ℕ) → (b == 39) ≡ false → (b == 0) ≡ false → (b == 10) ≡ false → (b == 13) ≡ false → (b == 92) ≡ false → quoted_byte b ≡ b ∷ []
quoted_plain b q z n r s =
    ap (λ c. if c then 39 ∷ 39 ∷ [] else if b == 0 then 92 ∷ 48 ∷ [] else if b == 10 then 92 ∷ 110 ∷ [] else if b == 13 then 92 ∷ 114 ∷ [] else if b == 92 then 92 ∷ 92 ∷ [] else b ∷ []) q
    ∙ ap (λ c. if c then 92 ∷ 48 ∷ [] else if b == 10 then 92 ∷ 110 ∷ [] else if b == 13 then 92 ∷ 114 ∷ [] else if b == 92 then 92 ∷ 92 ∷ [] else b ∷ []) z
    ∙ ap (λ c. if c then 92 ∷ 110 ∷ [] else if b == 13 then 92 ∷ 114 ∷ [] else if b == 92 then 92 ∷ 92 ∷ [] else b ∷ []) n
    ∙ ap (λ c. if c then 92 ∷ 114 ∷ [] else if b == 92 then 92 ∷ 92 ∷ [] else b ∷ []) r
    ∙ ap (λ c. if c then 92 ∷ 92 ∷ [] else b ∷ []) s

move_plain : (b : ℕ) → (b == 39) ≡ false → (b == 0) ≡ false → (b == 10) ≡ false → (b == 13) ≡ false → (b == 92) ≡ false → name_move b ≡ move.Add b
move_plain b q z n r s =
    ap (λ c. if c then move.Go place.Quote else if b == 92 then move.Go place.Backslash else if b == 0 then move.Refuse else if b == 10 then move.Refuse else if b == 13 then move.Refuse else move.Add b) q
    ∙ ap (λ c. if c then move.Go place.Backslash else if b == 0 then move.Refuse else if b == 10 then move.Refuse else if b == 13 then move.Refuse else move.Add b) s
    ∙ ap (λ c. if c then move.Refuse else if b == 10 then move.Refuse else if b == 13 then move.Refuse else move.Add b) z
    ∙ ap (λ c. if c then move.Refuse else if b == 13 then move.Refuse else move.Add b) n
    ∙ ap (λ c. if c then move.Refuse else move.Add b) r

plain : (b : ℕ) (rest : List ℕ) → (b == 39) ≡ false → (b == 0) ≡ false → (b == 10) ≡ false → (b == 13) ≡ false → (b == 92) ≡ false → values_from place.Name (quoted_byte b ++ rest) ≡ option_map (with_byte b) (values_from place.Name rest)
plain b rest q z n r s = ap (λ x. values_from place.Name (x ++ rest)) (quoted_plain b q z n r s) ∙ ap (λ x. then_values x (λ p. values_from p rest)) (move_plain b q z n r s)

-- a byte of a name, and what stands behind it
byte_read : (b : ℕ) (rest : List ℕ) → values_from place.Name (quoted_byte b ++ rest) ≡ option_map (with_byte b) (values_from place.Name rest)
byte_read b rest =
    elim (eqb_tells b 39) [
      | inl quote ↦ rw quote.1 refl
      | inr q ↦ elim (eqb_tells b 0) [
        | inl nul ↦ rw nul.1 refl
        | inr z ↦ elim (eqb_tells b 10) [
          | inl line ↦ rw line.1 refl
          | inr n ↦ elim (eqb_tells b 13) [
            | inl carriage ↦ rw carriage.1 refl
            | inr r ↦ elim (eqb_tells b 92) [
              | inl slash ↦ rw slash.1 refl
              | inr s ↦ plain b rest q.0 z.0 n.0 r.0 s.0
            ]
          ]
        ]
      ]
    ]

onto_more : (b : ℕ) (bs : List ℕ) (x : Option (List (List ℕ))) → option_map (with_byte b) (option_map (onto_names bs) x) ≡ option_map (onto_names (b ∷ bs)) x
onto_more b bs None = refl
onto_more b bs (Some []) = refl
onto_more b bs (Some (n ∷ ns)) = refl

onto_none : (x : Option (List (List ℕ))) → x ≡ option_map (onto_names []) x
onto_none None = refl
onto_none (Some []) = refl
onto_none (Some (n ∷ ns)) = refl

-- the bytes of a name
bytes_read : (name rest : List ℕ) → values_from place.Name (flat_map quoted_byte name ++ rest) ≡ option_map (onto_names name) (values_from place.Name rest)
bytes_read [] rest = onto_none (values_from place.Name rest)
bytes_read (b ∷ bs) rest =
    ap (values_from place.Name) (append_assoc (quoted_byte b) (flat_map quoted_byte bs) rest)
    ∙ byte_read b (flat_map quoted_byte bs ++ rest)
    ∙ ap (option_map (with_byte b)) (bytes_read bs rest)
    ∙ onto_more b bs (values_from place.Name rest)

-- a name in quotes
name_read : (name tail : List ℕ) → values_from place.Comma (quoted name ++ tail) ≡ option_map (onto_names name) (values_from place.Quote tail)
name_read name tail =
    ap (values_from place.Name) (append_assoc (flat_map quoted_byte name) (39 ∷ []) tail)
    ∙ bytes_read name (39 ∷ tail)

-- names with commas between them
names_read : (name : List ℕ) (names : List (List ℕ)) → values_from place.Comma (quoted name ++ (more_quoted names ++ 41 ∷ [])) ≡ Some (name ∷ names)
names_read name [] = name_read name (41 ∷ []) ∙ ap (λ n. Some (n ∷ [])) (append-nil name)
names_read name (next ∷ names) =
    name_read name (more_quoted (next ∷ names) ++ 41 ∷ [])
    ∙ ap (λ y. option_map (onto_names name) (option_map (λ ns. [] ∷ ns) (values_from place.Comma y))) (append_assoc (quoted next) (more_quoted names) (41 ∷ []))
    ∙ ap (λ x. option_map (onto_names name) (option_map (λ ns. [] ∷ ns) x)) (names_read next names)
    ∙ ap (λ n. Some (n ∷ next ∷ names)) (append-nil name)

-- all names
pub names_written : (name : List ℕ) (names : List (List ℕ)) → values_of (values_text (name ∷ names)) ≡ Some (name ∷ names)
names_written name names = ap (values_from place.Comma) (append_assoc (quoted name) (more_quoted names) (41 ∷ [])) ∙ names_read name names
