-- The names of the values of ENUM and SET columns, as COLUMN_TYPE of information_schema.COLUMNS has them.
use Rattle.std.specs.Prelude.{ℕ, ◌==◌, if◌then◌else◌, List, [], ◌∷◌, ◌++◌, Option, Some, None}
use Rattle.std.specs.List.{flat_map}
use Rattle.std.specs.Option.{option_map}
use Rattle.table_schema.specs.declared.values.Place.{Place}
use Rattle.table_schema.specs.declared.values.Place.TheVariants as place
use Rattle.table_schema.specs.declared.values.Move.{Move}
use Rattle.table_schema.specs.declared.values.Move.TheVariants as move

-- ---- what is written

-- A quote is doubled; a zero byte, a line feed, a carriage return and a backslash are a backslash and a letter.
abbrev pub quoted_byte : ℕ → List ℕ
quoted_byte b =
    if b == 39 then 39 ∷ 39 ∷ []
    else if b == 0 then 92 ∷ 48 ∷ []
    else if b == 10 then 92 ∷ 110 ∷ []
    else if b == 13 then 92 ∷ 114 ∷ []
    else if b == 92 then 92 ∷ 92 ∷ []
    else b ∷ []

-- a name between quotes
abbrev pub quoted : List ℕ → List ℕ
quoted name = 39 ∷ flat_map quoted_byte name ++ 39 ∷ []

-- names behind the first one
abbrev pub more_quoted : List (List ℕ) → List ℕ
more_quoted names = flat_map (λ name. 44 ∷ quoted name) names

-- names in parentheses with commas between them: at least one
abbrev pub values_text : List (List ℕ) → List ℕ
values_text [] = []
values_text (name ∷ names) = 40 ∷ quoted name ++ more_quoted names ++ 41 ∷ []

-- ---- what is read

-- what a byte behind a backslash stands for in a name
abbrev pub letter_move : ℕ → Move
letter_move b =
    if b == 48 then move.Add 0
    else if b == 110 then move.Add 10
    else if b == 114 then move.Add 13
    else if b == 92 then move.Add 92
    else move.Refuse

-- what any other byte in a name stands for
abbrev pub name_move : ℕ → Move
name_move b =
    if b == 39 then move.Go place.Quote
    else if b == 92 then move.Go place.Backslash
    else if b == 0 then move.Refuse
    else if b == 10 then move.Refuse
    else if b == 13 then move.Refuse
    else move.Add b

-- what stands behind a quote in or behind a name: another one, a comma, or the end
abbrev pub quote_move : ℕ → Move
quote_move b =
    if b == 39 then move.Add 39
    else if b == 44 then move.End place.Comma
    else if b == 41 then move.End place.Done
    else move.Refuse

-- what a byte at a place of the text means
abbrev pub move_of : Place → ℕ → Move
move_of place.Start b = if b == 40 then move.Go place.Comma else move.Refuse
move_of place.Comma b = if b == 39 then move.Go place.Name else move.Refuse
move_of place.Name b = name_move b
move_of place.Backslash b = letter_move b
move_of place.Quote b = quote_move b
move_of place.Done b = move.Refuse

-- the names, of which the first one begins with this byte too
abbrev pub with_byte : ℕ → List (List ℕ) → List (List ℕ)
with_byte b [] = []
with_byte b (name ∷ names) = (b ∷ name) ∷ names

-- the names, of which the first one begins with these bytes too
abbrev pub onto_names : List ℕ → List (List ℕ) → List (List ℕ)
onto_names bytes [] = []
onto_names bytes (name ∷ names) = (bytes ++ name) ∷ names

-- the names behind one byte, by what that means
abbrev pub then_values : Move → (Place → Option (List (List ℕ))) → Option (List (List ℕ))
then_values (move.Add b) rest = option_map (with_byte b) (rest place.Name)
then_values (move.Go p) rest = rest p
then_values (move.End p) rest = option_map (λ names. [] ∷ names) (rest p)
then_values move.Refuse rest = None

-- The names from a place of the text on. The first one is what is left of the name there.
abbrev pub values_from : Place → List ℕ → Option (List (List ℕ))
values_from place.Done [] = Some []
values_from _ [] = None
values_from p (b ∷ bs) = then_values (move_of p b) (λ q. values_from q bs)

-- the names that a text is written of; none if it is written of none
abbrev pub values_of : List ℕ → Option (List (List ℕ))
values_of text = values_from place.Start text
