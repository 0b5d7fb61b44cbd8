-- Texts as `mysql -N -B` writes them: fields with tabs between them, in lines.
use Rattle.std.specs.Prelude.{ℕ, ◌+◌, ◌*◌, ◌-◌, ◌==◌, ◌&&◌, nat_le, Bool, true, false, if◌then◌else◌, List, [], ◌∷◌, length, Option, Some, None, option_and_then}
use Rattle.std.specs.List.{flat_map}
use Rattle.std.specs.Option.{option_map}
use Rattle.table_schema.specs.declared.texts.Step.{Step}
use Rattle.table_schema.specs.declared.texts.Step.TheVariants as step

-- ---- escapes

-- What is written for a byte: a zero byte, a tab, a line feed and a backslash are a backslash and a letter.
abbrev pub escaped_byte : ℕ → List ℕ
escaped_byte b =
    if b == 0 then 92 ∷ 48 ∷ []
    else if b == 9 then 92 ∷ 116 ∷ []
    else if b == 10 then 92 ∷ 110 ∷ []
    else if b == 92 then 92 ∷ 92 ∷ []
    else b ∷ []

-- what is written for a text
abbrev pub escaped : List ℕ → List ℕ
escaped text = flat_map escaped_byte text

-- what a byte behind a backslash stands for
abbrev pub letter_step : ℕ → Step
letter_step b =
    if b == 48 then step.Byte 0
    else if b == 116 then step.Byte 9
    else if b == 110 then step.Byte 10
    else if b == 92 then step.Byte 92
    else step.Refused

-- what any other byte stands for
abbrev pub plain_step : ℕ → Step
plain_step b = if b == 92 then step.Backslash else if b == 0 then step.Refused else step.Byte b

abbrev pub step_of : Bool → ℕ → Step
step_of true b = letter_step b
step_of false b = plain_step b

-- the text behind one byte, by what that stands for
abbrev pub then_text : Step → (Bool → Option (List ℕ)) → Option (List ℕ)
then_text (step.Byte c) rest = option_map (λ t. c ∷ t) (rest false)
then_text step.Backslash rest = rest true
then_text step.Refused rest = None

-- the text that bytes stand for, behind a backslash or not
abbrev pub text_behind : Bool → List ℕ → Option (List ℕ)
text_behind true [] = None
text_behind false [] = Some []
text_behind is_behind (b ∷ bs) = then_text (step_of is_behind b) (λ s. text_behind s bs)

-- The text that a field stands for; none if a backslash has another letter behind it or none, or there is a zero
-- byte.
abbrev pub text_of : List ℕ → Option (List ℕ)
text_of field = text_behind false field

-- ---- fields

-- a list of pieces whose first one begins with this byte too
abbrev pub onto_first : ℕ → List (List ℕ) → List (List ℕ)
onto_first b [] = (b ∷ []) ∷ []
onto_first b (piece ∷ pieces) = (b ∷ piece) ∷ pieces

-- what stands between the bytes of a text that are this one
abbrev pub pieces : ℕ → List ℕ → List (List ℕ)
pieces end [] = [] ∷ []
pieces end (b ∷ bs) = if b == end then [] ∷ pieces end bs else onto_first b (pieces end bs)

-- ---- numbers

-- a number of 64 bits with one more digit behind it
abbrev pub with_digit : ℕ → ℕ → Option ℕ
with_digit n b =
    if nat_le 48 b && nat_le b 57 && nat_le (n * 10 + (b - 48)) 18446744073709551615 then Some (n * 10 + (b - 48)) else None

-- the number that is written by these digits and the text behind them
abbrev pub number_after : ℕ → List ℕ → Option ℕ
number_after n [] = Some n
number_after n (b ∷ bs) = option_and_then (λ m. number_after m bs) (with_digit n b)

-- the number that a text of one decimal digit or more is
abbrev pub number_of : List ℕ → Option ℕ
number_of text = if length text == 0 then None else number_after 0 text
