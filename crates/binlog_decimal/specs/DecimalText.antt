-- The texts of decimals: those that are accepted, and the one that is printed.
use Rattle.std.specs.Prelude.{ℕ, ◌-◌, ◌%◌, min, Bool, false, not, ◌&&◌, ◌||◌, ◌==◌, nat_le, nat_lt, if◌then◌else◌, List, [], ◌∷◌, ◌++◌, length, drop, map, Option, Some, None, ◌≡◌, ◌≢◌, Result, Ok, Err}
use Rattle.std.specs.List.{list_all, flat_map, take_while, before_first, after_first}
use Rattle.std.specs.Fmt.{decimal, sign_text}
use Rattle.binlog_decimal.specs.Decimals.{DecimalView}
use Rattle.binlog_decimal.specs.declared.decimal.parse.ParseDecimalError.{ParseDecimalError}
use Rattle.binlog_decimal.specs.declared.decimal.parse.ParseDecimalError.TheVariants.{Invalid, Memory}

-- ---- the texts that are read, as bytes

-- a character from `0` to `9`
abbrev pub is_digit : ℕ → Bool
is_digit c = nat_le 48 c && nat_le c 57

-- the character `0`
abbrev pub is_zero : ℕ → Bool
is_zero c = c == 48

-- the character `.`
abbrev pub is_point : ℕ → Bool
is_point c = c == 46

-- the text without the zeros at its start, except for the last of them
abbrev pub without_leading_zeros : List ℕ → List ℕ
without_leading_zeros text = drop (length (take_while is_zero text) - 1) text

-- the text starts with a minus
abbrev pub has_minus : List ℕ → Bool
has_minus [] = false
has_minus (c ∷ text) = c == 45

-- the text without its optional sign
abbrev pub without_sign : List ℕ → List ℕ
without_sign [] = []
without_sign (c ∷ text) = if (c == 43) || (c == 45) then text else c ∷ text

-- the digits as numbers from 0 to 9
abbrev pub digits_of : List ℕ → List ℕ
digits_of text = map (λ c. c - 48) text

-- both texts hold only digits, and at least one digit in all
abbrev pub are_digits : List ℕ → List ℕ → Bool
are_digits before after = list_all is_digit (before ++ after) && nat_lt 0 (length (before ++ after))

-- The decimal with these digits before and after the point, if there is at least one digit. It is
-- negative if there is a minus and some digit isn't 0.
abbrev pub decimal_with : Bool → List ℕ → List ℕ → Option DecimalView
decimal_with minus before after =
    if are_digits before after
    then Some (record {
      negative = minus && not (list_all is_zero (before ++ after));
      integer = digits_of before;
      fraction = digits_of after;
    })
    else None

-- the decimal of an optional sign and digits with an optional point
abbrev pub signed_decimal : List ℕ → Option DecimalView
signed_decimal text = decimal_with (has_minus text) (before_first is_point (without_sign text)) (after_first is_point (without_sign text))

-- the decimal that a text is read as, or none if the text isn't accepted
unfoldable pub decimal_of_text : List ℕ → Option DecimalView
decimal_of_text text = signed_decimal (without_leading_zeros text)

-- ---- the text that is printed

-- the digits without the leading zeros of their first group, whose last digit is kept
abbrev pub shown_digits : List ℕ → List ℕ
shown_digits digits = drop (min (length (take_while (λ d. d == 0) digits)) ((length digits - 1) % 9)) digits

-- the digits before the point as text; `0` where there are none
abbrev pub integer_text : List ℕ → List ℕ
integer_text [] = 48 ∷ []
integer_text (d ∷ ds) = flat_map decimal (shown_digits (d ∷ ds))

-- a point and the digits after it as text; nothing where there are none
abbrev pub fraction_digits_text : List ℕ → List ℕ
fraction_digits_text [] = []
fraction_digits_text (d ∷ ds) = 46 ∷ flat_map decimal (d ∷ ds)

-- the text of a decimal: a minus if it is negative, the digits before the point, and the point with
-- those after it
unfoldable pub decimal_text : DecimalView → List ℕ
decimal_text d = sign_text d.negative ++ (integer_text d.integer ++ fraction_digits_text d.fraction)

-- The result is the decimal of the text; or the text has none, with the error Invalid; or memory
-- was refused.
abbrev pub ReadsText : Result DecimalView ParseDecimalError → Option DecimalView → Type 0
ReadsText (Ok d) value = value ≡ Some d
ReadsText (Err e) value = e ≢ Memory → (e ≡ Invalid) × (value ≡ None)
