-- Floats as JSON.
use Rattle.std.specs.Prelude.{◌≡◌, ℕ, List, Some, codes, from_bits, is_nan, if◌then◌else◌}
use Rattle.std.specs.Bool.{MatchBool}
use Rattle.std.specs.Float.{Float, Format, float_is_finite, is_sign_negative}
use Rattle.ryu.specs.Parse.{parse_float}
use Rattle.ryu.specs.Plain.{IsPlainNumber}
use Rattle.json.specs.Json.{Json, number, string}

-- a number that reads back as this float
abbrev pub IsNumberOf : Format → Float → Json → Type 0
IsNumberOf f x j = (text : List ℕ) × (j ≡ number text) × IsPlainNumber text × (parse_float f text ≡ Some x)

-- what has no number in JSON
abbrev pub special_text : Float → List ℕ
special_text x = if is_nan x then codes "NaN" else (if is_sign_negative x then codes "-Infinity" else codes "Infinity")

-- the float of these bits
abbrev pub IsFloatJson : Format → ℕ → Json → Type 0
IsFloatJson f bits j = let x = from_bits f bits in MatchBool (float_is_finite x) (IsNumberOf f x j) (j ≡ string (special_text x))
