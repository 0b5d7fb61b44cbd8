-- What is kept of a line while it is made whose long texts stand apart: its parts, and a writer, which
-- begins with an empty string in place of the last of these texts.
use Rattle.std.specs.Prelude.{◌≡◌, ℕ, List, [], ◌∷◌, ◌++◌, Bool, true, false}
use Rattle.std.specs.List.{flat_map}
use Rattle.json.specs.Json.{Json}
use Rattle.json.specs.Token.{Token}
use Rattle.json.specs.Token as token
use Rattle.json.specs.Tree.{json_tokens}
use Rattle.json.specs.Print.{print, ends_value, ArePrintableOrBad}
use Rattle.json_line.specs.Written.{Written}
use Rattle.row_json.specs.LongLines.{LinePart, part_bytes}
use Rattle.row_json.specs.Wrote.{Named, named_tokens}

-- whether there is a part
abbrev pub has_parts : List LinePart → Bool
has_parts [] = false
has_parts (p ∷ ps) = true

-- the string with which the writer begins, if there is a part
abbrev pub opening : List LinePart → List Token
opening [] = []
opening (p ∷ ps) = token.string [] ∷ []

-- the closing quote of the last text
abbrev pub closing : List LinePart → List ℕ
closing [] = []
closing (p ∷ ps) = 34 ∷ []

-- These tokens were written: some first ones, up to the last text, stand in the parts, and the writer
-- has the others.
pub record Holds (ps : List LinePart) (out : Written) (ts : List Token) : Type 0 where
  pub first : List Token
  pub last : List Token
  pub all : ts ≡ first ++ last
  pub before : out.before ≡ []
  pub tokens : out.tokens ≡ opening ps ++ last
  pub text : print first ≡ flat_map part_bytes ps ++ closing ps
  pub ends : ends_value first ≡ has_parts ps
  pub printable : ArePrintableOrBad first

-- these tokens were written after all others
abbrev pub Goes : List LinePart → Written → List LinePart → Written → List Token → Type 0
Goes ps a qs b ts = (us : List Token) → Holds ps a us → Holds qs b (us ++ ts)

-- one value was written, and it is so
abbrev pub GoesOne : (Json → Type 0) → List LinePart → Written → List LinePart → Written → Type 0
GoesOne Is ps a qs b = (j : Json) × Is j × Goes ps a qs b (json_tokens j)

-- these members of an object were written, and they are so
abbrev pub GoesMembers : (List Named → Type 0) → List LinePart → Written → List LinePart → Written → Type 0
GoesMembers Are ps a qs b = (ms : List Named) × Are ms × Goes ps a qs b (flat_map named_tokens ms)
