-- Members that are data: one object of fields.
use Rattle.std.specs.Prelude.{ℕ, List, [], ◌∷◌, map, decimal}
use Rattle.std.specs.Fmt.{signed_decimal}
use denote.Ref.{Bor}
use Rattle.json.specs.Json.{Json, null, boolean, number, string, object}
use Rattle.row_json.specs.declared.fields.Scalar.{Scalar}
use Rattle.row_json.specs.declared.fields.Scalar.TheVariants as scalar
use Rattle.row_json.specs.Wrote.{Named, members_of}

-- a text is a string, and a number has all of its digits
abbrev pub scalar_json : Scalar → Json
scalar_json (scalar.Text text) = string text.now
scalar_json (scalar.Number n) = number (decimal n)
scalar_json (scalar.Signed n) = number (signed_decimal n)
scalar_json (scalar.Bool b) = boolean b
scalar_json scalar.Null = null

-- a name and a value
abbrev pub Field : Type 0
Field = Bor (List ℕ) × Scalar

-- each field is a member of its name, in order
abbrev pub fields_json : List Field → List Named
fields_json fields = map (λ f. (f.0.now, scalar_json f.1)) fields

-- one member: the object of the fields
abbrev pub fields_member : List ℕ → List Field → List Named
fields_member name fields = (name, object (members_of (fields_json fields))) ∷ []
