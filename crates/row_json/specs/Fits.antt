-- An object of fields nests no deeper than what is read back.
use Rattle.std.proofs.Common.{◌≡◌, max, List, [], ◌∷◌, refl, arith}
use Rattle.json.specs.Tree.{depth, members_depth}
use Rattle.row_json.specs.declared.fields.Scalar.{Scalar}
use Rattle.row_json.specs.declared.fields.Scalar.TheVariants as scalar
use Rattle.row_json.specs.declared.fields.Fields.{Fields}
use Rattle.row_json.specs.Fields.{Field, scalar_json, fields_json, fields_member}
use Rattle.row_json.specs.Wrote.{Fits, members_of}

scalar_flat : (s : Scalar) → depth (scalar_json s) ≡ 0
scalar_flat (scalar.Text text) = refl
scalar_flat (scalar.Number n) = refl
scalar_flat (scalar.Signed n) = refl
scalar_flat (scalar.Bool b) = refl
scalar_flat scalar.Null = refl

fields_flat : (fields : List Field) → members_depth (members_of (fields_json fields)) ≡ 0
fields_flat [] = refl
fields_flat (f ∷ fields) = λ i. max (scalar_flat f.1 i) (fields_flat fields i)

pub fields_fit : (f : Fields) → Fits (fields_member f.name.now f.fields.now)
fields_fit f = omega (arith, fields_flat f.fields.now)
