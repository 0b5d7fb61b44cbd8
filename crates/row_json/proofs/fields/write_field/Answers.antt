use Rattle.std.proofs.Common.{[], ◌∷◌, refl, subst}
use Rattle.json.specs.Json.{Json}
use Rattle.json.specs.Tree.{json_tokens}
use Rattle.json.specs.Token as token
use Rattle.row_json.specs.Fields.{scalar_json}
use Rattle.row_json.specs.Wrote.{Adds}
use Rattle.row_json.proofs.Columns.{one_member}
use Rattle.row_json.proofs.fields.write_field.Goals as goal

pub returns-clause-written : goal.returns-clause-written
returns-clause-written c =
    let name = c.args.name.now in
    let w = c.in_ok-write_scalar.ensures.written in
    let key : Adds c.args.out.now c.key.new.self (token.key name ∷ []) = record { before = c.key.ensures.before; tokens = c.in_ok-key.ensures.ok } in
    let value = subst (λ (j : Json). Adds c.key.new.self c.write_scalar.new.out (json_tokens j)) w.is w.adds in
    ((name, scalar_json c.args.value.now) ∷ [], refl, one_member _ _ _ name name (scalar_json c.args.value.now) refl key value)
