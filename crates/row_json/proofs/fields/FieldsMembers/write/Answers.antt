use Rattle.std.proofs.Common.{List, [], ◌∷◌, refl, subst}
use Rattle.std.specs.List.{flat_map}
use Rattle.json.specs.Json as json
use Rattle.json.specs.Token as token
use Rattle.row_json.specs.Fields.{fields_json}
use Rattle.row_json.specs.Wrote.{Adds, Named, named_tokens, members_of}
use Rattle.row_json.proofs.Steps.{adds_object}
use Rattle.row_json.proofs.Columns.{one_member}
use Rattle.row_json.proofs.fields.FieldsMembers.write.Goals as goal

pub returns-clause-written : goal.returns-clause-written
returns-clause-written c =
    let name = c.args.self.now.name.now in
    let fields = fields_json c.args.self.now.fields.now in
    let m = c.in_ok-write_fields.ensures.written in
    let key : Adds c.args.out.now c.key.new.self (token.key name ∷ []) = record { before = c.key.ensures.before; tokens = c.in_ok-key.ensures.ok } in
    let begun : Adds c.key.new.self c.begin_object.new.self (token.begin_object ∷ []) = record { before = c.begin_object.ensures.before; tokens = c.in_ok-begin_object.ensures.ok } in
    let own = subst (λ (ms : List Named). Adds c.begin_object.new.self c.write_fields.new.out (flat_map named_tokens ms)) m.1 m.2 in
    let ended : Adds c.write_fields.new.out c.end_object.new.self (token.end_object ∷ []) = record { before = c.end_object.ensures.before; tokens = c.in_ok-end_object.ensures.ok } in
    let value = json.object (members_of fields) in
    ((name, value) ∷ [], refl, one_member _ _ _ name name value refl key (adds_object fields begun own ended))
