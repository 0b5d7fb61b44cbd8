use Rattle.std.proofs.Common.{List, [], ◌∷◌, refl, subst}
use Rattle.std.specs.Prelude.{codes}
use Rattle.std.specs.List.{flat_map}
use Rattle.json.specs.Json as json
use Rattle.json.specs.Print.{escape_byte}
use Rattle.json.specs.Token as token
use Rattle.row_json.specs.Wrote.{Adds, Named, named_tokens, members_of}
use Rattle.row_json.proofs.Steps.{adds_object}
use Rattle.row_json.proofs.Columns.{one_member}
use Rattle.changed_rows.specs.Sources.{fields_of}
use Rattle.changed_rows.proofs.source.SourceMembers.write.Goals as goal

pub returns-clause-written : goal.returns-clause-written
returns-clause-written c =
    let m = c.in_ok-write_members.ensures.written in
    let fields = fields_of c.args.self.now in
    let name : Adds c.args.out.now c.plain_key.new.self (token.key (codes "source") ∷ []) = record { before = c.plain_key.ensures.before; tokens = c.in_ok-plain_key.ensures.ok } in
    let begun : Adds c.plain_key.new.self c.begin_object.new.self (token.begin_object ∷ []) = record { before = c.begin_object.ensures.before; tokens = c.in_ok-begin_object.ensures.ok } in
    let own = subst (λ (ms : List Named). Adds c.begin_object.new.self c.write_members.new.out (flat_map named_tokens ms)) m.1 m.2 in
    let ended : Adds c.write_members.new.out c.end_object.new.self (token.end_object ∷ []) = record { before = c.end_object.ensures.before; tokens = c.in_ok-end_object.ensures.ok } in
    let value = json.object (members_of fields) in
    ((codes "source", value) ∷ [], refl, one_member _ _ _ (codes "source") (codes "source") value refl name (adds_object fields begun own ended))

pub plain_key-requires : goal.plain_key-requires
unfolding escape_byte
plain_key-requires c = refl
