use Rattle.std.proofs.Common.{[], ◌∷◌, refl}
use Rattle.json.specs.Json as json
use Rattle.json.specs.Token as token
use Rattle.row_json.specs.LongLines.{characters}
use Rattle.row_json.specs.Wrote.{Adds}
use Rattle.row_json.proofs.Drafts.{goes_member, members_wrote}
use Rattle.row_json.proofs.long.write_member.Goals as goal

pub returns-in_ok-write_apart-in-Some-clause-written : goal.returns-in_ok-write_apart-in-Some-clause-written
returns-in_ok-write_apart-in-Some-clause-written c =
    let ps = c.args.draft.now.parts.items in
    let name = c.args.column.now.name in
    let text = characters c.in-Some.apart in
    let key : Adds c.args.draft.now.out c.write_key.new.out (token.key name ∷ []) = record { before = c.write_key.ensures.before; tokens = c.in_ok-write_key-in-Some.ensures.ok } in
    ((name, json.string text) ∷ [], c.in-Some.ensures.member, goes_member ps c.write_apart.new.self.parts.items c.args.draft.now.out c.write_key.new.out c.write_apart.new.self.out name name (json.string text) refl key c.in_ok-write_apart-in-Some.ensures)

pub returns-in-None-clause-written : goal.returns-in-None-clause-written
returns-in-None-clause-written c = members_wrote c.write_member_of.result c.args.draft.now.parts.items c.args.draft.now.out c.write_member_of.new.out _ c.write_member_of.ensures.written
