use Rattle.std.proofs.Common.{[], ◌∷◌, List, refl, subst}
use Rattle.json.specs.Json as json
use Rattle.json.specs.Token as token
use Rattle.row_json.specs.declared.row.Part.TheVariants as part
use Rattle.row_json.specs.Columns.{Column}
use Rattle.row_json.specs.Rows.{AreMembers}
use Rattle.row_json.specs.Wrote.{Adds, members_of}
use Rattle.row_json.proofs.Drafts.{goes_adds, goes_object}
use Rattle.row_json.proofs.long.write_image.Goals as goal

pub returns-in_ok-null-in-None-clause-written : goal.returns-in_ok-null-in-None-clause-written
returns-in_ok-null-in-None-clause-written c = rw c.in-None.is (json.null, refl, goes_adds c.args.draft.now.parts.items c.args.draft.now.out c.null.new.self (token.null ∷ []) (record { before = c.null.ensures.before; tokens = c.in_ok-null-in-None.ensures.ok }))

pub returns-in_ok-end_object-in-Some-clause-written : goal.returns-in_ok-end_object-in-Some-clause-written
returns-in_ok-end_object-in-Some-clause-written c =
    let start = c.args.draft.now in
    let m = c.write_members.new.draft in
    let ms = c.in_ok-write_members-in-Some.ensures.written in
    let begun : Adds start.out c.begin_object.new.self (token.begin_object ∷ []) = record { before = c.begin_object.ensures.before; tokens = c.in_ok-begin_object-in-Some.ensures.ok } in
    let ended : Adds m.out c.end_object.new.self (token.end_object ∷ []) = record { before = c.end_object.ensures.before; tokens = c.in_ok-end_object-in-Some.ensures.ok } in
    let are = subst (λ (cs : List Column). AreMembers part.Row cs c.args.present.now 0 c.in-Some.row.now.values ms.0) c.columns.ensures ms.1 in
    rw c.in-Some.is (json.object (members_of ms.0), (ms.0, are, refl), goes_object start.parts.items m.parts.items start.out c.begin_object.new.self m.out c.end_object.new.self ms.0 begun ms.2 ended)
