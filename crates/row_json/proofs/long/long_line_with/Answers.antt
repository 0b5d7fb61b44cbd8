use Rattle.std.proofs.Common.{[], ◌∷◌, ◌++◌, List, refl, ap, ◌∙◌, subst, append_assoc}
use Rattle.std.specs.Prelude.{codes}
use Rattle.std.specs.List.{flat_map}
use Rattle.json.specs.Json.{string}
use Rattle.json.specs.Token.{Token}
use Rattle.json.specs.Token as token
use Rattle.json.specs.Print.{print, ArePrintableOrBad}
use Rattle.row_json.specs.Rows.{operation_of}
use Rattle.row_json.specs.Workings.Drafts.{Holds}
use Rattle.row_json.specs.Wrote.{Named, named_tokens, object_end}
use Rattle.row_json.proofs.Drafts.{goes_adds, long_line_is}
use Rattle.row_json.proofs.long.long_line_with.Goals as goal

pub returns-clause-written : goal.returns-clause-written
returns-clause-written g c =
    let start = c.new-draft.result in
    let ps = start.parts.items in
    let added : List Named = g.M.Members.members c.args.members.now in
    let own = c.in_ok-write.ensures.written in
    let end = c.in_ok-end_pair.ensures.written in
    let ts : List Token = token.begin_object ∷ named_tokens (codes "op", string (operation_of c.args.pair.now)) in
    let us : List Token = flat_map named_tokens own.0 in
    let vs : List Token = object_end end.0 in
    let begun : Holds ps c.begin_pair.new.out ts = goes_adds ps start.out c.begin_pair.new.out ts c.in_ok-begin_pair.ensures.written [] c.new-draft.ensures in
    let more : Holds ps c.write.new.out (ts ++ us) = goes_adds ps c.begin_pair.new.out c.write.new.out us own.2 ts begun in
    let all : Holds c.end_pair.new.draft.parts.items c.end_pair.new.draft.out ((ts ++ us) ++ vs) = end.2 (ts ++ us) more in
    long_line_is c.args.table.now c.args.event.now added end.0 c.args.pair.now ts us vs _ (g.met.M.Members.fits c.args.members.now) refl (ap (flat_map named_tokens) own.1) end.1 refl
    (subst ArePrintableOrBad (append_assoc ts us vs) (c.in_ok-into_line.ensures.printable ((ts ++ us) ++ vs) all)) (c.in_ok-into_line.ensures.bytes ((ts ++ us) ++ vs) all ∙ ap (λ (l : List Token). print l ++ codes "\n") (append_assoc ts us vs))
