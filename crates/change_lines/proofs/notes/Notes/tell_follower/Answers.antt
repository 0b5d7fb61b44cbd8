use Rattle.std.proofs.Common.{◌≡◌, ℕ, false, List, Option, codes, sym, ap, subst, ◌∙◌, ◌++◌, rules}
use Rattle.std.specs.Prelude.{bytes_eq}
use Rattle.std.specs.Option.{option_map}
use Rattle.std.specs.String.{string_bytes}
use Rattle.row_lines.specs.Names.{shown_name}
use Rattle.change_lines.specs.Notes.{Tells, of_file, follow_note}
use Rattle.change_lines.proofs.Told.{wrote_tells, unless}
use Rattle.change_lines.proofs.notes.Notes.tell_follower.Goals as goal

pub returns-clause-text : goal.returns-clause-text
returns-clause-text g c =
    let s = c.args.self.now in
    let loud : s.is_quiet ≡ false = c.if-self.false in
    let next = string_bytes c.in-Some.next in
    let other : bytes_eq next c.args.file.now ≡ false = search rules in
    let shown : c.as_str-next.result.now ≡ shown_name next = c.as_str-next.ensures.value ∙ c.in-Ok.ensures ∙ ap shown_name c.as_bytes.ensures.value in
    let line = λ (name : List ℕ). of_file c.args.path.now (codes "the file before it goes on in " ++ (name ++ codes "\n")) in
    let note : follow_note s.is_quiet c.args.path.now c.args.file.now (option_map string_bytes s.next) ≡ line c.as_str-next.result.now =
    ap (λ (o : Option (List ℕ)). follow_note s.is_quiet c.args.path.now c.args.file.now o) (ap (option_map string_bytes) c.in-Some.is) ∙ unless s.is_quiet _ _ _ loud other ∙ ap line (sym shown) in
    subst (λ (t : List ℕ). Tells s.is_lost (g.E.Write.contents s.err) c.wrote.new.self.is_lost (g.E.Write.contents c.wrote.new.self.err) t) (sym note)
    (wrote_tells _ _ _ _ _ _ (line c.as_str-next.result.now) c.wrote.ensures.lost c.writeln-written.ensures.bytes (ap g.E.Write.contents c.wrote.ensures.err))
