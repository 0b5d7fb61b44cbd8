use Rattle.std.proofs.Common.{◌≡◌, ℕ, List, codes, ◌++◌, sym, ap, subst, ◌∙◌}
use Rattle.row_lines.specs.Names.{shown_name}
use Rattle.change_lines.specs.Notes.{Tells, case_text, missing_note}
use Rattle.change_lines.proofs.Told.{wrote_tells}
use Rattle.change_lines.proofs.notes.Notes.tell_missing_name.Goals as goal

pub returns : goal.returns
returns g c =
    let s = c.args.self.now in
    let m = c.args.missing.now in
    let shown : c.as_str-name.result.now ≡ shown_name m.name.now = c.as_str-name.ensures.value ∙ c.in-Ok.ensures ∙ ap shown_name c.as_bytes.ensures.value in
    let line = λ (name case : List ℕ). codes "changes: no event of " ++ (name ++ (case ++ codes "\n")) in
    let note : missing_note m ≡ line c.as_str-name.result.now c.case_text-case.result.now =
    ap (λ (n : List ℕ). line n (case_text m.has_other_case)) (sym shown) ∙ ap (line c.as_str-name.result.now) (sym c.case_text-case.ensures) in
    subst (λ (t : List ℕ). Tells s.is_lost (g.E.Write.contents s.err) c.wrote.new.self.is_lost (g.E.Write.contents c.wrote.new.self.err) t) (sym note)
    (wrote_tells _ _ _ _ _ _ (line c.as_str-name.result.now c.case_text-case.result.now) c.wrote.ensures.lost c.writeln-written.ensures.bytes (ap g.E.Write.contents c.wrote.ensures.err))
