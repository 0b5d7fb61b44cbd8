use Rattle.std.proofs.Common.{◌≡◌, ℕ, false, List, Option, codes, sym, ap, subst, ◌∙◌, rules}
use Rattle.std.specs.Prelude.{not}
use Rattle.changed_rows.specs.Endings.{breaks_off}
use Rattle.change_lines.specs.Notes.{Tells, of_file, break_note}
use Rattle.change_lines.proofs.Told.{wrote_tells, unless}
use Rattle.change_lines.proofs.notes.Notes.tell_break.Goals as goal

pub returns-clause-text : goal.returns-clause-text
returns-clause-text g c =
    let s = c.args.self.now in
    let loud : s.is_quiet ≡ false = c.if-self.false in
    let breaks : not (breaks_off c.in-Some.last_type c.args.is_open) ≡ false = search rules in
    let text = of_file c.args.path.now (codes "the file ends within a transaction\n") in
    let note : break_note s.is_quiet c.args.path.now c.args.last_type c.args.is_open ≡ text =
    ap (λ (o : Option ℕ). break_note s.is_quiet c.args.path.now o c.args.is_open) c.in-Some.is ∙ unless s.is_quiet _ _ text loud breaks in
    subst (λ (t : List ℕ). Tells s.is_lost (g.E.Write.contents s.err) c.wrote.new.self.is_lost (g.E.Write.contents c.wrote.new.self.err) t) (sym note)
    (wrote_tells _ _ _ _ _ _ text c.wrote.ensures.lost c.writeln-written.ensures.bytes (ap g.E.Write.contents c.wrote.ensures.err))
