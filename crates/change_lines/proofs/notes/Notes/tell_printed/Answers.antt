use Rattle.std.proofs.Common.{ℕ, List, [], refl, sym, subst, append-nil}
use Rattle.change_lines.specs.declared.run.Printed.{Printed}
use Rattle.change_lines.specs.NotedFiles.{faults_of}
use Rattle.change_lines.specs.Notes.{Tells, AreTold}
use Rattle.change_lines.proofs.Told.{tells_nothing}
use Rattle.change_lines.proofs.notes.Notes.tell_printed.Goals as goal

pub returns-in-All-clause-text : goal.returns-in-All-clause-text
returns-in-All-clause-text g c =
    let s = c.args.self.now in
    let out = g.E.Write.contents s.err in
    subst (λ (p : Printed). (text : List ℕ) × AreTold c.args.path.now (faults_of p) text × Tells s.is_lost out s.is_lost out text) (sym c.in-All.is) ([], refl, tells_nothing s.is_lost out)

pub returns-in-UpTo-clause-text : goal.returns-in-UpTo-clause-text
returns-in-UpTo-clause-text g c =
    let s = c.args.self.now in
    let t = c.tell_skipped.new.self in
    let told = c.tell_skipped.ensures.text in
    subst (λ (p : Printed). (text : List ℕ) × AreTold c.args.path.now (faults_of p) text × Tells s.is_lost (g.E.Write.contents s.err) t.is_lost (g.E.Write.contents t.err) text) (sym c.in-UpTo.is)
    (told.0, (told.0, [], told.1, refl, sym (append-nil told.0)), told.2)
