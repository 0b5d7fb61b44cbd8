use Rattle.std.proofs.Common.{◌<◌, ◌≤◌, ℕ, List, length, subst, rules}
use Rattle.std.specs.Prelude.{take}
use Rattle.changed_rows.specs.declared.named.MissingName.{MissingName}
use Rattle.change_lines.specs.Notes.{Tells, missing_note, missing_text}
use Rattle.change_lines.proofs.Told.{tells_nothing, tells_more, told_to, take_all}
use Rattle.change_lines.proofs.notes.Notes.tell_names.Goals as goal

pub loop-index-init : goal.loop-index-init
loop-index-init g c = tells_nothing _ _

pub loop-index-preserved : goal.loop-index-preserved
loop-index-preserved g c =
    let s = c.args.self.now in
    let ms = c.args.missing.now in
    let i = c.loop-index.index in
    let small : i < length ms = search rules in
    let new = c.tell_missing_name.new.self in
    subst (λ (t : List ℕ). Tells s.is_lost (g.E.Write.contents s.err) new.is_lost (g.E.Write.contents new.err) t) (told_to missing_note ms i _ small)
    (tells_more _ _ _ _ _ _ (missing_text (take i ms)) _ c.loop-index.invariant c.tell_missing_name.ensures)

pub returns : goal.returns
returns g c =
    let s = c.args.self.now in
    let ms = c.args.missing.now in
    let all : length ms ≤ c.loop-index.index = search rules in
    let now = c.loop-index.self in
    subst (λ (l : List MissingName). Tells s.is_lost (g.E.Write.contents s.err) now.is_lost (g.E.Write.contents now.err) (missing_text l)) (take_all ms c.loop-index.index all) c.loop-index.invariant
