use Rattle.std.proofs.Common.{◌<◌, ◌≤◌, ◌++◌, ℕ, Bool, List, length, refl, ap, subst, ◌∙◌, rules}
use Rattle.std.specs.Prelude.{take}
use Rattle.change_lines.specs.Notes.{Tells}
use Rattle.change_lines.specs.Lacking.{TableGroup, lack_note, who_text, groups_text}
use Rattle.change_lines.proofs.Told.{tells_nothing, tells_more, told_to, take_all}
use Rattle.change_lines.proofs.notes.Notes.tell_tables.Goals as goal

pub loop-index-init : goal.loop-index-init
loop-index-init g c = (tells_nothing _ _, refl, refl, search rules)

pub loop-index-preserved : goal.loop-index-preserved
loop-index-preserved g c =
    let h = c.loop-index.invariant in
    let s = c.args.self.now in
    let now = c.loop-index.self in
    let gs = c.replace-groups.result.items in
    let i = c.loop-index.index in
    let x = c.index.result.now in
    let small : i < length gs = search rules in
    let new = c.tell_group.new.self in
    let text = λ (t : TableGroup). lack_note (who_text s.has_more t) t.lacks in
    let note = subst (λ (m : Bool). Tells now.is_lost (g.E.Write.contents now.err) new.is_lost (g.E.Write.contents new.err) (lack_note (who_text m x) x.lacks)) h.1 c.tell_group.ensures.text in
    let more = tells_more _ _ _ _ _ _ (groups_text s.has_more (take i gs)) (text x) h.0 note in
    let longer = ap (λ (t : TableGroup). groups_text s.has_more (take i gs) ++ text t) c.index.ensures ∙ told_to text gs i x small in (
      subst (λ (t : List ℕ). Tells s.is_lost (g.E.Write.contents s.err) new.is_lost (g.E.Write.contents new.err) t) longer more,
      c.tell_group.ensures.more ∙ h.1,
      c.tell_group.ensures.quiet ∙ h.2,
      h.3,
    )

pub returns-clause-text : goal.returns-clause-text
returns-clause-text g c =
    let h = c.loop-index.invariant in
    let s = c.args.self.now in
    let gs = c.replace-groups.result.items in
    let all : length gs ≤ c.loop-index.index = search rules in
    let now = c.loop-index.self in
    subst (λ (l : List TableGroup). Tells s.is_lost (g.E.Write.contents s.err) now.is_lost (g.E.Write.contents now.err) (groups_text s.has_more l)) (take_all gs c.loop-index.index all ∙ h.3) h.0
