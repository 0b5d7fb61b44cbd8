use Rattle.std.proofs.Common.{◌≡◌, ℕ, None, refl, sym, ap, ◌∙◌, rules, subst}
use Rattle.binlog_file.specs.Events.{Glance}
use Rattle.binlog_file.specs.Tables.{InForce}
use Rattle.binlog_file.specs.TableMaps.{held_by}
use Rattle.binlog_file.specs.Changes.{Gives, EventGives, IsMemory, TakeGives, at_position, spot}
use Rattle.binlog_file.proofs.Followed.{event_taken, nothing_taken}
use Rattle.binlog_file.proofs.changes.take_glance.Goals as goal

pub returns-in-Ok-clause-takes : goal.returns-in-Ok-clause-takes
returns-in-Ok-clause-takes g c = λ e p s is gives kept.
    let w = g.C.Choice.wanted c.args.choice.now in
    let q = c.args.walk.now.events in
    let t = held_by c.args.walk.now.tables in
    let there = subst (λ (x : Glance). Gives w t.tables x.origin x.rows x.body c.in-Ok.given) is c.in-Ok.ensures.given in
    let here = subst (λ (u : InForce). EventGives w u.tables e c.in-Ok.given) kept there in
    let taken = event_taken IsMemory w s t p q q e c.in-Ok.given c.into_parts-change.result.0 c.at_position-walk.result gives here kept c.into_parts-change.ensures.change
    (c.at_position-walk.ensures ∙ ap (λ (n : ℕ). at_position n c.into_parts-change.result.1) (ap (λ (x : Glance). x.origin.position) (c.glance.view_is ∙ is)) ∙ ap (at_position e.position) c.into_parts-change.ensures.error)
    (λ _. refl) in
    subst (λ (u : InForce). TakeGives IsMemory w (spot p s None) c.into_parts-change.result.0 (spot q u c.at_position-walk.result)) (sym c.in-Ok.ensures.held) taken

pub returns-then-is_none-clause-takes : goal.returns-then-is_none-clause-takes
returns-then-is_none-clause-takes g c = λ e p s is gives kept.
    let q = c.args.walk.now.events in
    let none : c.glance.inside.rows ≡ None = search rules in
    let no_rows = ap (λ (x : Glance). x.rows) (sym c.glance.view_is) ∙ none in
    nothing_taken IsMemory (g.C.Choice.wanted c.args.choice.now) s (held_by c.args.walk.now.tables) p q q c.args.glance e None None is no_rows gives kept refl refl (λ _. refl)
