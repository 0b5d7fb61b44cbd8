use Rattle.std.proofs.Common.{◌≡◌, ℕ, None, refl, sym, ap, ◌∙◌, rules, subst}
use Rattle.binlog_file.specs.Events.{Glance}
use Rattle.binlog_file.specs.Tables.{Tables, InForce}
use Rattle.binlog_file.specs.Stream.{IsOutside}
use Rattle.binlog_file.specs.Changes.{Gives, EventGives, at_position}
use Rattle.binlog_file.specs.Workings.SourceWalks.{kept_in}
use Rattle.binlog_file.proofs.Followed.{event_taken, nothing_taken}
use Rattle.binlog_file.proofs.source_changes.take.Goals as goal

pub returns-in-Ok-clause-takes : goal.returns-in-Ok-clause-takes
returns-in-Ok-clause-takes g c = λ e p q r s is gives kept on.
    let w = g.C.Choice.wanted c.args.choice.now in
    let there = subst (λ (x : Glance). Gives w (kept_in c.args.walk.now).in_force.tables x.origin x.rows x.body c.in-Ok.given) is c.in-Ok.ensures.given in
    let here = subst (λ (ts : Tables). EventGives w ts e c.in-Ok.given) (ap (λ (x : InForce). x.tables) kept) there in
    event_taken IsOutside w s (kept_in c.args.walk.now).in_force p q r e c.in-Ok.given _ c.end_with.new.self.pending gives here kept c.into_parts-change.ensures.change
    (c.end_with.ensures.pending ∙ c.at_position.ensures ∙ ap (λ (n : ℕ). at_position n c.into_parts-change.result.1) (ap (λ (x : Glance). x.origin.position) (c.glance.view_is ∙ is)) ∙ ap (at_position e.position) c.into_parts-change.ensures.error)
    on

pub returns-then-is_none-clause-takes : goal.returns-then-is_none-clause-takes
returns-then-is_none-clause-takes g c = λ e p q r s is gives kept on.
    let none : c.glance.inside.rows ≡ None = search rules in
    let no_rows = ap (λ (x : Glance). x.rows) (sym c.glance.view_is) ∙ none in
    nothing_taken IsOutside (g.C.Choice.wanted c.args.choice.now) s (kept_in c.args.walk.now).in_force p q r c.args.glance e None None is no_rows gives kept refl refl on
