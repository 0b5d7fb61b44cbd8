use Rattle.std.proofs.Common.{◌≡◌, false, Option, Result, rules, arith, refl, sym, ◌∙◌, subst}
use Rattle.binlog_events.specs.declared.error.FileError.{FileError}
use Rattle.binlog_file.specs.Events.{Glance}
use Rattle.binlog_file.specs.Changes.{spot}
use Rattle.binlog_file.specs.TableMaps.{held_by}
use Rattle.binlog_file.specs.Workings.Walks.{spot_of}
use Rattle.binlog_file.specs.Workings.AskedGlances.{is_glance_asked, GlanceAsked}
use Rattle.binlog_file.proofs.LentFollowed.{item_shrinks}
use Rattle.binlog_file.proofs.AskedFollowed.{Passes, none_passed, one_passed}
use Rattle.binlog_file.proofs.changes.pass_over.Goals as goal

pub loop-item-init : goal.loop-item-init
loop-item-init c = record { passes = none_passed c.args.types.now (spot_of c.args.walk.now); pending = c.requires; left = omega arith; bound = refl }

pub returns-in_err-item-clause-glance : goal.returns-in_err-item-clause-glance
returns-in_err-item-clause-glance c =
    let old = spot_of c.args.walk.now in
    let p = c.loop-item.walk.events in
    let s = held_by c.loop-item.walk.tables in
    let passes = subst (λ (k : Option FileError). Passes c.args.types.now old (spot p s k)) c.loop-item.invariant.pending c.loop-item.invariant.passes in
    subst (λ (r : Option (Result Glance FileError)). GlanceAsked c.args.types.now old r c.glance.new.self (held_by c.glance.new.tables)) (sym c.from_residual.ensures)
    (record { passed = passes.0; place = p; in_force = s; passes = passes.1; steps = c.in_err-item.ensures.steps; is_asked_for = tt })

pub returns-then-is_glance_asked-clause-glance : goal.returns-then-is_glance_asked-clause-glance
returns-then-is_glance_asked-clause-glance c =
    let p = c.loop-item.walk.events in
    let s = held_by c.loop-item.walk.tables in
    let passes = subst (λ (k : Option FileError). Passes c.args.types.now (spot_of c.args.walk.now) (spot p s k)) c.loop-item.invariant.pending c.loop-item.invariant.passes in
    record { passed = passes.0; place = p; in_force = s; passes = passes.1; steps = c.in_ok-item.ensures.steps; is_asked_for = sym c.is_glance_asked.ensures ∙ c.if-is_glance_asked.true }

pub returns-then-is_glance_asked-clause-fewer : goal.returns-then-is_glance_asked-clause-fewer
returns-then-is_glance_asked-clause-fewer c = λ some.
    omega (arith, item_shrinks c.loop-item.walk.events c.glance.new.self (held_by c.loop-item.walk.tables) (held_by c.glance.new.tables) c.in_ok-item.item c.in_ok-item.ensures.steps, c.loop-item.invariant.left)

pub loop-item-smaller : goal.loop-item-smaller
loop-item-smaller c =
    item_shrinks c.loop-item.walk.events c.glance.new.self (held_by c.loop-item.walk.tables) (held_by c.glance.new.tables) c.in_ok-item.item c.in_ok-item.ensures.steps

pub loop-item-preserved : goal.loop-item-preserved
loop-item-preserved c =
    let old = spot_of c.args.walk.now in
    let p = c.loop-item.walk.events in
    let q = c.glance.new.self in
    let s = held_by c.loop-item.walk.tables in
    let t = held_by c.glance.new.tables in
    let item = c.in_ok-item.item in
    let steps = c.in_ok-item.ensures.steps in
    let pending = c.loop-item.invariant.pending in
    let passes = subst (λ (k : Option FileError). Passes c.args.types.now old (spot p s k)) pending c.loop-item.invariant.passes in
    let not : is_glance_asked c.args.types.now item ≡ false = sym c.is_glance_asked.ensures ∙ c.if-is_glance_asked.false in
    record {
      passes = subst (λ (k : Option FileError). Passes c.args.types.now old (spot q t k)) (sym pending) (one_passed c.args.types.now old p q s t item passes steps not);
      pending = pending;
      left = omega (arith, item_shrinks p q s t item steps, c.loop-item.invariant.left);
      bound = search rules;
    }
