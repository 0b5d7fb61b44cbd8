use Rattle.std.proofs.Common.{Option, subst, arith}
use Rattle.binlog_file.specs.TableMaps.{held_by}
use Rattle.binlog_file.specs.Changes.{Change, IsMemory, TakeGives}
use Rattle.binlog_file.specs.Workings.Walks.{spot_of}
use Rattle.binlog_file.proofs.Followed.{glance_onward, change_given}
use Rattle.binlog_file.proofs.changes.next_change.Goals as goal

pub returns-in-Some-take_item-clause-steps : goal.returns-in-Some-take_item-clause-steps
returns-in-Some-take_item-clause-steps g c =
    let w = g.C.Choice.wanted c.args.choice.now in
    let old = spot_of c.args.walk.now in
    let new = spot_of c.take_item.new.walk in
    let on = glance_onward w old (spot_of c.loop-error.walk) c.end.new.self.events c.glance.new.self (held_by c.end.new.self.tables) (held_by c.glance.new.tables) c.end.new.self.pending c.in_ok-item.item c.take_item.result new
    c.loop-error.invariant.follows c.in_default.ensures.goes_on c.in_default.ensures.not_ended c.in_ok-item.ensures.steps c.take_item.ensures.takes c.take_item.ensures.events in
    record {
      gives = change_given IsMemory w old c.in-Some-take_item.change new (subst (λ (r : Option Change). TakeGives IsMemory w old r new) c.in-Some-take_item.is on.0);
      lessens = omega (arith, on.1, c.loop-error.invariant.most);
    }

pub loop-error-smaller : goal.loop-error-smaller
loop-error-smaller g c =
    let on = glance_onward (g.C.Choice.wanted c.args.choice.now) (spot_of c.args.walk.now) (spot_of c.loop-error.walk) c.end.new.self.events c.glance.new.self (held_by c.end.new.self.tables) (held_by c.glance.new.tables) c.end.new.self.pending c.in_ok-item.item c.take_item.result (spot_of c.take_item.new.walk)
    c.loop-error.invariant.follows c.in_default.ensures.goes_on c.in_default.ensures.not_ended c.in_ok-item.ensures.steps c.take_item.ensures.takes c.take_item.ensures.events in
    on.1

pub loop-error-preserved : goal.loop-error-preserved
loop-error-preserved g c =
    let w = g.C.Choice.wanted c.args.choice.now in
    let old = spot_of c.args.walk.now in
    let new = spot_of c.take_item.new.walk in
    let on = glance_onward w old (spot_of c.loop-error.walk) c.end.new.self.events c.glance.new.self (held_by c.end.new.self.tables) (held_by c.glance.new.tables) c.end.new.self.pending c.in_ok-item.item c.take_item.result new
    c.loop-error.invariant.follows c.in_default.ensures.goes_on c.in_default.ensures.not_ended c.in_ok-item.ensures.steps c.take_item.ensures.takes c.take_item.ensures.events in
    record {
      follows = subst (λ (r : Option Change). TakeGives IsMemory w old r new) c.in_default-take_item.is on.0;
      most = omega (arith, on.1, c.loop-error.invariant.most);
      bound = omega (arith, c.take_item.ensures.most, c.in_ok-item.ensures.most, c.in_default.ensures.most, c.loop-error.invariant.bound);
    }
