use Rattle.std.proofs.Common.{Result, Ok, Err, Some, None, [], ap, ◌∙◌, subst}
use Rattle.binlog_events.specs.declared.error.FileError.{FileError}
use Rattle.binlog_file.specs.Changes.{Wanted, Change, IsMemory, ChangeGives, Left, first_spot}
use Rattle.binlog_file.specs.Workings.Walks.{spot_of}
use Rattle.binlog_file.proofs.Followed.{listed_so_far, ended_file, whole_file}
use Rattle.binlog_file.proofs.changes.collect.Goals as goal

pub loop-item-preserved : goal.loop-item-preserved
loop-item-preserved g c =
    let s = spot_of c.loop-item.item-iterator.walk in
    let t = spot_of c.next.new.self.walk in
    let e = c.in-Ok.change in
    let w = g.C.Choice.wanted c.args.changes.choice in
    let v = g.C.Choice.wanted c.loop-item.item-iterator.choice in
    let read : ChangeGives IsMemory v s (Some (Ok e)) t = subst (λ (r : Result Change FileError). ChangeGives IsMemory v s (Some r) t) c.in-Ok.is c.in-Some.ensures.steps.1.gives in
    let gives : ChangeGives IsMemory w s (Some (Ok e)) t = subst (λ (u : Wanted). ChangeGives IsMemory u s (Some (Ok e)) t) (ap g.C.Choice.wanted c.loop-item.invariant.same) read in
    record {
      same = c.in-Some.ensures.steps.0 ∙ c.loop-item.invariant.same;
      follows = λ x is. rw c.in_ok-push-in-Ok.ensures.items (listed_so_far w (first_spot x) c.loop-item.list.items s e t (c.loop-item.invariant.follows x is) gives);
    }

pub returns-in-Err : goal.returns-in-Err
returns-in-Err g c = λ x is magic.
    let s = spot_of c.loop-item.item-iterator.walk in
    let t = spot_of c.next.new.self.walk in
    let e = c.in-Err.error in
    let w = g.C.Choice.wanted c.args.changes.choice in
    let v = g.C.Choice.wanted c.loop-item.item-iterator.choice in
    let read : ChangeGives IsMemory v s (Some (Err e)) t = subst (λ (r : Result Change FileError). ChangeGives IsMemory v s (Some r) t) c.in-Err.is c.in-Some.ensures.steps.1.gives in
    let gives : ChangeGives IsMemory w s (Some (Err e)) t = subst (λ (u : Wanted). ChangeGives IsMemory u s (Some (Err e)) t) (ap g.C.Choice.wanted c.loop-item.invariant.same) read in
    ended_file w x c.loop-item.list.items s t e (λ l. l.changes.items) (λ l. l.error) c.ended.result magic (c.loop-item.invariant.follows x is) gives c.ended.ensures.changes c.ended.ensures.error c.ended.ensures.memory

pub returns : goal.returns
returns g c = λ x is magic.
    let s = spot_of c.loop-item.item-iterator.walk in
    let w = g.C.Choice.wanted c.args.changes.choice in
    let left : Left w s [] None = subst (λ (u : Wanted). Left u s [] None) (ap g.C.Choice.wanted c.loop-item.invariant.same) c.in-None.ensures.steps.1.gives.0 in
    whole_file w x c.loop-item.list.items s None magic (c.loop-item.invariant.follows x is) left
