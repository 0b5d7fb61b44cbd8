use Rattle.std.proofs.Common.{◌≡◌, ℕ, ◌+◌, ◌-◌, ◌<◌, [], ◌∷◌, ◌++◌, length, Ok, List, refl, subst, arith}
use Rattle.std.proofs.lemmas.Result.{err_from_is_err_and}
use Rattle.std.proofs.lemmas.List.{nil_from_length}
use Rattle.binlog_values.specs.declared.jsonb.stack.Waiting.{Waiting}
use Rattle.binlog_values.specs.JsonbValues.{nested}
use Rattle.binlog_values.specs.JsonbTrees.{no_branches, node, branch}
use Rattle.binlog_values.specs.JsonbDocuments.{document_of}
use Rattle.binlog_values.specs.Workings.JsonbVisits.{visit, append}
use Rattle.binlog_values.specs.JsonbContainers.{frame, node_view}
use Rattle.binlog_values.specs.Workings.JsonbStack.{Wait, IsOpen, IsWait}
use Rattle.binlog_values.proofs.JsonbStacked.{AreWaits-length, turn-fault-meets, turn-scalar-meets, turn-scalar, turn-push, settle, here, turn-start-at, turn-end-at, turn-pop, turn-deep, wait-room}
use Rattle.binlog_values.proofs.jsonb.stack.read_container.Goals as goal

pub loop-current-init : goal.loop-current-init
loop-current-init g c =
    let total = visit c.args.limit 100 c.args.counter.now (document_of (Ok (nested (frame c.args.root)))) in
    let s = settle c.args.limit c.args.counter.now c.new-waiting.result.items [] (frame c.args.root) 0 no_branches total c.new-current.result (turn-start-at c.args.limit c.args.counter.now c.new-waiting.result.items (frame c.args.root) c.new-waiting.ensures.items) c.new-current.ensures in
    ([], no_branches, s.0, s.1, c.requires.room, omega (arith, c.new-waiting.ensures.len))

pub returns-in-None-clause-tree : goal.returns-in-None-clause-tree
returns-in-None-clause-tree g c =
    let l = c.loop-current.invariant in
    let total = visit c.args.limit 100 c.args.counter.now (document_of (Ok (nested (frame c.args.root)))) in
    let of = frame c.loop-current.current.container in
    let none : c.loop-current.waiting.items ≡ [] = nil_from_length c.loop-current.waiting.items (omega (arith, c.in-None.ensures.cases.0)) in
    (node of.is_array l.1, c.finish-value.ensures of l.1 l.3, turn-end-at c.args.limit c.loop-current.counter c.loop-current.waiting.items l.0 of c.loop-current.current.pos l.1 total none l.2 (omega arith))

pub add-requires : goal.add-requires
add-requires g c =
    let l = c.loop-current.invariant in
    let total = visit c.args.limit 100 c.args.counter.now (document_of (Ok (nested (frame c.args.root)))) in
    let p = turn-pop c.args.limit c.loop-current.counter c.pop.new.self.items c.in-Some.field-0 l.0 (frame c.loop-current.current.container) c.loop-current.current.pos l.1 total (rw c.in-Some.ensures.items at l.2) (omega arith) in
    wait-room c.in-Some.field-0 p.1 p.2

pub returns-in_err-key-clause-tree : goal.returns-in_err-key-clause-tree
returns-in_err-key-clause-tree g c =
    let p = err_from_is_err_and c.from_residual-in_err-key.result c.from_residual-in_err-key.ensures.1 in
    let l = c.loop-current.invariant in
    let total = visit c.args.limit 100 c.args.counter.now (document_of (Ok (nested (frame c.args.root)))) in
    let of = frame c.loop-current.current.container in
    let i = c.loop-current.current.pos in
    let xs = c.loop-current.waiting.items in
    let n = c.loop-current.counter in
    let after = c.position_in_limit.new.counter in
    rw (p.1, p.2) (turn-fault-meets c.args.limit n after xs l.0 of i l.1 total _ l.2 (omega arith) c.position_in_limit.ensures.counted c.in_err-key.ensures.found)

pub returns-in_err-made-in-Scalar-clause-tree : goal.returns-in_err-made-in-Scalar-clause-tree
returns-in_err-made-in-Scalar-clause-tree g c =
    let p = err_from_is_err_and c.from_residual-in_err-made-in-Scalar.result c.from_residual-in_err-made-in-Scalar.ensures.1 in
    let l = c.loop-current.invariant in
    let total = visit c.args.limit 100 c.args.counter.now (document_of (Ok (nested (frame c.args.root)))) in
    let of = frame c.loop-current.current.container in
    let i = c.loop-current.current.pos in
    let xs = c.loop-current.waiting.items in
    let n = c.loop-current.counter in
    let after = c.position_in_limit.new.counter in
    rw (p.1, p.2)
    (turn-scalar-meets c.args.limit n after xs l.0 of i l.1 total c.in_ok-key.key.now (node_view c.in_ok-key.value) _ l.2 (omega arith) c.position_in_limit.ensures.counted c.in_ok-key.ensures.found c.in_ok-key.ensures.value
    (rw c.in-Scalar.is (c.in_err-made-in-Scalar.ensures c.args.limit (99 - length l.0) after)))

pub loop-current-preserved-in-Continue-1 : goal.loop-current-preserved-in-Continue-1
loop-current-preserved-in-Continue-1 g c =
    let l = c.loop-current.invariant in
    let total = visit c.args.limit 100 c.args.counter.now (document_of (Ok (nested (frame c.args.root)))) in
    let of = frame c.loop-current.current.container in
    let p = turn-pop c.args.limit c.loop-current.counter c.pop.new.self.items c.in-Some.field-0 l.0 of c.loop-current.current.pos l.1 total (rw c.in-Some.ensures.items at l.2) (omega arith) in
    let t = node of.is_array l.1 in
    let o = c.in_ok-add-in-Some.ensures.open p.1.of p.1.pos p.1.front t p.2.open_at (c.finish-value.ensures of l.1 l.3) in
    let front = append p.1.front (branch p.1.key t no_branches) in
    let s = settle c.args.limit c.loop-current.counter c.pop.new.self.items p.0 p.1.of (p.1.pos + 1) front total c.add.new.self p.3 (subst (λ (k : List ℕ). IsOpen g.C.Collect.IsOf c.add.new.self p.1.of (p.1.pos + 1) (append p.1.front (branch k t no_branches))) p.2.key o) in
    (p.0, front, s.0, s.1, l.4, omega (arith, l.5, c.in-Some.ensures.len))

pub loop-current-preserved-in-Continue-branch-4 : goal.loop-current-preserved-in-Continue-branch-4
loop-current-preserved-in-Continue-branch-4 g c =
    let l = c.loop-current.invariant in
    let total = visit c.args.limit 100 c.args.counter.now (document_of (Ok (nested (frame c.args.root)))) in
    let of = frame c.loop-current.current.container in
    let i = c.loop-current.current.pos in
    let xs = c.loop-current.waiting.items in
    let n = c.loop-current.counter in
    let after = c.position_in_limit.new.counter in
    let m = c.in_ok-made-in-Scalar.ensures c.args.limit (99 - length l.0) after in
    let k = c.in_ok-key.key.now in
    let front = append l.1 (branch k m.0 no_branches) in
    let turn = turn-scalar c.args.limit n after xs l.0 of i l.1 total k m.0 l.2 (omega arith) c.position_in_limit.ensures.counted c.in_ok-key.ensures.found (rw (c.in_ok-key.ensures.value, c.in-Scalar.is) m.2) in
    let o = c.in_ok-add-in-Scalar.ensures.open of i l.1 m.0 (here c.loop-current.current l.1 l.3) m.1 in
    let s = settle c.args.limit after xs l.0 of (i + 1) front total c.add-in-Scalar.new.self turn o in
    (l.0, front, s.0, s.1, c.in_ok-key.ensures.kept, l.5)

pub returns-then-len-ge-MAX_WAITING-clause-tree : goal.returns-then-len-ge-MAX_WAITING-clause-tree
returns-then-len-ge-MAX_WAITING-clause-tree g c = λ not.
    let l = c.loop-current.invariant in
    let total = visit c.args.limit 100 c.args.counter.now (document_of (Ok (nested (frame c.args.root)))) in
    let of = frame c.loop-current.current.container in
    turn-deep c.args.limit c.loop-current.counter c.position_in_limit.new.counter c.loop-current.waiting.items l.0 of c.loop-current.current.pos l.1 total c.in_ok-key.key.now (frame c.in-Container.inner) l.2 (omega arith) c.position_in_limit.ensures.counted c.in_ok-key.ensures.found (rw c.in-Container.is at c.in_ok-key.ensures.value) (omega arith)

pub loop-current-preserved : goal.loop-current-preserved
loop-current-preserved g c =
    let l = c.loop-current.invariant in
    let total = visit c.args.limit 100 c.args.counter.now (document_of (Ok (nested (frame c.args.root)))) in
    let of = frame c.loop-current.current.container in
    let i = c.loop-current.current.pos in
    let xs = c.loop-current.waiting.items in
    let n = c.loop-current.counter in
    let after = c.position_in_limit.new.counter in
    let k = c.in_ok-key.key in
    let child = frame c.in-Container.inner in
    let x : Waiting _ = record { outer = c.replace-outer.result; key = k } in
    let w : Wait = record { of = of; pos = i; key = k.now; front = l.1 } in
    let outer : IsOpen g.C.Collect.IsOf c.replace-outer.result of i l.1 = rw c.replace-outer.ensures.value (here c.loop-current.current l.1 l.3) in
    let room : i < of.count = omega arith in
    let wait : IsWait g.C.Collect.IsOf x w = record { open_at = outer; key = refl; room = room } in
    let turn = turn-push c.args.limit n after xs l.0 of i l.1 total k.now child x l.2 room c.position_in_limit.ensures.counted c.in_ok-key.ensures.found (rw c.in-Container.is at c.in_ok-key.ensures.value) (omega (arith, AreWaits-length _ xs l.0 l.2.waits)) wait in
    let o : IsOpen g.C.Collect.IsOf c.replace-outer.new.dest child 0 no_branches = rw c.replace-outer.ensures.after c.new.ensures in
    let s = settle c.args.limit after (xs ++ x ∷ []) (l.0 ++ w ∷ []) child 0 no_branches total c.replace-outer.new.dest turn o in
    (l.0 ++ w ∷ [], no_branches, rw c.in_ok-push-in-Container.ensures.items s.0, s.1, c.in_ok-key.ensures.kept, omega (arith, l.5, c.in_ok-push-in-Container.ensures.len))
