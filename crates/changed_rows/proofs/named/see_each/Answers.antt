use Rattle.std.proofs.Common.{◌≡◌, ◌∙◌, ℕ, List, [], sym, ap, get_or, set, false, arith, rules}
use Rattle.std.specs.Borrow.{Bor}
use Rattle.changed_rows.specs.declared.named.Came.{Came}
use Rattle.changed_rows.specs.Counted.{Name}
use Rattle.changed_rows.specs.Workings.Came.{nothing_came, came_with}
use Rattle.changed_rows.proofs.Came.{set_more, each_whole}
use Rattle.changed_rows.proofs.named.see_each.Goals as goal

pub loop-i-preserved : goal.loop-i-preserved
loop-i-preserved c =
    let kind = c.args.kind in
    let i = c.loop-i.i in
    let t : Name = (c.args.database.now, c.args.table.now) in
    let no_text : Bor (List ℕ) = record { ref_ptr = (0, 0); now = [] } in
    let seen : c.see.result ≡ came_with kind (get_or c.args.names.now i no_text).now (get_or c.loop-i.came i nothing_came) t = c.see.ensures ∙ ap (λ (text : List ℕ). came_with kind text (get_or c.loop-i.came i nothing_came) t) c.as_bytes.ensures.value in
    ap (λ (x : Came). set c.loop-i.came i x) seen
    ∙ ap (λ (cs : List Came). set cs i (came_with kind (get_or c.args.names.now i no_text).now (get_or cs i nothing_came) t)) c.loop-i.invariant
    ∙ set_more kind c.args.names.now c.args.came.now t i no_text nothing_came (omega (arith, c.loop-i-test.true, c.min-i-end.ensures)) (omega (arith, c.loop-i-test.true, c.min-i-end.ensures))

pub returns : goal.returns
returns c = c.loop-i.invariant ∙ each_whole c.args.kind c.args.names.now c.args.came.now (c.args.database.now, c.args.table.now) c.loop-i.i (omega (arith, c.loop-i-test.false, c.min-i-end.ensures))
