use Rattle.std.proofs.Common.{ℕ, List, sym, subst, arith}
use Rattle.std.proofs.lemmas.List.{take_rest}
use Rattle.change_lines.proofs.Beginnings.{WroteSoFar, wrote_all, wrote_some, wrote_first}
use Rattle.change_lines.proofs.output.write_whole.Goals as goal

pub returns-then-is_empty-clause-whole : goal.returns-then-is_empty-clause-whole
returns-then-is_empty-clause-whole g c = wrote_all _ _ c.args.bytes.now c.loop.rest.now c.loop.invariant (grind arith)

pub returns-then-is_empty-clause-first : goal.returns-then-is_empty-clause-first
returns-then-is_empty-clause-first g c = let h = c.loop.invariant in (h.0, c.loop.rest.now, h.1, h.2)

pub returns-in_err-count-clause-first : goal.returns-in_err-count-clause-first
returns-in_err-count-clause-first g c = wrote_first _ _ _ c.args.bytes.now c.loop.rest.now c.loop.invariant c.in_err-count.ensures.bytes

pub returns-clause-first : goal.returns-clause-first
returns-clause-first g c = let h = c.loop.invariant in (h.0, c.loop.rest.now, h.1, h.2)

pub loop-preserved : goal.loop-preserved
loop-preserved g c =
    let n = c.in_ok-count.count in
    let rest = c.loop.rest.now in
    subst (λ (t : List ℕ). WroteSoFar (g.O.Write.contents c.args.out.now) (g.O.Write.contents c.write_some.new.out) c.args.bytes.now t) (sym (take_rest rest n))
    (wrote_some _ _ _ c.args.bytes.now rest n c.loop.invariant c.in_ok-count.ensures.bytes)
