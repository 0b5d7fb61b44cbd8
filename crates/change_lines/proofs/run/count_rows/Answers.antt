use Rattle.std.proofs.Common.{[], ◌∷◌, ◌++◌, length, refl, ◌∙◌, arith, length-append}
use Rattle.change_lines.proofs.Pairs.{nothing_read, pair_read, ok_gives, same_table, same_rows, same_origin, counted_more}
use Rattle.change_lines.proofs.First.{err_gives, row_error}
use Rattle.change_lines.proofs.run.count_rows.Goals as goal

pub loop-read-init : goal.loop-read-init
loop-read-init c =
    let e = c.args.change.now in
    (refl, refl, [], nothing_read e.table e.rows e.left, refl, omega arith, refl)

pub loop-read-preserved : goal.loop-read-preserved
loop-read-preserved c =
    let h = c.loop-read.invariant in
    let e = c.args.change.now in
    let old = c.loop-read.change in
    let new = c.next_pair.new.self in
    let p = c.next_pair.new.pair in
    let gives = ok_gives old new p c.in-Some.read _ c.in-Ok.is c.in-Some.ensures.gives in (
      same_table old new p _ gives ∙ h.0,
      same_rows old new p _ gives ∙ h.1,
      h.2 ++ p ∷ [],
      pair_read e.table e.rows e.left h.2 old new p _ h.0 h.1 h.3 gives,
      same_origin old new p _ gives ∙ h.4,
      counted_more e old new h.2 p _ gives h.5,
      omega (arith, c.saturating_add-count.ensures, h.6, length-append h.2 (p ∷ [])),
    )

pub returns-in-Err-clause-first : goal.returns-in-Err-clause-first
returns-in-Err-clause-first c =
    let h = c.loop-read.invariant in
    let old = c.loop-read.change in
    let new = c.next_pair.new.self in
    let p = c.next_pair.new.pair in
    let gives = err_gives old new p c.in-Some.read c.in-Err.error c.in-Err.is c.in-Some.ensures.gives in
    (h.2, old.left, h.3, row_error c.args.change.now old new (length h.2) p c.in-Err.error h.0 h.1 h.4 h.5 gives, h.6)
