use Rattle.std.proofs.Common.{◌≡◌, ◌+◌, rules, arith, ap, ◌∙◌, length, take, drop, take-add, take-take, length-take-le, length-drop, length-append}
use Rattle.std.proofs.lemmas.List.{drop-drop, take_rest}
use Rattle.json.proofs.Printed.Places.{Placed-then}
use Rattle.json_line.proofs.Blocks.{placed_less}
use Rattle.json_line.proofs.place.place_blocks.Goals as goal

pub loop-done-preserved : goal.loop-done-preserved
loop-done-preserved c =
    let src = c.args.src.now in
    let from = c.args.from in
    let done = c.loop-done.done in
    let both = Placed-then c.loop-done.invariant.2 (rw (take_rest src (from + done)) at c.place_front.ensures) in
    let long = length-take-le 16 (drop (from + done) src) (omega (arith, length-drop (from + done) src)) in
    let end : c.place_front.result ≡ c.args.at + (done + 16) = omega (arith, both.moved, ap length (take-add done 16 (drop from src)), ap length (drop-drop done from src), length-take-le (done + 16) (drop from src) (omega (arith, length-drop from src)), length-append (take done (drop from src)) (take 16 (drop (from + done) src)), length-take-le done (drop from src) (omega (arith, length-drop from src)), long) in
    (search rules, c.place_front.ensures.len ∙ c.loop-done.invariant.1, rw (take-add done 16 (drop from src), drop-drop done from src, ← end) both)

pub returns : goal.returns
returns c =
    let xs = drop c.args.from c.args.src.now in
    let done = c.loop-done.done in
    let long = length-take-le done xs (omega (arith, length-drop c.args.from c.args.src.now, c.loop-done.invariant.0)) in
    rw (take-take c.args.len done xs c.loop-done-test.false) at (placed_less c.args.len (omega arith) (omega (arith, long)) c.loop-done.invariant.2)
