use Rattle.std.proofs.Common.{◌+◌, arith, rules}
use Rattle.json.specs.Written.{PlainBetween}
use Rattle.json_line.proofs.Runs.{plain_run}
use Rattle.json_line.proofs.run.plain_blocks_end.Goals as goal

pub loop-i-preserved : goal.loop-i-preserved
loop-i-preserved c =
    let plain : PlainBetween c.args.text.now c.loop-i.i (c.loop-i.i + 16) = search rules in
    let run = plain_run c.args.text.now c.loop-i.i 16 (omega arith) plain in
    (omega (arith, run, c.loop-i.invariant.0), omega arith)
