use Rattle.std.proofs.Common.{◌-◌}
use Rattle.binlog_decimal.proofs.DecimalSteps.{mapped-more, mapped-all}
use Rattle.binlog_decimal.proofs.decimal.mask.invert.Goals as goal

pub loop-byte-preserved : goal.loop-byte-preserved
loop-byte-preserved c = mapped-more (λ byte. 255 - byte) c.args.bytes.now c.loop-byte.bytes c.loop-byte.byte-index c.loop-byte-test.true c.loop-byte.invariant

pub returns : goal.returns
returns c = mapped-all (λ byte. 255 - byte) c.args.bytes.now c.loop-byte.bytes c.loop-byte.byte-index c.loop-byte-test.false c.loop-byte.invariant
