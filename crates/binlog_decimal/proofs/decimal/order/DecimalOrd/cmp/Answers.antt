use Rattle.binlog_decimal.specs.Decimals.{packed_bytes}
use Rattle.binlog_decimal.proofs.DecimalPacking.{packed_order}
use Rattle.binlog_decimal.proofs.decimal.order.DecimalOrd.cmp.Goals as goal

pub returns : goal.returns
returns c =
    packed_order c.packed_bytes.result c.packed_bytes-2.result (packed_bytes c.args.self.now) (packed_bytes c.args.other.now) c.cmp.result c.cmp.ensures.ran c.packed_bytes.ensures.bytes c.packed_bytes-2.ensures.bytes
