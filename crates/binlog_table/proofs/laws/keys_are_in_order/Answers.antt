use Rattle.std.proofs.Common.{arith}
use Rattle.binlog_table.proofs.KeyByKey.{key_law}
use Rattle.binlog_table.proofs.laws.keys_are_in_order.Goals as goal

pub returns : goal.returns
returns c = λ keys i. key_law keys i (omega arith)
