use Rattle.binlog_table.proofs.KeyByKey.{prefix_is_longest}
use Rattle.binlog_table.proofs.laws.prefixes_are_longest.Goals as goal

pub returns : goal.returns
returns c = prefix_is_longest
