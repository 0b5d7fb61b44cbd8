use Rattle.binlog_table.proofs.CharsetByCharset.{pairs_are_longest}
use Rattle.binlog_table.proofs.laws.charset_pairs_are_longest.Goals as goal

pub returns : goal.returns
returns c = pairs_are_longest
