use Rattle.std.specs.Option.{option_map}
use Rattle.binlog_base.specs.Items.{items}
use Rattle.binlog_table.specs.Lists.{low_bits}
use Rattle.binlog_table.specs.Extracted.{pairs_or, list_or}
use Rattle.binlog_table.proofs.CharsetByCharset.{charsets_new}
use Rattle.binlog_table.proofs.laws.charsets_are_in_order.Goals as goal

pub returns : goal.returns
returns c = λ limit d ns l s. rw (s.ordinal, s.default, s.pairs, s.list) (charsets_new limit (option_map (λ f. f.default) d) (pairs_or d) (items (low_bits 16) (list_or ns)))
