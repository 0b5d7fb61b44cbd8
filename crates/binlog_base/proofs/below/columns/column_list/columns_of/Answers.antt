use Rattle.binlog_base.proofs.ColumnLists.{inside_at}
use Rattle.binlog_base.proofs.below.columns.column_list.columns_of.Goals as goal

pub column_of-requires : goal.column_of-requires
column_of-requires c = inside_at _ c.args.listed.now c.loop-column.column-index _ c.requires c.loop-column-test.true
