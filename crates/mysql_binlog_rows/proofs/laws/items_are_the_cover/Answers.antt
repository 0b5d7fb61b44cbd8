use Rattle.mysql_binlog_rows.proofs.Items.{items_cover}
use Rattle.mysql_binlog_rows.proofs.laws.items_are_the_cover.Goals as goal

pub returns : goal.returns
returns c = items_cover
