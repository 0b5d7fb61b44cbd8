use Rattle.std.proofs.lemmas.Option.{unwrap_or-slice_get}
use Rattle.mysql_binlog_rows.proofs.row.plan.is_set.Goals as goal

pub returns : goal.returns
returns c = rw (c.unwrap_or.ensures, c.get.ensures) (unwrap_or-slice_get c.args.bits.now c.args.place _)
