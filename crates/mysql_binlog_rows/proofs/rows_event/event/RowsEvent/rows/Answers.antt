use Rattle.std.proofs.Common.{arith, refl}
use Rattle.mysql_binlog_rows.proofs.PlanReads.{plans_read, slots_least}
use Rattle.mysql_binlog_rows.proofs.rows_event.event.RowsEvent.rows.Goals as goal

pub returns-clause-is_of : goal.returns-clause-is_of
returns-clause-is_of c = record {
  reads = plans_read c.args.table.now c.args.self.now;
  exact = refl;
  most = omega arith;
  least = slots_least c.args.table.now c.args.self.now c.rows_data.ensures.event;
}
