use Rattle.std.proofs.Common.{refl}
use Rattle.std.proofs.lemmas.List.{map-append}
use Rattle.mysql_binlog_rows.proofs.row.plan.add_value.Goals as goal

pub returns-clause-values : goal.returns-clause-values
returns-clause-values c = rw (c.push_reserved.ensures.items, map-append) refl
