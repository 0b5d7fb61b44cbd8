use Rattle.std.proofs.Common.{refl}
use Rattle.std.proofs.lemmas.List.{map-append}
use Rattle.binlog_cells.proofs.value.lent.put_cell.Goals as goal

pub returns-clause-values : goal.returns-clause-values
returns-clause-values c = rw (c.push_reserved.ensures.items, map-append) refl
