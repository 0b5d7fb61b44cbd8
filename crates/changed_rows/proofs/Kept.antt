-- What is kept of tables.
use Rattle.std.proofs.Common.{◌≡◌, Option, Some, sym, ap, subst, ◌∙◌}
use Rattle.std.specs.Str.Lossy.{utf8_lossy}
use Rattle.binlog_table.specs.TableMap.{TableMap, without_id}
use Rattle.changed_rows.specs.declared.table.Table.{Table}
use Rattle.changed_rows.specs.Tables.{Tells, TellsIf}
use Rattle.changed_rows.proofs.Alike.{same_columns, same_database, same_table}

-- what is kept of a table is that of each event that tells the same
pub tells_as : (k : Table) (t : TableMap) → without_id k.event ≡ without_id t → Tells t k
tells_as k t same = record {
  columns = k.columns ∙ same_columns k.event t same;
  database = k.is_database ∙ ap utf8_lossy (same_database k.event t same);
  name = k.is_name ∙ ap utf8_lossy (same_table k.event t same);
}

pub tells_if : (o : Option Table) (k : Table) (t : TableMap) → o ≡ Some k → Tells t k → TellsIf o t
tells_if o k t is tells = subst (λ (p : Option Table). TellsIf p t) (sym is) tells
