-- Two events that tell the same of their table have the same columns.
use Rattle.std.proofs.Common.{◌≡◌, refl, sym, ap, ◌∙◌}
use Rattle.binlog_table.specs.TableMap.{TableMap, without_id}
use Rattle.binlog_table.specs.TableColumns.{column_at}
use Rattle.row_json.specs.Columns.{columns_of}

columns_alike : (t : TableMap) → columns_of t ≡ columns_of (without_id t)
unfolding column_at
columns_alike t = refl

pub same_columns : (t u : TableMap) → without_id t ≡ without_id u → columns_of t ≡ columns_of u
same_columns t u same = columns_alike t ∙ ap columns_of same ∙ sym (columns_alike u)

pub same_database : (t u : TableMap) → without_id t ≡ without_id u → t.database ≡ u.database
same_database t u same = ap (λ (x : TableMap). x.database) same

pub same_table : (t u : TableMap) → without_id t ≡ without_id u → t.table ≡ u.table
same_table t u same = ap (λ (x : TableMap). x.table) same
