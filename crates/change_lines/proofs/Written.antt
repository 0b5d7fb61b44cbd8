-- What is written of an event.
use Rattle.std.proofs.Common.{◌≡◌, ℕ, List, [], Option, None, Result, Ok, Err, inl, refl, sym, subst}
use Rattle.std.specs.Prelude.{OnOk}
use Rattle.std.specs.Option.{option_map}
use Rattle.std.specs.Str.Lossy.{utf8_lossy}
use Rattle.mysql_binlog_rows.specs.Images.{Pair, pair}
use Rattle.mysql_binlog_rows.specs.Cover.{Covers}
use Rattle.binlog_file.specs.LentChanges.{LentChange}
use Rattle.binlog_file.specs.declared.lent_changes.LentEvent.TheVariants as lent
use Rattle.row_json.specs.Columns.{Column, columns_of}
use Rattle.row_json.specs.Rows.{IsLine}
use Rattle.row_json.specs.Wrote.{Named}
use Rattle.change_lines.specs.declared.run.Form.{Form}
use Rattle.change_lines.specs.declared.run.Form.TheVariants as form
use Rattle.changed_rows.specs.declared.source.Source.{Source}
use Rattle.changed_rows.specs.Origins.{source_fields, source_member, member_of_row}
use Rattle.changed_rows.specs.Names.{up_to_most}
use Rattle.change_lines.specs.Rows.{AreLinesBy, IsJsonLine, WritesRows}
use Rattle.change_lines.specs.Lines.{Manner, IsRowLine, WritesEvent}
use Rattle.change_lines.proofs.Outputs.{outputs_nothing}
use Rattle.change_lines.proofs.Rows.{lines_weaker, no_lines}

pub on_ok : {A E : Type 0} (r : Result A E) (P Q : Type 0) → (P → Q) → OnOk r P → OnOk r Q
on_ok (Ok a) P Q f h = f h
on_ok (Err e) P Q f h = tt

pub both_ok : {A E : Type 0} (r : Result A E) (P Q R : Type 0) → (P → Q → R) → OnOk r P → OnOk r Q → OnOk r R
both_ok (Ok a) P Q R f h k = f h k
both_ok (Err e) P Q R f h k = tt

pub rows_weaker : (Is Be : ℕ → Pair → List ℕ → Type 0) → ((row : ℕ) (p : Pair) (line : List ℕ) → Is row p line → Be row p line) → (c : LentChange) (old : Option (List ℕ)) (held : List ℕ) (new : Option (List ℕ)) (left : List ℕ)
    → WritesRows Is c old held new left → WritesRows Be c old held new left
rows_weaker Is Be to c old held new left h = record {
  pairs = h.pairs;
  text = h.text;
  covers = h.covers;
  lines = lines_weaker Is Be to 0 h.pairs h.text h.lines;
  outputs = h.outputs;
}

-- a line by what is found out of the table once is the line by its table map event
pub json_row : (cs : List Column) (s : Source) (file : List ℕ) (gtid : Option (List ℕ)) (c : LentChange) → cs ≡ columns_of c.table → s.file.now ≡ file → s.origin ≡ c.origin → option_map (λ g. g.now) s.gtid ≡ gtid
    → s.database.now ≡ utf8_lossy c.table.database → s.table.now ≡ utf8_lossy c.table.table → (row : ℕ) (p : Pair) (line : List ℕ) → IsJsonLine cs c.rows s row p line → IsRowLine form.Json file gtid c row p line
json_row cs s file gtid c columns is_file is_origin is_gtid is_database is_table row p line is =
    let fields : source_fields s.file.now s.origin (up_to_most row) (option_map (λ g. g.now) s.gtid) s.database.now s.table.now ≡ source_fields file c.origin (up_to_most row) gtid (utf8_lossy c.table.database) (utf8_lossy c.table.table) =
    rw (is_file, is_origin, is_gtid, is_database, is_table) refl in
    subst (λ (k : List Column). IsLine k c.rows (member_of_row file gtid c.origin c.table (up_to_most row)) p line) columns (subst (λ (fs : List Named). IsLine cs c.rows (source_member fs) p line) fields is)

-- the rows of an event were written
pub rows_written : (m : Manner) (file : List ℕ) (gtid : Option (List ℕ)) (c : LentChange) (old : Option (List ℕ)) (held : List ℕ) (new : Option (List ℕ)) (left : List ℕ)
    → WritesRows (IsRowLine m.form file gtid c) c old held new left → WritesEvent m file gtid (lent.Rows c) old held new left
rows_written m file gtid c old held new left h = (h.text, inl (h.pairs, h.covers, h.lines), h.outputs)

-- nothing is written of rows that are counted
pub rows_counted : (f : Form) (file : List ℕ) (gtid : Option (List ℕ)) (c : LentChange) (old : Option (List ℕ)) (held : List ℕ) → f ≡ form.Count → (ps : List Pair) → Covers (pair c.table c.rows) c.left ps None
    → WritesRows (IsRowLine f file gtid c) c old held old held
rows_counted f file gtid c old held same ps covers = record {
  pairs = ps;
  text = [];
  covers = covers;
  lines = subst (λ (k : Form). AreLinesBy (IsRowLine k file gtid c) 0 ps []) (sym same) (no_lines 0 ps);
  outputs = outputs_nothing old held;
}
