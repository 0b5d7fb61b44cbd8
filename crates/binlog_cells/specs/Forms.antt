-- How the code reads the cells of a column: by a form, which is found out once for the column. That
-- this reads the cells of Cells is a lemma (Lemmas.Forms).
use Rattle.std.specs.Prelude.{ℕ, Bool, List, [], ◌∷◌, nat_lt, if◌then◌else◌, Result, Ok, Err}
use Rattle.binlog_base.specs.declared.below.columns.column_type.ColumnType.{ColumnType}
use Rattle.binlog_base.specs.declared.fault.Fault.{Fault}
use Rattle.binlog_base.specs.declared.below.columns.column_type.ColumnType.TheVariants as column
use Rattle.binlog_base.specs.declared.fault.Fault.TheVariants.{MissingMetadata, Unhandled, UnknownBlob, UnknownEnum}
use Rattle.binlog_base.specs.Format.{Format, ◌>>=◌, check, sequence, map_value}
use Rattle.binlog_base.specs.Tables.{from_table}
use Rattle.binlog_base.specs.ColumnTypes.{column_type_of}
use Rattle.binlog_base.specs.Values.{PlainValue}
use Rattle.binlog_cells.specs.declared.value.form.Width.{Width}
use Rattle.binlog_cells.specs.declared.value.form.PlainForm.{PlainForm}
use Rattle.binlog_cells.specs.declared.value.form.PlainForm.TheVariants as form
use Rattle.binlog_cells.specs.declared.value.form.Form.{Form}
use Rattle.binlog_cells.specs.declared.value.form.Form.TheVariants as way
use Rattle.binlog_cells.specs.declared.value.form.Width.TheVariants as width
use Rattle.binlog_cells.specs.Cells.{Cell, PlainCell, integer, long_integer, float_bits, double_bits, timestamp_cell, time_cell, datetime_cell, year_cell, date_cell, timestamp2_cell, datetime2_cell, time2_cell, decimal_cell, fixed_bytes, text_cell, variant_cell, varchar_length, string_length, bit_bytes, json_cell}

-- the number of bytes of a width
abbrev pub bytes_in : Width → ℕ
bytes_in width.One = 1
bytes_in width.Two = 2
bytes_in width.Three = 3
bytes_in width.Four = 4

-- the bytes of a plain value that is read in this way
unfoldable pub plain_by : PlainForm → Format PlainValue
plain_by (form.Integer w unsigned) = integer (bytes_in w) unsigned
plain_by (form.LongInteger unsigned) = long_integer unsigned
plain_by form.Float = float_bits
plain_by form.Double = double_bits
plain_by form.Timestamp = timestamp_cell
plain_by form.Time = time_cell
plain_by form.Datetime = datetime_cell
plain_by form.Year = year_cell
plain_by form.Date = date_cell
plain_by (form.Timestamp2 decimals) = timestamp2_cell decimals
plain_by (form.Datetime2 decimals) = datetime2_cell decimals
plain_by (form.Time2 decimals) = time2_cell decimals
plain_by (form.Decimal precision scale) = decimal_cell precision scale
plain_by (form.Fixed n) = fixed_bytes n
plain_by (form.Text w) = text_cell (bytes_in w)
plain_by (form.Variant w) = variant_cell (bytes_in w)

-- the length of a cell takes one byte if the greatest length is below 256, else two
abbrev pub length_width : ℕ → Width
length_width most = if nat_lt most 256 then width.One else width.Two

-- the first byte of the metadata; MissingMetadata where there is none
abbrev pub first_byte : List ℕ → Result ℕ Fault
first_byte [] = Err MissingMetadata
first_byte (m0 ∷ more) = Ok m0

-- the first two bytes of the metadata; MissingMetadata where there are fewer
abbrev pub first_two : List ℕ → Result (ℕ × ℕ) Fault
first_two [] = Err MissingMetadata
first_two (m0 ∷ []) = Err MissingMetadata
first_two (m0 ∷ m1 ∷ more) = Ok (m0, m1)

-- in how many bytes the length of a BLOB may be
abbrev pub blob_widths : List (ℕ × Width)
blob_widths = (1, width.One) ∷ (2, width.Two) ∷ (3, width.Three) ∷ (4, width.Four) ∷ []

-- BLOB types, GEOMETRY, VECTOR: the length has one to four bytes, as the metadata says; else
-- UnknownBlob
abbrev pub blob_form : ℕ → Result PlainForm Fault
blob_form m0 = from_table blob_widths (λ n. UnknownBlob) m0 >>= λ w. Ok (form.Text w)

-- in how many bytes the number of an ENUM value may be
abbrev pub variant_widths : List (ℕ × Width)
variant_widths = (1, width.One) ∷ (2, width.Two) ∷ []

-- ENUM: the number has one or two bytes, as the metadata says; else UnknownEnum
abbrev pub variant_form : ℕ → Result PlainForm Fault
variant_form m1 = from_table variant_widths (λ n. UnknownEnum) m1 >>= λ w. Ok (form.Variant w)

-- how cells are read if their type needs two bytes of metadata; Unhandled for all other types
abbrev pub two_form : ColumnType → List ℕ → Result PlainForm Fault
two_form column.MYSQL_TYPE_BIT metadata = first_two metadata >>= λ m. Ok (form.Fixed (bit_bytes m.0 m.1))
two_form column.MYSQL_TYPE_SET metadata = first_two metadata >>= λ m. Ok (form.Fixed m.1)
two_form column.MYSQL_TYPE_ENUM metadata = first_two metadata >>= λ m. variant_form m.1
two_form column.MYSQL_TYPE_VARCHAR metadata = first_two metadata >>= λ m. Ok (form.Text (length_width (varchar_length m.0 m.1)))
two_form column.MYSQL_TYPE_VAR_STRING metadata = first_two metadata >>= λ m. Ok (form.Text (length_width (varchar_length m.0 m.1)))
two_form column.MYSQL_TYPE_STRING metadata = first_two metadata >>= λ m. Ok (form.Text (length_width (string_length m.0 m.1)))
two_form column.MYSQL_TYPE_NEWDECIMAL metadata = first_two metadata >>= λ m. Ok (form.Decimal m.0 m.1)
two_form _ metadata = Err Unhandled

-- How the cells of a column that is neither an array nor JSON are read, by the column's type and
-- metadata and by whether its numbers are unsigned; or the fault that comes for every cell.
unfoldable pub plain_form : ColumnType → List ℕ → Bool → Result PlainForm Fault
plain_form column.MYSQL_TYPE_TINY metadata unsigned = Ok (form.Integer width.One unsigned)
plain_form column.MYSQL_TYPE_SHORT metadata unsigned = Ok (form.Integer width.Two unsigned)
plain_form column.MYSQL_TYPE_INT24 metadata unsigned = Ok (form.Integer width.Three unsigned)
plain_form column.MYSQL_TYPE_LONG metadata unsigned = Ok (form.Integer width.Four unsigned)
plain_form column.MYSQL_TYPE_LONGLONG metadata unsigned = Ok (form.LongInteger unsigned)
plain_form column.MYSQL_TYPE_FLOAT metadata unsigned = Ok form.Float
plain_form column.MYSQL_TYPE_DOUBLE metadata unsigned = Ok form.Double
plain_form column.MYSQL_TYPE_TIMESTAMP metadata unsigned = Ok form.Timestamp
plain_form column.MYSQL_TYPE_TIME metadata unsigned = Ok form.Time
plain_form column.MYSQL_TYPE_DATETIME metadata unsigned = Ok form.Datetime
plain_form column.MYSQL_TYPE_YEAR metadata unsigned = Ok form.Year
plain_form column.MYSQL_TYPE_NEWDATE metadata unsigned = Ok form.Date
plain_form column.MYSQL_TYPE_TINY_BLOB metadata unsigned = first_byte metadata >>= blob_form
plain_form column.MYSQL_TYPE_MEDIUM_BLOB metadata unsigned = first_byte metadata >>= blob_form
plain_form column.MYSQL_TYPE_LONG_BLOB metadata unsigned = first_byte metadata >>= blob_form
plain_form column.MYSQL_TYPE_BLOB metadata unsigned = first_byte metadata >>= blob_form
plain_form column.MYSQL_TYPE_GEOMETRY metadata unsigned = first_byte metadata >>= blob_form
plain_form column.MYSQL_TYPE_VECTOR metadata unsigned = first_byte metadata >>= blob_form
plain_form column.MYSQL_TYPE_TIMESTAMP2 metadata unsigned = first_byte metadata >>= λ m0. Ok (form.Timestamp2 m0)
plain_form column.MYSQL_TYPE_DATETIME2 metadata unsigned = first_byte metadata >>= λ m0. Ok (form.Datetime2 m0)
plain_form column.MYSQL_TYPE_TIME2 metadata unsigned = first_byte metadata >>= λ m0. Ok (form.Time2 m0)
plain_form type metadata unsigned = two_form type metadata

-- how the cells of a column that isn't an array are read
abbrev pub element_form : ColumnType → List ℕ → Bool → Result Form Fault
element_form column.MYSQL_TYPE_JSON metadata unsigned = Ok way.Json
element_form type metadata unsigned = plain_form type metadata unsigned >>= λ f. Ok (way.Plain f)

-- how the cells of an array of a type are read; Unhandled if that type is an array or unknown
abbrev pub typed_form : Result ColumnType Fault → List ℕ → Bool → Result Form Fault
typed_form (Ok type) metadata unsigned = element_form type metadata unsigned
typed_form (Err e) metadata unsigned = Err Unhandled

-- TYPED_ARRAY: as a cell of the type that the first byte of the metadata names, with all of the
-- metadata
abbrev pub array_form : List ℕ → Bool → Result Form Fault
array_form metadata unsigned = first_byte metadata >>= λ m0. typed_form (column_type_of m0) metadata unsigned

-- how the cells of a column are read, by its type, its metadata and whether its numbers are
-- unsigned; or the fault that comes for every cell
abbrev pub form_of : ColumnType → List ℕ → Bool → Result Form Fault
form_of column.MYSQL_TYPE_TYPED_ARRAY metadata unsigned = array_form metadata unsigned
form_of type metadata unsigned = element_form type metadata unsigned

-- the bytes of a cell that is read in this way, partial or not
unfoldable pub cell_by : Bool → Form → Format Cell
cell_by partial (way.Plain f) = map_value (plain_by f) PlainCell
cell_by partial way.Json = json_cell partial

-- the bytes of a cell, read by the form that is found out once for its column; or the fault of the
-- column
unfoldable pub cell_by_form : ColumnType → List ℕ → Bool → Bool → Format Cell
cell_by_form type metadata unsigned partial = sequence (check (form_of type metadata unsigned)) (cell_by partial)
