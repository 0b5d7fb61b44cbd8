-- Schema files: which bytes are one, the first line of others that can't be read, and the tables that one tells of.
use Rattle.std.specs.Prelude.{◌≡◌, ◌≢◌, ℕ, ◌+◌, ◌==◌, ◌&&◌, not, Bool, true, false, if◌then◌else◌, codes, List, [], ◌∷◌, ◌++◌, Option, Some, None, Result, Ok, Err, is_some, unwrap_or, nat_lt, filter, option_and_then}
use Rattle.std.specs.List.{flat_map, list_any, list_all, position, find}
use Rattle.std.specs.Option.{option_map}
use Rattle.std.specs.Ordering.{nat_cmp}
use Rattle.std.specs.Cmp.Lexicographic.{slice_cmp}
use Rattle.std.specs.declared.cmp.Ordering.{Ordering}
use Rattle.std.specs.declared.cmp.Ordering.TheVariants as order
use Rattle.std.specs.Str.{bytes_eq, is_utf8}
use Rattle.binlog_base.specs.Format.{◌>>=◌, fault_map}
use Rattle.table_schema.specs.declared.fault.SchemaFault.{SchemaFault}
use Rattle.table_schema.specs.declared.fault.SchemaFault.TheVariants as fault
use Rattle.table_schema.specs.declared.fault.SchemaError.{SchemaError}
use Rattle.table_schema.specs.declared.line.Line.{Line}
use Rattle.table_schema.specs.declared.line.Line.TheVariants as line
use Rattle.table_schema.specs.Texts.{pieces, text_of}
use Rattle.table_schema.specs.Schemas.{Column, Part, Table}
use Rattle.table_schema.specs.Lines.{Names, Head, ColumnLine, KeyLine, head_of, column_fields, typed, key_fields, end_fields, column_of, names_order}

-- ---- lines

-- the fields of a line with tabs between them, if it is UTF-8 and written as texts are
abbrev pub fields_of : List ℕ → Result (List (List ℕ)) SchemaFault
fields_of bytes =
    if is_utf8 bytes
    then (if is_some (text_of bytes) then Ok (pieces 9 bytes) else Err fault.Escape)
    else Err fault.NotUtf8

-- the first line
abbrev pub first_line : List ℕ → Result Head SchemaFault
first_line bytes = fields_of bytes >>= head_of

-- a line behind it, by its fields
abbrev pub line_of : List (List ℕ) → Result Line SchemaFault
line_of [] = Err fault.Word
line_of (word ∷ rest) =
    if bytes_eq word (codes "column") then (column_fields rest >>= typed >>= λ c. Ok (line.Column c))
    else if bytes_eq word (codes "key") then (key_fields rest >>= λ k. Ok (line.Key k))
    else if bytes_eq word (codes "end") then (end_fields rest >>= λ t. Ok (line.End t))
    else Err fault.Word

-- a later table, or a later column of the same
abbrev pub column_follows : Ordering → ColumnLine → ColumnLine → Bool
column_follows order.Less before c = true
column_follows order.Equal before c = nat_lt before.ordinal c.ordinal
column_follows order.Greater before c = false

-- the first column of a later index, or the next one of the same
abbrev pub part_follows : Ordering → KeyLine → KeyLine → Bool
part_follows order.Less before k = k.sequence == 1
part_follows order.Equal before k = k.sequence == before.sequence + 1
part_follows order.Greater before k = false

-- the first column of an index of a later table, or one of the same table
abbrev pub key_follows : Ordering → KeyLine → KeyLine → Bool
key_follows order.Less before k = k.sequence == 1
key_follows order.Equal before k = part_follows (slice_cmp nat_cmp before.index k.index) before k
key_follows order.Greater before k = false

-- Whether a line may stand behind another one, or behind the first line of the file: columns ascend, and then columns
-- of unique indexes.
abbrev pub follows : Option Line → Line → Bool
follows (Some (line.Column before)) (line.Column c) = column_follows (names_order before.names c.names) before c
follows (Some (line.Key before)) (line.Key k) = key_follows (names_order before.names k.names) before k
follows (Some (line.Key before)) (line.Column c) = false
follows (Some (line.End t)) l = false
follows before (line.Key k) = k.sequence == 1
follows before l = true

abbrev pub in_order : Option Line → Line → Result Line SchemaFault
in_order before l = if follows before l then Ok l else Err fault.Order

-- a line by its bytes and the line before it
abbrev pub line_behind : Option Line → List ℕ → Result Line SchemaFault
line_behind before bytes = fields_of bytes >>= line_of >>= in_order before

-- ---- files

-- What a file says: the server's id, the seconds of its first and its last statement, and the lines of columns and of
-- unique indexes.
pub record File : Type 0 where
  pub server_id : ℕ
  pub first_time : ℕ
  pub last_time : ℕ
  pub lines : List Line

-- what a line says, or why it can't be read, with its number
abbrev pub at : {A : Type 0} → ℕ → Result A SchemaFault → Result A SchemaError
at n r = fault_map (λ e. record { line = n; fault = e }) r

-- behind the last line only its line feed stands
abbrev pub last_piece : ℕ → ℕ → List ℕ → Result (List Line × ℕ) SchemaError
last_piece n time [] = Ok ([], time)
last_piece n time (b ∷ bs) = at n (Err fault.Cut)

abbrev pub end_at : ℕ → ℕ → List (List ℕ) → Result (List Line × ℕ) SchemaError
end_at n time [] = at n (Err fault.BehindEnd)
end_at n time (bytes ∷ []) = last_piece n time bytes
end_at n time (bytes ∷ next ∷ more) = at n (Err fault.BehindEnd)

-- a line, and then those behind it by `next`, or the end
abbrev pub then_lines : ℕ → List (List ℕ) → (Option Line → Result (List Line × ℕ) SchemaError) → Line → Result (List Line × ℕ) SchemaError
then_lines n more next (line.End time) = end_at n time more
then_lines n more next l = next (Some l) >>= λ r. Ok (l ∷ r.0, r.1)

-- the lines from number n on, and the second of the last one; what stands behind the last line feed is cut
abbrev pub lines_from : ℕ → Option Line → List (List ℕ) → Result (List Line × ℕ) SchemaError
lines_from n before [] = at n (Err fault.Cut)
lines_from n before (bytes ∷ []) = at n (Err fault.Cut)
lines_from n before (bytes ∷ next ∷ more) =
    at n (line_behind before bytes) >>= then_lines (n + 1) (next ∷ more) (λ l. lines_from (n + 1) l (next ∷ more))

abbrev pub file_with : Head → List Line × ℕ → File
file_with h r = record { server_id = h.server_id; first_time = h.time; last_time = r.1; lines = r.0 }

-- the pieces between line feeds, as a file
abbrev pub file_in : List (List ℕ) → Result File SchemaError
file_in [] = at 1 (Err fault.Cut)
file_in (bytes ∷ []) = at 1 (Err fault.Cut)
file_in (bytes ∷ next ∷ more) =
    at 1 (first_line bytes) >>= λ h. lines_from 2 None (next ∷ more) >>= λ r. Ok (file_with h r)

-- What a file says that these bytes are; else the first line that can't be read, from 1 on, and why.
abbrev pub file_of : List ℕ → Result File SchemaError
file_of bytes = file_in (pieces 10 bytes)

-- the bytes are a file that has these numbers
abbrev pub IsFileOf : List ℕ → ℕ → ℕ → ℕ → Type 0
IsFileOf bytes server_id first_time last_time =
    (lines : List Line) × (file_of bytes ≡ Ok (record { server_id = server_id; first_time = first_time; last_time = last_time; lines = lines }))

-- what a file says
abbrev pub file_or : Result File SchemaError → File
file_or (Ok f) = f
file_or (Err e) = record { server_id = 0; first_time = 0; last_time = 0; lines = [] }

-- ---- the tables of a file

abbrev pub is_of : Names → Names → Bool
is_of names n = bytes_eq n.database names.database && bytes_eq n.table names.table

-- the columns of a table, as its lines tell them
abbrev pub column_in : Names → Line → List Column
column_in names (line.Column c) = if is_of names c.names then column_of c ∷ [] else []
column_in names l = []

abbrev pub columns_in : Names → List Line → List Column
columns_in names lines = flat_map (column_in names) lines

-- the columns of its unique indexes
abbrev pub part_in : Names → Line → List KeyLine
part_in names (line.Key k) = if is_of names k.names then k ∷ [] else []
part_in names l = []

abbrev pub parts_in : Names → List Line → List KeyLine
parts_in names lines = flat_map (part_in names) lines

-- ---- keys

-- a part of an index: its column, and how many characters of it; none if the table hasn't got it
abbrev pub part_of : List Column → KeyLine → Option Part
part_of cs k = option_map (λ i. record { column = i; prefix = k.prefix }) (position (λ c. bytes_eq c.name k.column) cs)

-- all parts; none if one isn't there
abbrev pub parts_of : List Column → List KeyLine → Option (List Part)
parts_of cs [] = Some []
parts_of cs (k ∷ ks) = option_and_then (λ p. option_map (λ ps. p ∷ ps) (parts_of cs ks)) (part_of cs k)

-- the whole of a column that is never NULL
abbrev pub is_whole : List Column → KeyLine → Bool
is_whole cs k = (k.prefix == 0) && list_any (λ c. bytes_eq c.name k.column && not c.nullable) cs

-- the parts as indexes: part 1 of one begins the next
abbrev pub indexes_from : List KeyLine → List KeyLine → List (List KeyLine)
indexes_from index [] = index ∷ []
indexes_from index (k ∷ ks) = if k.sequence == 1 then index ∷ indexes_from (k ∷ []) ks else indexes_from (index ++ k ∷ []) ks

abbrev pub indexes_of : List KeyLine → List (List KeyLine)
indexes_of [] = []
indexes_of (k ∷ ks) = indexes_from (k ∷ []) ks

-- the index PRIMARY
abbrev pub is_primary : List KeyLine → Bool
is_primary [] = false
is_primary (k ∷ ks) = bytes_eq k.index (codes "PRIMARY")

-- the only one of these, or none
abbrev pub only : List (List KeyLine) → List KeyLine
only (index ∷ []) = index
only others = []

-- The key: that of the index PRIMARY, or else of the only index of whole columns that are never NULL; else none is
-- known.
abbrev pub key_index : List Column → List (List KeyLine) → List KeyLine
key_index cs indexes = unwrap_or (find is_primary indexes) (only (filter (λ index. list_all (is_whole cs) index) indexes))

abbrev pub key_of : List Column → List KeyLine → List Part
key_of cs ks = unwrap_or (parts_of cs (key_index cs (indexes_of ks))) []

-- ---- a table

abbrev pub table_by : List Column → List KeyLine → Option Table
table_by [] ks = None
table_by (c ∷ cs) ks = Some (record { columns = c ∷ cs; key = key_of (c ∷ cs) ks })

-- the table with these names, if the file has it
abbrev pub table_in : Names → File → Option Table
table_in names f = table_by (columns_in names f.lines) (parts_in names f.lines)

-- what a call gives, unless memory was refused
abbrev pub OrMemoryAt : {X : Type 0} → Result X SchemaError → Type 0 → Type 0
OrMemoryAt (Ok _) answer = answer
OrMemoryAt (Err e) answer = e.fault ≢ fault.Memory → answer
