-- The lines of a schema file, by their fields.
use Rattle.std.specs.Prelude.{◌≢◌, ℕ, ◌==◌, ◌&&◌, ◌||◌, Bool, true, false, if◌then◌else◌, codes, List, [], ◌∷◌, map, Result, Ok, Err, is_some, unwrap_or}
use Rattle.std.specs.List.{list_any}
use Rattle.std.specs.Option.{ok_or}
use Rattle.std.specs.Str.{bytes_eq}
use Rattle.std.specs.Ordering.{nat_cmp, ordering_then}
use Rattle.std.specs.Cmp.Lexicographic.{slice_cmp}
use Rattle.std.specs.declared.cmp.Ordering.{Ordering}
use Rattle.binlog_base.specs.Format.{◌>>=◌}
use Rattle.table_schema.specs.declared.fault.SchemaFault.{SchemaFault}
use Rattle.table_schema.specs.declared.fault.SchemaFault.TheVariants as fault
use Rattle.table_schema.specs.declared.types.SchemaType.TheVariants as kind
use Rattle.table_schema.specs.Texts.{pieces, number_of, text_of}
use Rattle.table_schema.specs.Types.{ColumnType, column_type_of}
use Rattle.table_schema.specs.Charsets.{charset_of}
use Rattle.table_schema.specs.Schemas.{Column}

-- what a call gives, unless memory was refused
abbrev pub OrMemory : {X : Type 0} → Result X SchemaFault → Type 0 → Type 0
OrMemory (Ok _) answer = answer
OrMemory (Err e) answer = e ≢ fault.Memory → answer

-- ---- what a line says

-- the names of a database and of a table of it
pub record Names : Type 0 where
  pub database : List ℕ
  pub table : List ℕ

-- the lines of a kind, by its place among the kinds, and of a table
pub record Target : Type 0 where
  pub rank : ℕ
  pub names : Names

-- tables by their databases and then by themselves, byte by byte
abbrev pub names_order : Names → Names → Ordering
names_order a b = ordering_then (slice_cmp nat_cmp a.database b.database) (slice_cmp nat_cmp a.table b.table)

-- the server's id, and the second of the file's first statement
pub record Head : Type 0 where
  pub server_id : ℕ
  pub time : ℕ

-- A column: its table, its number there, its name and COLUMN_TYPE as texts, the name of its character set,
-- CHARACTER_OCTET_LENGTH, whether it may be NULL, and EXTRA.
pub record ColumnLine : Type 0 where
  pub names : Names
  pub ordinal : ℕ
  pub name : List ℕ
  pub type : List ℕ
  pub charset : List ℕ
  pub octets : ℕ
  pub nullable : Bool
  pub extra : List ℕ

-- A column of a unique index: its table, the index, its number there, its name, and how many characters of it the index
-- takes, 0 for all.
pub record KeyLine : Type 0 where
  pub names : Names
  pub index : List ℕ
  pub sequence : ℕ
  pub column : List ℕ
  pub prefix : ℕ

-- ---- fields

-- the text of a field
abbrev pub text_or : List ℕ → List ℕ
text_or field = unwrap_or (text_of field) []

-- the number that a field is
abbrev pub number : List ℕ → Result ℕ SchemaFault
number field = ok_or (number_of field) fault.Number

-- what `mysql -N -B` writes of a tab, a backslash, a line feed, U+0416 and U+1F600, in utf8mb4
abbrev pub probe : List ℕ
probe = 92 ∷ 116 ∷ 92 ∷ 92 ∷ 92 ∷ 110 ∷ 208 ∷ 150 ∷ 240 ∷ 159 ∷ 152 ∷ 128 ∷ []

-- YES or NO
abbrev pub is_nullable : List ℕ → Result Bool SchemaFault
is_nullable field =
    if bytes_eq field (codes "YES") then Ok true
    else if bytes_eq field (codes "NO") then Ok false
    else Err fault.Nullable

-- ---- lines by their fields

abbrev pub head_by : List ℕ → List ℕ → Result Head SchemaFault
head_by id time = number id >>= λ i. number time >>= λ t. Ok (record { server_id = i; time = t })

-- whether these are the word, the form and the probe of a first line
abbrev pub is_head : List ℕ → List ℕ → List ℕ → Bool
is_head word form sample = bytes_eq word (codes "schema") && (bytes_eq form (codes "1") && bytes_eq sample probe)

-- the first line
abbrev pub head_of : List (List ℕ) → Result Head SchemaFault
head_of (word ∷ form ∷ version ∷ id ∷ time ∷ sample ∷ []) =
    if is_head word form sample then head_by id time else Err fault.NotASchema
head_of _ = Err fault.NotASchema

abbrev pub names_by : List ℕ → List ℕ → Names
names_by database table = record { database = text_or database; table = text_or table }

-- a column, by the fields behind its word
abbrev pub column_with : Names → List ℕ → List ℕ → List ℕ → List ℕ → List ℕ → List ℕ → List ℕ → Result ColumnLine SchemaFault
column_with names ordinal name type charset octets nullable extra =
    number ordinal >>= λ o. number octets >>= λ l. is_nullable nullable >>= λ n.
    Ok (record {
      names = names;
      ordinal = o;
      name = text_or name;
      type = text_or type;
      charset = charset;
      octets = l;
      nullable = n;
      extra = extra;
    })

abbrev pub column_fields : List (List ℕ) → Result ColumnLine SchemaFault
column_fields (database ∷ table ∷ ordinal ∷ name ∷ type ∷ charset ∷ octets ∷ nullable ∷ extra ∷ []) =
    column_with (names_by database table) ordinal name type charset octets nullable extra
column_fields _ = Err fault.Fields

-- the same, if its type can be read
abbrev pub typed : ColumnLine → Result ColumnLine SchemaFault
typed c = if is_some (column_type_of c.type c.octets) then Ok c else Err fault.Values

-- a column of a unique index, likewise
abbrev pub key_with : Names → List ℕ → List ℕ → List ℕ → List ℕ → Result KeyLine SchemaFault
key_with names index sequence column prefix =
    number sequence >>= λ s. number prefix >>= λ p.
    Ok (record {
      names = names;
      index = text_or index;
      sequence = s;
      column = text_or column;
      prefix = p;
    })

abbrev pub key_fields : List (List ℕ) → Result KeyLine SchemaFault
key_fields (database ∷ table ∷ index ∷ sequence ∷ column ∷ prefix ∷ []) =
    key_with (names_by database table) index sequence column prefix
key_fields _ = Err fault.Fields

-- the second of the file's last statement, likewise
abbrev pub end_fields : List (List ℕ) → Result ℕ SchemaFault
end_fields (time ∷ []) = number time
end_fields _ = Err fault.Fields

-- ---- a column

-- Names in these character sets may have characters beyond U+FFFF, for which information_schema has `?`.
abbrev pub may_lose : List ℕ → Bool
may_lose charset =
    list_any (λ name. bytes_eq charset name) (codes "utf8mb4" ∷ codes "utf16" ∷ codes "utf16le" ∷ codes "utf32" ∷ codes "gb18030" ∷ [])

-- a name of a value; the byte FF, which no text has, for one that may have lost a character
abbrev pub known_value : Bool → List ℕ → List ℕ
known_value loses name = if loses && list_any (λ b. b == 63) name then 255 ∷ [] else name

-- whether a word is among those with spaces between them
abbrev pub has_word : List ℕ → List ℕ → Bool
has_word word text = list_any (λ w. bytes_eq w word) (pieces 32 text)

-- `STORED GENERATED` or `VIRTUAL GENERATED`, or MariaDB's words; `DEFAULT_GENERATED` isn't one of them
abbrev pub is_generated : List ℕ → Bool
is_generated extra =
    bytes_eq extra (codes "VIRTUAL") || (bytes_eq extra (codes "PERSISTENT")
    || (has_word (codes "GENERATED") extra && (has_word (codes "STORED") extra || has_word (codes "VIRTUAL") extra)))

-- a column of this type
abbrev pub column_by : ColumnLine → ColumnType → Column
column_by c t = record {
  name = c.name;
  kind = t.kind;
  unsigned = t.unsigned;
  nullable = c.nullable;
  charset = charset_of c.charset;
  values = map (known_value (may_lose c.charset)) t.values;
  generated = is_generated c.extra;
}

-- what a text of COLUMN_TYPE says that can be read
abbrev pub type_or : List ℕ → ℕ → ColumnType
type_or text octets = unwrap_or (column_type_of text octets) (record { kind = kind.Other; unsigned = false; values = [] })

-- what a line says of a column, whose type can be read
abbrev pub column_of : ColumnLine → Column
column_of c = column_by c (type_or c.type c.octets)
