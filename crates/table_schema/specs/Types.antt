-- The types of columns, as COLUMN_TYPE of information_schema.COLUMNS has them.
use Rattle.std.specs.Prelude.{ℕ, ◌==◌, ◌||◌, Bool, false, if◌then◌else◌, codes, List, [], ◌∷◌, length, drop, Option, Some, None, unwrap_or, slice_get}
use Rattle.std.specs.List.{list_any, before_first, position_or_len}
use Rattle.std.specs.Option.{option_map, option_or}
use Rattle.std.specs.Str.{bytes_eq}
use Rattle.table_schema.specs.declared.types.SchemaType.{SchemaType}
use Rattle.table_schema.specs.declared.types.SchemaType.TheVariants as kind
use Rattle.table_schema.specs.Texts.{pieces, number_of}
use Rattle.table_schema.specs.Values.{values_of}

-- ---- the parts of the text

-- a space or a parenthesis
abbrev pub ends_word : ℕ → Bool
ends_word b = b == 32 || b == 40

-- the word that comes first, and what stands from its end on
abbrev pub word_of : List ℕ → List ℕ
word_of text = before_first ends_word text

abbrev pub behind_word : List ℕ → List ℕ
behind_word text = drop (position_or_len ends_word text) text

-- what stands between the parentheses with which a text begins
abbrev pub arguments_text : List ℕ → List ℕ
arguments_text [] = []
arguments_text (b ∷ bs) = if b == 40 then before_first (λ c. c == 41) bs else []

-- the k-th of the numbers there; another one if it isn't there
abbrev pub argument : ℕ → List ℕ → ℕ → ℕ
argument k rest other = unwrap_or (number_of (unwrap_or (slice_get (pieces 44 (arguments_text rest)) k) [])) other

-- whether the word `unsigned` is among those with spaces between them
abbrev pub has_unsigned : List ℕ → Bool
has_unsigned text = list_any (λ word. bytes_eq word (codes "unsigned")) (pieces 32 text)

-- ---- the type

-- what the first row of a table with this word has
abbrev pub by_word : {A : Type 0} → List (List ℕ × A) → List ℕ → Option A
by_word [] word = None
by_word (row ∷ rows) word = if bytes_eq word row.0 then Some row.1 else by_word rows word

-- numbers
abbrev pub numbers : List (List ℕ × SchemaType)
numbers =
    (codes "tinyint", kind.Tiny)
    ∷ (codes "smallint", kind.Short)
    ∷ (codes "mediumint", kind.Int24)
    ∷ (codes "int", kind.Long)
    ∷ (codes "bigint", kind.LongLong)
    ∷ (codes "float", kind.Float)
    ∷ (codes "double", kind.Double)
    ∷ (codes "year", kind.Year)
    ∷ []

-- bytes and texts, by how many bytes their length takes
abbrev pub blobs : List (List ℕ × SchemaType)
blobs =
    (codes "tinyblob", kind.Blob 1)
    ∷ (codes "tinytext", kind.Blob 1)
    ∷ (codes "blob", kind.Blob 2)
    ∷ (codes "text", kind.Blob 2)
    ∷ (codes "mediumblob", kind.Blob 3)
    ∷ (codes "mediumtext", kind.Blob 3)
    ∷ (codes "longblob", kind.Blob 4)
    ∷ (codes "longtext", kind.Blob 4)
    ∷ []

-- types without more to tell, and MariaDB's that are CHAR of so many bytes in events
abbrev pub others : List (List ℕ × SchemaType)
others =
    (codes "date", kind.Date)
    ∷ (codes "json", kind.Json)
    ∷ (codes "vector", kind.Vector)
    ∷ (codes "uuid", kind.Char 16)
    ∷ (codes "inet6", kind.Char 16)
    ∷ (codes "inet4", kind.Char 4)
    ∷ []

-- points, lines and areas
abbrev pub geometries : List (List ℕ × SchemaType)
geometries =
    (codes "geometry", kind.Geometry)
    ∷ (codes "point", kind.Geometry)
    ∷ (codes "linestring", kind.Geometry)
    ∷ (codes "polygon", kind.Geometry)
    ∷ (codes "multipoint", kind.Geometry)
    ∷ (codes "multilinestring", kind.Geometry)
    ∷ (codes "multipolygon", kind.Geometry)
    ∷ (codes "geometrycollection", kind.Geometry)
    ∷ (codes "geomcollection", kind.Geometry)
    ∷ []

-- Types with numbers in parentheses. The most bytes of a CHAR or VARCHAR are CHARACTER_OCTET_LENGTH.
abbrev pub sized : List ℕ → ℕ → List (List ℕ × SchemaType)
sized rest octets =
    (codes "decimal", kind.Decimal (argument 0 rest 10) (argument 1 rest 0))
    ∷ (codes "bit", kind.Bit (argument 0 rest 1))
    ∷ (codes "time", kind.Time (argument 0 rest 0))
    ∷ (codes "datetime", kind.Datetime (argument 0 rest 0))
    ∷ (codes "timestamp", kind.Timestamp (argument 0 rest 0))
    ∷ (codes "char", kind.Char octets)
    ∷ (codes "binary", kind.Char octets)
    ∷ (codes "varchar", kind.Varchar octets)
    ∷ (codes "varbinary", kind.Varchar octets)
    ∷ []

-- the type of a word, what stands behind it, and CHARACTER_OCTET_LENGTH
abbrev pub kind_of : List ℕ → List ℕ → ℕ → SchemaType
kind_of word rest octets =
    unwrap_or (option_or (by_word numbers word)
    (option_or (by_word blobs word)
    (option_or (by_word others word)
    (option_or (by_word geometries word) (by_word (sized rest octets) word))))) kind.Other

-- ---- the whole text

-- a type, whether its numbers are unsigned, and the names of the values of an ENUM or SET
pub record ColumnType : Type 0 where
  pub kind : SchemaType
  pub unsigned : Bool
  pub values : List (List ℕ)

-- an ENUM or a SET, by the names of its values
abbrev pub named_type : (ℕ → SchemaType) → List (List ℕ) → ColumnType
named_type kind values = record { kind = kind (length values); unsigned = false; values = values }

-- What a text says, with CHARACTER_OCTET_LENGTH; none where the names of an ENUM or SET aren't written so. YEAR is
-- unsigned.
abbrev pub column_type_of : List ℕ → ℕ → Option ColumnType
column_type_of text octets =
    let word = word_of text in
    let rest = behind_word text in
    if bytes_eq word (codes "enum") then option_map (named_type kind.Enum) (values_of rest)
    else if bytes_eq word (codes "set") then option_map (named_type kind.Set) (values_of rest)
    else Some (record {
      kind = kind_of word rest octets;
      unsigned = bytes_eq word (codes "year") || has_unsigned rest;
      values = [];
    })
