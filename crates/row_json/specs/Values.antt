-- What a plain value is as JSON, by the kind of its column.
use Rattle.std.specs.Prelude.{◌≡◌, ℕ, ◌-◌, ◌*◌, ◌+◌, ◌/◌, ◌%◌, ◌^◌, ◌==◌, nat_lt, Bool, true, if◌then◌else◌, ℤ, unsigned_abs, List, [], ◌∷◌, ◌++◌, length, replicate, Option, Some, None, unwrap_or, option_and_then, slice_get, decimal, codes}
use Rattle.std.specs.Bool.{MatchBool}
use Rattle.std.specs.Option.{option_map}
use Rattle.std.specs.List.{join_with_byte}
use Rattle.std.specs.Str.{bytes_eq}
use Rattle.std.specs.Fmt.{signed_decimal}
use Rattle.std.specs.Float.{binary32, binary64}
use Rattle.base64.specs.Engines.{standard}
use Rattle.base64.specs.GeneralPurpose.{encode_of}
use Rattle.byteorder.specs.Endian.{little_number, big_number}
use Rattle.binlog_base.specs.declared.below.columns.column_type.ColumnType.TheVariants.{MYSQL_TYPE_TIME}
use Rattle.binlog_base.specs.Values.{PlainValue, Null, Bytes, Int, UInt, Float, Double, Date, Time}
use Rattle.binlog_cells.specs.OldTimes.{signed_old_time}
use Rattle.json.specs.Json.{Json, null, number, string, object, member, no_members}
use Rattle.json.specs.Word.{after_number}
use Rattle.row_json.specs.declared.charset.Charset.{Charset}
use Rattle.row_json.specs.declared.charset.Charset.TheVariants.{Utf8mb4}
use Rattle.row_json.specs.declared.kind.Kind.{Kind}
use Rattle.row_json.specs.declared.kind.Kind.TheVariants as kind
use Rattle.row_json.specs.Charsets.{text_in}
use Rattle.row_json.specs.Columns.{Column}
use Rattle.row_json.specs.Floats.{IsFloatJson}
use Rattle.row_json.specs.Times.{date_text, datetime_text, time_text, IsTimestampText, timestamp_in}

-- ---- bytes

-- {"base64": ..}
abbrev pub base64_json : List ℕ → Json
base64_json bytes = object (member (codes "base64") (string (encode_of standard bytes)) no_members)

-- a string if there is a text, else the bytes in base64
abbrev pub string_or : List ℕ → Option (List ℕ) → Json
string_or bytes None = base64_json bytes
string_or bytes (Some text) = string text

-- A BINARY has all of its n bytes: zero bytes at its end, which servers leave out, stand there again.
abbrev pub padded : ℕ → List ℕ → List ℕ
padded n bytes = bytes ++ replicate (n - length bytes) 0

abbrev pub text_json : Charset → List ℕ → Json
text_json charset bytes = string_or bytes (text_in charset bytes)

-- a text that is a number of JSON is that number, and else a string
abbrev pub is_whole : Option (List ℕ) → Bool
is_whole (Some []) = true
is_whole _ = Bool.false

abbrev pub number_or_string : List ℕ → Json
number_or_string text = if is_whole (after_number text) then number text else string text

abbrev pub number_or_bytes : List ℕ → Option (List ℕ) → Json
number_or_bytes bytes None = base64_json bytes
number_or_bytes bytes (Some text) = number_or_string text

-- The text of a year as a number. 1900 is the text of the byte 0, which is no year: years begin at
-- 1901.
abbrev pub year_json : List ℕ → Json
year_json bytes = if bytes_eq bytes (codes "1900") then number (decimal 0) else number_or_bytes bytes (text_in Utf8mb4 bytes)

-- a number of up to 8 bytes; base64 for more
abbrev pub number_json : (List ℕ → ℕ) → List ℕ → Json
number_json number_of bytes = if nat_lt 8 (length bytes) then base64_json bytes else number (decimal (number_of bytes))

-- ---- names

-- the name of value n, counted from 1
abbrev pub name_of : List (Option (List ℕ)) → ℕ → Option (List ℕ)
name_of names n = option_and_then (λ name. name) (slice_get names (n - 1))

abbrev pub string_or_number : ℕ → Option (List ℕ) → Json
string_or_number n None = number (decimal n)
string_or_number n (Some text) = string text

-- an empty string for 0, a name, or else the number
abbrev pub enum_json : List (Option (List ℕ)) → ℕ → Json
enum_json names n = if n == 0 then string [] else string_or_number n (name_of names n)

-- the names of the set bits, from the lowest on, if each has one
abbrev pub with_name : Option (List ℕ) → Option (List (List ℕ)) → Option (List (List ℕ))
with_name None more = None
with_name (Some name) None = None
with_name (Some name) (Some more) = Some (name ∷ more)

abbrev pub set_names : List (Option (List ℕ)) → ℕ → Option (List (List ℕ))
set_names [] bits = if bits == 0 then Some [] else None
set_names (name ∷ names) bits = if bits % 2 == 1 then with_name name (set_names names (bits / 2)) else set_names names (bits / 2)

-- whether there are all names, and if so, that the text is made of them
abbrev pub HasNames : Bool → Option (List (List ℕ)) → List ℕ → Type 0
HasNames all names text = MatchBool all (option_map (join_with_byte 44) names ≡ Some text) (names ≡ None)

-- the names with commas between them, or else the bits as a number
abbrev pub set_of_bits : List (Option (List ℕ)) → ℕ → Json
set_of_bits names bits = string_or_number bits (option_map (join_with_byte 44) (set_names names bits))

abbrev pub set_json : List (Option (List ℕ)) → List ℕ → Json
set_json names bytes = if nat_lt 8 (length bytes) then base64_json bytes else set_of_bits names (little_number (length bytes) bytes)

-- ---- values

-- seconds and microseconds as a string
abbrev pub IsTimestampJson : ℕ → ℕ → ℕ → Json → Type 0
IsTimestampJson decimals seconds u j = (text : List ℕ) × IsTimestampText decimals seconds u text × (j ≡ string text)

abbrev pub IsTimestampOrText : ℕ → List ℕ → Option (ℕ × ℕ) → Json → Type 0
IsTimestampOrText decimals bytes None j = j ≡ text_json Utf8mb4 bytes
IsTimestampOrText decimals bytes (Some t) j = IsTimestampJson decimals t.0 t.1 j

-- bytes of a column of this kind
abbrev pub IsBytesJson : Column → Kind → List ℕ → Json → Type 0
IsBytesJson c (kind.Text charset) bytes j = j ≡ text_json charset bytes
IsBytesJson c (kind.Binary n) bytes j = j ≡ base64_json (padded n bytes)
IsBytesJson c kind.Year bytes j = j ≡ year_json bytes
IsBytesJson c kind.Bits bytes j = j ≡ number_json (λ b. big_number (length b) b) bytes
IsBytesJson c kind.Set bytes j = j ≡ set_json c.names bytes
IsBytesJson c (kind.Timestamp decimals) bytes j = IsTimestampOrText decimals bytes (timestamp_in bytes) j
IsBytesJson c _ bytes j = j ≡ base64_json bytes

-- A number, by the kind: the seconds of an old TIMESTAMP, or a value of an ENUM, which have no sign.
abbrev pub IsIntJson : Column → Kind → ℤ → Json → Type 0
IsIntJson c (kind.Timestamp decimals) z j = IsTimestampJson decimals (unsigned_abs z % 2 ^ 32) 0 j
IsIntJson c kind.Enum z j = j ≡ enum_json c.names (unsigned_abs z)
IsIntJson c _ z j = j ≡ number (signed_decimal z)

-- a date without a time of day, or one with the column's decimals
abbrev pub date_by : Kind → ℕ → ℕ → ℕ → ℕ → ℕ → ℕ → ℕ → List ℕ
date_by kind.Date y m d h i s u = date_text y m d
date_by (kind.Datetime decimals) y m d h i s u = datetime_text decimals y m d 32 h i s u
date_by _ y m d h i s u = datetime_text 0 y m d 32 h i s u

-- a time with the column's decimals, and all of its hours
abbrev pub time_by : Kind → Bool → ℕ → ℕ → ℕ → ℕ → List ℕ
time_by (kind.Time decimals) is_negative h i s u = time_text decimals is_negative h i s u
time_by _ is_negative h i s u = time_text 0 is_negative h i s u

abbrev pub IsPlainJson : Column → PlainValue → Json → Type 0
IsPlainJson c Null j = j ≡ null
IsPlainJson c (Bytes bytes) j = IsBytesJson c c.kind bytes j
IsPlainJson c (Int z) j = IsIntJson c c.kind z j
IsPlainJson c (UInt n) j = j ≡ number (decimal n)
IsPlainJson c (Float bits) j = IsFloatJson binary32 bits j
IsPlainJson c (Double bits) j = IsFloatJson binary64 bits j
IsPlainJson c (Date y m d h i s u) j = j ≡ string (date_by c.kind y m d h i s u)
IsPlainJson c (Time is_negative d h i s u) j = j ≡ string (time_by c.kind is_negative (d * 24 + h) i s u)

-- a TIME of the old format has the sign that its digits mean
abbrev pub with_sign : Kind → PlainValue → PlainValue
with_sign kind.OldTime value = unwrap_or (signed_old_time MYSQL_TYPE_TIME value) value
with_sign _ value = value

abbrev pub IsValueJson : Column → PlainValue → Json → Type 0
IsValueJson c value j = IsPlainJson c (with_sign c.kind value) j
