-- What the JSON of a value shows of the value.
use Rattle.std.specs.Prelude.{◌≡◌, ℕ, ◌-◌, ◌*◌, ◌+◌, ◌/◌, ◌%◌, ◌^◌, ◌<◌, ◌==◌, ◌&&◌, min, nat_lt, Bool, if◌then◌else◌, ℤ, pos, unsigned_abs, List, [], length, Option, Some, None, codes, is_nan, from_bits, slice_get, ◌≢◌, All, ⊤}
use Rattle.std.specs.Option.{option_map}
use Rattle.std.specs.List.{join_with_byte}
use Rattle.std.specs.Str.{bytes_eq}
use Rattle.std.specs.Float.{Format, binary32, binary64}
use Rattle.byteorder.specs.Endian.{little_number, big_number}
use Rattle.binlog_base.specs.Coding.{IsSigned}
use Rattle.binlog_base.specs.Numbers.{AreBytes}
use Rattle.binlog_base.specs.Values.{PlainValue, Null, Bytes, Int, UInt, Float, Double, Date, Time}
use Rattle.binlog_cells.specs.Cells.{PlainCell}
use Rattle.binlog_table.specs.TableColumns as table
use Rattle.mysql_binlog_rows.specs.Images.{nullable_cell}
use Rattle.row_json.specs.declared.kind.Kind.{Kind}
use Rattle.row_json.specs.declared.kind.Kind.TheVariants as kind
use Rattle.row_json.specs.Columns.{Column}
use Rattle.row_json.specs.Times.{timestamp_in}
use Rattle.row_json.specs.Values.{padded, name_of, set_names, with_sign}

-- What is shown of a value. Two values of one column have the same JSON exactly if the same is shown
-- of both.
pub data Shown : Type 0 where
  null : Shown
  -- all of the bytes
  bytes : List ℕ → Shown
  number : ℤ → Shown
  -- the name of a value of an ENUM, or the names of a SET with commas between them
  name : List ℕ → Shown
  -- all bits of a FLOAT or DOUBLE
  float : ℕ → Shown
  not_a_number : Shown
  date : (year month day : ℕ) → Shown
  datetime : (year month day hour minute second fraction : ℕ) → Shown
  time : (is_negative : Bool) (hours minutes seconds fraction : ℕ) → Shown
  -- seconds since 1970
  instant : (seconds fraction : ℕ) → Shown
  no_instant : Shown

-- ---- by kinds

-- the first digits of the six digits of the microseconds, as many as there are decimals, as a number
abbrev pub shown_fraction : ℕ → ℕ → ℕ
shown_fraction decimals u = u % 1000000 / 10 ^ (6 - min decimals 6)

-- a year by its digits; 1900 is the text of the byte 0, which is written as 0
abbrev pub shown_year : List ℕ → Shown
shown_year digits = if bytes_eq digits (codes "1900") then bytes (codes "0") else bytes digits

-- what up to 8 bytes are, or the bytes, if there are more
abbrev pub shown_number : (List ℕ → Shown) → List ℕ → Shown
shown_number of_number all = if nat_lt 8 (length all) then bytes all else of_number all

abbrev pub name_or_number : ℕ → Option (List ℕ) → Shown
name_or_number n None = number (pos n)
name_or_number n (Some text) = name text

-- The name of value n, or n where it has none. 0 is written as an empty name.
abbrev pub shown_enum : List (Option (List ℕ)) → ℕ → Shown
shown_enum names n = if n == 0 then name [] else name_or_number n (name_of names n)

-- the names of the set bits, or the bits where one of them has none
abbrev pub shown_set : List (Option (List ℕ)) → ℕ → Shown
shown_set names bits = name_or_number bits (option_map (join_with_byte 44) (set_names names bits))

-- Seconds and microseconds. 0 seconds without a fraction is no time.
abbrev pub shown_instant : ℕ → ℕ → ℕ → Shown
shown_instant decimals seconds u = if (seconds == 0) && (u == 0) then no_instant else instant seconds (shown_fraction decimals u)

-- what is read of a TIMESTAMP2, or its text where none can be read
abbrev pub shown_timestamp : ℕ → List ℕ → Option (ℕ × ℕ) → Shown
shown_timestamp decimals all None = bytes all
shown_timestamp decimals all (Some t) = shown_instant decimals t.0 t.1

abbrev pub shown_bytes : Column → Kind → List ℕ → Shown
shown_bytes c (kind.Binary n) all = bytes (padded n all)
shown_bytes c kind.Year all = shown_year all
shown_bytes c kind.Bits all = shown_number (λ b. number (pos (big_number (length b) b))) all
shown_bytes c kind.Set all = shown_number (λ b. shown_set c.names (little_number (length b) b)) all
shown_bytes c (kind.Timestamp decimals) all = shown_timestamp decimals all (timestamp_in all)
shown_bytes c _ all = bytes all

abbrev pub shown_int : Column → Kind → ℤ → Shown
shown_int c (kind.Timestamp decimals) z = shown_instant decimals (unsigned_abs z % 2 ^ 32) 0
shown_int c kind.Enum z = shown_enum c.names (unsigned_abs z)
shown_int c _ z = number z

-- all bits, but for those that are no number
abbrev pub shown_float : Format → ℕ → Shown
shown_float f bits = if is_nan (from_bits f bits) then not_a_number else float bits

abbrev pub shown_date : Kind → ℕ → ℕ → ℕ → ℕ → ℕ → ℕ → ℕ → Shown
shown_date kind.Date y m d h i s u = date y m d
shown_date (kind.Datetime decimals) y m d h i s u = datetime y m d h i s (shown_fraction decimals u)
shown_date _ y m d h i s u = datetime y m d h i s 0

abbrev pub shown_time : Kind → Bool → ℕ → ℕ → ℕ → ℕ → Shown
shown_time (kind.Time decimals) is_negative h i s u = time is_negative h i s (shown_fraction decimals u)
shown_time _ is_negative h i s u = time is_negative h i s 0

-- ---- values

abbrev pub shown_plain : Column → PlainValue → Shown
shown_plain c Null = null
shown_plain c (Bytes all) = shown_bytes c c.kind all
shown_plain c (Int z) = shown_int c c.kind z
shown_plain c (UInt n) = number (pos n)
shown_plain c (Float bits) = shown_float binary32 bits
shown_plain c (Double bits) = shown_float binary64 bits
shown_plain c (Date y m d h i s u) = shown_date c.kind y m d h i s u
shown_plain c (Time is_negative d h i s u) = shown_time c.kind is_negative (d * 24 + h) i s u

-- a TIME of the old format is shown with its sign
abbrev pub shown : Column → PlainValue → Shown
shown c value = shown_plain c (with_sign c.kind value)

-- ---- values of one column

-- the numbers of a value are in the ranges of their types
abbrev pub IsInRange : PlainValue → Type 0
IsInRange Null = ⊤
IsInRange (Bytes all) = AreBytes all
IsInRange (Int z) = IsSigned 8 z
IsInRange (UInt n) = n < 2 ^ 64
IsInRange (Float bits) = bits < 2 ^ 32
IsInRange (Double bits) = bits < 2 ^ 64
IsInRange (Date y m d h i s u) = (y < 2 ^ 16) × (m < 2 ^ 8) × (d < 2 ^ 8) × (h < 2 ^ 8) × (i < 2 ^ 8) × (s < 2 ^ 8)
IsInRange (Time is_negative d h i s u) = (d < 2 ^ 32) × (h < 2 ^ 8) × (i < 2 ^ 8) × (s < 2 ^ 8)

-- The text of a TIMESTAMP2 has digits, minuses and points: no byte is above that of the digit 9.
abbrev pub HasDigits : Kind → PlainValue → Type 0
HasDigits (kind.Timestamp decimals) (Bytes all) = All (λ byte. byte < 58) all
HasDigits _ _ = ⊤

-- a value that a column may have
pub record IsOfColumn (c : Column) (value : PlainValue) : Type 0 where
  pub in_range : IsInRange value
  pub digits : HasDigits c.kind value

-- Two values of the same form: both are bytes, both are whole numbers, and so on. NULL goes with any.
abbrev pub AreAlike : PlainValue → PlainValue → Type 0
AreAlike Null w = ⊤
AreAlike v Null = ⊤
AreAlike (Bytes x) (Bytes y) = ⊤
AreAlike (Int x) (Int y) = ⊤
AreAlike (Int x) (UInt y) = ⊤
AreAlike (UInt x) (Int y) = ⊤
AreAlike (UInt x) (UInt y) = ⊤
AreAlike (Float x) (Float y) = ⊤
AreAlike (Double x) (Double y) = ⊤
AreAlike (Date y m d h i s u) (Date y₂ m₂ d₂ h₂ i₂ s₂ u₂) = ⊤
AreAlike (Time n d h i s u) (Time n₂ d₂ h₂ i₂ s₂ u₂) = ⊤
AreAlike v w = ⊥

pub record AreOfOneColumn (c : Column) (v w : PlainValue) : Type 0 where
  pub alike : AreAlike v w
  pub first : IsOfColumn c v
  pub second : IsOfColumn c w

-- ---- names that are apart

-- no name is empty, and no two are the same
pub record AreApart (names : List (Option (List ℕ))) : Type 0 where
  pub filled : (i : ℕ) → slice_get names i ≢ Some (Some [])
  pub different : (i k : ℕ) (text : List ℕ) → slice_get names i ≡ Some (Some text) → slice_get names k ≡ Some (Some text) → i ≡ k

-- no name has a comma
abbrev pub HaveNoCommas : List (Option (List ℕ)) → Type 0
HaveNoCommas names = (i : ℕ) (text : List ℕ) → slice_get names i ≡ Some (Some text) → All (λ byte. byte ≢ 44) text

-- ---- cells

-- a value that some bytes spell as a cell of this column, or NULL where the null bit is set
pub record IsCellOf (c : table.Column) (value : PlainValue) : Type 0 where
  pub is_null : Bool
  pub partials : List Bool
  pub bytes : List ℕ
  pub are : AreBytes bytes
  pub spelled : (nullable_cell is_null partials c).spells bytes (PlainCell value)
