-- Where the parts of a binary JSON container are. Offsets count from its first byte.
use Rattle.std.specs.Prelude.{◌≡◌, ℕ, ◌+◌, ◌*◌, Bool, true, false, List, drop}
use Rattle.binlog_base.specs.Endian.{little_number}

-- the little-endian number of `width` bytes that begins at byte `at`
abbrev pub number_at : ℕ → ℕ → List ℕ → ℕ
number_at width at bytes = little_number width (drop at bytes)

-- how many bytes a count, a size or an offset takes: 4 in a large container, 2 in a small one
abbrev pub offset_size : Bool → ℕ
offset_size true = 4
offset_size false = 2

-- How many bytes the header has, where an offset takes `width` bytes: the count of the elements,
-- the size, the key entries of an object (an offset, and a length of two bytes), and the value
-- entries (a type byte and an offset).
abbrev pub header_of : Bool → ℕ → ℕ → ℕ
header_of true width count = 2 * width + count * (width + 1)
header_of false width count = 2 * width + count * (2 * width + 3)

-- how many bytes the header of a container with `count` elements has
abbrev pub header_len : Bool → Bool → ℕ → ℕ
header_len is_array is_large count = header_of is_array (offset_size is_large) count

-- where key entry i begins
abbrev pub key_entry : Bool → ℕ → ℕ
key_entry is_large i = 2 * offset_size is_large + (offset_size is_large + 2) * i

-- where value entry i begins, if an offset takes `width` bytes: after the key entries of an object
abbrev pub value_entry_of : Bool → ℕ → ℕ → ℕ → ℕ
value_entry_of true width count i = 2 * width + (width + 1) * i
value_entry_of false width count i = 2 * width + count * (width + 2) + (width + 1) * i

-- where value entry i begins
abbrev pub value_entry : Bool → Bool → ℕ → ℕ → ℕ
value_entry is_array is_large count i = value_entry_of is_array (offset_size is_large) count i

-- what holds of the constants of a storage format
pub record FormatLaws (is_large : Bool) (width key_size value_size : ℕ) : Type 0 where
  pub offset : width ≡ offset_size is_large
  pub key : key_size ≡ offset_size is_large + 2
  pub value : value_size ≡ offset_size is_large + 1
