-- What is kept of the optional metadata of a table.
use Rattle.std.specs.Prelude.{◌≡◌, ℕ, ◌+◌, List, [], length, Result, Option, Some, None}
use Rattle.std.specs.Option.{option_map}
use Rattle.binlog_base.specs.declared.fault.Fault.{Fault}
use Rattle.binlog_base.specs.Items.{items, before_fault, first_fault}
use Rattle.binlog_table.specs.TableMap.{TableMap}
use Rattle.binlog_table.specs.Lists.{DefaultCharset, FieldsLeft, low_bits, pair_with}
use Rattle.binlog_table.specs.Fields.{Kept, kept, fields, numeric_count}
use Rattle.binlog_table.specs.Workings.CharsetsLeft.{CharsetsLeft}

-- the bytes of a list, or the bits; none where the table has no such field
abbrev pub list_or : {A : Type 0} → Option (List A) → List A
list_or None = []
list_or (Some x) = x

-- the pairs of a column and a character set after a default character set; none without a default
abbrev pub pairs_or : Option DefaultCharset → List (Result (ℕ × ℕ) Fault)
pairs_or None = []
pairs_or (Some d) = items (pair_with (low_bits 16)) d.pairs

-- the bytes of these pairs
abbrev pub pair_bytes : Option DefaultCharset → List ℕ
pair_bytes None = []
pair_bytes (Some d) = d.pairs

-- how many bytes the kept lists have
abbrev pub kept_bytes : Kept → ℕ
kept_bytes k = length (list_or k.names) + length (list_or k.simple) + length (list_or k.prefixed) + length (pair_bytes k.default) + length (list_or k.charsets) + length (pair_bytes k.enum_default) + length (list_or k.enum_charsets)

-- what is left of the character sets of a group when none was taken
pub record IsStart (d : Option DefaultCharset) (ns : Option (List ℕ)) (c : CharsetsLeft) : Type 0 where
  pub ordinal : c.ordinal ≡ 0
  pub default : c.default ≡ option_map (λ f. f.default) d
  pub pairs : c.pairs ≡ pairs_or d
  pub list : c.list ≡ items (low_bits 16) (list_or ns)

-- ---- by the table map event alone

-- the optional metadata of an event, of which nothing was taken
abbrev pub fields_of : TableMap → FieldsLeft
fields_of t = record {
  numeric = numeric_count t.server t.types;
  columns = t.columns_count;
  left = record { bytes = t.optional_metadata; taken = 0 };
}

-- the fields that describe the columns: the last one of each kind before the first faulty field
abbrev pub kept_of : TableMap → Kept
kept_of t = kept (before_fault (fields (fields_of t)))

-- the fault of the first faulty field of the optional metadata
abbrev pub field_fault : TableMap → Option Fault
field_fault t = first_fault (fields (fields_of t))
