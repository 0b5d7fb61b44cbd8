-- How many steps a walk over a table's columns takes: one for each field, item or fault that is read
-- of the optional metadata, and one for each column that is walked over.
use Rattle.std.specs.Prelude.{ℕ, zero, suc, ◌+◌, ◌-◌, ◌==◌, ◌&&◌, nat_lt, min, Bool, true, List, [], ◌∷◌, length, count_by, Result, Ok, Err, Option, Some, None, if◌then◌else◌}
use Rattle.std.specs.Result.{is_ok}
use Rattle.binlog_base.specs.declared.fault.Fault.{Fault}
use Rattle.binlog_base.specs.Format.{◌>>=◌}
use Rattle.binlog_base.specs.Numbers.{lenenc}
use Rattle.binlog_base.specs.Strings.{lenenc_string}
use Rattle.binlog_base.specs.Items.{items, before_fault}
use Rattle.binlog_base.specs.Servers.{character_group, enum_or_set_group}
use Rattle.binlog_table.specs.TableMap.{TableMap}
use Rattle.binlog_table.specs.Lists.{low_bits, pair_with}
use Rattle.binlog_table.specs.Fields.{fields}
use Rattle.binlog_table.specs.Keys.{key_items}
use Rattle.binlog_table.specs.Charsets.{pairs_from, above_from}
use Rattle.binlog_table.specs.Extracted.{list_or, pairs_or, kept_of, fields_of, field_fault}
use Rattle.binlog_table.specs.TableColumns.{Parts, parts_of, one_more, ordinal_of, table_columns}

-- how many there are up to the first fault, which counts too
abbrev pub up_to_fault : {A : Type 0} → List (Result A Fault) → ℕ
up_to_fault [] = 0
up_to_fault (Ok x ∷ xs) = suc (up_to_fault xs)
up_to_fault (Err e ∷ xs) = 1

-- for how many of the first n columns something is so
abbrev pub count_to : (ℕ → Bool) → ℕ → ℕ
count_to test zero = 0
count_to test (suc n) = one_more (test 0) (count_to (λ i. test (suc i)) n)

-- The name of a column is read after its type and its character set, if these have no fault.
abbrev pub reads_name : Parts → ℕ → Bool
reads_name p i = is_ok (p.type i >>= λ type. p.charset i)

-- a key column, or the fault of the key
abbrev pub is_of_key : Result Bool Fault → Bool
is_of_key (Ok is_key) = is_key
is_of_key (Err e) = true

-- A column takes an item of the key if it is a key column or has the key's fault, after its type,
-- its character set and its name, if these have no fault.
abbrev pub takes_key : Parts → ℕ → Bool
takes_key p i = is_ok (p.type i >>= λ type. p.charset i >>= λ charset. p.name i) && is_of_key (p.key i)

-- How many names are read for the first n columns: one for each column whose name is read, as far as
-- the list goes.
abbrev pub names_read : Parts → List (Result (List ℕ) Fault) → ℕ → ℕ
names_read p names n = min (length names) (count_to (reads_name p) n)

-- How many items of the key are read for the first n columns: the first one beforehand, and after
-- each that a column takes the next one, as far as the list goes.
abbrev pub keys_read : Parts → List (Result ℕ Fault) → ℕ → ℕ
keys_read p keys n = min (length keys) (1 + count_to (takes_key p) n)

-- How many items of a group's pairs and list are read for its first k columns. Of the pairs, the
-- first one is read beforehand, and after each that a column takes the next one. If all pairs have a
-- value, each column after that of the last pair takes an item of the list. Both as far as the items
-- go.
abbrev pub charsets_read : List (Result (ℕ × ℕ) Fault) → List (Result ℕ Fault) → ℕ → ℕ
charsets_read pairs list k =
    let prefix = pairs_from 0 (before_fault pairs) in
    min (length pairs) (1 + count_by (λ p. nat_lt p.0 k) prefix) + (if length prefix == length pairs then min (length list) (k - above_from 0 prefix) else 0)

-- how many columns, names, items of the key and items of character sets are read for the first n
-- columns
abbrev pub columns_read : TableMap → ℕ → ℕ
columns_read t n =
    let k = kept_of t in
    let p = parts_of t in
    n + names_read p (items lenenc_string (list_or k.names)) n
    + keys_read p (key_items (items lenenc (list_or k.simple)) (items (pair_with lenenc) (list_or k.prefixed))) n
    + charsets_read (pairs_or k.default) (items (low_bits 16) (list_or k.charsets)) (ordinal_of (character_group t.server) p.type n)
    + charsets_read (pairs_or k.enum_default) (items (low_bits 16) (list_or k.enum_charsets)) (ordinal_of (enum_or_set_group t.server) p.type n)

-- 0 where there is a fault
abbrev pub unless_fault : Option Fault → ℕ → ℕ
unless_fault None n = n
unless_fault (Some e) n = 0

-- The steps of a walk over the first n columns, or over all up to the first with a fault, if these
-- are fewer: the fields up to the first faulty one, and if none is faulty, what is read for the
-- columns.
unfoldable pub steps_after : TableMap → ℕ → ℕ
steps_after t n = up_to_fault (fields (fields_of t)) + unless_fault (field_fault t) (columns_read t (min n (length (table_columns t))))
