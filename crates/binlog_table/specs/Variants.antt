-- The string values of SET and ENUM columns.
use Rattle.std.specs.Prelude.{◌≡◌, ◌≢◌, ℕ, ◌<◌, List, [], ◌++◌, length, Result, Ok, Err, Option, Some, None}
use Rattle.std.specs.List.{flat_map}
use Rattle.binlog_base.specs.declared.fault.Fault.{Fault}
use Rattle.binlog_base.specs.declared.fault.Fault.TheVariants.{Memory}
use Rattle.binlog_base.specs.Format.{Format, sequence}
use Rattle.binlog_base.specs.Items.{times}
use Rattle.binlog_base.specs.Numbers.{lenenc, lenenc_bytes}
use Rattle.binlog_base.specs.Strings.{lenenc_string, lenenc_string_bytes}

-- the values of one column: their count, and this many strings
unfoldable pub variants : Format (List (List ℕ))
variants = sequence lenenc (λ count. times count lenenc_string)

-- the bytes that are written for the values of one column
unfoldable pub variants_bytes : List (List ℕ) → List ℕ
variants_bytes values = lenenc_bytes (length values) ++ flat_map lenenc_string_bytes values

-- Nothing where no bytes are left; else the values of a column at the start of the bytes, and the
-- bytes after them are left; or a fault, and no bytes are left. The fault is that of the bytes, or
-- Memory.
abbrev pub NextVariants : List ℕ → Option (Result (List (List ℕ)) Fault) → List ℕ → Type 0
NextVariants old None new = (old ≡ []) × (new ≡ [])
NextVariants old (Some (Ok values)) new = (x : List ℕ) × (old ≡ x ++ new) × (0 < length x) × variants.spells x values
NextVariants old (Some (Err e)) new = (0 < length old) × (new ≡ []) × (e ≢ Memory → variants.refuses old e)
