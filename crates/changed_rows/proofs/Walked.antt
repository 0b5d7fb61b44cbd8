-- Which columns a table has, and which fields its event.
use Rattle.std.proofs.Common.{◌≡◌, Bool, true, false, List, [], ◌∷◌, Result, Ok, Err, refl}
use Rattle.std.specs.Prelude.{◌||◌}
use Rattle.binlog_base.specs.declared.fault.Fault.{Fault}
use Rattle.binlog_table.specs.declared.table_map.optional.fields.OptionalMetadataField.{OptionalMetadataField}
use Rattle.binlog_table.specs.TableColumns.{Column}
use Rattle.changed_rows.specs.declared.lacks.ColumnKinds.{ColumnKinds}
use Rattle.changed_rows.specs.declared.lacks.FieldKinds.{FieldKinds}
use Rattle.changed_rows.specs.Workings.Walked.{with_kind, kinds_then, with_field, fields_then}

or_assoc : (x y z : Bool) → (x || (y || z)) ≡ ((x || y) || z)
or_assoc true y z = refl
or_assoc false y z = refl

or_false : (x : Bool) → (x || false) ≡ x
or_false true = refl
or_false false = refl

pub kinds_more : (k : ColumnKinds) (c : Column) (cs : List (Result Column Fault)) → kinds_then k (Ok c ∷ cs) ≡ kinds_then (with_kind k c.column_type) cs
kinds_more k c cs = rw (← or_assoc k.whole_numbers, ← or_assoc k.characters, ← or_assoc k.enums, ← or_assoc k.sets, ← or_assoc k.strings) refl

pub kinds_end : (k : ColumnKinds) → kinds_then k [] ≡ k
kinds_end k = rw (or_false k.whole_numbers, or_false k.characters, or_false k.enums, or_false k.sets, or_false k.strings) refl

pub fields_more : (k : FieldKinds) (f : OptionalMetadataField) (fs : List (Result OptionalMetadataField Fault)) → fields_then k (Ok f ∷ fs) ≡ fields_then (with_field k f) fs
fields_more k f fs = rw (← or_assoc k.signs, ← or_assoc k.names, ← or_assoc k.charsets, ← or_assoc k.enum_values, ← or_assoc k.set_values) refl

pub fields_end : (k : FieldKinds) → fields_then k [] ≡ k
fields_end k = rw (or_false k.signs, or_false k.names, or_false k.charsets, or_false k.enum_values, or_false k.set_values) refl
