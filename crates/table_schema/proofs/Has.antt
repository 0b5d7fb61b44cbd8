-- What fields tell, field by field.
use Rattle.std.proofs.Common.{◌≡◌, Bool, true, false, List, [], ◌∷◌, Result, Ok, Err, refl}
use Rattle.std.specs.Prelude.{◌||◌}
use Rattle.binlog_base.specs.declared.fault.Fault.{Fault}
use Rattle.binlog_table.specs.declared.table_map.optional.fields.OptionalMetadataField.{OptionalMetadataField}
use Rattle.table_schema.specs.declared.complete.Has.{Has}
use Rattle.table_schema.specs.Has.{with_field, fields_then}

or_assoc : (x y z : Bool) → (x || (y || z)) ≡ ((x || y) || z)
or_assoc true y z = refl
or_assoc false y z = refl

or_false : (x : Bool) → (x || false) ≡ x
or_false true = refl
or_false false = refl

or_true : (x : Bool) → (x || true) ≡ true
or_true true = refl
or_true false = refl

pub fields_more : (h : Has) (f : OptionalMetadataField) (fs : List (Result OptionalMetadataField Fault)) → fields_then h (Ok f ∷ fs) ≡ fields_then (with_field h f) fs
fields_more h f fs = rw (← or_assoc h.signs, ← or_assoc h.charsets, ← or_assoc h.names, ← or_assoc h.values, ← or_assoc h.key) refl

pub fault_more : (h : Has) (e : Fault) (fs : List (Result OptionalMetadataField Fault)) → fields_then h (Err e ∷ fs) ≡ fields_then (record h { fault = true }) fs
fault_more h e fs = rw (or_true h.fault) refl

pub fields_end : (h : Has) → fields_then h [] ≡ h
fields_end h = rw (or_false h.signs, or_false h.charsets, or_false h.names, or_false h.values, or_false h.key, or_false h.fault) refl
