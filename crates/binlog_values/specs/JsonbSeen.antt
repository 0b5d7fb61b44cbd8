-- What contracts see of the types of the code.
use Rattle.std.specs.Prelude.{ℕ, ℤ, List}
use denote.Ref.{Bor}
use Rattle.binlog_values.specs.declared.jsonb.complex.TypedBytes.{TypedBytes}
use Rattle.binlog_values.specs.JsonbValues.{Typed}
use Rattle.binlog_values.specs.JsonEquality.{Parts, parts}

-- a type and bytes, without their place in memory
abbrev pub typed : TypedBytes → Typed
typed t = record { type = t.value_type; bytes = t.bytes.now }

-- the parts of a value, without their place in memory
abbrev pub parts_seen : ℕ × ℤ × Bor (List ℕ) → Parts
parts_seen p = parts p.0 p.1 p.2.now
