-- What `parse` and `check` promise.
use Rattle.std.specs.Prelude.{◌≡◌, ◌≢◌, ℕ, ◌+◌, ◌<◌, ◌≤◌, Any, Bool, true, false, Some, IfErr, IfOk, IsOk, OnOk, Result, Ok, Err, ◌⊎◌}
use Rattle.binlog_base.specs.declared.fault.Fault.{Fault}
use Rattle.binlog_base.specs.declared.fault.Fault.TheVariants.{Memory, NestingTooDeep, TooManyValues}
use Rattle.binlog_base.specs.declared.below.columns.column_type.ColumnType.TheVariants as column
use Rattle.binlog_values.specs.declared.jsonb.dom.JsonDom.{JsonDom}
use Rattle.binlog_values.specs.JsonbValues.{JsonbValue, scalar, nested, Text, Opaque}
use Rattle.binlog_values.specs.JsonbTrees.{Tree, Denotes}
use Rattle.binlog_values.specs.JsonbDocuments.{Document, document_of, weight, depth, max_depth, limit_of, Position, positions, fault_inside, first_fault}
use Rattle.binlog_values.specs.JsonbHeaders.{headers, AreDisjoint}
use Rattle.binlog_values.specs.JsonbContainers.{IsScalar}
use Rattle.binlog_values.specs.JsonbDoms.{IsTree, IsGiven}

-- the value with all that is inside it
abbrev pub document : JsonbValue → Document
document value = document_of (Ok value)

-- the tree is the one that the value denotes
abbrev pub IsDenoted : JsonbValue → JsonDom → Type 0
IsDenoted value dom = (t : Tree) × Denotes t (Ok value) × IsTree dom t

-- at most 100 containers are nested, and at most one value is there for three bytes of the root
abbrev pub IsWithinLimits : JsonbValue → Type 0
IsWithinLimits value = (depth (document value) ≤ max_depth) × (weight (document value) ≤ limit_of value)

-- the fault is that of the position's key, or of its value, or of its value as a scalar of the tree
abbrev pub HasFault : Fault → Position → Type 0
HasFault f p = (p.key ≡ Err f) ⊎ (fault_inside 0 p.value ≡ Some f)

-- a literal or a number
abbrev pub is_simple : JsonbValue → Bool
is_simple (nested c) = false
is_simple (scalar (Text bytes)) = false
is_simple (scalar (Opaque type bytes)) = false
is_simple (scalar _) = true

-- tree, limits, count: a tree that is given is the one that the value denotes, within both limits,
-- and the count is that of its values.
-- given: a tree that the value denotes is given, if it is within both limits and memory isn't
-- refused.
-- disjoint: where no two headers of containers share a byte, the limit on values needn't be asked
-- for.
-- fault: a fault is that of the first position in document order that has one, and the count is
-- this position's number.
-- nesting, values, other: so the fault of a limit comes only where the limit isn't met, and any
-- other fault only where a position has it.
-- bound, unread: no more positions are read than the limit on values and one more, and none for a
-- value that is no container.
-- simple: a literal or a number takes no memory.
pub record Parsed (value : JsonbValue) (result : Result JsonDom Fault) (read : ℕ) : Type 0 where
  pub tree : IfOk result (IsDenoted value)
  pub limits : OnOk result (IsWithinLimits value)
  pub count : OnOk result (read ≡ weight (document value))
  pub given : (t : Tree) → Denotes t (Ok value) → IsWithinLimits value → IsGiven result t
  pub disjoint : (t : Tree) → Denotes t (Ok value) → depth (document value) ≤ max_depth →
      AreDisjoint (headers 0 (document value)) → IsGiven result t
  pub fault : IfErr result (λ f. f ≢ Memory →
      first_fault (limit_of value) 0 (positions (document value)) ≡ Some (f, read))
  pub nesting : result ≡ Err NestingTooDeep → max_depth < depth (document value)
  pub values : result ≡ Err TooManyValues → limit_of value < weight (document value)
  pub other : IfErr result (λ f. f ≢ Memory → f ≢ NestingTooDeep → f ≢ TooManyValues →
      Any (HasFault f) (positions (document value)))
  pub bound : read ≤ limit_of value + 1
  pub unread : IsScalar value → read ≡ 0
  pub simple : is_simple value ≡ true → IsOk result

-- an opaque value that is a decimal
abbrev pub is_decimal : JsonbValue → Bool
is_decimal (scalar (Opaque column.MYSQL_TYPE_NEWDECIMAL bytes)) = true
is_decimal _ = false

-- tree, limits: where it succeeds, the value denotes a tree, within both limits.
-- given: it succeeds where the value denotes a tree within both limits, if memory isn't refused.
-- fault: a fault is that of the first position in document order that has one.
-- memory: of the scalars only a decimal takes memory.
pub record Checked (value : JsonbValue) (result : Result (Unit {0}) Fault) (read : ℕ) : Type 0 where
  pub tree : OnOk result ((t : Tree) × Denotes t (Ok value))
  pub limits : OnOk result (IsWithinLimits value)
  pub given : (t : Tree) → Denotes t (Ok value) → IsWithinLimits value → IfErr result (λ f. f ≡ Memory)
  pub fault : IfErr result (λ f. f ≢ Memory →
      first_fault (limit_of value) 0 (positions (document value)) ≡ Some (f, read))
  pub memory : IsScalar value → result ≡ Err Memory → is_decimal value ≡ true
