-- The four kinds of containers as one, and what is read of an entry.
use Rattle.binlog_values.specs.declared.jsonb.container.Container.{Container}
use Rattle.binlog_values.specs.declared.jsonb.container.Container.TheVariants as container
use Rattle.binlog_values.specs.declared.jsonb.container.Node.{Node}
use Rattle.binlog_values.specs.declared.jsonb.container.Node.TheVariants as node
use Rattle.std.specs.Prelude.{⊤}
use Rattle.binlog_values.specs.declared.jsonb.container.LentScalar.{LentScalar}
use Rattle.binlog_values.specs.declared.jsonb.container.LentScalar.TheVariants as lent
use Rattle.binlog_values.specs.JsonbValues.{Frame, Scalar, Null, Boolean, I16, U16, I32, U32, I64, U64, F64, Text, Opaque, JsonbValue, scalar, nested}

-- the container, whatever its kind and format
abbrev pub frame : Container → Frame
frame (container.SmallArray c) = c
frame (container.LargeArray c) = c
frame (container.SmallObject c) = c
frame (container.LargeObject c) = c

-- the value isn't a container
abbrev pub IsScalar : JsonbValue → Type 0
IsScalar (scalar s) = ⊤
IsScalar (nested c) = ⊥

-- the scalar, without its place in memory
abbrev pub lent_scalar : LentScalar → Scalar
lent_scalar lent.Null = Null
lent_scalar (lent.Bool b) = Boolean b
lent_scalar (lent.I16 n) = I16 n
lent_scalar (lent.U16 n) = U16 n
lent_scalar (lent.I32 n) = I32 n
lent_scalar (lent.U32 n) = U32 n
lent_scalar (lent.I64 n) = I64 n
lent_scalar (lent.U64 n) = U64 n
lent_scalar (lent.F64 bits) = F64 bits
lent_scalar (lent.Text text) = Text text.now
lent_scalar (lent.Opaque type bytes) = Opaque type bytes.now

-- the value of an entry, without its place in memory
abbrev pub node_view : Node → JsonbValue
node_view (node.Container c) = nested (frame c)
node_view (node.Scalar s) = scalar (lent_scalar s)
