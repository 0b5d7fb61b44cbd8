-- The numbers and kinds of faults, and which faults bytes can have.
use Rattle.std.specs.Prelude.{ℕ, Bool, true, false, IsTrue, Result, IfErr}
use Rattle.binlog_base.specs.declared.fault.Fault.{Fault}
use Rattle.binlog_base.specs.declared.fault.Fault.TheVariants as fault
use Rattle.binlog_base.specs.declared.fault.FaultKind.{FaultKind}
use Rattle.binlog_base.specs.declared.fault.FaultKind.TheVariants as kind

-- the number of each fault
abbrev pub number_of : Fault → ℕ
number_of fault.UnexpectedEof = 1
number_of fault.BadLenEnc = 2
number_of (fault.UnknownColumnType _) = 3
number_of (fault.UnexpectedColumnType _) = 4
number_of fault.NoColumnType = 5
number_of fault.MissingMetadata = 6
number_of fault.UnknownEnum = 7
number_of fault.UnknownBlob = 8
number_of fault.Unhandled = 9
number_of fault.DecimalScale = 10
number_of fault.DecimalGroup = 11
number_of fault.TimeRange = 12
number_of fault.YearRange = 13
number_of (fault.UnknownOptionalField _) = 14
number_of fault.BytesRemaining = 15
number_of (fault.UnknownGeometryType _) = 16
number_of (fault.Jsonb _) = 17
number_of (fault.UnknownJsonbType _) = 18
number_of (fault.UnknownLiteralType _) = 19
number_of fault.BadVarLen = 20
number_of fault.InvalidUtf8 = 21
number_of fault.OpaqueTooShort = 22
number_of fault.NestingTooDeep = 23
number_of fault.TooManyValues = 24
number_of (fault.UnknownJsonDiffOperation _) = 25
number_of fault.EmptyPair = 26
number_of fault.Reader = 27
number_of fault.Memory = 28

-- the kind of each fault
abbrev pub kind_of : Fault → FaultKind
kind_of fault.UnexpectedEof = kind.UnexpectedEof
kind_of fault.BadLenEnc = kind.Other
kind_of fault.BytesRemaining = kind.Other
kind_of fault.Reader = kind.Reader
kind_of fault.Memory = kind.Memory
kind_of _ = kind.InvalidData

-- whether bytes can have the fault: it isn't Reader or Memory, and it isn't that of one of the
-- limits on a JSON document
abbrev pub is_of_bytes : Fault → Bool
is_of_bytes fault.Reader = false
is_of_bytes fault.Memory = false
is_of_bytes fault.NestingTooDeep = false
is_of_bytes fault.TooManyValues = false
is_of_bytes _ = true

-- bytes can have the fault
abbrev pub IsOfBytes : Fault → Type 0
IsOfBytes e = IsTrue (is_of_bytes e)

-- a value, or a fault that bytes can have
abbrev pub OfBytes : {A : Type 0} → Result A Fault → Type 0
OfBytes r = IfErr r IsOfBytes
