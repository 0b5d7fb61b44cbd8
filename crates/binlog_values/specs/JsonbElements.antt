-- The elements, keys and entries of a container, in order.
use Rattle.std.specs.Prelude.{ℕ, zero, suc, ◌-◌, nat_lt, ◌&&◌, not, if◌then◌else◌, List, [], ◌∷◌, Option, Some, None, Result, Ok}
use Rattle.binlog_base.specs.declared.fault.Fault.{Fault}
use Rattle.binlog_base.specs.Format.{◌>>=◌}
use Rattle.binlog_base.specs.Items.{result_map}
use Rattle.binlog_values.specs.JsonbValues.{Frame, JsonbValue, scalar, nested, element_at, key_at}

-- the results for n indexes from i on; those after a faulty one follow it
abbrev pub places : {A : Type 0} → (ℕ → Result A Fault) → ℕ → ℕ → List (Result A Fault)
places f zero i = []
places f (suc n) i = f i ∷ places f n (suc i)

-- the results for all indexes of a container from i on
abbrev pub from : {A : Type 0} → (Frame → ℕ → Result A Fault) → Frame → ℕ → List (Result A Fault)
from f c i = places (f c) (c.count - i) i

-- an entry of an object: its key and its value, the key's fault before the value's
abbrev pub entry_at : Frame → ℕ → Result (List ℕ × JsonbValue) Fault
entry_at c i = key_at c i >>= λ key. element_at c i >>= λ value. Ok (key, value)

-- the element of a value at an index, or its fault; none from the count on, and none in a scalar
abbrev pub elem_in : JsonbValue → ℕ → Result (Option JsonbValue) Fault
elem_in (scalar v) i = Ok None
elem_in (nested c) i = if nat_lt i c.count then result_map Some (element_at c i) else Ok None

-- the key of an object at an index, or its fault; none from the count on, and none in what is no
-- object
abbrev pub key_in : JsonbValue → ℕ → Result (Option (List ℕ)) Fault
key_in (scalar v) i = Ok None
key_in (nested c) i = if not c.is_array && nat_lt i c.count then result_map Some (key_at c i) else Ok None
