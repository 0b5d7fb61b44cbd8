-- Reads that may wait.
use Rattle.std.specs.Prelude.{ℕ, Bool, false, List, length, slice_range, nat_lt, nat_le, if◌then◌else◌, Ok, Result}
use Rattle.std.specs.declared.io.Error.{Error}
use Rattle.byteorder.specs.Endian.{little_number}

-- Whether bytes begin with a whole event, by its header of 19 bytes: the size of the event is in those from 9 to 13.
abbrev pub has_event : List ℕ → Bool
has_event bytes = if nat_lt (length bytes) 19 then false else nat_le (little_number 4 (slice_range bytes 9 13)) (length bytes)

-- the output is as a flush left it
abbrev pub IsFlushed : {O : Type 0} → (O → Result (Unit {0}) Error → O → Type 0) → O → Type 0
IsFlushed {O} flushes out = (mid : O) × (u : Unit {0}) × flushes mid (Ok u) out
