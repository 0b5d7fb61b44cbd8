-- What is in a buffer after a call that writes at its end.
use Rattle.std.specs.Prelude.{◌≡◌, ℕ, List, ◌++◌, take, length, Result, Ok, Err}

-- these bytes are a prefix of the whole
abbrev pub IsPrefix : List ℕ → List ℕ → Type 0
IsPrefix bytes whole = take (length bytes) whole ≡ bytes

-- the new content is the old content and then a prefix of the bytes
pub record Begins (old new bytes : List ℕ) : Type 0 where
  pub kept : IsPrefix old new
  pub within : IsPrefix new (old ++ bytes)

-- the bytes come after the old content; where memory was refused, a prefix of them
abbrev pub Appends : {X E : Type 0} → Result X E → List ℕ → List ℕ → List ℕ → Type 0
Appends (Ok _) old new bytes = new ≡ old ++ bytes
Appends (Err _) old new bytes = Begins old new bytes

-- a writer, and how many bytes it may still take
pub record LimitedState (T : Type 0) : Type 0 where
  pub write : T
  pub limit : ℕ
