-- The header of a file is taken from a source.
use Rattle.std.proofs.Common.{◌≡◌, ◌⊎◌, ℕ, zero, suc, ◌<◌, ◌≤◌, false, List, ◌++◌, length, take, Option, inl, inr, arith}
use Rattle.std.proofs.lemmas.List.{take-append-le}
use Rattle.binlog_events.specs.declared.error.FileError.{FileError}
use Rattle.binlog_file.specs.Events.{is_binlog, no_binlog}
use Rattle.binlog_file.specs.Stream.{Fills, NoHeader}
use Rattle.binlog_file.proofs.RawRead.{all_taken, all_left}

short_or_not : (n : ℕ) → (n < 4) ⊎ (4 ≤ n)
short_or_not zero = inl (omega arith)
short_or_not (suc zero) = inl (omega arith)
short_or_not (suc (suc zero)) = inl (omega arith)
short_or_not (suc (suc (suc zero))) = inl (omega arith)
short_or_not (suc (suc (suc (suc n)))) = inr (omega arith)

pub no_header : (old new : Option (List ℕ)) (x : List ℕ) (e : FileError) → Fills 4 old new x → is_binlog x ≡ false → e ≡ no_binlog x → NoHeader old e
no_header old new x e f other same = elim (short_or_not (length x)) [
  | inl short ↦ inr (x, other, same, all_taken old new x f.taken (f.ends short))
  | inr long ↦
      let more = all_left old new x f.taken in
      let front : take 4 (x ++ more.0) ≡ take 4 x = take-append-le 4 x more.0 long in
      inr (x ++ more.0, rw front other, rw front same, more.1)
]
