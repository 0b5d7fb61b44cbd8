-- What isn't told. It is a module of its own because Notes is a type of the code.
use Rattle.std.specs.Prelude.{◌≡◌}
use Rattle.change_lines.specs.declared.notes.Notes.{Notes}

-- nothing is told, and what is told later is told as before
pub record IsSilent {E K : Type 0} (old new : Notes E K) : Type 0 where
  pub err : new.err ≡ old.err
  pub lost : new.is_lost ≡ old.is_lost
  pub quiet : new.is_quiet ≡ old.is_quiet
  pub len : new.len ≡ old.len
  pub meter : new.meter ≡ old.meter

-- something may have been told, and what is told later is told as before
pub record IsAsBefore {E K : Type 0} (old new : Notes E K) : Type 0 where
  pub quiet : new.is_quiet ≡ old.is_quiet
  pub len : new.len ≡ old.len
  pub meter : new.meter ≡ old.meter
  pub told : new.told ≡ old.told
