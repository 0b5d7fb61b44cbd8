-- What a Printer keeps. It is a module of its own because Printer is a type of the code.
use Rattle.std.specs.Prelude.{◌≡◌}
use Rattle.change_lines.specs.Lines.{manner_of}
use Rattle.change_lines.specs.declared.run.Printer.{Printer}

-- it prints the same file in the same way
pub record IsSame (old new : Printer) : Type 0 where
  pub manner : manner_of new.settings.now ≡ manner_of old.settings.now
  pub form : new.settings.now.form ≡ old.settings.now.form
  pub positions : new.settings.now.filter.positions ≡ old.settings.now.filter.positions
  pub file : new.file.now ≡ old.file.now
  pub path : new.path.now ≡ old.path.now
