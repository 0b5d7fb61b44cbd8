-- What isn't told.
use Rattle.std.proofs.Common.{refl, ◌∙◌}
use Rattle.change_lines.specs.declared.notes.Notes.{Notes}
use Rattle.change_lines.specs.Silent.{IsSilent}

pub stays_silent : {E K : Type 0} (a : Notes E K) → IsSilent a a
stays_silent a = record { err = refl; lost = refl; quiet = refl; len = refl; meter = refl }

pub silent_more : {E K : Type 0} {a b d : Notes E K} → IsSilent a b → IsSilent b d → IsSilent a d
silent_more h k = record {
  err = k.err ∙ h.err;
  lost = k.lost ∙ h.lost;
  quiet = k.quiet ∙ h.quiet;
  len = k.len ∙ h.len;
  meter = k.meter ∙ h.meter;
}
