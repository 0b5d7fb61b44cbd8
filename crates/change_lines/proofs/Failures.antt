-- What was written where a run ends early.
use Rattle.std.proofs.Common.{◌≡◌, ◌≢◌, ◌⊎◌, inr, ℕ, true, List, [], ◌++◌, Option, Result, Ok, Err, IfErr, refl, sym, ap, subst, ◌∙◌, append_assoc, append-nil}
use Rattle.std.specs.Io.KnownBytes.{Appends, Keeps}
use Rattle.std.proofs.KnownBytes.{Appends-nil, Appends-trans, Appends-kept}
use Rattle.binlog_base.specs.declared.fault.Fault.{Fault}
use Rattle.binlog_base.specs.declared.fault.Fault.TheVariants as fault
use Rattle.mysql_binlog_rows.specs.Images.{Pair}
use Rattle.binlog_file.specs.Events.{Event}
use Rattle.binlog_file.specs.Changes.{Wanted, Spot}
use Rattle.changed_rows.specs.Names.{is_before}
use Rattle.binlog_file.specs.LentChanges.{LentChange}
use Rattle.mysql_binlog_rows.specs.RowsEvent.{RowsEvent}
use Rattle.row_json.specs.Columns.{Column}
use Rattle.row_json.specs.Faults.{IsFaultOfPair}
use Rattle.change_lines.specs.declared.error.Failure.{Failure}
use Rattle.change_lines.specs.declared.error.Failure.TheVariants as failure
use Rattle.change_lines.specs.Outputs.{Outputs, AppendsFirst}
use Rattle.change_lines.specs.Failures.{IsOutput, IsNotOfFile, EndsAtRow, EndsAtEvent, MissesNone, IsNotOfRow, IsMissing, IsInTime, IsLost, IsLostBy, OutputsUpTo, AppendsUpTo, IsRowFailure, IsLineFailure}

-- nothing is lost, whatever the failure is
pub no_loss : (f : Failure) → IsLost f []
no_loss (failure.File e) = refl
no_loss (failure.NoEvent n) = refl
no_loss (failure.Output e) = tt
no_loss (failure.Unopened e) = refl
no_loss failure.Memory = refl

-- anything may be lost if the output failed
pub output_loss : (f : Failure) (lost : List ℕ) → IsOutput f → IsLost f lost
output_loss (failure.File e) lost is = absurd is
output_loss (failure.NoEvent n) lost is = absurd is
output_loss (failure.Output e) lost is = tt
output_loss (failure.Unopened e) lost is = absurd is
output_loss failure.Memory lost is = absurd is

-- all was written that was to be
pub up_to_all : (f : Failure) (a b : Option (List ℕ)) (held text left : List ℕ) → Outputs a held text b left → OutputsUpTo f a held text b left
up_to_all f a b held text left h = (h.0, [], h.1, h.2 ∙ ap (λ (t : List ℕ). h.0 ++ t) (sym (append-nil left)), no_loss f)

-- nothing was to be written
pub up_to_nothing : (f : Failure) (a : Option (List ℕ)) (held : List ℕ) → OutputsUpTo f a held [] a held
up_to_nothing f a held = ([], [], Appends-nil a, refl, no_loss f)

-- nothing more was to be written, and what is held back is the same
pub up_to_here : (f : Failure) (a b : Option (List ℕ)) (held text mid left : List ℕ) → Outputs a held text b mid → left ≡ mid → OutputsUpTo f a held text b left
up_to_here f a b held text mid left h same = up_to_all f a b held text left (subst (λ (t : List ℕ). Outputs a held text b t) (sym same) h)

-- a text was written, and more up to a failure
pub up_to_more : (f : Failure) (a b d : Option (List ℕ)) (held mid left first more : List ℕ) → Outputs a held first b mid → OutputsUpTo f b mid more d left → OutputsUpTo f a held (first ++ more) d left
up_to_more f a b d held mid left first more h k = (
  h.0 ++ k.0,
  k.1,
  Appends-trans a b d h.0 k.0 h.1 k.2,
  sym (append_assoc held first more) ∙ ap (λ (t : List ℕ). t ++ more) h.2 ∙ append_assoc h.0 mid more ∙ ap (λ (t : List ℕ). h.0 ++ t) k.3 ∙ sym (append_assoc h.0 k.0 (left ++ k.1)),
  k.4,
)

-- a line was held back, and then the output failed
pub up_to_line : (f : Failure) (a b : Option (List ℕ)) (held line mid left : List ℕ) → mid ≡ held ++ line → OutputsUpTo f a mid [] b left → OutputsUpTo f a held line b left
up_to_line f a b held line mid left is h = (h.0, h.1, h.2, sym is ∙ sym (append-nil mid) ∙ h.3, h.4)

-- the output failed, and nothing is held back any more
pub output_failed : (f : Failure) (a b : Option (List ℕ)) (held left : List ℕ) → IsOutput f → AppendsFirst a b held → left ≡ [] → OutputsUpTo f a held [] b left
output_failed f a b held left is h none = (
  h.0,
  h.1,
  h.2,
  append-nil held ∙ h.3 ∙ ap (λ (t : List ℕ). h.0 ++ (t ++ h.1)) (sym none),
  output_loss f h.1 is,
)

-- the output failed before a line
pub failed_before : (f : Failure) (a b : Option (List ℕ)) (held line left : List ℕ) → IsOutput f → AppendsFirst a b held → left ≡ [] → OutputsUpTo f a held line b left
failed_before f a b held line left is h none = (
  h.0,
  h.1 ++ line,
  h.2,
  ap (λ (t : List ℕ). t ++ line) h.3 ∙ append_assoc h.0 h.1 line ∙ ap (λ (t : List ℕ). h.0 ++ (t ++ (h.1 ++ line))) (sym none),
  output_loss f (h.1 ++ line) is,
)

-- the output failed within a line
pub failed_within : (f : Failure) (a b d : Option (List ℕ)) (held line left : List ℕ) → IsOutput f → Appends a b held → AppendsFirst b d line → left ≡ [] → OutputsUpTo f a held line d left
failed_within f a b d held line left is h k none = (
  held ++ k.0,
  k.1,
  Appends-trans a b d held k.0 h k.2,
  ap (λ (t : List ℕ). held ++ t) k.3 ∙ sym (append_assoc held k.0 k.1) ∙ ap (λ (t : List ℕ). (held ++ k.0) ++ (t ++ k.1)) (sym none),
  output_loss f k.1 is,
)

-- nothing was written, and all is held back as it was
pub up_to_same : (f : Failure) (a : Option (List ℕ)) (held left : List ℕ) → left ≡ held → OutputsUpTo f a held [] a left
up_to_same f a held left same = subst (λ (t : List ℕ). OutputsUpTo f a held [] a t) (sym same) (up_to_nothing f a held)

-- ---- at the end

pub nothing_appended : (why : Failure) (a : Option (List ℕ)) → AppendsUpTo why a a []
nothing_appended why a = ([], [], Appends-nil a, refl, no_loss why)

-- A text was written or is held back, but for what is lost.
abbrev pub OutputsBut : Option (List ℕ) → List ℕ → List ℕ → Option (List ℕ) → List ℕ → List ℕ → Type 0
OutputsBut old held text new left lost = (written : List ℕ) × Appends old new written × (held ++ text ≡ written ++ (left ++ lost))

-- what was held back was written after all else, or a beginning of it
pub all_appended : (why : Failure) (a b e : Option (List ℕ)) (held text left lost : List ℕ) → OutputsBut a held text b left lost → held ≡ [] → AppendsUpTo why b e (left ++ lost) → AppendsUpTo why a e text
all_appended why a b e held text left lost h empty k = (
  h.0 ++ k.0,
  k.1,
  Appends-trans a b e h.0 k.0 h.1 k.2,
  ap (λ (t : List ℕ). t ++ text) (sym empty) ∙ h.2 ∙ ap (λ (t : List ℕ). h.0 ++ t) k.3 ∙ sym (append_assoc h.0 k.0 k.1),
  k.4,
)

-- the output failed, and a beginning of a text was written
pub failed_appended : (why : Failure) (a b : Option (List ℕ)) (text lost : List ℕ) → IsOutput why → AppendsFirst a b text → AppendsUpTo why a b (text ++ lost)
failed_appended why a b text lost is h = (
  h.0,
  h.1 ++ lost,
  h.2,
  ap (λ (t : List ℕ). t ++ lost) h.3 ∙ append_assoc h.0 h.1 lost,
  output_loss why (h.1 ++ lost) is,
)

-- a text was written, and the output keeps it
pub kept_appended : {A : Type 0} (r : Result A Failure) (a b d : Option (List ℕ)) (text : List ℕ) → Appends a b text → Keeps b d → IfErr r (λ why. (lost : List ℕ) → IsLostBy r lost → AppendsUpTo why a d (text ++ lost))
kept_appended (Ok x) a b d text h kept = tt
kept_appended (Err why) a b d text h kept = λ lost is. (text, lost, Appends-kept a b d text h kept, refl, is)

pub own_error : {A : Type 0} (r : Result A Failure) → IfErr r (λ why. IsOutput why ⊎ (r ≡ Err why))
own_error (Ok x) = tt
own_error (Err why) = inr refl

-- ---- what a failure is of

pub output_not_file : (why : Failure) → IsOutput why → IsNotOfFile why
output_not_file (failure.File e) is = absurd is
output_not_file (failure.NoEvent n) is = tt
output_not_file (failure.Output e) is = tt
output_not_file (failure.Unopened e) is = tt
output_not_file failure.Memory is = tt

pub output_not_row : (why : Failure) → IsOutput why → IsNotOfRow why
output_not_row (failure.File e) is = absurd is
output_not_row (failure.NoEvent n) is = tt
output_not_row (failure.Output e) is = tt
output_not_row (failure.Unopened e) is = tt
output_not_row failure.Memory is = tt

pub not_at_row : (why : Failure) (c : LentChange) (k : ℕ) (rest : List ℕ) → IsNotOfFile why → EndsAtRow why c k rest
not_at_row (failure.File e) c k rest not = absurd not
not_at_row (failure.NoEvent n) c k rest not = tt
not_at_row (failure.Output e) c k rest not = tt
not_at_row (failure.Unopened e) c k rest not = tt
not_at_row failure.Memory c k rest not = tt

pub not_at_event : (why : Failure) (wanted : Wanted) (at : Spot) → IsNotOfFile why → EndsAtEvent why wanted at
not_at_event (failure.File e) wanted at not = absurd not
not_at_event (failure.NoEvent n) wanted at not = tt
not_at_event (failure.Output e) wanted at not = tt
not_at_event (failure.Unopened e) wanted at not = tt
not_at_event failure.Memory wanted at not = tt

pub not_late : (why : Failure) (stop : Option ℕ) (at : Spot) → IsNotOfFile why → IsInTime why stop at
not_late (failure.File e) stop at not = absurd not
not_late (failure.NoEvent n) stop at not = tt
not_late (failure.Output e) stop at not = tt
not_late (failure.Unopened e) stop at not = tt
not_late failure.Memory stop at not = tt

pub in_time_of : (why : Failure) (stop : Option ℕ) (at : Spot) → is_before stop at.place.at ≡ true → IsInTime why stop at
in_time_of (failure.File e) stop at before = before
in_time_of (failure.NoEvent n) stop at before = tt
in_time_of (failure.Output e) stop at before = tt
in_time_of (failure.Unopened e) stop at before = tt
in_time_of failure.Memory stop at before = tt

pub output_misses_none : (why : Failure) → IsOutput why → MissesNone why
output_misses_none (failure.File e) is = tt
output_misses_none (failure.NoEvent n) is = absurd is
output_misses_none (failure.Output e) is = tt
output_misses_none (failure.Unopened e) is = tt
output_misses_none failure.Memory is = tt

pub nothing_missing : (why : Failure) (stop : Option ℕ) (es : List Event) (at : Spot) → MissesNone why → IsMissing why stop es at
nothing_missing (failure.File e) stop es at none = tt
nothing_missing (failure.NoEvent n) stop es at none = absurd none
nothing_missing (failure.Output e) stop es at none = tt
nothing_missing (failure.Unopened e) stop es at none = tt
nothing_missing failure.Memory stop es at none = tt

-- the failure of a row whose line can't be made is that of one of its documents
pub line_failure : (cs : List Column) (d : RowsEvent) (at row : ℕ) (f : Fault) (p : Pair) (why : Failure) → IsRowFailure at row f why → (f ≢ fault.Memory → IsFaultOfPair cs d p f) → IsLineFailure cs d at row p why
line_failure cs d at row f p (failure.File e) h is = (h.1, f, is h.0, h.2)
line_failure cs d at row f p (failure.NoEvent n) h is = absurd h
line_failure cs d at row f p (failure.Output e) h is = absurd h
line_failure cs d at row f p (failure.Unopened e) h is = absurd h
line_failure cs d at row f p failure.Memory h is = tt
