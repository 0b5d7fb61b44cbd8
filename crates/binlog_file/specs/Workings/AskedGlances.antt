-- Glances at events that are asked for.
use Rattle.std.specs.Prelude.{◌≡◌, ℕ, Bool, true, List, Option, Some, None, Result, Ok, Err, ⊤}
use Rattle.binlog_events.specs.declared.error.FileError.{FileError}
use Rattle.binlog_file.specs.Events.{Glance, Place}
use Rattle.binlog_file.specs.Tables.{InForce}
use Rattle.binlog_file.specs.Changes.{Wanted, Spot, spot}
use Rattle.binlog_file.specs.Workings.Glances.{GlanceSteps}
use Rattle.binlog_file.specs.Stream.{Reading, ReaderGlances, MayGoOn}
use Rattle.binlog_file.specs.Asked.{is_asked}
use Rattle.binlog_file.specs.LentEvents.{PassesOver}
use Rattle.binlog_file.specs.SourceChanges.{SourcePasses, SourceAsked}

-- an error is always asked for
abbrev pub is_glance_asked : List ℕ → Result Glance FileError → Bool
is_glance_asked types (Ok g) = is_asked types g.header.event_type
is_glance_asked types (Err e) = true

abbrev pub IsGlanceAsked : List ℕ → Option (Result Glance FileError) → Type 0
IsGlanceAsked types None = ⊤
IsGlanceAsked types (Some item) = is_glance_asked types item ≡ true

-- a glance at the next event that is asked for, after others that are passed over
pub record GlanceAsked (types : List ℕ) (old : Spot) (item : Option (Result Glance FileError)) (q : Place) (t : InForce) : Type 0 where
  pub passed : ℕ
  pub place : Place
  pub in_force : InForce
  pub passes : PassesOver types passed old (spot place in_force None)
  pub steps : GlanceSteps place in_force item q t
  pub is_asked_for : IsGlanceAsked types item

-- a glance at the next event of a source that is asked for: the reading, past the others, gives it
pub record SourceGlance (types : List ℕ) (old : Option (List ℕ)) (r : Reading) (p : Option FileError) (g : Glance) (new : Option (List ℕ)) (s : Reading) : Type 0 where
  pub mid : Option (List ℕ)
  pub at : Reading
  pub passes : SourcePasses types old r p mid at None
  pub goes_on : MayGoOn at
  pub gives : ReaderGlances mid at (Ok (Some g)) new s
  pub is_asked_for : is_asked types g.header.event_type ≡ true

-- a glance at the next event of a source that is asked for; nothing if none is left; or the error
abbrev pub SourceSights : List ℕ → Option (List ℕ) → Reading → Option FileError → Option (Result Glance FileError) → Option (List ℕ) → Reading → Option FileError → Type 0
SourceSights types old r p None new s q = (wanted : Wanted) → SourceAsked wanted types old r p None new s q
SourceSights types old r p (Some (Err e)) new s q = (wanted : Wanted) → SourceAsked wanted types old r p (Some (Err e)) new s q
SourceSights types old r p (Some (Ok g)) new s q = SourceGlance types old r p g new s × (q ≡ None)
