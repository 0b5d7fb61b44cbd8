-- What a run prints. It is a module of its own because Settings is a type of the code.
use Rattle.std.specs.Prelude.{◌≡◌, ◌⊎◌, ℕ, true, List, [], Option, None, Result, Ok, Err, length, OnOk, IfOk, IfErr}
use Rattle.std.specs.Io.KnownBytes.{Appends}
use Rattle.std.specs.declared.io.Error.{Error}
use Rattle.binlog_file.specs.Events.{Event, is_binlog}
use Rattle.binlog_file.specs.Changes.{Spot, first_spot}
use Rattle.std.specs.IoError.{error_kind}
use Rattle.std.specs.declared.io.ErrorKind.TheVariants as kind
use Rattle.change_lines.specs.declared.error.Failure.{Failure}
use Rattle.change_lines.specs.declared.error.Failure.TheVariants as failure
use Rattle.change_lines.specs.declared.run.Settings.{Settings}
use Rattle.change_lines.specs.declared.run.Ended.{Ended}
use Rattle.change_lines.specs.declared.run.Ended.TheVariants as ended
use Rattle.changed_rows.specs.Filters.{wanted_by, start_sought}
use Rattle.change_lines.specs.Lines.{manner_of, AreLines, IsEnd, IsBegun}
use Rattle.change_lines.specs.NotedFiles.{AreAllNoted}
use Rattle.changed_rows.specs.Names.{up_to_most}
use Rattle.changed_rows.specs.declared.gaps.Gaps.{Gaps}
use Rattle.binlog_events.specs.declared.error.FileError.{FileError}
use Rattle.changed_rows.specs.declared.count.Counts.{Counts}
use Rattle.change_lines.specs.declared.run.Form.TheVariants as form
use Rattle.change_lines.specs.Waits.{IsFlushed}
use Rattle.change_lines.specs.Failures.{EndsAtHeader, AreFirst, IsOutput, AppendsUpTo}
use Rattle.change_lines.specs.CountedFiles.{AreAllCounted, AreFirstOfFile, CountsThese}

-- These are all lines of a file of this name and these bytes: those of the events from its beginning up to
-- its end or the stop position, each of which is read without an error, but for the rows of those that are
-- skipped. One of them begins at the start position, where one is looked for there.
pub record AreAllLines (settings : Settings) (file : List ℕ) (x : List ℕ) (text : List ℕ) : Type 0 where
  pub magic : is_binlog x ≡ true
  pub events : List Event
  pub end : Spot
  pub gtid : Option (List ℕ)
  pub lines : AreLines (manner_of settings) (wanted_by settings.filter) file (first_spot x) None events text end gtid
  pub is_end : IsEnd settings.filter.positions.stop end
  pub begun : IsBegun (start_sought settings.filter.positions) events

-- These are first lines of a file of this name and these bytes, up to a failure: none, where it is no binlog
-- file; or those of some first events, each of which is read without an error, and then those of some first
-- rows of the next one. Rows of events past the stop position aren't wanted, so that no line is theirs, and
-- no error of the file is of such an event.
abbrev pub AreFirstLines : Failure → Settings → List ℕ → List ℕ → List ℕ → Type 0
AreFirstLines why settings file x text =
    ((text ≡ []) × EndsAtHeader why x)
    ⊎ ((is_binlog x ≡ true) × AreFirst why (manner_of settings) settings.filter.positions.stop (wanted_by settings.filter) file (first_spot x) None text)

-- What a run over a file of this name and these bytes gives: it appends all lines to the output, and counts all
-- rows if they are counted; or the first of them, if it fails. If it doesn't, so many events were skipped, up to the
-- most that a number holds.
pub record IsRun (settings : Settings) (file x : List ℕ) (before after : Counts) (old new : Option (List ℕ)) (result : Result ℕ Failure) : Type 0 where
  pub lines : OnOk result ((text : List ℕ) × AreAllLines settings file x text × Appends old new text)
  pub first_lines : IfErr result (λ why. (text : List ℕ) × AreFirstLines why settings file x text × AppendsUpTo why old new text)
  pub counts : settings.form ≡ form.Count → OnOk result (CountsThese (AreAllCounted settings x) before after)
  pub skipped : IfOk result (λ n. (gaps : Gaps) × (faults : List FileError) × AreAllNoted settings x gaps faults × (n ≡ up_to_most (length faults)))
  pub first_counts : settings.form ≡ form.Count → IfErr result (λ why. CountsThese (AreFirstOfFile why settings x) before after)

-- A run leaves the output flushed. If it fails, the output may have failed, or nothing was done with it.
abbrev pub IsLeftFlushed : {O : Type 0} → (O → Result (Unit {0}) Error → O → Type 0) → Result ℕ Failure → O → O → Type 0
IsLeftFlushed flushes (Ok n) old new = IsFlushed flushes new
IsLeftFlushed flushes (Err why) old new = IsOutput why ⊎ ((new ≡ old) ⊎ IsFlushed flushes new)

-- the output failed because whoever read it went away
abbrev pub IsBrokenPipe : Failure → Type 0
IsBrokenPipe (failure.Output e) = error_kind e ≡ kind.BrokenPipe
IsBrokenPipe _ = ⊥

-- how a run ends by a failure: closed, if whoever read the output went away, and else failed
abbrev pub EndsBy : Ended → Failure → Type 0
EndsBy ended.Whole why = ⊥
EndsBy ended.Closed why = IsBrokenPipe why
EndsBy ended.Failed why = IsBrokenPipe why → ⊥

-- the exit status: 1 if an error was told
abbrev pub status_of : Ended → ℕ
status_of ended.Failed = 1
status_of _ = 0

-- how two runs end, one after the other: as the last one, unless the first failed
abbrev pub at_last : Ended → Ended → Ended
at_last ended.Failed last = ended.Failed
at_last before last = last
