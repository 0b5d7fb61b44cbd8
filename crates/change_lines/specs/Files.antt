-- Runs over several files. It is a module of its own because Arguments is a type of the code.
use Rattle.std.specs.Prelude.{◌≡◌, ◌≢◌, ◌⊎◌, ◌<◌, ◌^◌, ℕ, zero, suc, Bool, true, false, if◌then◌else◌, List, ◌==◌, length, drop, slice_get, Option, Some, Result, Ok, Err, ⊤}
use Rattle.std.specs.IoError.{error_kind}
use Rattle.std.specs.declared.io.ErrorKind.TheVariants as kind
use Rattle.std.specs.Io.KnownBytes.{Appends}
use Rattle.std.specs.Str.{NoCharPasses}
use Rattle.std.specs.Str.Pattern.{HasCharAt}
use Rattle.binlog_events.specs.declared.error.EventError.TheVariants as error
use Rattle.binlog_file.specs.Changes.{IsMemory}
use Rattle.change_lines.specs.declared.arguments.Arguments.{Arguments}
use Rattle.change_lines.specs.declared.error.Failure.{Failure}
use Rattle.change_lines.specs.declared.error.Failure.TheVariants as failure
use Rattle.change_lines.specs.declared.run.Ended.{Ended}
use Rattle.change_lines.specs.declared.run.Ended.TheVariants as ended
use Rattle.row_lines.specs.Names.{shown_name}
use Rattle.changed_rows.specs.declared.count.Counts.{Counts}
use Rattle.changed_rows.specs.Counted.{table_text}
use Rattle.change_lines.specs.Notes.{Tells, TellsSome, IsTold}
use Rattle.change_lines.specs.Arguments.{settings_of, texts}
use Rattle.change_lines.specs.Failures.{IsOutput}
use Rattle.change_lines.specs.Runs.{IsRun, EndsBy, at_last}

abbrev pub is_slash : ℕ → Bool
is_slash c = c == 47

-- the last part of a path: what stands after a slash and has none, or all of it where it has no slash
abbrev pub IsFileName : List ℕ → List ℕ → Type 0
IsFileName path name =
    (NoCharPasses is_slash path × (name ≡ path))
    ⊎ ((i j : ℕ) × HasCharAt 47 path i j × (name ≡ drop j path) × NoCharPasses is_slash name)

-- the name of a file in its lines: in lines of text as it is shown
abbrev pub name_in_lines : Bool → List ℕ → List ℕ
name_in_lines is_text name = if is_text then shown_name name else name

-- What the run over the file of this path gives: what a run gives over its bytes, by the settings of this number.
abbrev pub IsRunOfPath : Arguments → (List ℕ → Option (List ℕ)) → ℕ → List ℕ → Counts → Counts → Option (List ℕ) → Option (List ℕ) → Result ℕ Failure → Type 0
IsRunOfPath a bytes index path before after old new result =
    (name : List ℕ) × IsFileName path name
    × ((x : List ℕ) → bytes path ≡ Some x → length x < 2 ^ 64 → (may_wait : Bool) × IsRun (settings_of a index may_wait) (name_in_lines a.is_text name) x before after old new result)

-- no other file is read after it: it is of the output, or memory was refused
abbrev pub EndsAll : Failure → Type 0
EndsAll (failure.Output e) = ⊤
EndsAll failure.Memory = ⊤
EndsAll (failure.Unopened e) = error_kind e ≡ kind.OutOfMemory
EndsAll (failure.File e) = IsMemory e.error
EndsAll (failure.NoEvent n) = ⊥

-- it is of the file alone, so that the next one is read
abbrev pub IsOwn : Failure → Type 0
IsOwn (failure.Output e) = ⊥
IsOwn failure.Memory = ⊥
IsOwn (failure.Unopened e) = error_kind e ≢ kind.OutOfMemory
IsOwn (failure.File e) = e.error ≢ error.Memory
IsOwn (failure.NoEvent n) = ⊤

-- A failure of the file of this path was told last, unless something couldn't be told.
abbrev pub IsToldLast : List ℕ → Failure → Bool → Option (List ℕ) → Type 0
IsToldLast path why is_lost told =
    (text : List ℕ) × IsTold (shown_name path) why text × (was_lost : Bool) × (before : Option (List ℕ)) × Tells was_lost before is_lost told text

-- How it ends after the run over the file of this path, which gave this result: as before it; or failed, where events
-- were skipped, or by a failure of the file alone, which was told.
abbrev pub GoesOn : List ℕ → Ended → Result ℕ Failure → Ended → Bool → Option (List ℕ) → Type 0
GoesOn path before (Ok zero) after is_lost told = after ≡ before
GoesOn path before (Ok (suc n)) after is_lost told = after ≡ ended.Failed
GoesOn path before (Err why) after is_lost told = IsOwn why × (after ≡ ended.Failed) × IsToldLast path why is_lost told

-- So many of the first files were read, one after the other, and it ends so. Of each that failed this was told, after
-- its lines.
abbrev pub AreFirstFiles : Arguments → (List ℕ → Option (List ℕ)) → ℕ → Counts → Counts → Option (List ℕ) → Option (List ℕ) → Ended → Bool → Option (List ℕ) → Type 0
AreFirstFiles a bytes zero before after old new e is_lost told = (after ≡ before) × (new ≡ old) × (e ≡ ended.Whole)
AreFirstFiles a bytes (suc n) before after old new e is_lost told =
    (counts : Counts) × (mid : Option (List ℕ)) × (was : Ended) × (was_lost : Bool) × (was_told : Option (List ℕ))
    × AreFirstFiles a bytes n before counts old mid was was_lost was_told
    × (path : List ℕ) × (slice_get (texts a.files.now) n ≡ Some path)
    × (result : Result ℕ Failure) × IsRunOfPath a bytes n path counts after mid new result
    × GoesOn path was result e is_lost told

-- The files before the one of this path were read, one after the other, and it ended so; then the run over that one failed.
abbrev pub AreFilesUpTo : Arguments → (List ℕ → Option (List ℕ)) → List ℕ → Failure → Counts → Counts → Option (List ℕ) → Option (List ℕ) → Ended → Type 0
AreFilesUpTo a bytes path why before after old new was =
    (n : ℕ) × (slice_get (texts a.files.now) n ≡ Some path) × (counts : Counts) × (mid : Option (List ℕ))
    × (was_lost : Bool) × (was_told : Option (List ℕ)) × AreFirstFiles a bytes n before counts old mid was was_lost was_told
    × IsRunOfPath a bytes n path counts after mid new (Err why) × EndsAll why

-- It ends by this failure of the file of this path, unless it had failed before. The failure is told last, unless whoever
-- read the output went away.
abbrev pub IsEndBy : List ℕ → Failure → Ended → Ended → Bool → Option (List ℕ) → Type 0
IsEndBy path why before after is_lost told =
    (last : Ended) × EndsBy last why × (after ≡ at_last before last) × (last ≡ ended.Failed → IsToldLast path why is_lost told)

-- All files were read, one after the other, and notes may follow; or it ends by the first failure of the output or
-- of memory.
abbrev pub EndFiles : Arguments → (List ℕ → Option (List ℕ)) → Counts → Counts → Option (List ℕ) → Option (List ℕ) → Ended → Bool → Option (List ℕ) → Type 0
EndFiles a bytes before after old new e is_lost told =
    ((was_lost : Bool) × (was_told : Option (List ℕ)) × AreFirstFiles a bytes (length a.files.now) before after old new e was_lost was_told × TellsSome was_lost was_told is_lost told)
    ⊎ ((path : List ℕ) × (why : Failure) × (was : Ended) × AreFilesUpTo a bytes path why before after old new was × IsEndBy path why was e is_lost told)

-- The table of the counts was written, and it ends as before; or it couldn't be, and it ends by that failure, unless it
-- had failed before.
abbrev pub PrintsCountsAfter : Ended → Counts → Option (List ℕ) → Option (List ℕ) → Ended → Type 0
PrintsCountsAfter before counts old new after =
    (Appends old new (table_text counts) × (after ≡ before))
    ⊎ ((why : Failure) × (IsOutput why ⊎ (why ≡ failure.Memory)) × (last : Ended) × EndsBy last why × (after ≡ at_last before last))

-- The table of the counts is written where they are asked for and whoever reads the output is still there.
abbrev pub PrintsCounts : Bool → Ended → Counts → Option (List ℕ) → Option (List ℕ) → Ended → Type 0
PrintsCounts false before counts old new after = (new ≡ old) × (after ≡ before)
PrintsCounts true ended.Closed counts old new after = (new ≡ old) × (after ≡ ended.Closed)
PrintsCounts true before counts old new after = PrintsCountsAfter before counts old new after
