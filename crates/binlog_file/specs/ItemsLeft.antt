-- How much is left of a reading. It is a module of its own because SourceChanges is a type of the code.
use Rattle.std.specs.Prelude.{ℕ}
use Rattle.binlog_file.specs.declared.source_changes.SourceChanges.{SourceChanges}
use Rattle.binlog_file.specs.SourceChanges.{items_left}
use Rattle.binlog_file.specs.Workings.SourceWalks.{reading_in}

-- more items than are left: each item that is given makes it less
abbrev pub left : {S C : Type 0} → SourceChanges S C → ℕ
left c = items_left (reading_in c.walk) c.walk.pending
