-- Where a reading of changes from a source is. It is a module of its own because SourceWalk is a type of
-- the code.
use Rattle.std.specs.Prelude.{ℕ, ◌+◌}
use Rattle.binlog_file.specs.TableMaps.{most_kept}
use Rattle.binlog_file.specs.Stream.{Kept, Reading}
use Rattle.binlog_file.specs.Workings.Readers.{kept_by, reading_of}
use Rattle.binlog_file.specs.declared.walk.SourceWalk.{SourceWalk}

abbrev pub reading_in : SourceWalk → Reading
reading_in w = reading_of w.reader

abbrev pub kept_in : SourceWalk → Kept
kept_in w = kept_by w.reader.kept

-- how many bytes the table map events and plans take at most that are kept past the end of statements,
-- beside the last 64 plans
abbrev pub most_kept_by : SourceWalk → ℕ
most_kept_by w = most_kept w.reader.kept.tables + w.plans.stored.most
