use Rattle.std.proofs.Common.{◌≡◌, ◌++◌, ℕ, List, length}
use Rattle.binlog_file.specs.Events.{magic}
use Rattle.binlog_file.specs.TableMaps.{most_kept}
use Rattle.binlog_file.specs.Checkpoints.{Restores}
use Rattle.binlog_file.specs.Workings.Readers.{kept_by}
use Rattle.binlog_file.proofs.reader.restore.Given as goal

abbrev pub invariant-loop-left : goal.invariant-loop-left
invariant-loop-left l = record {
  so_far : (x : List ℕ) × (magic ++ l.bytes ≡ x ++ l.left) × Restores x (kept_by l.kept);
  most : most_kept l.kept.tables ≡ most_kept l.initial.kept.tables;
}

abbrev pub decreases-loop-left : goal.decreases-loop-left
decreases-loop-left l = length l.left
