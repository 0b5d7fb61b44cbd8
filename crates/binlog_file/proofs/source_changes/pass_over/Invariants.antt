use Rattle.std.proofs.Common.{◌≡◌, ◌≤◌}
use Rattle.binlog_file.specs.SourceChanges.{SourcePasses, ReadsOn, items_left, turns}
use Rattle.binlog_file.specs.Workings.SourceWalks.{reading_in, kept_in, most_kept_by}
use Rattle.binlog_file.proofs.source_changes.pass_over.Given as goal

abbrev pub invariant-loop-walk : goal.invariant-loop-walk
invariant-loop-walk g l = record {
  passes : SourcePasses l.types (g.S.Source.remaining l.initial.source) (reading_in l.initial.walk) l.initial.walk.pending (g.S.Source.remaining l.source) (reading_in l.walk) l.walk.pending;
  most : items_left (reading_in l.walk) l.walk.pending ≤ items_left (reading_in l.initial.walk) l.initial.walk.pending;
  bound : most_kept_by l.walk ≡ most_kept_by l.initial.walk;
  pending : l.walk.pending ≡ l.initial.walk.pending;
  keeps : ReadsOn (g.S.Source.remaining l.initial.source) (kept_in l.initial.walk) (g.S.Source.remaining l.source) (kept_in l.walk);
  over : l.walk.reader.is_over ≡ l.initial.walk.reader.is_over;
  lost : l.walk.reader.is_lost ≡ l.initial.walk.reader.is_lost;
  counts : g.S.Source.failures l.source ≡ g.S.Source.failures l.initial.source;
}

abbrev pub decreases-loop-walk : goal.decreases-loop-walk
decreases-loop-walk g l = turns (reading_in l.walk)
