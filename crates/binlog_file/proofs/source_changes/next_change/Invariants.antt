use Rattle.std.proofs.Common.{◌≡◌, ◌≤◌, None}
use Rattle.binlog_file.specs.SourceChanges.{SourceTakes, AreTold, CountsPending, items_left, turns}
use Rattle.binlog_file.specs.Workings.KeptSteps.{KeptSoFar}
use Rattle.binlog_file.specs.Workings.SourceWalks.{reading_in, most_kept_by}
use Rattle.binlog_file.proofs.source_changes.next_change.Given as goal

abbrev pub invariant-loop-alloc : goal.invariant-loop-alloc
invariant-loop-alloc g l = record {
  takes : SourceTakes (g.C.Choice.wanted l.choice) (g.S.Source.remaining l.initial.source) (reading_in l.initial.walk) l.initial.walk.pending None (g.S.Source.remaining l.source) (reading_in l.walk) l.walk.pending;
  most : items_left (reading_in l.walk) l.walk.pending ≤ items_left (reading_in l.initial.walk) l.initial.walk.pending;
  bound : most_kept_by l.walk ≡ most_kept_by l.initial.walk;
  keeps : KeptSoFar l.initial.walk.pending (g.S.Source.remaining l.initial.source) (reading_in l.initial.walk) (g.S.Source.remaining l.source) (reading_in l.walk) l.walk.pending;
  counts : AreTold l.initial.walk.pending → CountsPending l.walk.pending (g.S.Source.failures l.initial.source) (g.S.Source.failures l.source);
}

abbrev pub decreases-loop-alloc : goal.decreases-loop-alloc
decreases-loop-alloc g l = turns (reading_in l.walk)
