use Rattle.std.proofs.Common.{◌++◌, refl, sym, subst, ◌∙◌}
use Rattle.binlog_file.specs.Events.{magic}
use Rattle.binlog_file.specs.Stream.{Kept}
use Rattle.binlog_file.specs.Checkpoints.{Restores, begun}
use Rattle.binlog_file.specs.Workings.Readers.{kept_by}
use Rattle.binlog_file.proofs.StoredRead.{one_more, shorter}
use Rattle.binlog_file.proofs.reader.restore.Goals as goal

pub loop-left-init : goal.loop-left-init
loop-left-init c = record {
  so_far = (magic, refl, subst (λ (k : Kept). Restores magic k) (sym c.requires.first) begun);
  most = refl;
}

pub loop-left-smaller : goal.loop-left-smaller
loop-left-smaller c = shorter c.loop-left.left.now c.take_stored.new.left.now (kept_by c.loop-left.kept) (kept_by c.take_stored.new.kept) c.in_ok-take_stored.ensures.ok

pub loop-left-preserved : goal.loop-left-preserved
loop-left-preserved c =
    let s = c.loop-left.invariant.so_far in
    record {
      so_far = one_more (magic ++ c.args.bytes.now) s.0 c.loop-left.left.now c.take_stored.new.left.now (kept_by c.loop-left.kept) (kept_by c.take_stored.new.kept) s.1 s.2 c.in_ok-take_stored.ensures.ok;
      most = c.in_ok-take_stored.ensures.most ∙ c.loop-left.invariant.most;
    }
