use Rattle.std.proofs.Common.{◌≡◌, Option, Some, None, rules, arith, refl, subst, inl}
use Rattle.binlog_file.specs.Changes.{Change}
use Rattle.binlog_file.specs.Stream.{MayGoOn}
use Rattle.binlog_file.specs.Workings.KeptSteps.{KeepsTo}
use Rattle.binlog_file.specs.Workings.SourceWalks.{reading_in}
use Rattle.binlog_file.proofs.KeptOn.{so_far_begun, so_far_more, change_after, failed_after, counts_so_far}
use Rattle.binlog_file.proofs.source_changes.next_change.Goals as goal

pub loop-alloc-init : goal.loop-alloc-init
loop-alloc-init g c = record {
  takes = λ x finds. (x, finds, inl (λ cs out left. left));
  most = omega arith;
  bound = refl;
  keeps = so_far_begun c.args.walk.now.pending (g.S.Source.remaining c.args.source.now) (reading_in c.args.walk.now);
  counts = counts_so_far c.args.walk.now.pending (g.S.Source.failures c.args.source.now);
}

pub loop-alloc-preserved : goal.loop-alloc-preserved
loop-alloc-preserved g c =
    let old = g.S.Source.remaining c.args.source.now in
    let mid = g.S.Source.remaining c.loop-alloc.source in
    let new = g.S.Source.remaining c.read_one.new.source in
    let r = reading_in c.args.walk.now in
    let m = reading_in c.loop-alloc.walk in
    let s = reading_in c.read_one.new.walk in
    let pending = c.loop-alloc.walk.pending in
    let q = c.read_one.new.walk.pending in
    let on : (pending ≡ None) × MayGoOn m = search rules in
    let none : c.read_one.result ≡ None = search rules in
    let step = subst (λ (x : Option Change). KeepsTo mid m x new s q) none c.read_one.ensures.keeps in
    record {
      takes = search rules;
      most = search rules;
      bound = search rules;
      keeps = so_far_more c.args.walk.now.pending pending q old mid new r m s c.loop-alloc.invariant.keeps on.0 on.1.0 step;
      counts = search rules;
    }

pub returns-in-Some-clause-keeps : goal.returns-in-Some-clause-keeps
returns-in-Some-clause-keeps g c =
    let pending = c.loop-alloc.walk.pending in
    let m = reading_in c.loop-alloc.walk in
    let on : (pending ≡ None) × MayGoOn m = search rules in
    (change_after c.args.walk.now.pending pending c.read_one.new.walk.pending (g.S.Source.remaining c.args.source.now) (g.S.Source.remaining c.loop-alloc.source) (g.S.Source.remaining c.read_one.new.source)
    (reading_in c.args.walk.now) m (reading_in c.read_one.new.walk) c.in-Some.change c.loop-alloc.invariant.keeps on.0 on.1.0 c.in-Some.ensures.keeps).0

pub returns-clause-keeps : goal.returns-clause-keeps
returns-clause-keeps g c =
    let pending = c.loop-alloc.walk.pending in
    let is : pending ≡ Some c.in_ok-error.error = search rules in
    (failed_after c.args.walk.now.pending pending (g.S.Source.remaining c.args.source.now) (g.S.Source.remaining c.loop-alloc.source) (reading_in c.args.walk.now) (reading_in c.loop-alloc.walk) (reading_in c.end.new.self)
    c.in_ok-error.error c.loop-alloc.invariant.keeps is c.in_ok-error.ensures.kept c.in_ok-error.ensures.lost).0
