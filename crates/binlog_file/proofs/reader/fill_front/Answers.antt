use Rattle.std.proofs.Common.{take, rules, ap, ◌∙◌}
use Rattle.binlog_file.proofs.Filled.{whole, one_more_part}
use Rattle.binlog_file.proofs.reader.fill_front.Goals as goal

pub loop-len-preserved : goal.loop-len-preserved
loop-len-preserved g c =
    let len = c.loop-len.len in
    let old = c.loop-len.buffer.items in
    let new = c.read_between.new.bytes in
    let all = whole c.make_len.new.buffer.len new c.make_len.new.buffer.items (search rules) in
    let same = c.in_ok-count.ensures.before ∙ ap (take len) c.deref_mut.ensures.value ∙ c.in_ok-make_len.ensures.front len c.loop-len.invariant.within in
    let taken = one_more_part (g.S.Source.remaining c.args.source.now) (g.S.Source.remaining c.loop-len.source) (g.S.Source.remaining c.read_between.new.source) len c.in_ok-count.count old new c.loop-len.invariant.taken same c.in_ok-count.ensures.taken in
    record {
      most = search rules;
      within = rw all (search rules);
      taken = rw all taken;
      counts = c.in_ok-count.ensures.counts ∙ c.loop-len.invariant.counts;
    }
