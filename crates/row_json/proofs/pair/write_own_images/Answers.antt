use Rattle.std.proofs.Common.{[]}
use Rattle.row_json.proofs.Steps.{adds_nothing}
use Rattle.row_json.proofs.Objects.{pair_wrote}
use Rattle.row_json.proofs.pair.write_own_images.Goals as goal

pub returns-clause-written : goal.returns-clause-written
returns-clause-written g c =
    pair_wrote c.end_pair.result c.args.table.now c.args.event.now [] (g.P.Images.pair c.args.pair.now) c.args.out.now c.begin_pair.new.out c.begin_pair.new.out c.end_pair.new.out c.in_ok-begin_pair.ensures.written (adds_nothing c.begin_pair.new.out) c.end_pair.ensures.written
