use Rattle.std.proofs.Common.{List, subst}
use Rattle.std.specs.List.{flat_map}
use Rattle.row_json.specs.Wrote.{Adds, Named, named_tokens}
use Rattle.row_json.proofs.Objects.{pair_wrote}
use Rattle.row_json.proofs.pair.write_images.Goals as goal

pub returns-clause-written : goal.returns-clause-written
returns-clause-written g c =
    let m = c.in_ok-write.ensures.written in
    let own = subst (λ (ms : List Named). Adds c.begin_pair.new.out c.write.new.out (flat_map named_tokens ms)) m.1 m.2 in
    pair_wrote c.end_pair.result c.args.table.now c.args.event.now (g.M.Members.members c.args.members.now) (g.P.Images.pair c.args.pair.now) c.args.out.now c.begin_pair.new.out c.write.new.out c.end_pair.new.out c.in_ok-begin_pair.ensures.written own c.end_pair.ensures.written
