use Rattle.std.proofs.Common.{◌++◌}
use Rattle.std.specs.Prelude.{codes}
use Rattle.json.specs.Print.{print}
use Rattle.row_json.proofs.Lines.{line_is}
use Rattle.row_json.proofs.line.add_line.Goals as goal

pub returns-clause-written : goal.returns-clause-written
returns-clause-written g c =
    let out = c.write_images.new.out in
    let line = (out.before ++ print out.tokens) ++ codes "\n" in
    let is = line_is c.args.table.now c.args.event.now (g.M.Members.members c.args.members.now) (g.P.Images.pair c.args.pair.now) c.restart.new.self out (g.met.M.Members.fits c.args.members.now) c.restart.ensures.before c.restart.ensures.tokens
    c.in_ok-write_images.ensures.written c.add_to.ensures.reads_back in
    (line, is, c.in_ok-add_to.ensures.added)
