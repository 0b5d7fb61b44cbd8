use Rattle.row_json.proofs.Pairs.{pair_is}
use Rattle.row_json.proofs.time.pair_of.Goals as goal

pub returns-clause-digits : goal.returns-clause-digits
returns-clause-digits c = pair_is c.args.number c.requires
