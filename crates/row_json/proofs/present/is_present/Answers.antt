use Rattle.std.proofs.lemmas.Option.{unwrap_or-slice_get}
use Rattle.row_json.proofs.present.is_present.Goals as goal

pub returns : goal.returns
returns c = rw (c.unwrap_or.ensures, c.get.ensures) (unwrap_or-slice_get c.args.present.now c.args.index _)
