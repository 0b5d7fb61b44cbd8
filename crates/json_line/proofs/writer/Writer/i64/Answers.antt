use Rattle.std.proofs.Common.{rules, to_z-of_z}
use Rattle.json.proofs.Printed.Decimals.{IsNumber-signed_decimal}
use Rattle.json_line.proofs.Pieces.{signed_text}
use Rattle.json_line.proofs.writer.Writer.i64.Goals as goal

pub decimal-requires : goal.decimal-requires
decimal-requires c = rw (c.unsigned_abs.ensures.value, to_z-of_z c.ranges.n, signed_text c.args.n) (search (rules, IsNumber-signed_decimal))

pub returns : goal.returns
returns c = rw (c.unsigned_abs.ensures.value, to_z-of_z c.ranges.n, signed_text c.args.n) at c.decimal.ensures
