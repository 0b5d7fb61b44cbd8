use Rattle.std.proofs.Common.{rules}
use Rattle.json.proofs.Printed.Decimals.{IsNumber-decimal}
use Rattle.json_line.proofs.writer.Writer.u64.Goals as goal

pub decimal-requires : goal.decimal-requires
decimal-requires c = IsNumber-decimal c.args.n (search rules)
