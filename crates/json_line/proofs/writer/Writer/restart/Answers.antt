use Rattle.std.proofs.Common.{[], rules, refl, ap}
use Rattle.json.specs.Lex.{tokens, lex, punctuate}
use Rattle.json.specs.Print.{print_from, ArePrintable}
use Rattle.json_line.proofs.writer.Writer.restart.Goals as goal

pub invariant_of-self : goal.invariant_of-self
unfolding print_from ArePrintable
invariant_of-self c = record { within = search rules; printed = []; printable = tt; text = c.truncate.ensures.items; place = refl }

pub returns-clause-tokens : goal.returns-clause-tokens
unfolding lex punctuate
returns-clause-tokens c = ap tokens c.truncate.ensures.items
