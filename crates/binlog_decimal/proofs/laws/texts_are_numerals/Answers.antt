use Rattle.binlog_decimal.proofs.DecimalGrammar.{texts_are_numerals}
use Rattle.binlog_decimal.proofs.laws.texts_are_numerals.Goals as goal

pub returns : goal.returns
returns c = λ text d. texts_are_numerals text d
