use Rattle.binlog_base.specs.Lemmas.NumbersWritten.{lenenc_shortest, varlen_shortest}
use Rattle.binlog_base.proofs.laws.numbers_are_shortest.Goals as goal

pub returns-clause-lenenc : goal.returns-clause-lenenc
returns-clause-lenenc c = lenenc_shortest

pub returns-clause-varlen : goal.returns-clause-varlen
returns-clause-varlen c = varlen_shortest
