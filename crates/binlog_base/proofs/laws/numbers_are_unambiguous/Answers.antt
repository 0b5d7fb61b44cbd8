use Rattle.binlog_base.specs.Lemmas.Format.{one_spelling}
use Rattle.binlog_base.proofs.laws.numbers_are_unambiguous.Goals as goal

pub returns : goal.returns
returns g c = λ x y r s a b. one_spelling g.T.IntRepr.format g.met.T.IntRepr.exact x y r s a b
