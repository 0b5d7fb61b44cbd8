use Rattle.mysql_binlog_rows.specs.Lemmas.Images.{exact_pair}
use Rattle.mysql_binlog_rows.specs.Images.{pair}
use Rattle.mysql_binlog_rows.proofs.Covers.{pairs_one, no_proper_prefix, covers_one}
use Rattle.mysql_binlog_rows.proofs.laws.pairs_are_unambiguous.Goals as goal

pub returns-clause-one_list : goal.returns-clause-one_list
returns-clause-one_list c = λ t e. pairs_one (pair t e) (exact_pair t e)

pub returns-clause-no_proper_prefix : goal.returns-clause-no_proper_prefix
returns-clause-no_proper_prefix c = λ t e. no_proper_prefix (pair t e) (exact_pair t e)

pub returns-clause-one_cover : goal.returns-clause-one_cover
returns-clause-one_cover c = λ t e. covers_one (pair t e) (exact_pair t e)
