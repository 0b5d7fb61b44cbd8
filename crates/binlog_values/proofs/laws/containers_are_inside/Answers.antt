use Rattle.binlog_values.proofs.JsonbParts.{in_parents, shorter, in_root, root_inside}
use Rattle.binlog_values.proofs.laws.containers_are_inside.Goals as goal

pub returns-clause-parent : goal.returns-clause-parent
returns-clause-parent c = in_parents

pub returns-clause-shorter : goal.returns-clause-shorter
returns-clause-shorter c = shorter

pub returns-clause-root : goal.returns-clause-root
returns-clause-root c = in_root

pub returns-clause-document : goal.returns-clause-document
returns-clause-document c = root_inside
