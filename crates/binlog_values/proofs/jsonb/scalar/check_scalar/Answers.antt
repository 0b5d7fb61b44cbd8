use Rattle.binlog_values.proofs.JsonbWalk.{checked_text, unchecked_text}
use Rattle.binlog_values.proofs.jsonb.scalar.check_scalar.Goals as goal

pub returns-in-Some-clause-checked : goal.returns-in-Some-clause-checked
returns-in-Some-clause-checked c = rw c.in-Text.is (checked_text c.in-Text.text.now c.in-Some.ensures.1)

pub returns-in-None-clause-checked : goal.returns-in-None-clause-checked
returns-in-None-clause-checked c = rw c.in-Text.is (λ not. unchecked_text c.in-Text.text.now c.in-None.ensures)
