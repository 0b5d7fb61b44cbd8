use Rattle.binlog_values.proofs.JsonbWalk.{text_is, text_refused}
use Rattle.binlog_values.proofs.jsonb.scalar.string_scalar.Goals as goal

pub returns-in_ok-from_str-in-Some : goal.returns-in_ok-from_str-in-Some
returns-in_ok-from_str-in-Some c = rw (c.in_ok-from_str-in-Some.ensures.ok, c.in-Some.ensures.0) (text_is _ c.in-Some.ensures.1)

pub returns-in-None : goal.returns-in-None
returns-in-None c = λ not. text_refused _ c.in-None.ensures
