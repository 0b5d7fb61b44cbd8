use Rattle.binlog_values.proofs.JsonbStacked.{collected-member}
use Rattle.binlog_values.proofs.jsonb.stack.add_member.Goals as goal

pub returns-clause-entry : goal.returns-clause-entry
returns-clause-entry c = λ of front t h is.
    collected-member c.args.members.now c.insert.new.self c.in_ok-text.text c.args.value of front c.args.key.now t h is c.in_ok-text.ensures.text c.in_ok-insert.ensures.entries
