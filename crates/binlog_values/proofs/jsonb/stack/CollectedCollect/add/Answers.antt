use Rattle.binlog_values.proofs.JsonbStacked.{collected-item}
use Rattle.binlog_values.proofs.jsonb.stack.CollectedCollect.add.Goals as goal

pub returns-in_ok-push-in-Items-clause-entry : goal.returns-in_ok-push-in-Items-clause-entry
returns-in_ok-push-in-Items-clause-entry c = λ of front t h is.
    collected-item c.in-Items.items c.push.new.self c.args.value of front c.args.key.now t (rw c.in-Items.is at h) is c.in_ok-push-in-Items.ensures.items

pub returns-in-Members-clause-entry : goal.returns-in-Members-clause-entry
returns-in-Members-clause-entry c = rw c.in-Members.is c.add_member.ensures.entry
