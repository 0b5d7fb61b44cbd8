use Rattle.std.proofs.Common.{rules, length, sym, ap, ◌∙◌}
use Rattle.binlog_values.proofs.LentDocuments.{one_more, no_fault, none_left, no_bytes, some_bytes}
use Rattle.binlog_values.proofs.documents.LentDiffsIterIterator.next.Goals as goal

pub returns-then-is_empty-clause-steps : goal.returns-then-is_empty-clause-steps
returns-then-is_empty-clause-steps c =
    let none = none_left c.in-Bytes.bytes.now (no_bytes c.in-Bytes.bytes.now (sym c.is_empty.ensures ∙ c.if-is_empty.true)) in
    (search (rules, none), search (rules, none))

pub invariant_of-self : goal.invariant_of-self
invariant_of-self c = (one_more c.in-Bytes.bytes.now c.parse.new.self.0.now c.in-Ok.diff (search rules) c.in-Ok.ensures.parses).0

pub unreachable-requires : goal.unreachable-requires
unreachable-requires c = no_fault c.in-Bytes.bytes.now c.in-Err.field-0 (search rules) (some_bytes c.in-Bytes.bytes.now (sym c.is_empty.ensures ∙ c.if-is_empty.false)) c.in-Err.ensures.parses

pub returns-in-Ok-clause-steps : goal.returns-in-Ok-clause-steps
returns-in-Ok-clause-steps c = search (rules, (one_more c.in-Bytes.bytes.now c.parse.new.self.0.now c.in-Ok.diff (search rules) c.in-Ok.ensures.parses).1)

pub returns-in-Ok-clause-goes : goal.returns-in-Ok-clause-goes
returns-in-Ok-clause-goes c =
    let more = (one_more c.in-Bytes.bytes.now c.parse.new.self.0.now c.in-Ok.diff (search rules) c.in-Ok.ensures.parses).1 in
    search (rules, ap length more)
