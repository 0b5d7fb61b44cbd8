use Rattle.std.proofs.Common.{Some, Ok, Option, is_some, is_none, subst, ap, ◌∙◌}
use Rattle.std.specs.Prelude.{if◌then◌else◌}
use Rattle.binlog_file.specs.Events.{Event}
use Rattle.binlog_file.specs.Stream.{ReadGives}
use Rattle.binlog_file.specs.Workings.Readers.{kept_by}
use Rattle.binlog_file.proofs.StoredRead.{stored_or_other}
use Rattle.binlog_file.proofs.reader.read_stored.Goals as goal

pub returns-in-Some-clause-reads : goal.returns-in-Some-clause-reads
returns-in-Some-clause-reads c =
    let k = kept_by c.args.kept.now in
    let l = kept_by c.read_event.new.kept in
    let x = c.args.left.now.now in
    let rest = c.read_event.new.source.now in
    let e = c.in-Some.event in
    let read = subst (λ (o : Option Event). ReadGives (Some x) k (Ok o) (Some rest) l) c.in-Some.is c.in_ok-event.ensures.gives in
    stored_or_other k l x rest e read c.is_of_checkpoint.result
    (c.is_of_checkpoint.ensures ∙ ap (λ b. if b then is_none e.rows else is_some e.description) c.is_some-has_description.ensures)
