use Rattle.table_schema.specs.Texts.{pieces}
use Rattle.table_schema.proofs.Read.{end_behind}
use Rattle.table_schema.proofs.file.end_of.Goals as goal

pub returns-in-Some-clause-err : goal.returns-in-Some-clause-err
returns-in-Some-clause-err c time = end_behind c.args.number c.in-Some.field-0.0.now c.in-Some.field-0.1.now (pieces 10 c.args.rest.now) c.in-Some.ensures.found time
