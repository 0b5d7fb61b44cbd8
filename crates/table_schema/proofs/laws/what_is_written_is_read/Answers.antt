use Rattle.table_schema.proofs.Escapes.{text_read}
use Rattle.table_schema.proofs.NamesRead.{names_written}
use Rattle.table_schema.proofs.laws.what_is_written_is_read.Goals as goal

pub returns-clause-text : goal.returns-clause-text
returns-clause-text c = text_read

pub returns-clause-names : goal.returns-clause-names
returns-clause-names c = names_written
