use Rattle.table_schema.proofs.CompletedColumns.{name_known}
use Rattle.table_schema.proofs.Signs.{sign_known}
use Rattle.table_schema.proofs.CharacterSets.{charset_known}
use Rattle.table_schema.proofs.ValueNames.{sets_known, enums_known}
use Rattle.table_schema.proofs.laws.completed_columns_are_known.Goals as goal

pub returns-clause-name : goal.returns-clause-name
returns-clause-name c = name_known

pub returns-clause-sign : goal.returns-clause-sign
returns-clause-sign c = sign_known

pub returns-clause-charset : goal.returns-clause-charset
returns-clause-charset c = charset_known

pub returns-clause-sets : goal.returns-clause-sets
returns-clause-sets c = sets_known

pub returns-clause-enums : goal.returns-clause-enums
returns-clause-enums c = enums_known
