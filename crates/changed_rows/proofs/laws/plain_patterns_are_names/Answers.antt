use Rattle.changed_rows.proofs.PlainPatterns.{plain_name, plain_table}
use Rattle.changed_rows.proofs.laws.plain_patterns_are_names.Goals as goal

pub returns : goal.returns
returns c = record { names = plain_name; tables = plain_table }
