use Rattle.binlog_values.proofs.JsonbNumbers.{numbers_add, positions_values, positions_entries, entries_positions, one_path}
use Rattle.binlog_values.proofs.laws.numbers_add_up.Goals as goal

pub returns-clause-number : goal.returns-clause-number
returns-clause-number c = numbers_add

pub returns-clause-count : goal.returns-clause-count
returns-clause-count c = positions_values

pub returns-clause-entry : goal.returns-clause-entry
returns-clause-entry c = positions_entries

pub returns-clause-position : goal.returns-clause-position
returns-clause-position c = entries_positions

pub returns-clause-path : goal.returns-clause-path
returns-clause-path c = one_path
