use Rattle.binlog_values.proofs.JsonbNumbers.{faults_at_numbers, faults_first}
use Rattle.binlog_values.proofs.laws.first_faults_have_numbers.Goals as goal

pub returns-clause-there : goal.returns-clause-there
returns-clause-there c = faults_at_numbers

pub returns-clause-first : goal.returns-clause-first
returns-clause-first c = faults_first
