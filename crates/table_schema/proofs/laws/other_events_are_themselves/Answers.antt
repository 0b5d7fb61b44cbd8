use Rattle.table_schema.proofs.Stays.{names_itself, fault_itself, misfit_itself}
use Rattle.table_schema.proofs.laws.other_events_are_themselves.Goals as goal

pub returns-clause-names : goal.returns-clause-names
returns-clause-names c = names_itself

pub returns-clause-fault : goal.returns-clause-fault
returns-clause-fault c = fault_itself

pub returns-clause-misfit : goal.returns-clause-misfit
returns-clause-misfit c = misfit_itself
