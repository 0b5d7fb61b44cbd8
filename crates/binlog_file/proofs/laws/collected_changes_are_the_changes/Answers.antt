use Rattle.binlog_file.specs.Changes.{IsMemory}
use Rattle.binlog_file.specs.Stream.{IsOutside}
use Rattle.binlog_file.proofs.Followed.{of_file}
use Rattle.binlog_file.proofs.SourceLent.{outside}
use Rattle.binlog_file.proofs.ChangesCollected.{collects_all, collects_all_asked}
use Rattle.binlog_file.proofs.laws.collected_changes_are_the_changes.Goals as goal

pub returns-clause-in_memory : goal.returns-clause-in_memory
returns-clause-in_memory c = λ w. collects_all IsMemory w (λ d memory. memory)

pub returns-clause-from_source : goal.returns-clause-from_source
returns-clause-from_source c = λ w. collects_all IsOutside w outside

pub returns-clause-asked_in_memory : goal.returns-clause-asked_in_memory
returns-clause-asked_in_memory c = λ w types. collects_all_asked IsMemory w types (λ d memory. memory)

pub returns-clause-asked_from_source : goal.returns-clause-asked_from_source
returns-clause-asked_from_source c = λ w types. collects_all_asked IsOutside w types outside

pub returns-clause-of_file : goal.returns-clause-of_file
returns-clause-of_file c = of_file
