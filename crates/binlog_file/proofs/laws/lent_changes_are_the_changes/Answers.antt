use Rattle.binlog_file.specs.Changes.{IsMemory}
use Rattle.binlog_file.specs.Stream.{IsOutside}
use Rattle.binlog_file.proofs.LentFollowed.{covers_on, changes_on}
use Rattle.binlog_file.proofs.AskedFollowed.{asked_on}
use Rattle.binlog_file.proofs.laws.lent_changes_are_the_changes.Goals as goal

pub returns-clause-pairs : goal.returns-clause-pairs
returns-clause-pairs c = covers_on

pub returns-clause-in_memory : goal.returns-clause-in_memory
returns-clause-in_memory c = changes_on IsMemory

pub returns-clause-from_source : goal.returns-clause-from_source
returns-clause-from_source c = changes_on IsOutside

pub returns-clause-asked_in_memory : goal.returns-clause-asked_in_memory
returns-clause-asked_in_memory c = asked_on IsMemory

pub returns-clause-asked_from_source : goal.returns-clause-asked_from_source
returns-clause-asked_from_source c = asked_on IsOutside
