use Rattle.binlog_file.proofs.Checkpointed.{leads_to, leads_back, goes_on_with}
use Rattle.binlog_file.proofs.KeptOn.{reached_on}
use Rattle.binlog_file.proofs.laws.checkpoints_lead_back.Goals as goal

pub returns-clause-leads : goal.returns-clause-leads
returns-clause-leads c = leads_to

pub returns-clause-goes_on : goal.returns-clause-goes_on
returns-clause-goes_on c = goes_on_with

pub returns-clause-resumes : goal.returns-clause-resumes
returns-clause-resumes c = leads_back

pub returns-clause-reads : goal.returns-clause-reads
returns-clause-reads c = λ old new k l. reached_on old k new l
