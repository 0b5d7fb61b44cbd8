use Rattle.binlog_values.proofs.JsonbParts.{headers_long, read_whole, root_whole, inner_whole}
use Rattle.binlog_values.proofs.laws.headers_are_long.Goals as goal

pub returns-clause-long : goal.returns-clause-long
returns-clause-long c = headers_long

pub returns-clause-whole : goal.returns-clause-whole
returns-clause-whole c = read_whole

pub returns-clause-inner : goal.returns-clause-inner
returns-clause-inner c = inner_whole

pub returns-clause-document : goal.returns-clause-document
returns-clause-document c = root_whole
