use Rattle.binlog_table.specs.Lemmas.TableMap.{same_table_map, spelled_server}
use Rattle.binlog_table.proofs.laws.servers_share_the_layout.Goals as goal

pub returns-clause-spelled : goal.returns-clause-spelled
returns-clause-spelled c = λ s r n x t h. (same_table_map s r n).spells x t h

pub returns-clause-refused : goal.returns-clause-refused
returns-clause-refused c = λ s r n x e h. (same_table_map s r n).refuses x e h

pub returns-clause-server : goal.returns-clause-server
returns-clause-server c = λ s n x t h. spelled_server s n x t h
