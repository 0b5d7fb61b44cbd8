use Rattle.std.proofs.Common.{true, false}
use Rattle.binlog_base.specs.declared.below.columns.server.Server.TheVariants.{MySql}
use Rattle.binlog_base.specs.Lemmas.Format.{reads_from_parses}
use Rattle.binlog_table.specs.TableMap as Spec
use Rattle.binlog_table.specs.Lemmas.TableMap.{exact_table_map}
use Rattle.binlog_table.proofs.table_map.event.TableMapEventMyDeserialize.deserialize.Goals as goal

pub returns-clause-reads : goal.returns-clause-reads
returns-clause-reads c =
    reads_from_parses true false _ (Spec.table_map c.args.post_header_len) (exact_table_map MySql c.args.post_header_len) c.read.result c.args.buf.now.0.now c.read.new.buf.0.now c.read.ensures
