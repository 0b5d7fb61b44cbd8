use Rattle.std.proofs.Common.{arith}
use Rattle.binlog_table.proofs.Strings.{appends_whole}
use Rattle.binlog_table.proofs.table_map.strings.write_string.Goals as goal

pub returns : goal.returns
returns c =
    appends_whole c.serialize.result c.args.buf.now.items c.serialize.new.buf.items c.args.text.now c.as_bytes.result.now
    c.as_bytes.ensures (omega (arith, c.as_bytes.type_inv)) c.serialize.ensures
