use Rattle.std.proofs.lemmas.Result.{err_from_is_err_and}
use Rattle.binlog_base.specs.Strings.{u8_string_bytes}
use Rattle.binlog_base.proofs.Appending.{begins_more}
use Rattle.binlog_base.proofs.below.raw.bytes.U8BytesBytesRepr.serialize.Goals as goal

pub returns-in_err-put_byte : goal.returns-in_err-put_byte
unfolding u8_string_bytes
returns-in_err-put_byte c =
    let p = err_from_is_err_and c.from_residual.result c.from_residual.ensures.1 in
    rw (← c.prefix-text.ensures.items, p.1) (begins_more _ _ _ c.prefix-text.result.now c.in_err-put_byte.ensures)
