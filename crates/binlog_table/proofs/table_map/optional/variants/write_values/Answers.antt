use Rattle.std.proofs.Common.{◌++◌, ◌+◌, ◌<◌, length, take, drop, subst, arith}
use Rattle.std.proofs.lemmas.Result.{err_from_is_err_and}
use Rattle.std.specs.List.{flat_map}
use Rattle.binlog_base.specs.Strings.{lenenc_string_bytes}
use Rattle.binlog_base.specs.Writing.{Begins}
use Rattle.binlog_base.proofs.Appending.{begins_more, begins_then}
use Rattle.binlog_table.proofs.Strings.{strings_split}
use Rattle.binlog_table.proofs.table_map.optional.variants.write_values.Goals as goal

pub returns-in_err-serialize : goal.returns-in_err-serialize
returns-in_err-serialize c =
    let texts = c.args.values.now in
    let i = c.loop-value.value-index in
    let text = c.value-item.result in
    let within : i < length texts = omega (arith, c.loop-value-test.true, c.loop-value.auto.value-index-end) in
    let more = flat_map lenenc_string_bytes (drop (i + 1) texts) in
    let p = err_from_is_err_and c.from_residual.result c.from_residual.ensures.1 in
    rw p.1 (subst (Begins c.args.buf.now.items c.serialize.new.buf.items) (strings_split texts i text within c.value-item.is)
    (begins_then _ _ _ (flat_map lenenc_string_bytes (take i texts)) (lenenc_string_bytes text ++ more) c.loop-value.invariant (begins_more _ _ (lenenc_string_bytes text) more c.in_err-serialize.ensures)))
