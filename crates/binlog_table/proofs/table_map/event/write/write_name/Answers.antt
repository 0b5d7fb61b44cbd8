use Rattle.std.proofs.Common.{◌≡◌, [], ◌∷◌, ◌++◌, take, ap, ◌∙◌, subst}
use Rattle.std.proofs.lemmas.List.{take_all}
use Rattle.std.proofs.lemmas.Result.{err_from_is_err_and}
use Rattle.binlog_base.specs.Strings.{u8_string_bytes}
use Rattle.binlog_base.specs.Writing.{Begins}
use Rattle.binlog_base.proofs.Appending.{begins_more, appends_then}
use Rattle.binlog_table.specs.TableMapWritten.{name_bytes}
use Rattle.binlog_table.proofs.table_map.event.write.write_name.Goals as goal

pub returns-in_err-serialize : goal.returns-in_err-serialize
unfolding name_bytes
returns-in_err-serialize c =
    let name = c.args.name.now in
    let same : take 255 c.as_bytes.result.now ≡ name = ap (take 255) c.as_bytes.ensures ∙ take_all 255 name c.requires in
    let p = err_from_is_err_and c.from_residual.result c.from_residual.ensures.1 in
    rw p.1 (begins_more _ _ (u8_string_bytes name) (0 ∷ []) (subst (λ t. Begins c.args.buf.now.items c.serialize.new.buf.items (u8_string_bytes t)) same c.in_err-serialize.ensures))

pub returns : goal.returns
unfolding name_bytes
returns c =
    let name = c.args.name.now in
    let same : take 255 c.as_bytes.result.now ≡ name = ap (take 255) c.as_bytes.ensures ∙ take_all 255 name c.requires in
    appends_then c.serialize-2.result c.args.buf.now.items c.serialize.new.buf.items c.serialize-2.new.buf.items (u8_string_bytes name) (0 ∷ [])
    (subst (λ t. c.serialize.new.buf.items ≡ c.args.buf.now.items ++ u8_string_bytes t) same c.in_ok-serialize.ensures) c.serialize-2.ensures
