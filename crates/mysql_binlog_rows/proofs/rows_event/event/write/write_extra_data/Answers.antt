use Rattle.std.proofs.Common.{◌≡◌, ℕ, ◌+◌, ◌<◌, ◌%◌, true, length, List, rules, ap, ◌∙◌, subst, arith}
use Rattle.std.proofs.Math.Nat.{mod-eq_of_lt}
use Rattle.std.proofs.lemmas.Result.{err_from_is_err_and}
use Rattle.binlog_base.specs.Endian.{little_bytes}
use Rattle.binlog_base.specs.Writing.{Begins}
use Rattle.binlog_base.proofs.Appending.{begins_more}
use Rattle.mysql_binlog_rows.specs.RowsEventWritten.{extra_data_bytes}
use Rattle.mysql_binlog_rows.proofs.rows_event.event.write.write_extra_data.Goals as goal

pub returns-in_err-serialize : goal.returns-in_err-serialize
unfolding extra_data_bytes
returns-in_err-serialize c =
    let p = err_from_is_err_and c.from_residual.result c.from_residual.ensures.1 in
    let written : c.args.is_written ≡ true = search rules in
    let extra = c.args.extra_data.now in
    let fits : length c.as_bytes-bytes.result.now + 2 < 65536 = omega (arith, c.requires, ap length c.as_bytes-bytes.ensures) in
    let len : (length c.as_bytes-bytes.result.now + 2) % 65536 ≡ length extra + 2 =
    mod-eq_of_lt fits ∙ ap (λ (x : List ℕ). length x + 2) c.as_bytes-bytes.ensures in
    rw (p.1, written) (begins_more _ _ (little_bytes 2 (length extra + 2)) extra
    (subst (λ (n : ℕ). Begins c.args.buf.now.items c.serialize.new.buf.items (little_bytes 2 n)) len c.in_err-serialize.ensures))
