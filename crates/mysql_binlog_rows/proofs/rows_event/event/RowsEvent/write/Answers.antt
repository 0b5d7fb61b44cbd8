use Rattle.std.proofs.Common.{◌≡◌, ℕ, ◌%◌, ◌++◌, ◌∙◌, ap, subst}
use Rattle.std.proofs.Math.Nat.{mod-eq_of_lt}
use Rattle.std.proofs.lemmas.Result.{err_from_is_err_and}
use Rattle.binlog_base.specs.Endian.{little_bytes}
use Rattle.binlog_base.specs.Writing.{Begins}
use Rattle.binlog_base.proofs.Appending.{begins_more, begins_then, appends_then}
use Rattle.mysql_binlog_rows.specs.RowsEvent.{RowsEvent as Event, writes_extra_data}
use Rattle.mysql_binlog_rows.specs.RowsEventWritten.{extra_data_bytes, columns_bytes, written_rows_event}
use Rattle.mysql_binlog_rows.proofs.rows_event.event.RowsEvent.write.Goals as goal

pub returns-in_err-serialize : goal.returns-in_err-serialize
unfolding written_rows_event
returns-in_err-serialize c =
    let e = c.args.self.now in
    let more = little_bytes 2 e.flags ++ (extra_data_bytes (writes_extra_data e.event_type) e.extra_data ++ columns_bytes e) in
    let p = err_from_is_err_and c.from_residual.result c.from_residual.ensures.1 in
    rw p.1 (begins_more _ _ (little_bytes 6 e.table_id) more (rw (← c.self.view_is) c.in_err-serialize.ensures))

pub returns-in_err-serialize-2 : goal.returns-in_err-serialize-2
unfolding written_rows_event
returns-in_err-serialize-2 c =
    let e = c.args.self.now in
    let more = extra_data_bytes (writes_extra_data e.event_type) e.extra_data ++ columns_bytes e in
    let p = err_from_is_err_and c.from_residual-in_err-serialize-2.result c.from_residual-in_err-serialize-2.ensures.1 in
    rw p.1 (begins_then c.args.buf.now.items c.serialize.new.buf.items _ (little_bytes 6 e.table_id) (little_bytes 2 e.flags ++ more) (rw (← c.self.view_is) c.in_ok-serialize.ensures)
    (begins_more _ _ (little_bytes 2 e.flags) more (subst (λ (n : ℕ). Begins c.serialize.new.buf.items c.serialize-2.new.buf.items (little_bytes 2 n)) (mod-eq_of_lt c.self.invariant.flags ∙ ap (λ (s : Event). s.flags) c.self.view_is) c.in_err-serialize-2.ensures)))

pub returns : goal.returns
unfolding written_rows_event
returns c =
    let e = c.args.self.now in
    let more = extra_data_bytes (writes_extra_data e.event_type) e.extra_data ++ columns_bytes e in
    let flags : c.self.inside.flags % 65536 ≡ e.flags = mod-eq_of_lt c.self.invariant.flags ∙ ap (λ (s : Event). s.flags) c.self.view_is in
    let second = subst (λ (n : ℕ). c.serialize-2.new.buf.items ≡ c.serialize.new.buf.items ++ little_bytes 2 n) flags c.in_ok-serialize-2.ensures in
    appends_then c.write_parts.result c.args.buf.now.items c.serialize.new.buf.items c.write_parts.new.buf.items (little_bytes 6 e.table_id) (little_bytes 2 e.flags ++ more)
    (rw (← c.self.view_is) c.in_ok-serialize.ensures)
    (appends_then c.write_parts.result c.serialize.new.buf.items c.serialize-2.new.buf.items c.write_parts.new.buf.items (little_bytes 2 e.flags) more second c.write_parts.ensures)
