-- What is written of a rows event spells it, so it is read back.
use Rattle.std.proofs.Common.{◌≡◌, ◌≢◌, ℕ, ◌+◌, ◌≤◌, Bool, true, false, List, [], length, Option, Some, None, refl, sym, ap, subst, ◌∙◌, append-nil, arith}
use Rattle.std.specs.Prelude.{◌==◌}
use Rattle.binlog_base.specs.Endian.{little_bytes}
use Rattle.binlog_base.specs.Format.{no_bytes, choice}
use Rattle.binlog_base.specs.Numbers.{lenenc_bytes}
use Rattle.binlog_base.specs.Lemmas.NumbersWritten.{little_written, lenenc_written}
use Rattle.binlog_consts.specs.declared.consts.event_type.EventType.{EventType}
use Rattle.binlog_table.specs.Lemmas.TableMapWritten.{table_id_written}
use Rattle.mysql_binlog_rows.specs.declared.rows_event.event.RowsEventCtx.{RowsEventCtx}
use Rattle.mysql_binlog_rows.specs.RowsEvent.{RowsEvent, has_before, has_after, extra_data, bitmap, rows_event, writes_extra_data}
use Rattle.mysql_binlog_rows.specs.RowsEventWritten.{IsBitmap, IsRowsEvent, extra_data_bytes, bitmap_bytes, columns_bytes, written_rows_event, KeepsExtraData, WrittenEventsSpellThemselves, ReadEventsKeepExtraData, WrittenEventsReadBack}
use Rattle.mysql_binlog_rows.specs.Lemmas.RowsEvent.{exact_rows_event}

extra_data_written : (b : Bool) (extra : List ℕ) → length extra ≤ 65533 → (b ≡ false → extra ≡ []) → (choice b extra_data (no_bytes [])).spells (extra_data_bytes b extra) extra
unfolding extra_data extra_data_bytes
extra_data_written true extra fits kept =
    (length extra + 2, little_bytes 2 (length extra + 2), extra, refl, little_written 2 (length extra + 2) (omega arith), (refl, omega arith))
extra_data_written false extra fits kept = (refl, kept refl)

bitmap_written : (b : Bool) (count : ℕ) (bits : Option (List ℕ)) → IsBitmap b count bits → (bitmap b count).spells (bitmap_bytes bits) bits
unfolding bitmap
bitmap_written true count (Some x) h = (x, x, [], sym (append-nil x), (refl, h.len x refl), (refl, refl))
bitmap_written false count None h = (refl, refl)
bitmap_written true count None h = let there = h.there in absurd cc
bitmap_written false count (Some x) h = let there = h.there in absurd cc

-- an event's own type, with these post-header lengths
abbrev ctx_of : EventType → ℕ → ℕ → RowsEventCtx
ctx_of type m n = record { event_type = type; post_header_len = m; write_rows_post_header_len = n }

written_spells : (m n : ℕ) (e : RowsEvent) → m ≢ 6 → (m == n) ≡ writes_extra_data e.event_type → KeepsExtraData e → IsRowsEvent e → (rows_event (ctx_of e.event_type m n)).spells (written_rows_event e) e
unfolding rows_event written_rows_event columns_bytes
written_spells m n e other takes keeps w =
    let b = writes_extra_data e.event_type in (
      e.table_id,
      little_bytes 6 e.table_id,
      _,
      refl,
      table_id_written m e.table_id other w.table_id,
      (
        e.flags,
        little_bytes 2 e.flags,
        _,
        refl,
        little_written 2 e.flags w.flags,
        (
          e.extra_data,
          extra_data_bytes b e.extra_data,
          _,
          refl,
          rw takes (extra_data_written b e.extra_data w.extra_data keeps),
          (
            e.num_columns,
            lenenc_bytes e.num_columns,
            _,
            refl,
            lenenc_written e.num_columns w.num_columns,
            (
              e.before,
              bitmap_bytes e.before,
              _,
              refl,
              bitmap_written (has_before e.event_type) e.num_columns e.before w.before,
              (
                e.after,
                bitmap_bytes e.after,
                _,
                refl,
                bitmap_written (has_after e.event_type) e.num_columns e.after w.after,
                (
                  e.rows_data,
                  e.rows_data,
                  [],
                  sym (append-nil e.rows_data),
                  refl,
                  (refl, refl),
                ),
              ),
            ),
          ),
        ),
      ),
    )

pub written_rows_event_spelled : WrittenEventsSpellThemselves
written_rows_event_spelled e w keeps ctx is reads =
    subst (λ (c : RowsEventCtx). (rows_event c).spells (written_rows_event e) e) (ap (λ (t : EventType). ctx_of t ctx.post_header_len ctx.write_rows_post_header_len) (sym is))
    (written_spells ctx.post_header_len ctx.write_rows_post_header_len e reads.six_bytes (reads.extra_data ∙ ap writes_extra_data is) keeps w)

-- where extra data was taken exactly for those types, there is none to lose
choice_keeps : (b : Bool) (x extra : List ℕ) → (choice b extra_data (no_bytes [])).spells x extra → b ≡ false → extra ≡ []
choice_keeps true x extra s e = absurd cc
choice_keeps false x extra s e = s.1

pub read_keeps_extra_data : ReadEventsKeepExtraData
unfolding rows_event
read_keeps_extra_data ctx x e s takes =
    let e-is = s.5.5.5.5.5.5.5.1 in
    let type-is : e.event_type ≡ ctx.event_type = ap (λ (d : RowsEvent). d.event_type) e-is in
    let extra-is : e.extra_data ≡ s.5.5.0 = ap (λ (d : RowsEvent). d.extra_data) e-is in
    (type-is, λ none. extra-is ∙ choice_keeps (ctx.post_header_len == ctx.write_rows_post_header_len) s.5.5.1 s.5.5.0 s.5.5.4 (takes ∙ sym (ap writes_extra_data type-is) ∙ none))

pub written_rows_event_reads_back : WrittenEventsReadBack
written_rows_event_reads_back old new x e s takes is reads w =
    let kept = read_keeps_extra_data old x e s takes in
    (exact_rows_event new).complete (written_rows_event e) e (written_rows_event_spelled e w kept.1 new (is ∙ sym kept.0) reads)
