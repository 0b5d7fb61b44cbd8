-- Reading a rows event is exact: the bytes alone decide what is read or which fault comes.
use Rattle.std.proofs.Common.{◌≡◌, sym, ap, ◌∙◌, append-nil}
use Rattle.std.proofs.lemmas.List.{append_assoc}
use Rattle.std.specs.Prelude.{ℕ, ◌-◌, ◌==◌, Bool, Some, None, List, [], ◌++◌}
use Rattle.binlog_base.specs.Format.{IsExact, IsExactToEnd, take_bytes}
use Rattle.binlog_base.specs.Lemmas.Format.{exact_take_bytes, exact_no_bytes, exact_sequence, exact_map_value, exact_choice, exact_map_all_left, to_end_both}
use Rattle.binlog_base.specs.Numbers.{little_endian}
use Rattle.binlog_base.specs.Lemmas.Numbers.{exact_little_endian, exact_lenenc}
use Rattle.binlog_base.specs.Bits.{bitmap_len}
use Rattle.mysql_binlog_rows.specs.declared.rows_event.event.RowsEventCtx.{RowsEventCtx}
use Rattle.binlog_table.specs.Lemmas.TableMap.{exact_table_id}
use Rattle.mysql_binlog_rows.specs.RowsEvent.{RowsEvent, EndsWith, extra_data, bitmap, rows_event, has_before, has_after}

exact_extra_data : IsExact extra_data
unfolding extra_data
exact_extra_data = exact_sequence (little_endian 2) _ (exact_little_endian 2) (λ n. exact_take_bytes (n - 2))

exact_bitmap : (is_there : Bool) (count : ℕ) → IsExact (bitmap is_there count)
unfolding bitmap
exact_bitmap is_there count = exact_choice is_there _ _ (exact_map_value (take_bytes (bitmap_len count)) Some (exact_take_bytes (bitmap_len count))) (exact_no_bytes None)

pub exact_rows_event : (ctx : RowsEventCtx) → IsExactToEnd (rows_event ctx)
unfolding rows_event
exact_rows_event ctx =
    to_end_both _ _ (exact_table_id ctx.post_header_len) (λ id.
    to_end_both _ _ (exact_little_endian 2) (λ flags.
    to_end_both _ _ (exact_choice (ctx.post_header_len == ctx.write_rows_post_header_len) _ _ exact_extra_data (exact_no_bytes [])) (λ extra.
    to_end_both _ _ exact_lenenc (λ count.
    to_end_both _ _ (exact_bitmap (has_before ctx.event_type) count) (λ before.
    to_end_both _ _ (exact_bitmap (has_after ctx.event_type) count) (λ after.
    exact_map_all_left _))))))

after : (x y z end : List ℕ) → x ≡ y ++ z → EndsWith z end → EndsWith x end
after x y z end parts ends = (y ++ ends.0, parts ∙ ap (λ (w : List ℕ). y ++ w) ends.1 ∙ sym (append_assoc y ends.0 end))

-- the last bytes of an event are its rows data
pub rows_data_last : (ctx : RowsEventCtx) (x : List ℕ) (e : RowsEvent) → (rows_event ctx).spells x e → EndsWith x e.rows_data
unfolding rows_event
rows_data_last ctx x e id =
    let flags = id.5 in
    let extra = flags.5 in
    let count = extra.5 in
    let before = count.5 in
    let after_image = before.5 in
    let rows = after_image.5 in
    let value : e.rows_data ≡ rows.0 = ap (λ (d : RowsEvent). d.rows_data) rows.5.1 in
    let last : rows.1 ++ rows.2 ≡ e.rows_data = ap (λ (w : List ℕ). rows.1 ++ w) rows.5.0 ∙ append-nil rows.1 ∙ sym (value ∙ rows.4) in
    let end = e.rows_data in
    after x id.1 id.2 end id.3
    (after id.2 flags.1 flags.2 end flags.3
    (after flags.2 extra.1 extra.2 end extra.3
    (after extra.2 count.1 count.2 end count.3
    (after count.2 before.1 before.2 end before.3
    (after before.2 after_image.1 after_image.2 end after_image.3
    ([], rows.3 ∙ last))))))
