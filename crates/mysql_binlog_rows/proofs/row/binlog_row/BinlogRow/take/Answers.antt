use Rattle.std.proofs.Common.{◌≡◌, ◌≤◌, map, length, set, None, ap, subst, refl, ◌∙◌, arith}
use Rattle.std.specs.Option.{option_map}
use Rattle.std.specs.Rc.{rc_slice_items}
use Rattle.std.proofs.lemmas.List.{map-set, length-map}
use Rattle.std.proofs.lemmas.Option.{slice_get_past}
use Rattle.binlog_cells.specs.Cells.{cell_of}
use Rattle.mysql_binlog_rows.specs.Images.{BinlogRow}
use Rattle.mysql_binlog_rows.proofs.row.binlog_row.BinlogRow.take.Goals as goal

pub returns-then-index-len-clause-left : goal.returns-then-index-len-clause-left
returns-then-index-len-clause-left c =
    let old = c.self.inside.values.items in
    let seen = map-set (option_map cell_of) old c.args.index c.take.new.self ∙ ap (λ o. set (map (option_map cell_of) old) c.args.index (option_map cell_of o)) c.take.ensures.after in
    subst (λ (r : BinlogRow). record { columns = rc_slice_items c.self.inside.columns; values = map (option_map cell_of) (set old c.args.index c.take.new.self) } ≡ record { columns = r.columns; values = set r.values c.args.index None })
    c.self.view_is (λ k. record { columns = rc_slice_items c.self.inside.columns; values = seen k })

pub returns-else-index-len-clause-taken : goal.returns-else-index-len-clause-taken
returns-else-index-len-clause-taken c =
    let lengths = ap (λ (r : BinlogRow). length r.values) c.self.view_is in
    let past : length c.args.self.now.values ≤ c.args.index = omega (arith, lengths, length-map c.self.inside.values.items (option_map cell_of), c.len.ensures) in
    rw (slice_get_past c.args.self.now.values c.args.index past) refl
