use Rattle.std.proofs.Common.{◌≡◌, map, set, Some, subst}
use Rattle.std.specs.Option.{option_map}
use Rattle.std.specs.Rc.{rc_slice_items}
use Rattle.std.proofs.lemmas.List.{map-set}
use Rattle.binlog_cells.specs.Cells.{cell_of}
use Rattle.mysql_binlog_rows.specs.Images.{BinlogRow}
use Rattle.mysql_binlog_rows.proofs.row.binlog_row.BinlogRow.place.Goals as goal

pub returns : goal.returns
returns c =
    let old = c.self.inside.values.items in
    let seen = map-set (option_map cell_of) old c.args.index (Some c.args.value) in
    subst (λ (r : BinlogRow). record { columns = rc_slice_items c.self.inside.columns; values = map (option_map cell_of) (set old c.args.index (Some c.args.value)) } ≡ record { columns = r.columns; values = set r.values c.args.index (Some (cell_of c.args.value)) })
    c.self.view_is (λ k. record { columns = rc_slice_items c.self.inside.columns; values = seen k })
