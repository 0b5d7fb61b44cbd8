use Rattle.std.proofs.Common.{List, Option, ◌++◌, map, ap, subst, sym, ◌∙◌, arith}
use Rattle.std.specs.Option.{option_map}
use Rattle.std.proofs.lemmas.List.{length-map}
use Rattle.std.proofs.lemmas.Result.{err_from_is_err_and}
use Rattle.binlog_base.specs.Values.{plain_of}
use Rattle.binlog_cells.specs.declared.value.BinlogValue.{BinlogValue}
use Rattle.binlog_cells.specs.Cells.{Cell, PlainCell, cell_of}
use Rattle.mysql_binlog_rows.specs.NotPlain.{IsRefused}
use Rattle.mysql_binlog_rows.proofs.NotPlain.{refused_at}
use Rattle.mysql_binlog_rows.proofs.row.binlog_row.BinlogRow.into_row.Goals as goal

pub returns-in_err-plain_value-clause-err : goal.returns-in_err-plain_value-clause-err
returns-in_err-plain_value-clause-err c =
    let p = err_from_is_err_and c.from_residual-in_err-plain_value.result c.from_residual-in_err-plain_value.ensures.1 in
    let before = map (option_map plain_of) c.loop-value.values.items in
    let whole = ap (λ (vs : List (Option BinlogValue)). map (option_map PlainCell) before ++ map (option_map cell_of) vs) (sym c.in-Some.ensures.steps.0) ∙ c.loop-value.invariant in
    rw (p.1, p.2)
    (subst (λ (vs : List (Option Cell)). IsRefused vs c.in_err-plain_value.field-0.0) whole
    (refused_at before c.len-offset.result (option_map cell_of c.in-Some.value) (map (option_map cell_of) c.next.new.self.rest.items) c.in_err-plain_value.field-0.0
    (omega (arith, length-map c.loop-value.values.items (option_map plain_of), c.len-offset.ensures)) c.in_err-plain_value.ensures.err))
