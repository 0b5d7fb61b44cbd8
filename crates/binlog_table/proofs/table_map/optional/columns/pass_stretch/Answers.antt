use Rattle.std.proofs.Common.{◌≡◌, ◌+◌, rules, ap, sym}
use Rattle.binlog_table.specs.declared.table_map.optional.columns.Walk.{Walk}
use Rattle.binlog_table.specs.Workings.ColumnsLeft.{columns_left, walk_at, NoListsLeft}
use Rattle.binlog_table.proofs.ColumnWalk.{passes_more}
use Rattle.binlog_table.proofs.table_map.optional.columns.pass_stretch.Goals as goal

pub loop-passed-preserved : goal.loop-passed-preserved
loop-passed-preserved c =
    let server : c.args.walk.now.server ≡ c.loop-passed.walk.server = ap (λ (w : Walk). w.server) (sym c.loop-passed.invariant.walk) in
    let none : NoListsLeft c.args.walk.now = (search rules) in
    let one = c.pass_column.ensures.passed (search rules) c.args.walk.now c.loop-passed.passed server none in
    record {
      within = (search rules);
      columns = passes_more c.loop-passed.passed 1 (columns_left c.args.walk.now) (columns_left (walk_at c.args.walk.now c.loop-passed.passed c.loop-passed.stretch c.loop-passed.walk.signs)) (columns_left (walk_at c.args.walk.now (c.loop-passed.passed + 1) c.pass_column.new.stretch c.pass_column.new.signs))
          c.loop-passed.invariant.columns one;
      walk = ap (λ (w : Walk). record w { signs = c.pass_column.new.signs }) c.loop-passed.invariant.walk;
      types = (search rules);
      json_place = (search rules);
    }
