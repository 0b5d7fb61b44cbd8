use Rattle.std.proofs.Common.{rules, refl, arith}
use Rattle.binlog_table.specs.Workings.ColumnsLeft.{walk_at}
use Rattle.binlog_table.proofs.ColumnWalk.{passes_one}
use Rattle.binlog_table.proofs.table_map.optional.columns.pass_column.Goals as goal

pub returns-clause-passed : goal.returns-clause-passed
returns-clause-passed c = λ _ w n server none.
    let there = c.has_type.ensures (search rules) in
    passes_one (walk_at w n c.args.stretch.now c.args.signs.now) _ c.in-Some.number.now c.in-Some-in_tables.raw_type there.0
    (record { names = none.names; keys = none.keys; characters = none.characters; enums = none.enums })
    refl (search rules) (search rules) (rw c.in-Some-split_chunk.ensures there.1) (search rules) (rw server c.next_sign.ensures.left) refl refl refl refl (omega arith) (search rules)
