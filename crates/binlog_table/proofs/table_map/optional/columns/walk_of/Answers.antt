use Rattle.std.proofs.Common.{rules, ap, length}
use Rattle.binlog_table.proofs.ColumnWalk.{walk_start, walk_end}
use Rattle.binlog_table.proofs.StepByStep.{start_steps}
use Rattle.binlog_table.proofs.table_map.optional.columns.walk_of.Goals as goal

pub returns-clause-columns : goal.returns-clause-columns
returns-clause-columns c = λ kept types.
    walk_start _ c.args.table.now c.args.kept.now kept (search rules) types (search rules) c.iter_signedness.ensures c.iter_charset.ensures.start
    c.iter_enum_and_set_charset.ensures.start c.iter_column_name.ensures c.iter_primary_key.ensures.keys (search rules) (search rules)

pub returns-clause-none : goal.returns-clause-none
returns-clause-none c = λ h. walk_end _ (ap length h)

pub returns-clause-exact : goal.returns-clause-exact
returns-clause-exact c = λ kept types.
    start_steps _ c.args.table.now c.args.kept.now c.args.fields kept (search rules) types (search rules) c.iter_charset.ensures.start c.iter_charset.ensures.taken
    c.iter_enum_and_set_charset.ensures.start c.iter_enum_and_set_charset.ensures.taken c.iter_column_name.ensures c.iter_primary_key.ensures.keys c.iter_primary_key.ensures.taken (search rules) (search rules)
