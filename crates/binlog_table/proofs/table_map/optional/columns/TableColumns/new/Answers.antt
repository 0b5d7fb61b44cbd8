use Rattle.std.proofs.Common.{rules, ap, length, arith}
use Rattle.binlog_table.specs.Lists.{FieldsLeft}
use Rattle.binlog_table.specs.Extracted.{kept_bytes}
use Rattle.binlog_table.proofs.Bounds.{fields_bound}
use Rattle.binlog_table.proofs.StepByStep.{steps_whole, steps_faulty}
use Rattle.binlog_table.proofs.table_map.optional.columns.TableColumns.new.Goals as goal

pub returns-in-Ok-clause-most : goal.returns-in-Ok-clause-most
returns-in-Ok-clause-most c =
    let kept = ap kept_bytes c.in-Ok.ensures.last in
    let start = ap (λ (f : FieldsLeft). f.left.taken) c.iter_optional_meta-fields.ensures in
    let bytes = ap (λ (f : FieldsLeft). length f.left.bytes) c.iter_optional_meta-fields.ensures in
    omega (arith, c.walk_of.ensures.most, c.taken.ensures, c.in-Ok.ensures.count, kept, start, bytes, fields_bound c.iter_optional_meta-fields.result)

pub returns-in-Ok-clause-exact : goal.returns-in-Ok-clause-exact
returns-in-Ok-clause-exact c = λ n.
    steps_whole c.walk_of.result c.args.table.now c.taken.result n (search rules) (search rules) (search rules) (c.walk_of.ensures.exact (search rules) (search rules))

pub returns-in-Err-clause-exact : goal.returns-in-Err-clause-exact
returns-in-Err-clause-exact c = λ n. steps_faulty _ c.args.table.now c.in-Err.fault n (search rules) (search rules) (search rules)
