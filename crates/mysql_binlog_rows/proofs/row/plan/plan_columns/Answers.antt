use Rattle.std.proofs.lemmas.Grind.{common_steps}
use Rattle.std.proofs.Common.{◌≡◌, ◌+◌, Err, sym, ap, ◌∙◌, length, rules, arith}
use Rattle.mysql_binlog_rows.specs.Workings.Plans.{first_column}
use Rattle.binlog_table.specs.TableColumns.{steps_then}
use Rattle.mysql_binlog_rows.proofs.Steps.{next_then, skip_then, end_then}
use Rattle.mysql_binlog_rows.proofs.Plans.{plan_passes, plan_stops, plan_stops_after, plan_ends}
use Rattle.mysql_binlog_rows.proofs.row.plan.plan_columns.Goals as goal
use Rattle.mysql_binlog_rows.proofs.row.plan.plan_columns.Goals.{else-loop-index-test, then-loop-index-test+then-is_set+in-Err, then-loop-index-test+else-is_set+in-Err-skip_columns}

pub loop-index-preserved : goal.loop-index-preserved
loop-index-preserved c = record {
  so_far = plan_passes c.args.table.now c.loop-index.slots.items c.loop-index.columns.columns c.loop-index.walk.columns c.skip_columns.new.self.columns c.args.present.now c.loop-index.index c.absent_from-absent.result c.absent_from-absent.result _
      c.in-Ok-skip_columns.ensures.gives (omega arith) c.absent_from-absent.ensures.within c.absent_from-absent.ensures.absent c.loop-index.invariant.so_far;
  schema = c.loop-index.invariant.schema;
  table = c.loop-index.invariant.table;
  no_fault = c.loop-index.invariant.no_fault;
  within = c.absent_from-absent.ensures.within;
  least = omega (arith, c.in-Ok-skip_columns.ensures.steps, c.loop-index.invariant.least);
  most = omega (arith, c.in-Ok-skip_columns.ensures.most, c.loop-index.invariant.most);
  exact = skip_then c.skip_columns.new.self c.loop-index.walk c.args.walk.now c.loop-index.index c.absent_from-absent.result c.in-Ok-skip_columns.ensures.exact c.loop-index.invariant.exact;
}

pub returns-clause-exact : goal.returns-clause-exact
returns-clause-exact c =
    elim c.loop-index-test.branch [
      | else-loop-index-test w ↦ λ n.
          let whole : c.loop-index.index + n ≡ length c.args.present.now + n = omega (arith, c.loop-index.invariant.within) in
          rw w.walk-is (c.loop-index.invariant.exact n ∙ ap (steps_then c.args.walk.now) whole)
      | then-loop-index-test+then-is_set+in-Err w ↦
          rw w.walk-is (end_then w.next_column.new.walk c.args.walk.now (c.loop-index.index + 1) (length c.args.present.now) w.in-Err.ensures.last (omega arith)
          (next_then w.next_column.new.walk c.loop-index.walk c.args.walk.now c.loop-index.index w.in-Err.ensures.exact c.loop-index.invariant.exact))
      | then-loop-index-test+else-is_set+in-Err-skip_columns w ↦
          rw w.walk-is (end_then w.skip_columns.new.self c.args.walk.now (c.loop-index.index + w.absent_from-absent.result) (length c.args.present.now) w.in-Err-skip_columns.ensures.last w.absent_from-absent.ensures.within
          (skip_then w.skip_columns.new.self c.loop-index.walk c.args.walk.now c.loop-index.index w.absent_from-absent.result w.in-Err-skip_columns.ensures.exact c.loop-index.invariant.exact))
    ]

pub returns-clause-planned : goal.returns-clause-planned
returns-clause-planned c =
    let slots = c.loop-index.slots.items in
    let columns = c.loop-index.columns.columns in
    elim c.loop-index-test.branch [
      | else-loop-index-test w ↦ rw (w.fault-is, w.index-is, c.loop-index.invariant.no_fault) (sym (plan_ends c.args.table.now slots columns c.loop-index.index c.loop-index.walk.columns c.args.present.now c.loop-index.index _ (omega arith) c.loop-index.invariant.so_far))
      | then-loop-index-test+then-is_set+in-Err w ↦
          let first : first_column c.loop-index.walk.columns ≡ Err w.in-Err.e = sym w.in-Err.ensures.column in
          rw (w.fault-is, w.index-is) (sym (plan_stops c.args.table.now slots columns c.loop-index.index c.loop-index.walk.columns c.args.present.now c.loop-index.index w.in-Err.e _ (omega arith) first c.loop-index.invariant.so_far))
      | then-loop-index-test+else-is_set+in-Err-skip_columns w ↦
          rw (w.fault-is, w.index-is) (sym (plan_stops_after c.args.table.now slots columns c.loop-index.walk.columns w.skip_columns.new.self.columns c.args.present.now c.loop-index.index w.absent_from-absent.result w.in-Err-skip_columns.passed w.in-Err-skip_columns.e _
          w.in-Err-skip_columns.ensures.gives w.absent_from-absent.ensures.within w.absent_from-absent.ensures.absent c.loop-index.invariant.so_far))
    ]

pub loop-index-preserved-in_ok-push-in-Ok : goal.loop-index-preserved-in_ok-push-in-Ok
loop-index-preserved-in_ok-push-in-Ok c = record {
  so_far = grind (arith, common_steps);
  schema = (search rules);
  table = (search rules);
  no_fault = (search rules);
  within = (search rules);
  least = (search rules);
  most = (search rules);
  exact = next_then c.next_column.new.walk c.loop-index.walk c.args.walk.now c.loop-index.index c.in-Ok.ensures.exact c.loop-index.invariant.exact;
}

pub loop-index-preserved-in_ok-push-in-Ok-2 : goal.loop-index-preserved-in_ok-push-in-Ok-2
loop-index-preserved-in_ok-push-in-Ok-2 c = record {
  so_far = grind (arith, common_steps);
  schema = (search rules);
  table = (search rules);
  no_fault = (search rules);
  within = (search rules);
  least = (search rules);
  most = (search rules);
  exact = next_then c.next_column.new.walk c.loop-index.walk c.args.walk.now c.loop-index.index c.in-Ok.ensures.exact c.loop-index.invariant.exact;
}

pub loop-index-preserved-in_ok-push-in-Ok-3 : goal.loop-index-preserved-in_ok-push-in-Ok-3
loop-index-preserved-in_ok-push-in-Ok-3 c = record {
  so_far = grind (arith, common_steps);
  schema = (search rules);
  table = (search rules);
  no_fault = (search rules);
  within = (search rules);
  least = (search rules);
  most = (search rules);
  exact = next_then c.next_column.new.walk c.loop-index.walk c.args.walk.now c.loop-index.index c.in-Ok.ensures.exact c.loop-index.invariant.exact;
}
