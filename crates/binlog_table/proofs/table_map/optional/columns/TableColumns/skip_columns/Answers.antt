use Rattle.std.proofs.Common.{ap, ◌∙◌, ◌+◌, rules, arith, subst, ℕ}
use Rattle.binlog_table.specs.TableColumns.{PassesOver, ToCome, steps_then}
use Rattle.binlog_table.specs.Workings.ColumnsLeft.{columns_left}
use Rattle.binlog_table.proofs.ColumnWalk.{passes_then, passes_more, passed_one, passed_fault, passed_end}
use Rattle.binlog_table.proofs.StepByStep.{more_steps, one_step, last_steps}
use Rattle.binlog_table.proofs.table_map.optional.columns.TableColumns.skip_columns.Goals as goal

pub returns-then-passed-count-clause-gives : goal.returns-then-passed-count-clause-gives
returns-then-passed-count-clause-gives c =
    let so_far : PassesOver (c.loop-passed.passed + c.pass_columns-many.result) c.args.self.now.columns (columns_left c.pass_columns-many.new.walk) =
    passes_then c.loop-passed.passed c.pass_columns-many.result c.args.self.now.columns c.loop-passed.self.columns (columns_left c.self.inside.walk) (columns_left c.pass_columns-many.new.walk)
    c.loop-passed.invariant.columns (search rules) c.pass_columns-many.ensures.columns in
    subst (λ (n : ℕ). PassesOver n c.args.self.now.columns (columns_left c.pass_columns-many.new.walk)) c.if-passed-count.true so_far

pub loop-passed-preserved : goal.loop-passed-preserved
loop-passed-preserved c =
    let so_far : PassesOver (c.loop-passed.passed + c.pass_columns-many.result) c.args.self.now.columns (columns_left c.pass_columns-many.new.walk) =
    passes_then c.loop-passed.passed c.pass_columns-many.result c.args.self.now.columns c.loop-passed.self.columns (columns_left c.self.inside.walk) (columns_left c.pass_columns-many.new.walk)
    c.loop-passed.invariant.columns (search rules) c.pass_columns-many.ensures.columns in
    record {
      within = omega (arith, c.loop-passed.invariant.within, c.pass_columns-many.ensures.within, c.if-passed-count.false, c.most_after-most.ensures);
      columns = passes_more (c.loop-passed.passed + c.pass_columns-many.result) 1 c.args.self.now.columns (columns_left c.pass_columns-many.new.walk) c.skip_column.new.self.columns so_far
          (passed_one (columns_left c.pass_columns-many.new.walk) c.skip_column.new.self.columns c.in-Some-Ok.field-0 c.in-Some-Ok.field-0-0 c.in-Some-Ok.field-0-is c.in-Some-Ok.ensures.gives);
      fault = (search rules);
      steps = (search rules);
      most = (search rules);
      exact = one_step c.skip_column.new.self c.args.self.now c.pass_columns-many.new.walk (c.loop-passed.passed + c.pass_columns-many.result)
          (more_steps c.loop-passed.self c.args.self.now c.self.inside.walk c.pass_columns-many.new.walk c.loop-passed.passed c.pass_columns-many.result c.pass_columns-many.ensures.columns c.pass_columns-many.ensures.ahead
          (λ n. ap (λ (s : ToCome). steps_then s n) c.self.view_is) c.loop-passed.invariant.exact) c.in-Some-Ok.ensures.exact;
    }

pub returns-in-Some-Err-clause-gives : goal.returns-in-Some-Err-clause-gives
returns-in-Some-Err-clause-gives c =
    let so_far : PassesOver (c.loop-passed.passed + c.pass_columns-many.result) c.args.self.now.columns (columns_left c.pass_columns-many.new.walk) =
    passes_then c.loop-passed.passed c.pass_columns-many.result c.args.self.now.columns c.loop-passed.self.columns (columns_left c.self.inside.walk) (columns_left c.pass_columns-many.new.walk)
    c.loop-passed.invariant.columns (search rules) c.pass_columns-many.ensures.columns in
    (omega (arith, c.loop-passed.invariant.within, c.pass_columns-many.ensures.within, c.if-passed-count.false), (columns_left c.pass_columns-many.new.walk, so_far, passed_fault (columns_left c.pass_columns-many.new.walk) c.skip_column.new.self.columns c.in-Some-Err.field-0 c.in-Some-Err.e c.in-Some-Err.field-0-is c.in-Some-Err.ensures.gives))

pub returns-in-None-clause-gives : goal.returns-in-None-clause-gives
returns-in-None-clause-gives c =
    let so_far : PassesOver (c.loop-passed.passed + c.pass_columns-many.result) c.args.self.now.columns (columns_left c.pass_columns-many.new.walk) =
    passes_then c.loop-passed.passed c.pass_columns-many.result c.args.self.now.columns c.loop-passed.self.columns (columns_left c.self.inside.walk) (columns_left c.pass_columns-many.new.walk)
    c.loop-passed.invariant.columns (search rules) c.pass_columns-many.ensures.columns in
    (omega (arith, c.loop-passed.invariant.within, c.pass_columns-many.ensures.within, c.if-passed-count.false), (columns_left c.pass_columns-many.new.walk, so_far, passed_end (columns_left c.pass_columns-many.new.walk) c.skip_column.new.self.columns c.in-None.ensures.gives))

pub returns-then-passed-count-clause-exact : goal.returns-then-passed-count-clause-exact
returns-then-passed-count-clause-exact c = λ n.
    more_steps c.loop-passed.self c.args.self.now c.self.inside.walk c.pass_columns-many.new.walk c.loop-passed.passed c.pass_columns-many.result c.pass_columns-many.ensures.columns c.pass_columns-many.ensures.ahead
    (λ n. ap (λ (s : ToCome). steps_then s n) c.self.view_is) c.loop-passed.invariant.exact n ∙
    ap (λ (m : ℕ). steps_then c.args.self.now (m + n)) c.if-passed-count.true

pub returns-in-Some-Err-clause-exact : goal.returns-in-Some-Err-clause-exact
returns-in-Some-Err-clause-exact c =
    last_steps c.skip_column.new.self c.args.self.now (c.loop-passed.passed + c.pass_columns-many.result) c.args.count
    (one_step c.skip_column.new.self c.args.self.now c.pass_columns-many.new.walk (c.loop-passed.passed + c.pass_columns-many.result)
    (more_steps c.loop-passed.self c.args.self.now c.self.inside.walk c.pass_columns-many.new.walk c.loop-passed.passed c.pass_columns-many.result c.pass_columns-many.ensures.columns c.pass_columns-many.ensures.ahead
    (λ n. ap (λ (s : ToCome). steps_then s n) c.self.view_is) c.loop-passed.invariant.exact) c.in-Some-Err.ensures.exact)
    (search rules) (omega (arith, c.loop-passed.invariant.within, c.pass_columns-many.ensures.within, c.if-passed-count.false))

pub returns-in-None-clause-exact : goal.returns-in-None-clause-exact
returns-in-None-clause-exact c =
    last_steps c.skip_column.new.self c.args.self.now (c.loop-passed.passed + c.pass_columns-many.result) c.args.count
    (one_step c.skip_column.new.self c.args.self.now c.pass_columns-many.new.walk (c.loop-passed.passed + c.pass_columns-many.result)
    (more_steps c.loop-passed.self c.args.self.now c.self.inside.walk c.pass_columns-many.new.walk c.loop-passed.passed c.pass_columns-many.result c.pass_columns-many.ensures.columns c.pass_columns-many.ensures.ahead
    (λ n. ap (λ (s : ToCome). steps_then s n) c.self.view_is) c.loop-passed.invariant.exact) c.in-None.ensures.exact)
    (search rules) (omega (arith, c.loop-passed.invariant.within, c.pass_columns-many.ensures.within, c.if-passed-count.false))
