use Rattle.std.proofs.Common.{◌≡◌, ℕ, ◌+◌, ◌<◌, ◌≤◌, true, false, length, take, rules, refl, sym, ap, ◌∙◌, arith}
use Rattle.binlog_base.specs.Bits.{count_set}
use Rattle.mysql_binlog_rows.specs.Changed.{differ, is_changed}
use Rattle.mysql_binlog_rows.proofs.Changed.{image_of, left_from, placed, found, passed, none_left}
use Rattle.mysql_binlog_rows.proofs.rows_event.changed.ChangedColumnsIterator.next.Goals as goal

pub loop-column-init : goal.loop-column-init
loop-column-init c = record { index = refl; end = refl; before = c.self.invariant.1; after = c.self.invariant.2; left = refl }

pub invariant_of-self : goal.invariant_of-self
invariant_of-self c =
    let s = c.loop-column.self-inside in
    let i = c.loop-column.invariant in (
      omega (arith, i.index, i.end, c.loop-column.auto.column-end c.self.invariant.0),
      i.before ∙ ap (λ (n : ℕ). count_set (take n s.before.present)) (sym i.index),
      i.after ∙ ap (λ (n : ℕ). count_set (take n s.after.present)) (sym i.index),
    )

pub step-before-requires-clause-place : goal.step-before-requires-clause-place
step-before-requires-clause-place c = c.loop-column.invariant.before

pub step-after-requires-clause-place : goal.step-after-requires-clause-place
step-after-requires-clause-place c = c.loop-column.invariant.after

pub invariant_of-self-then-differ : goal.invariant_of-self-then-differ
invariant_of-self-then-differ c = (
  omega (arith, c.loop-column.invariant.end, c.loop-column-test.true),
  placed c.loop-column.self-inside.before c.step-before.new.self (c.loop-column.column + 1) c.step-before.ensures.past,
  placed c.loop-column.self-inside.after c.step-after.new.self (c.loop-column.column + 1) c.step-after.ensures.past,
)

pub returns-then-differ-clause-steps : goal.returns-then-differ-clause-steps
returns-then-differ-clause-steps c =
    let s = c.loop-column.self-inside in
    let inside : c.loop-column.column < s.end = omega (arith, c.loop-column.invariant.end, c.loop-column-test.true) in
    let is : is_changed (image_of s.before) (image_of s.after) c.loop-column.column ≡ true = (λ i. differ (sym c.step-before.ensures.cell i) (sym c.step-after.ensures.cell i)) ∙ sym c.differ.ensures ∙ c.if-differ.true in
    sym c.self.view_is ∙ sym c.loop-column.invariant.left ∙ found s.before s.after c.step-before.new.self c.step-after.new.self c.loop-column.column s.end _ _ c.step-before.ensures.past c.step-after.ensures.past inside is

pub returns-then-differ-clause-goes : goal.returns-then-differ-clause-goes
returns-then-differ-clause-goes c =
    let s = c.loop-column.self-inside in
    let inside : c.loop-column.column < s.end = omega (arith, c.loop-column.invariant.end, c.loop-column-test.true) in
    let is : is_changed (image_of s.before) (image_of s.after) c.loop-column.column ≡ true = (λ i. differ (sym c.step-before.ensures.cell i) (sym c.step-after.ensures.cell i)) ∙ sym c.differ.ensures ∙ c.if-differ.true in
    let more = sym c.self.view_is ∙ sym c.loop-column.invariant.left ∙ found s.before s.after c.step-before.new.self c.step-after.new.self c.loop-column.column s.end _ _ c.step-before.ensures.past c.step-after.ensures.past inside is in
    search (rules, ap length more)

pub loop-column-preserved : goal.loop-column-preserved
loop-column-preserved c =
    let s = c.loop-column.self-inside in
    let inside : c.loop-column.column < s.end = omega (arith, c.loop-column.invariant.end, c.loop-column-test.true) in
    let is : is_changed (image_of s.before) (image_of s.after) c.loop-column.column ≡ false = (λ i. differ (sym c.step-before.ensures.cell i) (sym c.step-after.ensures.cell i)) ∙ sym c.differ.ensures ∙ c.if-differ.false in
    record {
      index = refl;
      end = c.loop-column.invariant.end;
      before = placed c.loop-column.self-inside.before c.step-before.new.self (c.loop-column.column + 1) c.step-before.ensures.past;
      after = placed c.loop-column.self-inside.after c.step-after.new.self (c.loop-column.column + 1) c.step-after.ensures.past;
      left = sym (passed s.before s.after c.step-before.new.self c.step-after.new.self c.loop-column.column s.end _ _ c.step-before.ensures.past c.step-after.ensures.past inside is) ∙ c.loop-column.invariant.left;
    }

pub returns-clause-steps : goal.returns-clause-steps
returns-clause-steps c =
    let s = c.loop-column.self-inside in
    let over : s.end ≤ c.loop-column.column = omega (arith, c.loop-column.invariant.end, c.loop-column-test.false) in
    let none = none_left s.before s.after c.loop-column.column s.end over in (
      sym c.self.view_is ∙ sym c.loop-column.invariant.left ∙ none,
      ap (λ (i : ℕ). left_from s.before s.after i s.end) c.loop-column.invariant.index ∙ none,
    )
