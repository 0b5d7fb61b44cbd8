use Rattle.std.proofs.Common.{◌+◌, ◌-◌, ◌%◌, refl, sym, subst, length, arith}
use Rattle.std.specs.Int.Digits.{AllBelowBase}
use Rattle.binlog_decimal.proofs.DecimalSteps.{below-take, below-drop, some_left, none_left}
use Rattle.binlog_decimal.proofs.DecimalPacking.{integer_step, fraction_step, no_group}
use Rattle.binlog_decimal.proofs.decimal.pack.Groups.next_digits.Goals as goal

pub returns-then-not-is_empty : goal.returns-then-not-is_empty
returns-then-not-is_empty c =
    let s = c.args.self.now in
    let size = (length s.integer.now - 1) % 9 + 1 in
    let some = some_left (length s.integer.now) c.if-not-is_empty.ensures in
    record {
      bytes = integer_step size s.integer.now c.split_at.result.0.now c.split_at.result.1.now s.fraction.now some refl c.split_at.ensures.front c.split_at.ensures.back;
      some = omega (arith, some, c.split_at.ensures.front_len);
      most = omega (arith, c.split_at.ensures.front_len);
      below = subst (AllBelowBase 10) (sym c.split_at.ensures.front) (below-take 10 size s.integer.now c.requires.0);
      later = (subst (AllBelowBase 10) (sym c.split_at.ensures.back) (below-drop 10 size s.integer.now c.requires.0), c.requires.1);
      fewer = omega (arith, some, c.split_at.ensures.back_len);
      negative = refl;
      first = refl;
    }

pub returns-then-not-is_empty-2 : goal.returns-then-not-is_empty-2
returns-then-not-is_empty-2 c =
    let s = c.args.self.now in
    let none = none_left (length s.integer.now) c.if-not-is_empty.ensures in
    let some = some_left (length s.fraction.now) c.if-not-is_empty-2.ensures in
    let size = c.min.result in
    let split = c.split_at-then-not-is_empty-2 in
    record {
      bytes = fraction_step size s.integer.now s.fraction.now split.result.0.now split.result.1.now none some c.min.ensures split.ensures.front split.ensures.back;
      some = omega (arith, some, c.min.ensures, split.ensures.front_len);
      most = omega (arith, c.min.ensures, split.ensures.front_len);
      below = subst (AllBelowBase 10) (sym split.ensures.front) (below-take 10 size s.fraction.now c.requires.1);
      later = (c.requires.0, subst (AllBelowBase 10) (sym split.ensures.back) (below-drop 10 size s.fraction.now c.requires.1));
      fewer = omega (arith, some, c.min.ensures, split.ensures.back_len);
      negative = refl;
      first = refl;
    }

pub returns-else-not-is_empty-2 : goal.returns-else-not-is_empty-2
returns-else-not-is_empty-2 c =
    let s = c.args.self.now in
    let integer = none_left (length s.integer.now) c.if-not-is_empty.ensures in
    let fraction = none_left (length s.fraction.now) c.if-not-is_empty-2.ensures in
    (no_group s.integer.now s.fraction.now integer fraction, refl)
