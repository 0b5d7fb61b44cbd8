use Rattle.std.proofs.Common.{ℕ, List, Ok, Err, [], sym, subst}
use Rattle.std.proofs.lemmas.Result.{err_from_is_err_and}
use Rattle.binlog_decimal.specs.DecimalGroups.{IsCut, low_digits}
use Rattle.binlog_decimal.specs.DecimalReads.{Unpacks}
use Rattle.binlog_decimal.proofs.DecimalBytes.{AreHalves, halves, unpacked, no_integer, no_fraction, packed_at}
use Rattle.binlog_decimal.proofs.DecimalNumbers.{of_group, of_integer, one_group}
use Rattle.binlog_decimal.proofs.decimal.short.read_numbers.Goals as goal

pub returns-in_err-whole-clause-decimal : goal.returns-in_err-whole-clause-decimal
returns-in_err-whole-clause-decimal c =
    let p = err_from_is_err_and c.from_residual.result c.from_residual.ensures.1 in
    let i = c.args.integer in
    let f = c.args.fraction in
    let front = c.split_at.result.0.now in
    let back = c.split_at.result.1.now in
    let x = c.args.packed.now in
    let e = c.in_err-whole.field-0.0 in
    let h : AreHalves i x front back c.is_negative-negative.result = halves i c.digits_size.result x c.unmask.new.written front back c.is_negative-negative.result c.is_negative-negative.ensures.below c.is_negative-negative.ensures.sign c.unmask.ensures c.digits_size.ensures.size c.split_at.ensures.front c.split_at.ensures.back in
    rw (p.1, p.2) (packed_at (Err e) i f x c.requires.some c.requires.size (no_integer (Unit {0}) i f x front back [] c.is_negative-negative.result e h c.in_err-whole.ensures))

pub returns-in_err-part-clause-decimal : goal.returns-in_err-part-clause-decimal
returns-in_err-part-clause-decimal c =
    let p = err_from_is_err_and c.from_residual-in_err-part.result c.from_residual-in_err-part.ensures.1 in
    let i = c.args.integer in
    let f = c.args.fraction in
    let front = c.split_at.result.0.now in
    let back = c.split_at.result.1.now in
    let x = c.args.packed.now in
    let e = c.in_err-part.field-0.0 in
    let h : AreHalves i x front back c.is_negative-negative.result = halves i c.digits_size.result x c.unmask.new.written front back c.is_negative-negative.result c.is_negative-negative.ensures.below c.is_negative-negative.ensures.sign c.unmask.ensures c.digits_size.ensures.size c.split_at.ensures.front c.split_at.ensures.back in
    rw (p.1, p.2)
    (packed_at (Err e) i f x c.requires.some c.requires.size
    (no_fraction (Unit {0}) i f x front back [] c.is_negative-negative.result e h (subst (λ (l : List ℕ). Unpacks {X = Unit {0}} (Err e) l back []) (sym (one_group f c.requires.few.1)) c.in_err-part.ensures)))

pub returns-clause-decimal : goal.returns-clause-decimal
returns-clause-decimal c =
    let i = c.args.integer in
    let f = c.args.fraction in
    let front = c.split_at.result.0.now in
    let back = c.split_at.result.1.now in
    let x = c.args.packed.now in
    let part = c.in_ok-part.part in
    let h : AreHalves i x front back c.is_negative-negative.result = halves i c.digits_size.result x c.unmask.new.written front back c.is_negative-negative.result c.is_negative-negative.ensures.below c.is_negative-negative.ensures.sign c.unmask.ensures c.digits_size.ensures.size c.split_at.ensures.front c.split_at.ensures.back in
    let before = (of_integer i c.in_ok-whole.whole front c.in_ok-whole.ensures).0 in
    let after = subst (λ (l : List ℕ). IsCut l back (low_digits 10 f part)) (sym (one_group f c.requires.few.1)) (of_group f part back c.in_ok-part.ensures).0 in
    packed_at (Ok _) i f x c.requires.some c.requires.size (unpacked i f x front back _ _ c.is_negative-negative.result c.requires.some h before after)

pub returns-clause-whole : goal.returns-clause-whole
returns-clause-whole c = (of_integer c.args.integer c.in_ok-whole.whole c.split_at.result.0.now c.in_ok-whole.ensures).1

pub returns-clause-part : goal.returns-clause-part
returns-clause-part c = (of_group c.args.fraction c.in_ok-part.part c.split_at.result.1.now c.in_ok-part.ensures).1
