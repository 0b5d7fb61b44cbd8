use Rattle.std.proofs.Common.{ℕ, ◌/◌, ◌%◌, List, ◌++◌, sym, ap, ◌∙◌, arith, append_assoc}
use Rattle.std.specs.Prelude.{decimal}
use Rattle.std.proofs.lemmas.List.{length-append}
use Rattle.row_json.proofs.Digits.{digit_length, last_digit, more_length}
use Rattle.row_json.proofs.time.TimeText.+push_decimal.Goals as goal

pub push_digit-requires-clause-fits : goal.push_digit-requires-clause-fits
push_digit-requires-clause-fits t c = omega (arith, digit_length c.args.number c.if-number-lt10.true)

pub push_decimal-requires : goal.push_decimal-requires
push_decimal-requires t c = (omega arith, omega (arith, more_length c.args.number c.if-number-lt10.false c.ranges.number.fits))

pub push_digit-requires-else-number-lt10-clause-fits : goal.push_digit-requires-else-number-lt10-clause-fits
push_digit-requires-else-number-lt10-clause-fits t c = rw c.push_decimal.ensures (omega (arith, length-append c.args.self.now (decimal (c.args.number / 10)), more_length c.args.number c.if-number-lt10.false c.ranges.number.fits))

pub returns-else-number-lt10 : goal.returns-else-number-lt10
returns-else-number-lt10 t c =
    let n = c.args.number in
    let old = c.args.self.now in
    c.push_digit-else-number-lt10.ensures
    ∙ (ap (λ (l : List ℕ). l ++ decimal (n % 10)) c.push_decimal.ensures
    ∙ (append_assoc old (decimal (n / 10)) (decimal (n % 10)) ∙ ap (λ (l : List ℕ). old ++ l) (sym (last_digit n c.if-number-lt10.false c.ranges.number.fits))))
