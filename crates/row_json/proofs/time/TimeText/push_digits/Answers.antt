use Rattle.std.proofs.Common.{◌<◌, length, get_or, rules, arith, ap, ◌∙◌}
use Rattle.std.specs.Fmt.{decimal}
use Rattle.std.proofs.lemmas.Grind.{common_steps}
use Rattle.std.proofs.lemmas.List.{length-append}
use Rattle.row_json.proofs.Digits.{digit_length, digit_below}
use Rattle.row_json.proofs.time.TimeText.push_digits.Goals as goal

pub loop-digit-preserved : goal.loop-digit-preserved
loop-digit-preserved c =
    let d = get_or c.args.digits.now c.loop-digit.digit-index 0 in
    let small : d < 10 = digit_below c.args.digits.now c.loop-digit.digit-index c.requires.below (omega arith) in
    record {
      text = first_of (search rules, grind (arith, common_steps));
      long = ap length c.push_digit.ensures ∙ (length-append c.loop-digit.self (decimal d) ∙ omega (arith, digit_length d small, c.loop-digit.invariant.long));
    }
