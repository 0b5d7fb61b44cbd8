use Rattle.std.proofs.Common.{◌<◌, ℕ, [], ◌∷◌, arith, sym, ap, ◌∙◌}
use Rattle.std.proofs.lemmas.Fmt.{decimal_digit}
use Rattle.changed_rows.proofs.Pushed.{pushed}
use Rattle.changed_rows.proofs.gtid.push_digit.Goals as goal

pub returns : goal.returns
returns c =
    let ascii : c.from.result < 128 = grind arith in
    pushed c.push.result _ _ _ _ (c.push.ensures.ascii ascii ∙ (ap (λ (ch : ℕ). ch ∷ []) c.from.ensures ∙ sym (decimal_digit c.args.digit c.requires))) c.push.ensures.bytes
