use Rattle.std.proofs.Common.{ℕ, List, ◌++◌, sym, ap, ◌∙◌}
use Rattle.std.proofs.lemmas.Fmt.{decimal_digit}
use Rattle.row_json.proofs.time.TimeText.push_digit.Goals as goal

pub returns : goal.returns
returns c = c.push.ensures ∙ ap (λ (l : List ℕ). c.args.self.now ++ l) (sym (decimal_digit c.args.digit c.requires.digit))
