use Rattle.std.proofs.Common.{◌∙◌}
use Rattle.changed_rows.proofs.Patterns.{no_star}
use Rattle.changed_rows.proofs.pattern.matches.Goals as goal

pub returns : goal.returns
returns c = c.is_found.ensures ∙ no_star c.args.case c.loop-walked.walked c.in_default.not-Any ∙ c.loop-walked.invariant
