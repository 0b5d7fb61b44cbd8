use Rattle.std.proofs.Common.{◌∙◌}
use Rattle.row_json.proofs.document.keep.Goals as goal

pub returns-clause-kept : goal.returns-clause-kept
returns-clause-kept c = (c.in_ok-name.name, c.in_ok-name.ensures.ok ∙ c.in_ok-text.ensures, c.in_ok-insert.ensures.entries)
