use Rattle.std.proofs.Common.{sym, ◌∙◌}
use Rattle.std.proofs.lemmas.Str.{utf8_lossy-IsUtf8}
use Rattle.binlog_values.proofs.jsonb.stack.key_text.Goals as goal

pub returns-in_ok-from_str-in-Some-clause-text : goal.returns-in_ok-from_str-in-Some-clause-text
returns-in_ok-from_str-in-Some-clause-text c =
    c.in_ok-from_str-in-Some.ensures.ok ∙ c.in-Some.ensures.0 ∙ sym (utf8_lossy-IsUtf8 c.args.key.now c.in-Some.ensures.1)
