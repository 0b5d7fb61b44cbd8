use Rattle.std.proofs.Common.{ℕ, List, ◌++◌, ap, ◌∙◌, is_ok, if◌then◌else◌}
use Rattle.std.specs.List.{concat}
use Rattle.binlog_decimal.proofs.InlineTexts.{all_written}
use Rattle.binlog_decimal.proofs.time.MysqlTime.write_text.Goals as goal

pub returns-in-Ok : goal.returns-in-Ok
returns-in-Ok c =
    let wrote = c.in-Ok.ensures.writes in
    let all = all_written c.new-new.result c.write.new.self wrote.parts wrote.calls c.new-new.ensures.intact in
    let text = c.as_str.ensures.value ∙ all.1 ∙ ap (λ (l : List ℕ). l ++ concat wrote.parts) c.new-new.ensures.text ∙ wrote.whole in
    c.push_str-in-Ok.ensures.bytes ∙ ap (λ (l : List ℕ). if is_ok c.push_str-in-Ok.result then c.args.text.now.bytes.items ++ l else c.args.text.now.bytes.items) text
