use Rattle.std.proofs.Common.{◌≡◌, ◌++◌, ℕ, List, refl, ap, ◌∙◌, rules}
use Rattle.std.proofs.Output.{has_written_of_eq}
use Rattle.std.specs.Fmt.{decimal, sign_text}
use Rattle.binlog_decimal.proofs.TimeTexts.{is_zoned, is_long}
use Rattle.binlog_decimal.proofs.time.text.write_long.Goals as goal
use Rattle.binlog_decimal.proofs.time.text.write_long.Goals.{then-time, else-time}

pub returns-in-MYSQL_TIMESTAMP_DATETIME_TZ : goal.returns-in-MYSQL_TIMESTAMP_DATETIME_TZ
returns-in-MYSQL_TIMESTAMP_DATETIME_TZ g c = λ plain ok.
    let all = is_zoned c.args.decimals c.args.time.now c.fraction_len-end.result c.characters-all.result c.part-datetime.result.now c.in-MYSQL_TIMESTAMP_DATETIME_TZ.is c.fraction_len-end.ensures.len c.characters-all.ensures.all c.part-datetime.ensures in
    has_written_of_eq _ _ _ _ _ (rw (← all) (search rules)) (c.write.ensures.writes plain ok)

pub returns-after-time : goal.returns-after-time
returns-after-time g c = λ plain ok.
    let many = rw c.in-MYSQL_TIMESTAMP_TIME.is at c.requires in
    let sign : c.if-time.sign.now ≡ sign_text c.args.time.now.neg = elim c.if-time.branch [ then-time w ↦ rw (w.sign-is, w.if-time.true) refl | else-time w ↦ rw (w.sign-is, w.if-time.false) refl ] in
    let all = is_long c.args.decimals c.args.time.now c.fraction_len-end.result c.characters-all.result c.part-rest.result.now c.in-MYSQL_TIMESTAMP_TIME.is many c.fraction_len-end.ensures.len c.characters-all.ensures.all c.part-rest.ensures in
    has_written_of_eq _ _ _ _ _ (ap (λ (l : List ℕ). l ++ (decimal c.args.time.now.hour ++ c.part-rest.result.now)) sign ∙ all) (c.write-in-MYSQL_TIMESTAMP_TIME.ensures.writes plain ok)
