use Rattle.std.proofs.Common.{◌≡◌, ◌≤◌, Bool, List, length, min, sym, ap, subst, ◌∙◌, arith}
use Rattle.mysql_binlog_rows.specs.Changed.{image_with, image_before, image_after, present_in}
use Rattle.mysql_binlog_rows.proofs.Changed.{image_of, length_present, whole}
use Rattle.mysql_binlog_rows.proofs.rows_event.rows.lent.LentPair.changed.Goals as goal

pub returns : goal.returns
returns c =
    let e = c.args.event.now in
    let p = c.args.self.now in
    let bits = c.new-before.ensures.present ∙ ap present_in c.columns_before_image.ensures in
    let more = c.new-after.ensures.present ∙ ap present_in c.columns_after_image.ensures in
    let b : image_of c.new-before.result ≡ image_before e p = λ i. image_with (bits i) ((c.new-before.ensures.row ∙ c.before-2.ensures) i) in
    let a : image_of c.new-after.result ≡ image_after e p = λ i. image_with (more i) ((c.new-after.ensures.row ∙ c.after.ensures) i) in
    let count = subst (λ (x : List Bool). length x ≤ e.num_columns) (sym bits) (length_present e.num_columns e.before) in
    let end : c.min-end.result ≡ min (length c.new-before.result.present) (length c.new-after.result.present) = omega arith in
    whole c.new-before.result c.new-after.result e.num_columns c.min-end.result _ _ b a end count
