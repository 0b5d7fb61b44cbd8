use Rattle.std.proofs.Common.{List, ℕ, length, take, drop, ap, ◌++◌, ◌∙◌}
use Rattle.binlog_decimal.specs.Decimals.{DecimalView, packed_bytes, flipped_bytes, inverted_bytes, grouped_bytes, integer_groups, fraction_groups}
use Rattle.binlog_decimal.proofs.decimal.Decimal.groups.Goals as goal

pub returns-clause-bytes : goal.returns-clause-bytes
unfolding packed_bytes
returns-clause-bytes c =
    let before = c.self.inside.before in
    let d : DecimalView = record { negative = c.self.inside.negative; integer = take before c.self.inside.digits.items; fraction = drop before c.self.inside.digits.items } in
    ap (λ (l : List ℕ). flipped_bytes (inverted_bytes d.negative (grouped_bytes (integer_groups (length l)) l ++ grouped_bytes (fraction_groups (length c.split_at.result.1.now)) c.split_at.result.1.now))) (c.split_at.ensures.front ∙ ap (take before) c.deref.ensures.value)
    ∙ ap (λ (l : List ℕ). flipped_bytes (inverted_bytes d.negative (grouped_bytes (integer_groups (length d.integer)) d.integer ++ grouped_bytes (fraction_groups (length l)) l))) (c.split_at.ensures.back ∙ ap (drop before) c.deref.ensures.value)
    ∙ ap packed_bytes c.self.view_is
