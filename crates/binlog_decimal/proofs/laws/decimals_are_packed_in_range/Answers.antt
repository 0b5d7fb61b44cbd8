use Rattle.binlog_decimal.proofs.DecimalRanges.{packed_in-range, in_range-packed_bytes}
use Rattle.binlog_decimal.proofs.laws.decimals_are_packed_in_range.Goals as goal

pub returns : goal.returns
returns c = λ i f x some below long. (λ h. packed_in-range i f x h.0 long h.1, in_range-packed_bytes i f x some below long)
