use Rattle.std.proofs.Common.{◌-◌, ap, ◌∙◌, arith}
use Rattle.binlog_decimal.specs.DecimalMasks.{masked_bytes}
use Rattle.binlog_decimal.proofs.DecimalSteps.{group-slice}
use Rattle.binlog_decimal.proofs.DecimalPacking.{put_last}
use Rattle.binlog_decimal.proofs.decimal.pack.Group.new.Goals as goal

pub returns-clause-bytes : goal.returns-clause-bytes
returns-clause-bytes c =
    put_last (4 - c.group_width-start.result) (4 - (4 - c.group_width-start.result)) c.to_be_bytes-bytes.result c.mask.new.bytes (omega arith)
    ∙ c.mask.ensures ∙ ap (masked_bytes c.args.negative c.args.first) (group-slice c.group_width-start.result c.number_of_digits.result c.args.digits.now c.to_be_bytes-bytes.result c.to_be_bytes-bytes.ensures c.group_width-start.ensures c.number_of_digits.ensures)
