use Rattle.binlog_decimal.proofs.TimeTexts.{IsUtf8-part}
use Rattle.binlog_decimal.proofs.time.text.part.Goals as goal

pub from_utf8_unchecked-requires : goal.from_utf8_unchecked-requires
from_utf8_unchecked-requires c = IsUtf8-part c.args.all.now c.args.start c.args.end c.requires.ascii
