use Rattle.std.proofs.Common.{rules}
use Rattle.binlog_base.specs.Strings.{lenenc_string_bytes}
use Rattle.binlog_base.proofs.Appending.{appending}
use Rattle.binlog_base.proofs.below.raw.bytes.LenEncBytesRepr.serialize.Goals as goal

pub returns-in_err-serialize : goal.returns-in_err-serialize
unfolding lenenc_string_bytes
returns-in_err-serialize c = rw (← c.prefix-text.ensures.items) (search (rules, appending))
