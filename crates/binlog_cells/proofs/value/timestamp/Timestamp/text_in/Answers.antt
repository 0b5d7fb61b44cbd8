use Rattle.std.proofs.Common.{sym, subst, ◌∙◌}
use Rattle.std.specs.Str.{IsUtf8}
use Rattle.std.proofs.lemmas.Str.{IsUtf8-from_ascii}
use Rattle.binlog_cells.proofs.Places.{rest_of_room}
use Rattle.binlog_cells.proofs.value.timestamp.Timestamp.text_in.Goals as goal

pub from_utf8_unchecked-requires : goal.from_utf8_unchecked-requires
from_utf8_unchecked-requires c =
    let same = rest_of_room 24 c.put_text-start.new.room c.put_text-start.result c.put_text-start.array_long in
    subst IsUtf8 (sym (same ∙ c.put_text-start.ensures.text)) (IsUtf8-from_ascii _ c.put_text-start.ensures.ascii)
