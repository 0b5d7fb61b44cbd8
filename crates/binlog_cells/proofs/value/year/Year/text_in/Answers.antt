use Rattle.std.specs.Prelude.{decimal}
use Rattle.std.proofs.Common.{rules, arith, sym, subst, ◌≡◌, ◌≤◌, length}
use Rattle.std.specs.Str.{IsUtf8}
use Rattle.std.proofs.lemmas.Fmt.{length-decimal-le, IsAscii-decimal}
use Rattle.std.proofs.lemmas.Str.{IsUtf8-from_ascii}
use Rattle.binlog_cells.proofs.Places.{at_end}
use Rattle.binlog_cells.proofs.value.year.Year.text_in.Goals as goal

pub write_digits-start-requires : goal.write_digits-start-requires
write_digits-start-requires c =
    let short : length (decimal c.from.result) ≤ 5 = search (rules, length-decimal-le 5) in
    (short, omega arith)

pub from_utf8_unchecked-requires : goal.from_utf8_unchecked-requires
from_utf8_unchecked-requires c =
    let n = c.from.result in
    let whole : length c.write_digits-start.new.buf ≡ 5 = search rules in
    let same = at_end 5 c.write_digits-start.new.buf c.args.room.now (decimal n) c.write_digits-start.result whole (search rules) c.write_digits-start.ensures.written in
    subst IsUtf8 (sym same) (IsUtf8-from_ascii (decimal n) (IsAscii-decimal n (omega arith)))
