use Rattle.std.proofs.Common.{◌≡◌, ◌∙◌, sym, ap}
use Rattle.std.proofs.Output.{has_written_of_eq}
use Rattle.std.proofs.lemmas.Str.{IsUtf8-from_ascii}
use Rattle.binlog_decimal.proofs.DigitCharacters.{chars, glyphs, IsAscii-chars}
use Rattle.binlog_decimal.proofs.digits.write_chunk.Goals as goal

pub from_utf8_unchecked-requires : goal.from_utf8_unchecked-requires
from_utf8_unchecked-requires g c =
    let copied = c.copy_from_slice.ensures.after in
    let is : c.make_characters.new.digits ≡ chars c.args.digits.now = c.make_characters.ensures ∙ ap chars copied in
    rw is (IsUtf8-from_ascii (chars c.args.digits.now) (IsAscii-chars c.args.digits.now c.requires.below))

pub returns : goal.returns
returns g c = λ plain ok.
    let copied = c.copy_from_slice.ensures.after in
    let is : c.make_characters.new.digits ≡ chars c.args.digits.now = c.make_characters.ensures ∙ ap chars copied in
    let all = c.from_utf8_unchecked.ensures ∙ is ∙ sym (glyphs c.args.digits.now c.requires.below) in
    has_written_of_eq _ _ _ _ _ all (c.write_str.ensures.writes plain ok)
