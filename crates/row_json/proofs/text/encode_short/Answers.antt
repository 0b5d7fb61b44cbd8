use Rattle.std.proofs.Common.{◌≤◌, length, arith}
use Rattle.std.proofs.lemmas.Str.{IsUtf8-from_ascii}
use Rattle.base64.specs.Engines.{standard}
use Rattle.base64.specs.GeneralPurpose.{encode_of, encoded_size_of}
use Rattle.base64.proofs.EngineFacts.{encoded_prefix, IsAscii-encode_of}
use Rattle.row_json.proofs.text.encode_short.Goals as goal

pub from_utf8_unchecked-requires : goal.from_utf8_unchecked-requires
from_utf8_unchecked-requires c =
    let e = c.encode_slice in
    let bytes = c.args.bytes.now in
    let text = encoded_prefix (encode_of standard bytes) c.args.room.now e.new.output _ c.in-Ok.len e.result _ e.auto.output e.ensures.fits e.ensures.too_small c.in-Ok.is c.in-Ok.ensures.written in
    rw text (IsUtf8-from_ascii (encode_of standard bytes) (IsAscii-encode_of standard bytes))

pub unreachable-requires : goal.unreachable-requires
unreachable-requires c =
    let fits : encoded_size_of standard (length c.args.bytes.now) ≤ length c.args.room.now = omega arith in
    c.in_default.not-Ok (encoded_size_of standard (length c.args.bytes.now)) (c.encode_slice.ensures.fits fits)
