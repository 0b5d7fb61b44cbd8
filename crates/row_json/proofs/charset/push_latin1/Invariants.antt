use Rattle.std.proofs.Common.{◌≡◌, ◌++◌, take}
use Rattle.std.specs.String.{string_bytes}
use Rattle.row_json.specs.Charsets.{latin1_text}
use Rattle.row_json.proofs.charset.push_latin1.Given as goal

abbrev pub invariant-loop-byte : goal.invariant-loop-byte
invariant-loop-byte l = string_bytes l.text ≡ string_bytes l.initial.text ++ latin1_text (take l.byte-index l.bytes)
