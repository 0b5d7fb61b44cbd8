use Rattle.std.proofs.Common.{◌≡◌, take, map}
use Rattle.std.specs.Option.{option_map}
use Rattle.std.specs.String.{string_bytes}
use Rattle.row_json.specs.Charsets.{text_in}
use Rattle.row_json.proofs.names.texts_of.Given as goal

abbrev pub invariant-loop-name : goal.invariant-loop-name
invariant-loop-name l = map (option_map string_bytes) l.texts.items ≡ map (text_in l.charset) (take l.name-index l.names)
