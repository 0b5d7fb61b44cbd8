use Rattle.std.proofs.Common.{◌≡◌, drop, map}
use Rattle.std.specs.Option.{option_map}
use Rattle.std.specs.String.{string_bytes}
use Rattle.std.specs.List.{join_with_byte}
use Rattle.row_json.specs.Values.{set_names}
use Rattle.row_json.proofs.Sets.{Names, is_none, after}
use Rattle.row_json.proofs.number.join_names.Given as goal

abbrev pub invariant-loop-name : goal.invariant-loop-name
invariant-loop-name l =
    let all = map (option_map string_bytes) l.names in
    (done : Names) × (set_names all l.bits ≡ after done (set_names (drop l.name-index all) l.left)) × (string_bytes l.text ≡ join_with_byte 44 done) × (l.is_first ≡ is_none done)
