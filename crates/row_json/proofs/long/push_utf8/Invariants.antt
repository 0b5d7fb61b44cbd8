use Rattle.std.proofs.Common.{◌≡◌, ◌≤◌, ◌+◌, ◌*◌, ◌++◌, take}
use Rattle.std.specs.Prelude.{vec_len, vec_capacity}
use Rattle.json.specs.Print.{escape}
use Rattle.row_json.proofs.long.push_utf8.Given as goal

abbrev pub invariant-loop-byte : goal.invariant-loop-byte
invariant-loop-byte l =
    (l.out.items ≡ l.initial.out.items ++ escape (take l.byte-index l.bytes))
    × (vec_len l.out ≤ vec_len l.initial.out + 6 * l.byte-index)
    × (vec_capacity l.initial.out ≤ vec_capacity l.out)
