use Rattle.std.proofs.Common.{◌≡◌, ◌+◌, ◌++◌, take, length}
use Rattle.std.specs.Fmt.{decimal}
use Rattle.std.specs.List.{flat_map}
use Rattle.row_json.proofs.time.TimeText.push_digits.Given as goal

abbrev pub invariant-loop-digit : goal.invariant-loop-digit
invariant-loop-digit l = record { text : l.self ≡ l.initial.self ++ flat_map decimal (take l.digit-index l.digits); long : length l.self ≡ length l.initial.self + l.digit-index }
