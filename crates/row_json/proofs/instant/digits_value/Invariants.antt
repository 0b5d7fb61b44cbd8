use Rattle.std.proofs.Common.{◌≡◌, ◌<◌, ◌^◌, take}
use Rattle.row_json.specs.Times.{digits_value}
use Rattle.row_json.proofs.instant.digits_value.Given as goal

abbrev pub invariant-loop-digit : goal.invariant-loop-digit
invariant-loop-digit l = record { value : l.number ≡ digits_value (take l.digit-index l.digits); fits : l.number < 10 ^ l.digit-index }
