use Rattle.std.proofs.Common.{◌≡◌, ◌+◌, ◌++◌, map, take, drop}
use Rattle.binlog_decimal.proofs.digits.make_characters.Given as goal

abbrev pub invariant-loop-digit : goal.invariant-loop-digit
invariant-loop-digit l = l.digits ≡ map (λ digit. 48 + digit) (take l.digit-index l.initial.digits) ++ drop l.digit-index l.initial.digits
