use Rattle.std.proofs.Common.{◌≡◌, ◌-◌, ◌++◌, map, take, drop}
use Rattle.binlog_decimal.proofs.digits.make_digits.Given as goal

abbrev pub invariant-loop-character : goal.invariant-loop-character
invariant-loop-character l = l.characters ≡ map (λ c. c - 48) (take l.character-index l.initial.characters) ++ drop l.character-index l.initial.characters
