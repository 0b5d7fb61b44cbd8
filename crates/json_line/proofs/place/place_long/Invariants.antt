use Rattle.std.proofs.Common.{◌+◌, ◌-◌, ◌≤◌, length, take}
use Rattle.json.specs.Filled.{Placed}
use Rattle.json_line.proofs.place.place_long.Given as goal

abbrev pub invariant-loop-done : goal.invariant-loop-done
invariant-loop-done l = (l.done + 32 ≤ length l.src) × Placed l.fn.buf l.buf l.at (take l.done l.src) (l.at + l.done)

abbrev pub decreases-loop-done : goal.decreases-loop-done
decreases-loop-done l = length l.src - l.done
