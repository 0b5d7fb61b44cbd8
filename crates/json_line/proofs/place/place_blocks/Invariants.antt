use Rattle.std.proofs.Common.{◌≡◌, ◌-◌, ◌+◌, ◌≤◌, take, drop, length}
use Rattle.json.specs.Filled.{Placed}
use Rattle.json_line.proofs.place.place_blocks.Given as goal

abbrev pub invariant-loop-done : goal.invariant-loop-done
invariant-loop-done l = (l.done ≤ l.len + 16) × (length l.buf ≡ length l.fn.buf) × Placed l.fn.buf l.buf l.at (take l.done (drop l.from l.src)) (l.at + l.done)

abbrev pub decreases-loop-done : goal.decreases-loop-done
decreases-loop-done l = (l.len + 16) - l.done
