use Rattle.std.proofs.Common.{◌≡◌, ◌<◌, ℕ, false}
use Rattle.binlog_base.specs.Values.{value_at}
use Rattle.row_json.specs.Rows.{is_diffs}
use Rattle.row_json.proofs.pair.has_diffs_in.Given as goal

abbrev pub invariant-loop-index : goal.invariant-loop-index
invariant-loop-index g l = (k : ℕ) → k < l.index → is_diffs (value_at (g.R.Row.image l.row).values k) ≡ false
