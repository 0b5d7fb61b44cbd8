use Rattle.std.proofs.Common.{◌≡◌, false, sym, ◌∙◌, arith}
use Rattle.binlog_base.specs.Values.{value_at}
use Rattle.row_json.specs.Rows.{is_diffs}
use Rattle.row_json.proofs.Diffs.{any_at, none_at, up_to}
use Rattle.row_json.proofs.pair.has_diffs_in.Goals as goal

pub returns-then-is_diffs : goal.returns-then-is_diffs
returns-then-is_diffs g c = sym (any_at (g.R.Row.image c.args.row.now).values c.loop-index.index (sym c.is_diffs.ensures ∙ c.if-is_diffs.true))

pub loop-index-preserved : goal.loop-index-preserved
loop-index-preserved g c =
    let values = (g.R.Row.image c.args.row.now).values in
    up_to (λ k. is_diffs (value_at values k) ≡ false) c.loop-index.index c.loop-index.invariant (sym c.is_diffs.ensures ∙ c.if-is_diffs.false)

pub returns : goal.returns
returns g c = sym (none_at (g.R.Row.image c.args.row.now).values (λ k b. c.loop-index.invariant k (omega (arith, b, c.loop-index-test.false, c.len-index-end.ensures))))
