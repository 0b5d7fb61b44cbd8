use Rattle.std.proofs.Common.{◌≡◌, ◌<◌, ◌+◌, ℕ, suc, List, arith, sym, subst}
use Rattle.std.proofs.lemmas.Result.{err_from_is_err_and}
use Rattle.binlog_values.specs.JsonbTrees.{Branches, no_members, merged_into}
use Rattle.row_json.specs.Workings.Walked.{AreIndexed}
use Rattle.row_json.proofs.Walked.{Entry, first_of, nth, all_of, kept_next}
use Rattle.row_json.proofs.document.members_of.Goals as goal

pub returns-in_err-keep_entry-clause-memory : goal.returns-in_err-keep_entry-clause-memory
returns-in_err-keep_entry-clause-memory c =
    let p = err_from_is_err_and c.from_residual.result c.from_residual.ensures.1 in
    rw (p.1, p.2) (λ f is all bs denoted flat.
    let lt : c.loop-pos.pos < f.count = omega (arith, c.loop-pos-test.true, all) in
    let n = nth c.loop-pos.pos bs f denoted lt in
    c.in_err-keep_entry.ensures.memory f is flat lt n.key n.is_key)

pub loop-pos-preserved : goal.loop-pos-preserved
loop-pos-preserved c = (
  omega (arith, c.loop-pos-test.true),
  λ f is all bs denoted flat.
      let pos = c.loop-pos.pos in
      let lt : pos < f.count = omega (arith, c.loop-pos-test.true, all) in
      let n = nth pos bs f denoted lt in
      let k = c.in_ok-keep_entry.ensures.kept f is flat lt n.key n.is_key in
      let one : suc pos ≡ pos + 1 = omega arith in
      let kept = kept_next f bs pos n c.loop-pos.members.entries k.0 (c.loop-pos.invariant.1 f is all bs denoted flat) lt k.1 in
      subst (λ (m : ℕ). AreIndexed f c.keep_entry.new.members.entries (merged_into no_members (first_of m bs))) one
      (subst (λ (es : List Entry). AreIndexed f es (merged_into no_members (first_of (suc pos) bs))) (sym k.2) kept),
)

pub returns-clause-kept : goal.returns-clause-kept
returns-clause-kept c = λ f is all bs denoted flat.
    let pos = c.loop-pos.pos in
    let end : pos ≡ f.count = omega (arith, c.loop-pos-test.false, c.loop-pos.invariant.0, all) in
    subst (λ (b : Branches). AreIndexed f c.loop-pos.members.entries (merged_into no_members b)) (all_of pos bs f denoted end) (c.loop-pos.invariant.1 f is all bs denoted flat)
