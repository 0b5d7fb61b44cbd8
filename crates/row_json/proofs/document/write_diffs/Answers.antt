use Rattle.std.proofs.Common.{◌≡◌, ℕ, ◌<◌, ◌≤◌, ◌+◌, List, [], ◌∷◌, ◌++◌, length, take, arith, refl, sym, ap, subst, ◌∙◌}
use Rattle.std.proofs.lemmas.List.{take_more, take_all}
use Rattle.json.specs.Json as json
use Rattle.json.specs.Token as token
use Rattle.json.specs.Token.{Token}
use Rattle.json.specs.Tree.{json_tokens}
use Rattle.row_json.specs.Wrote.{items_of}
use Rattle.row_json.proofs.Steps.{adds_both, adds_same, items_end}
use Rattle.row_json.proofs.Flat.{one_more}
use Rattle.binlog_values.specs.JsonDiffs.{Diff}
use Rattle.row_json.specs.Documents.{AreDiffs}
use Rattle.row_json.proofs.Trees.{one_more_diff}
use Rattle.std.proofs.lemmas.Result.{err_from_is_err_and}
use Rattle.std.specs.Prelude.{Option, slice_get}
use Rattle.row_json.specs.Faults.{HasNone, IsFaultOfDiff}
use Rattle.row_json.proofs.Diffs.{up_to}
use Rattle.row_json.proofs.Faults.{diff_at, none_of_all}
use Rattle.row_json.proofs.document.write_diffs.Goals as goal

pub loop-diff-preserved : goal.loop-diff-preserved
loop-diff-preserved c =
    let inv = c.loop-diff.invariant in
    let w = c.in_ok-write_diff.ensures.written in
    let i = c.loop-diff.diff-index in
    let xs = c.args.diffs.now in
    let below : i < length xs = omega arith in
    let e : take (i + 1) xs ≡ take i xs ++ c.diff-item.result ∷ [] = take_more xs i c.diff-item.result below ∙ ap (λ (d : Diff). take i xs ++ d ∷ []) (sym c.diff-item.is) in (
      inv.0 ++ w.value ∷ [],
      subst (λ (ds : List Diff). AreDiffs ds (inv.0 ++ w.value ∷ [])) (sym e) (one_more_diff (take i xs) c.diff-item.result inv.0 w.value inv.1 w.is),
      adds_same _ _ (one_more json_tokens inv.0 w.value) (adds_both _ _ inv.2 w.adds),
      up_to (λ (k : ℕ). HasNone (IsFaultOfDiff (slice_get xs k))) i inv.3
          (subst (λ (d : Option Diff). HasNone (IsFaultOfDiff d)) (sym (diff_at xs i c.diff-item.result below c.diff-item.is)) c.in_ok-write_diff.ensures.sound),
    )

pub returns-clause-written : goal.returns-clause-written
returns-clause-written c =
    let inv = c.loop-diff.invariant in
    let past : length c.args.diffs.now ≤ c.loop-diff.diff-index = omega arith in record {
      value = json.array (items_of inv.0);
      is = (inv.0, subst (λ (ds : List Diff). AreDiffs ds inv.0) (take_all c.loop-diff.diff-index c.args.diffs.now past) inv.1, refl);
      adds = adds_same _ _ (ap (λ (l : List Token). token.begin_array ∷ l) (sym (items_end inv.0)))
          (adds_both (token.begin_array ∷ []) _ (record { before = c.begin_array.ensures.before; tokens = c.in_ok-begin_array.ensures.ok })
          (adds_both _ (token.end_array ∷ []) inv.2 (record { before = c.end_array.ensures.before; tokens = c.in_ok-end_array.ensures.ok })));
    }

pub returns-clause-sound : goal.returns-clause-sound
returns-clause-sound c =
    let xs = c.args.diffs.now in
    let past : length xs ≤ c.loop-diff.diff-index = omega arith in
    none_of_all (length xs) (λ k. IsFaultOfDiff (slice_get xs k)) (λ k b. c.loop-diff.invariant.3 k (omega (arith, b, past)))

pub returns-in_err-write_diff-clause-err : goal.returns-in_err-write_diff-clause-err
returns-in_err-write_diff-clause-err c =
    let i = c.loop-diff.diff-index in
    let xs = c.args.diffs.now in
    let e = c.in_err-write_diff.field-0.0 in
    let p = err_from_is_err_and c.from_residual-in_err-write_diff.result c.from_residual-in_err-write_diff.ensures.1 in
    rw (p.1, p.2) (λ other. record {
      place = i;
      within = c.loop-diff-test.true;
      here = subst (λ (d : Option Diff). IsFaultOfDiff d e) (sym (diff_at xs i c.diff-item.result c.loop-diff-test.true c.diff-item.is)) (c.in_err-write_diff.ensures.err other);
      before = c.loop-diff.invariant.3;
    })
