use Rattle.std.proofs.Common.{◌≡◌, ◌+◌, ◌<◌, ◌≤◌, ℕ, List, [], ◌++◌, length, get_or, arith, sym, subst, append_assoc, append-nil}
use Rattle.row_json.specs.Wrote.{Named}
use Rattle.row_json.specs.Rows.{AreMembers}
use Rattle.std.proofs.lemmas.Result.{err_from_is_err_and}
use Rattle.binlog_base.specs.Values.{value_at}
use Rattle.row_json.specs.Columns.{columns_in}
use Rattle.row_json.specs.Faults.{HasNone, IsFaultOfCell}
use Rattle.row_json.proofs.Columns.{present_step, last_step, count_present, count_last}
use Rattle.row_json.proofs.Places.{next_at, no_more, after_set, after_counted}
use Rattle.row_json.proofs.Diffs.{up_to}
use Rattle.row_json.proofs.Faults.{none_of_all}
use Rattle.std.specs.Prelude.{Option}
use Rattle.binlog_cells.specs.Cells.{Cell}
use Rattle.row_json.specs.Rows.{IsMember}
use Rattle.row_json.specs.declared.row.Part.TheVariants as part
use Rattle.row_json.proofs.Drafts.{goes_nothing, goes_members}
use Rattle.row_json.proofs.long.write_members.Goals as goal

pub loop-place-init : goal.loop-place-init
loop-place-init c = (0, c.requires, [], goes_nothing c.args.draft.now.parts.items c.args.draft.now.out, (λ more are. are), omega arith, λ k b. absurd (omega (arith, b)))

pub loop-place-preserved : goal.loop-place-preserved
loop-place-preserved c =
    let inv = c.loop-place.invariant in
    let next = inv.0 in
    let k = c.loop-place.place in
    let p = part.Row in
    let cs = c.args.columns.now in
    let bits = c.args.present.now in
    let values = c.args.row.now.values in
    let places = c.args.places.now in
    let i = get_or places k 0 in
    let n = next_at bits places k next (omega arith) inv.1 in
    let column = c.index-columns-index.result in
    let w = c.in_ok-write_member.ensures.written in
    let is = subst (λ (cell : Option Cell). IsMember column cell w.0) c.as_ref.ensures w.1 in
    let sound = subst (λ (cell : Option Cell). HasNone (IsFaultOfCell part.Row cell)) c.as_ref.ensures c.in_ok-write_member.ensures.sound in
    let below : i < length cs = omega arith in (
      i + 1,
      n.rest,
      inv.2 ++ w.0,
      goes_members c.args.draft.now.parts.items c.loop-place.draft.parts.items c.write_member.new.draft.parts.items c.args.draft.now.out c.loop-place.draft.out c.write_member.new.draft.out inv.2 w.0 inv.3 w.2,
      (λ more are. subst (λ (ms : List Named). AreMembers p cs bits 0 values ms) (sym (append_assoc inv.2 w.0 more)) (inv.4 (w.0 ++ more) (n.members p cs k values (w.0 ++ more) (present_step p cs bits i k values column w.0 more below c.index-columns-index.is n.set is are)))),
      omega (arith, inv.5, n.count cs, count_present cs bits i below n.set),
      up_to (λ (k : ℕ). HasNone (IsFaultOfCell p (value_at values k))) k inv.6 sound,
    )

pub returns-then-index-columns-clause-written : goal.returns-then-index-columns-clause-written
returns-then-index-columns-clause-written c =
    let inv = c.loop-place.invariant in
    let next = inv.0 in
    let k = c.loop-place.place in
    let p = part.Row in
    let cs = c.args.columns.now in
    let bits = c.args.present.now in
    let values = c.args.row.now.values in
    let places = c.args.places.now in
    let i = get_or places k 0 in
    let n = next_at bits places k next (omega arith) inv.1 in
    let past : length cs ≤ i = omega arith in
    (inv.2, subst (λ (ms : List Named). AreMembers p cs bits 0 values ms) (append-nil inv.2) (inv.4 [] (n.members p cs k values [] (last_step p cs bits i k values past))), inv.3)

pub returns-clause-written : goal.returns-clause-written
returns-clause-written c =
    let inv = c.loop-place.invariant in
    let next = inv.0 in
    let k = c.loop-place.place in
    let p = part.Row in
    let cs = c.args.columns.now in
    let bits = c.args.present.now in
    let values = c.args.row.now.values in
    let places = c.args.places.now in
    let end = no_more bits places k next (omega arith) inv.1 in
    (inv.2, subst (λ (ms : List Named). AreMembers p cs bits 0 values ms) (append-nil inv.2) (inv.4 [] (after_set bits next end p cs k values)), inv.3)

pub returns-in_err-write_member-clause-err : goal.returns-in_err-write_member-clause-err
returns-in_err-write_member-clause-err c =
    let inv = c.loop-place.invariant in
    let next = inv.0 in
    let k = c.loop-place.place in
    let p = part.Row in
    let cs = c.args.columns.now in
    let bits = c.args.present.now in
    let values = c.args.row.now.values in
    let places = c.args.places.now in
    let i = get_or places k 0 in
    let n = next_at bits places k next (omega arith) inv.1 in
    let below : i < length cs = omega arith in
    let within : k < length (columns_in cs bits) = omega (arith, inv.5, n.count cs, count_present cs bits i below n.set) in
    let p = err_from_is_err_and c.from_residual.result c.from_residual.ensures.1 in
    rw (p.1, p.2) (λ other. record { place = k; within = within; here = subst (λ (cell : Option Cell). IsFaultOfCell part.Row cell c.in_err-write_member.field-0.0) c.as_ref.ensures (c.in_err-write_member.ensures.err other); before = inv.6 })

pub returns-then-index-columns-clause-sound : goal.returns-then-index-columns-clause-sound
returns-then-index-columns-clause-sound c =
    let inv = c.loop-place.invariant in
    let next = inv.0 in
    let k = c.loop-place.place in
    let p = part.Row in
    let cs = c.args.columns.now in
    let bits = c.args.present.now in
    let values = c.args.row.now.values in
    let places = c.args.places.now in
    let i = get_or places k 0 in
    let n = next_at bits places k next (omega arith) inv.1 in
    let past : length cs ≤ i = omega arith in
    let all : k ≡ length (columns_in cs bits) = omega (arith, inv.5, n.count cs, count_last cs bits i past) in
    none_of_all (length (columns_in cs bits)) (λ k. IsFaultOfCell p (value_at values k)) (λ k b. inv.6 k (omega (arith, b, all)))

pub returns-clause-sound : goal.returns-clause-sound
returns-clause-sound c =
    let inv = c.loop-place.invariant in
    let next = inv.0 in
    let k = c.loop-place.place in
    let p = part.Row in
    let cs = c.args.columns.now in
    let bits = c.args.present.now in
    let values = c.args.row.now.values in
    let places = c.args.places.now in
    let end = no_more bits places k next (omega arith) inv.1 in
    let all : k ≡ length (columns_in cs bits) = omega (arith, inv.5, after_counted bits next end cs) in
    none_of_all (length (columns_in cs bits)) (λ k. IsFaultOfCell p (value_at values k)) (λ k b. inv.6 k (omega (arith, b, all)))
