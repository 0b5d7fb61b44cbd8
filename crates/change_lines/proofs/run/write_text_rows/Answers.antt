use Rattle.std.proofs.Common.{[], ◌∷◌, ◌++◌, length, refl, ◌∙◌, arith, length-append}
use Rattle.row_lines.specs.Lines.{signed_line_text}
use Rattle.change_lines.specs.declared.error.Failure.TheVariants as failure
use Rattle.change_lines.proofs.Pairs.{nothing_read, pair_read, ok_gives, same_table, same_rows, same_origin, counted_more}
use Rattle.change_lines.proofs.Rows.{line_more}
use Rattle.change_lines.proofs.Errors.{passed_on}
use Rattle.change_lines.proofs.Failures.{up_to_more, up_to_line, not_at_row, output_not_file}
use Rattle.change_lines.proofs.First.{rows_so_far, err_gives, row_error}
use Rattle.change_lines.proofs.Outputs.{outputs_nothing, outputs_line, outputs_more}
use Rattle.change_lines.proofs.run.write_text_rows.Goals as goal

pub loop-read-init : goal.loop-read-init
loop-read-init g c =
    let e = c.args.change.now in
    (refl, refl, [], [], nothing_read e.table e.rows e.left, refl, outputs_nothing (g.O.Write.contents c.args.out.now) c.args.lines.now.bytes.items, refl, omega arith, refl, λ few. few)

pub loop-read-preserved : goal.loop-read-preserved
loop-read-preserved g c =
    let h = c.loop-read.invariant in
    let e = c.args.change.now in
    let old = c.loop-read.change in
    let new = c.next_pair.new.self in
    let p = c.next_pair.new.pair in
    let u = c.in_ok-read.field-0 in
    let gives = ok_gives old new p c.in-Some.read u c.in_ok-read.was c.in-Some.ensures.gives in
    let line = c.args.place.now ++ signed_line_text p in
    let out = outputs_line (g.O.Write.contents c.loop-read.out) (g.O.Write.contents c.write_if_full.new.out) c.loop-read.lines.bytes.items line c.add_text.new.self.bytes.items c.write_if_full.new.self.bytes.items c.in_ok-add_text.ensures.line c.in_ok-write_if_full.ensures.all in (
      same_table old new p u gives ∙ h.0,
      same_rows old new p u gives ∙ h.1,
      h.2 ++ p ∷ [],
      h.3 ++ line,
      pair_read e.table e.rows e.left h.2 old new p u h.0 h.1 h.4 gives,
      line_more _ 0 h.2 h.3 p line (length h.2) h.5 (omega arith) refl,
      outputs_more _ _ _ _ c.loop-read.lines.bytes.items _ h.3 line h.6 out,
      same_origin old new p u gives ∙ h.7,
      counted_more e old new h.2 p u gives h.8,
      omega (arith, c.saturating_add-count.ensures, h.9, length-append h.2 (p ∷ [])),
      λ few. c.write_if_full.ensures.few,
    )

pub returns-in_err-read-clause-first : goal.returns-in_err-read-clause-first
returns-in_err-read-clause-first g c =
    let h = c.loop-read.invariant in
    let e = c.args.change.now in
    let old = c.loop-read.change in
    let p = c.next_pair.new.pair in
    let error = c.in_err-read.field-0.0 in
    let gives = err_gives old c.next_pair.new.self p c.in-Some.read error c.in_err-read.was c.in-Some.ensures.gives in
    let fails = row_error e old c.next_pair.new.self (length h.2) p error h.0 h.1 h.7 h.8 gives in
    passed_on _ (failure.File error) _ c.from_residual.ensures.1 (rows_so_far (failure.File error) _ e _ _ _ c.loop-read.lines.bytes.items _ h.2 old.left h.3 h.4 h.5 h.6 refl fails)

pub returns-in_err-add_text-clause-first : goal.returns-in_err-add_text-clause-first
returns-in_err-add_text-clause-first g c =
    let h = c.loop-read.invariant in
    passed_on _ failure.Memory _ c.from_residual-in_err-add_text.ensures.1 (rows_so_far failure.Memory _ c.args.change.now _ _ _ c.loop-read.lines.bytes.items _ h.2 c.loop-read.change.left h.3 h.4 h.5 h.6 c.in_err-add_text.ensures.kept tt)

pub returns-in_err-write_if_full-clause-first : goal.returns-in_err-write_if_full-clause-first
returns-in_err-write_if_full-clause-first g c =
    let h = c.loop-read.invariant in
    let e = c.args.change.now in
    let old = c.loop-read.change in
    let new = c.next_pair.new.self in
    let p = c.next_pair.new.pair in
    let u = c.in_ok-read.field-0 in
    let gives = ok_gives old new p c.in-Some.read u c.in_ok-read.was c.in-Some.ensures.gives in
    let line = c.args.place.now ++ signed_line_text p in
    let why = c.in_err-write_if_full.field-0.0 in
    let out = up_to_line why _ _ c.loop-read.lines.bytes.items line c.add_text.new.self.bytes.items c.write_if_full.new.self.bytes.items c.in_ok-add_text.ensures.line c.in_err-write_if_full.ensures.first in
    passed_on _ why _ c.from_residual-in_err-write_if_full.ensures.1 (record {
      pairs = h.2 ++ p ∷ [];
      rest = new.left;
      text = h.3 ++ line;
      begins = pair_read e.table e.rows e.left h.2 old new p u h.0 h.1 h.4 gives;
      lines = line_more _ 0 h.2 h.3 p line (length h.2) h.5 (omega arith) refl;
      ends = not_at_row why e (length (h.2 ++ p ∷ [])) new.left (output_not_file why c.in_err-write_if_full.ensures.failed);
      outputs = up_to_more why _ _ _ _ c.loop-read.lines.bytes.items _ h.3 line h.6 out;
    })

pub returns-in_err-read-clause-cause : goal.returns-in_err-read-clause-cause
returns-in_err-read-clause-cause g c = passed_on _ (failure.File c.in_err-read.field-0.0) _ c.from_residual.ensures.1 tt

pub returns-in_err-add_text-clause-cause : goal.returns-in_err-add_text-clause-cause
returns-in_err-add_text-clause-cause g c = passed_on _ failure.Memory _ c.from_residual-in_err-add_text.ensures.1 tt

pub returns-in_err-write_if_full-clause-cause : goal.returns-in_err-write_if_full-clause-cause
returns-in_err-write_if_full-clause-cause g c = passed_on _ c.in_err-write_if_full.field-0.0 _ c.from_residual-in_err-write_if_full.ensures.1 c.in_err-write_if_full.ensures.cause
