use Rattle.std.proofs.Common.{◌≡◌, ℕ, List, [], ◌∷◌, ◌++◌, length, inl, inr, refl, ◌∙◌, subst, arith, length-append, ap}
use Rattle.mysql_binlog_rows.specs.RowsEvent.{RowsEvent}
use Rattle.row_json.specs.Columns.{Column, columns_of}
use Rattle.row_json.specs.Rows.{IsLine}
use Rattle.binlog_events.specs.declared.origin.Origin.{Origin}
use Rattle.change_lines.specs.declared.error.Failure.TheVariants as failure
use Rattle.changed_rows.specs.declared.source.Source.{Source}
use Rattle.changed_rows.specs.Sources.{members_in, source_at}
use Rattle.changed_rows.specs.Names.{up_to_most}
use Rattle.change_lines.specs.Failures.{IsLineFailure}
use Rattle.change_lines.proofs.Pairs.{nothing_read, pair_read, ok_gives, same_table, same_rows, same_origin, counted_more}
use Rattle.change_lines.proofs.Rows.{line_more}
use Rattle.change_lines.proofs.Errors.{passed_on}
use Rattle.change_lines.proofs.Failures.{up_to_more, not_at_row, output_not_file}
use Rattle.change_lines.proofs.First.{rows_so_far, rows_up_to, err_gives, row_error, line_error}
use Rattle.change_lines.proofs.Outputs.{outputs_nothing, outputs_more}
use Rattle.change_lines.proofs.run.write_json_rows.Goals as goal

pub loop-read-init : goal.loop-read-init
loop-read-init g c =
    let e = c.args.change.now in
    (refl, refl, [], [], nothing_read e.table e.rows e.left, refl, refl, outputs_nothing (g.O.Write.contents c.args.out.now) c.args.lines.now.bytes.items, refl, omega arith, λ few. few)

pub loop-read-preserved : goal.loop-read-preserved
loop-read-preserved g c =
    let h = c.loop-read.invariant in
    let e = c.args.change.now in
    let old = c.loop-read.change in
    let new = c.next_pair.new.self in
    let p = c.next_pair.new.pair in
    let u = c.in_ok-read.field-0 in
    let gives = ok_gives old new p c.in-Some.read u c.in_ok-read.was c.in-Some.ensures.gives in
    let put = c.in_ok-put_json.ensures.line in
    let line = put.0 in
    let cs = c.args.table.now in
    let source = c.args.source.now in
    let is = subst (λ (x : RowsEvent). IsLine cs x (members_in (source_at source (up_to_most (length h.2)))) p line) (c.rows.ensures ∙ same_rows old new p u gives ∙ h.1)
    (subst (λ (n : ℕ). IsLine cs c.rows.result.now (members_in (source_at source n)) p line) h.6
    (subst (λ (s : Source). IsLine cs c.rows.result.now (members_in s) p line) c.at.ensures put.1)) in (
      same_table old new p u gives ∙ h.0,
      same_rows old new p u gives ∙ h.1,
      h.2 ++ p ∷ [],
      h.3 ++ line,
      pair_read e.table e.rows e.left h.2 old new p u h.0 h.1 h.4 gives,
      line_more _ 0 h.2 h.3 p line (length h.2) h.5 (omega arith) is,
      omega (arith, c.saturating_add-row.ensures, h.6, length-append h.2 (p ∷ [])),
      outputs_more _ _ _ _ c.loop-read.lines.bytes.items _ h.3 line h.7 put.2,
      same_origin old new p u gives ∙ h.8,
      counted_more e old new h.2 p u gives h.9,
      λ few. c.put_json.ensures.few (h.10 few),
    )

pub returns-in_err-read-clause-first : goal.returns-in_err-read-clause-first
returns-in_err-read-clause-first g c =
    let h = c.loop-read.invariant in
    let e = c.args.change.now in
    let old = c.loop-read.change in
    let p = c.next_pair.new.pair in
    let error = c.in_err-read.field-0.0 in
    let gives = err_gives old c.next_pair.new.self p c.in-Some.read error c.in_err-read.was c.in-Some.ensures.gives in
    let fails = row_error e old c.next_pair.new.self (length h.2) p error h.0 h.1 h.8 h.9 gives in
    λ same columns. passed_on _ (failure.File error) _ c.from_residual.ensures.1 (rows_so_far (failure.File error) _ e _ _ _ c.loop-read.lines.bytes.items _ h.2 old.left h.3 h.4 h.5 h.7 refl fails)

pub returns-in_err-put_json-clause-first : goal.returns-in_err-put_json-clause-first
returns-in_err-put_json-clause-first g c =
    let h = c.loop-read.invariant in
    let e = c.args.change.now in
    let old = c.loop-read.change in
    let new = c.next_pair.new.self in
    let p = c.next_pair.new.pair in
    let u = c.in_ok-read.field-0 in
    let gives = ok_gives old new p c.in-Some.read u c.in_ok-read.was c.in-Some.ensures.gives in
    let why = c.in_err-put_json.field-0.0 in
    let cs = c.args.table.now in
    let source = c.args.source.now in
    let rows = c.rows.ensures ∙ same_rows old new p u gives ∙ h.1 in λ same columns. passed_on _ why _ c.from_residual-in_err-put_json.ensures.1 (elim c.in_err-put_json.ensures.first [
      | inl cut ↦
          let is = subst (λ (x : RowsEvent). IsLine cs x (members_in (source_at source (up_to_most (length h.2)))) p cut.0) rows
          (subst (λ (n : ℕ). IsLine cs c.rows.result.now (members_in (source_at source n)) p cut.0) h.6
          (subst (λ (s : Source). IsLine cs c.rows.result.now (members_in s) p cut.0) c.at.ensures cut.1)) in
          record {
            pairs = h.2 ++ p ∷ [];
            rest = new.left;
            text = h.3 ++ cut.0;
            begins = pair_read e.table e.rows e.left h.2 old new p u h.0 h.1 h.4 gives;
            lines = line_more _ 0 h.2 h.3 p cut.0 (length h.2) h.5 (omega arith) is;
            ends = not_at_row why e (length (h.2 ++ p ∷ [])) new.left (output_not_file why cut.2);
            outputs = up_to_more why _ _ _ _ c.loop-read.lines.bytes.items _ h.3 cut.0 h.7 cut.3;
          }
      | inr none ↦
          let origin : c.at.result.origin ≡ e.origin = ap (λ (s : Source). s.origin) c.at.ensures ∙ same in
          let number : c.at.result.row ≡ up_to_most (length h.2) = ap (λ (s : Source). s.row) c.at.ensures ∙ h.6 in
          let failed1 = subst (λ (o : Origin). IsLineFailure cs c.rows.result.now o.position c.at.result.row p why) origin none.0 in
          let failed2 = subst (λ (d : RowsEvent). IsLineFailure cs d e.origin.position c.at.result.row p why) rows failed1 in
          let failed3 = subst (λ (k : List Column). IsLineFailure k e.rows e.origin.position c.at.result.row p why) columns failed2 in
          let failed = subst (λ (n : ℕ). IsLineFailure (columns_of e.table) e.rows e.origin.position n p why) number failed3 in
          let fails = line_error e old new (length h.2) p u why h.0 h.1 gives failed in
          rows_up_to why _ e _ _ _ _ c.loop-read.lines.bytes.items _ h.2 old.left h.3 h.4 h.5 h.7 none.1 fails
    ])

pub returns-in_err-read-clause-cause : goal.returns-in_err-read-clause-cause
returns-in_err-read-clause-cause g c = passed_on _ (failure.File c.in_err-read.field-0.0) _ c.from_residual.ensures.1 tt

pub returns-in_err-put_json-clause-cause : goal.returns-in_err-put_json-clause-cause
returns-in_err-put_json-clause-cause g c = passed_on _ c.in_err-put_json.field-0.0 _ c.from_residual-in_err-put_json.ensures.1 c.in_err-put_json.ensures.cause
