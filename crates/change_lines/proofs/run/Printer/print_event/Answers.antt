use Rattle.std.proofs.Common.{◌≡◌, ◌*◌, ◌<◌, Bool, List, ℕ, [], length, refl, sym, subst, ap, ◌∙◌, append-nil}
use Rattle.binlog_file.specs.declared.lent_changes.LentEvent.{LentEvent}
use Rattle.change_lines.specs.declared.error.Failure.TheVariants as failure
use Rattle.change_lines.specs.declared.run.Lines.{Lines}
use Rattle.std.specs.Prelude.{OnOk, IfOk, IfErr}
use Rattle.change_lines.specs.declared.run.Printed.TheVariants as printed
use Rattle.changed_rows.specs.declared.gaps.Gaps.{Gaps}
use Rattle.change_lines.specs.Lines.{Manner, manner_of, IsRowLine, AreEventLines, WritesEvent, gtid_past, gaps_of, gaps_past, open_past}
use Rattle.change_lines.specs.Failures.{AreFirstOfEvent, OutputsUpTo, WritesFirstRows, WritesFirstOfEvent, IsOfEvent}
use Rattle.change_lines.specs.declared.run.Form.TheVariants as form
use Rattle.binlog_file.specs.declared.lent_changes.LentEvent.TheVariants as lent
use Rattle.change_lines.specs.CountedFiles.{AreEventRows, AreFirstEventRows, CountsThese}
use Rattle.change_lines.specs.NotedFiles.{IsPrinted, Skips, skipped_past}
use Rattle.changed_rows.proofs.Counted.{in_any_case}
use Rattle.change_lines.proofs.Skipped.{on_skip, err_skip, skipped_lines, skipped_counts, skip_printed}
use Rattle.change_lines.proofs.Errors.{passed_on}
use Rattle.change_lines.proofs.First.{first_written}
use Rattle.change_lines.proofs.Written.{on_ok, rows_written}
use Rattle.change_lines.proofs.Failures.{up_to_nothing}
use Rattle.change_lines.proofs.Outputs.{outputs_held}
use Rattle.change_lines.proofs.CountedFiles.{counts_nothing}
use Rattle.change_lines.proofs.run.Printer.print_event.Goals as goal

pub returns-in_ok-see-in-Other-clause-lines : goal.returns-in_ok-see-in-Other-clause-lines
returns-in_ok-see-in-Other-clause-lines g c =
    let s = c.args.self.now in
    let held = s.lines.bytes.items in
    ([], subst (λ (x : LentEvent). AreEventLines (manner_of s.settings.now) s.file.now s.gtid x []) (sym c.in-Other.is) refl, outputs_held (g.O.Write.contents c.args.out.now) held [] c.see.new.self.lines.bytes.items (ap (λ (l : Lines). l.bytes.items) c.see.ensures.lines ∙ sym (append-nil held)))

pub returns-in_err-see-in-Other-clause-first : goal.returns-in_err-see-in-Other-clause-first
returns-in_err-see-in-Other-clause-first g c =
    let s = c.args.self.now in
    let held = s.lines.bytes.items in
    let out = g.O.Write.contents c.args.out.now in
    let same = ap (λ (l : Lines). l.bytes.items) c.see.ensures.lines in
    passed_on _ failure.Memory _ c.from_residual.ensures.1 (
      [],
      subst (λ (x : LentEvent). AreFirstOfEvent failure.Memory (manner_of s.settings.now) s.file.now s.gtid x []) (sym c.in-Other.is) (refl, tt),
      subst (λ t. OutputsUpTo failure.Memory out held [] out t) (sym same) (up_to_nothing failure.Memory out held),
    )

pub returns-in_ok-see-in-Other-clause-counts : goal.returns-in_ok-see-in-Other-clause-counts
returns-in_ok-see-in-Other-clause-counts g c = λ same. ([], subst (λ (x : LentEvent). AreEventRows c.args.self.now.settings.now.skips_faulty x []) (sym c.in-Other.is) refl, counts_nothing c.args.counts.now)

pub returns-in_err-see-in-Other-clause-first_counts : goal.returns-in_err-see-in-Other-clause-first_counts
returns-in_err-see-in-Other-clause-first_counts g c =
    passed_on _ failure.Memory _ c.from_residual.ensures.1 (λ same. ([], subst (λ (x : LentEvent). AreFirstEventRows failure.Memory x []) (sym c.in-Other.is) (refl, tt), counts_nothing c.args.counts.now))

pub returns-in-Rows-clause-lines : goal.returns-in-Rows-clause-lines
returns-in-Rows-clause-lines g c =
    let s = c.args.self.now in
    let m = manner_of s.settings.now in
    let r = c.print_rows-printed in
    let out = g.O.Write.contents c.args.out.now in
    let new = g.O.Write.contents r.new.out in
    let held = s.lines.bytes.items in
    let same = ap (λ (l : Lines). l.bytes.items) (c.skip.ensures.lines ∙ c.see_faulty.ensures.lines) in
    let skips = ap (λ (k : Manner). k.skips) (c.see_faulty.ensures.same.manner ∙ r.ensures.same.manner) in
    let gives = subst (λ (b : Bool). Skips b r.result c.skip.result) skips c.skip.ensures.gives in
    let rows = c.in-Rows.change in
    subst (λ (x : LentEvent). OnOk c.skip.result (WritesEvent m s.file.now s.gtid x out held new c.skip.new.self.lines.bytes.items)) (sym c.in-Rows.is)
    (subst (λ (left : List ℕ). OnOk c.skip.result (WritesEvent m s.file.now s.gtid (lent.Rows rows) out held new left)) (sym same)
    (on_skip m.skips r.result c.skip.result _ (λ why. WritesFirstRows why (IsRowLine m.form s.file.now s.gtid rows) rows out held new r.new.self.lines.bytes.items) gives
    (skipped_lines m s.file.now s.gtid rows out held new r.new.self.lines.bytes.items)
    (on_ok r.result _ _ (rows_written m s.file.now s.gtid rows out held new r.new.self.lines.bytes.items) r.ensures.lines) r.ensures.first))

pub returns-in-Rows-clause-first : goal.returns-in-Rows-clause-first
returns-in-Rows-clause-first g c =
    let s = c.args.self.now in
    let m = manner_of s.settings.now in
    let r = c.print_rows-printed in
    let out = g.O.Write.contents c.args.out.now in
    let new = g.O.Write.contents r.new.out in
    let held = s.lines.bytes.items in
    let same = ap (λ (l : Lines). l.bytes.items) (c.skip.ensures.lines ∙ c.see_faulty.ensures.lines) in
    let skips = ap (λ (k : Manner). k.skips) (c.see_faulty.ensures.same.manner ∙ r.ensures.same.manner) in
    let gives = subst (λ (b : Bool). Skips b r.result c.skip.result) skips c.skip.ensures.gives in
    let rows = c.in-Rows.change in
    subst (λ (x : LentEvent). IfErr c.skip.result (λ why. WritesFirstOfEvent why m s.file.now s.gtid x out held new c.skip.new.self.lines.bytes.items)) (sym c.in-Rows.is)
    (subst (λ (left : List ℕ). IfErr c.skip.result (λ why. WritesFirstOfEvent why m s.file.now s.gtid (lent.Rows rows) out held new left)) (sym same)
    (err_skip m.skips r.result c.skip.result (λ why. WritesFirstRows why (IsRowLine m.form s.file.now s.gtid rows) rows out held new r.new.self.lines.bytes.items) _ gives
    (first_written m s.file.now s.gtid rows out held new r.new.self.lines.bytes.items) r.ensures.first))

pub returns-in-Rows-clause-cause : goal.returns-in-Rows-clause-cause
returns-in-Rows-clause-cause g c = err_skip _ c.print_rows-printed.result c.skip.result (IsOfEvent g.O.WriteOnce.writes g.O.WriteOnce.flushes) _ c.skip.ensures.gives (λ why not is. is) c.print_rows-printed.ensures.cause

pub returns-in-Rows-clause-counts : goal.returns-in-Rows-clause-counts
returns-in-Rows-clause-counts g c =
    let s = c.args.self.now in
    let m = manner_of s.settings.now in
    let r = c.print_rows-printed in
    let old = c.args.counts.now in
    let new = r.new.counts in
    let skips = ap (λ (k : Manner). k.skips) (c.see_faulty.ensures.same.manner ∙ r.ensures.same.manner) in
    let gives = subst (λ (b : Bool). Skips b r.result c.skip.result) skips c.skip.ensures.gives in
    let rows = c.in-Rows.change in
    subst (λ (x : LentEvent). OnOk c.skip.result (s.settings.now.form ≡ form.Count → CountsThese (AreEventRows m.skips x) old new)) (sym c.in-Rows.is)
    (on_skip m.skips r.result c.skip.result _ (λ why. s.settings.now.form ≡ form.Count → CountsThese (AreFirstEventRows why (lent.Rows rows)) old new) gives
    (λ asked e is f same. skipped_counts m.skips rows old new asked e is (f same)) r.ensures.counts r.ensures.first_counts)

pub returns-in-Rows-clause-first_counts : goal.returns-in-Rows-clause-first_counts
returns-in-Rows-clause-first_counts g c =
    let s = c.args.self.now in
    let r = c.print_rows-printed in
    subst (λ (x : LentEvent). IfErr c.skip.result (λ why. s.settings.now.form ≡ form.Count → CountsThese (AreFirstEventRows why x) c.args.counts.now r.new.counts)) (sym c.in-Rows.is)
    (err_skip _ r.result c.skip.result (λ why. s.settings.now.form ≡ form.Count → CountsThese (AreFirstEventRows why (lent.Rows c.in-Rows.change)) c.args.counts.now r.new.counts) _ c.skip.ensures.gives (λ why not counts. counts) r.ensures.first_counts)

pub returns-in-Rows-clause-printed : goal.returns-in-Rows-clause-printed
returns-in-Rows-clause-printed g c =
    let s = c.args.self.now in
    let m = manner_of s.settings.now in
    let r = c.print_rows-printed in
    let skips = ap (λ (k : Manner). k.skips) (c.see_faulty.ensures.same.manner ∙ r.ensures.same.manner) in
    let gives = subst (λ (b : Bool). Skips b r.result c.skip.result) skips c.skip.ensures.gives in
    subst (λ (x : LentEvent). IfOk c.skip.result (IsPrinted m.skips x)) (sym c.in-Rows.is)
    (skip_printed m.skips r.result c.skip.result (IsRowLine m.form s.file.now s.gtid c.in-Rows.change) c.in-Rows.change (g.O.Write.contents c.args.out.now) s.lines.bytes.items (g.O.Write.contents r.new.out) r.new.self.lines.bytes.items gives r.ensures.rows r.ensures.first)

pub returns-in-Rows-clause-gtid : goal.returns-in-Rows-clause-gtid
returns-in-Rows-clause-gtid g c =
    let s = c.args.self.now in
    in_any_case c.skip.result _ (subst (λ (x : LentEvent). c.skip.new.self.gtid ≡ gtid_past s.gtid x) (sym c.in-Rows.is) (c.skip.ensures.gtid ∙ c.see_faulty.ensures.gtid ∙ c.print_rows-printed.ensures.gtid))

pub returns-in-Rows-clause-transaction : goal.returns-in-Rows-clause-transaction
returns-in-Rows-clause-transaction g c =
    let s = c.args.self.now in
    in_any_case c.skip.result _ (subst (λ (x : LentEvent). c.skip.new.self.is_open ≡ open_past s.is_open x) (sym c.in-Rows.is) (c.skip.ensures.transaction ∙ c.see_faulty.ensures.transaction ∙ c.print_rows-printed.ensures.transaction))

pub returns-in-Rows-clause-gaps : goal.returns-in-Rows-clause-gaps
returns-in-Rows-clause-gaps g c =
    let s = c.args.self.now in
    let new = c.skip.new.self.gaps in
    subst (λ (x : LentEvent). IfOk c.skip.result (λ k. new ≡ gaps_past s.settings.now.filter.positions s.is_open k x s.gaps)) (sym c.in-Rows.is)
    (subst (λ (old : Gaps). IfOk c.skip.result (λ k. new ≡ gaps_of k old)) (c.see_faulty.ensures.gaps ∙ c.print_rows-printed.ensures.gaps) c.skip.ensures.gaps)

pub returns-in-Rows-clause-skipped : goal.returns-in-Rows-clause-skipped
returns-in-Rows-clause-skipped g c =
    subst (λ (old : ℕ). IfOk c.skip.result (λ k. c.skip.new.self.skipped ≡ skipped_past k old)) (c.see_faulty.ensures.skipped ∙ c.print_rows-printed.ensures.skipped) c.skip.ensures.skipped

pub returns-in_err-see-in-Other-clause-few : goal.returns-in_err-see-in-Other-clause-few
returns-in_err-see-in-Other-clause-few g c = λ few. subst (λ (l : Lines). length l.bytes.items < 32 * 1024) (sym c.see.ensures.lines) few

pub returns-in_ok-see-in-Other-clause-few : goal.returns-in_ok-see-in-Other-clause-few
returns-in_ok-see-in-Other-clause-few g c = λ few. subst (λ (l : Lines). length l.bytes.items < 32 * 1024) (sym c.see.ensures.lines) few

pub returns-in_ok-see-in-Other-clause-printed : goal.returns-in_ok-see-in-Other-clause-printed
returns-in_ok-see-in-Other-clause-printed g c = subst (λ (x : LentEvent). IsPrinted c.args.self.now.settings.now.skips_faulty x (printed.All 0)) (sym c.in-Other.is) refl

pub returns-in_ok-see-in-Other-clause-gaps : goal.returns-in_ok-see-in-Other-clause-gaps
returns-in_ok-see-in-Other-clause-gaps g c =
    let s = c.args.self.now in
    subst (λ (x : LentEvent). c.see.new.self.gaps ≡ gaps_past s.settings.now.filter.positions s.is_open (printed.All 0) x s.gaps) (sym c.in-Other.is) c.in_ok-see-in-Other.ensures.gaps

pub returns-in_ok-see-in-Other-clause-transaction : goal.returns-in_ok-see-in-Other-clause-transaction
returns-in_ok-see-in-Other-clause-transaction g c =
    let s = c.args.self.now in
    subst (λ (x : LentEvent). c.see.new.self.is_open ≡ open_past s.is_open x) (sym c.in-Other.is) c.in_ok-see-in-Other.ensures.transaction
