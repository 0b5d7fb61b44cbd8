use Rattle.std.specs.Prelude.{IsSome}
use Rattle.std.proofs.Common.{rules, ◌≡◌, ◌<◌, Bool, true, false, ℕ, List, [], ◌++◌, append-nil, Option, Some, None, Result, Ok, Err, refl, sym, ap, subst, ◌∙◌, inl, inr}
use Rattle.binlog_events.specs.declared.error.FileError.{FileError}
use Rattle.binlog_file.specs.declared.lent_changes.LentEvent.{LentEvent}
use Rattle.binlog_file.specs.declared.reader.EventStreamReader.{EventStreamReader}
use Rattle.binlog_file.specs.Workings.Readers.{kept_by}
use Rattle.binlog_file.specs.Workings.SourceWalks.{reading_in, kept_in}
use Rattle.change_lines.specs.declared.error.Failure.TheVariants as failure
use Rattle.changed_rows.specs.declared.filter.Filter.{Filter}
use Rattle.changed_rows.specs.declared.filter.Positions.{Positions}
use Rattle.changed_rows.specs.declared.gaps.Gaps.{Gaps}
use Rattle.changed_rows.specs.Names.{is_before}
use Rattle.changed_rows.specs.Filters.{wanted_by, start_after, IsUpTo}
use Rattle.change_lines.specs.Readings.{SourceNext}
use Rattle.change_lines.specs.Lines.{Manner, manner_of, gaps_past, open_past, WritesEvent}
use Rattle.change_lines.specs.NotedFiles.{IsPrinted, faults_of, skipped_past, AreNotedToEnd}
use Rattle.change_lines.specs.CountedFiles.{AreEventRows, CountsThese}
use Rattle.change_lines.specs.Failures.{WritesFirstOfEvent}
use Rattle.binlog_file.specs.SourceChanges.{spot_at}
use Rattle.change_lines.proofs.Errors.{passed_on, on_error, on_errors}
use Rattle.change_lines.proofs.First.{events_so_far, output_so_far, end_so_far, error_so_far, event_so_far}
use Rattle.change_lines.proofs.Failures.{output_not_file, output_misses_none, nothing_missing}
use Rattle.change_lines.proofs.Outputs.{outputs_nothing}
use Rattle.change_lines.proofs.Written.{on_ok, both_ok}
use Rattle.change_lines.proofs.Whole.{step, let_go, ended, stopped}
use Rattle.change_lines.proofs.Begun.{sought_after, nothing_unseen, Missed, missing_passed, missing_stopped, misses_none}
use Rattle.change_lines.proofs.Causes.{of_missing, of_passed, of_event}
use Rattle.change_lines.proofs.CountedFiles.{counts_nothing, count_step, count_ended, count_stopped, count_failed, count_missing, count_error, count_first}
use Rattle.change_lines.proofs.Noted.{note_step, note_ended, note_stopped}
use Rattle.change_lines.specs.Notes.{Tells, AreTold, break_note}
use Rattle.change_lines.proofs.Told.{tells_nothing, still_told, tells_more}
use Rattle.change_lines.proofs.Skipped.{skipped_more, told_both}
use Rattle.change_lines.proofs.Silent.{silent_more}
use Rattle.change_lines.proofs.run.Printer.print_events.Goals as goal

pub loop-bounds-init : goal.loop-bounds-init
loop-bounds-init g c = (
  record { manner = refl; form = refl; positions = refl; file = refl; path = refl },
  refl,
  c.of-bounds.ensures.stop,
  λ none x finds. record {
    goes_on = none;
    bytes = x;
    finds = finds;
    events = [];
    text = [];
    lines = (refl, refl, refl);
    outputs = outputs_nothing (g.O.Write.contents c.args.out.now) c.args.self.now.lines.bytes.items;
    is_sought = inl c.of-bounds.ensures.start;
    unseen = nothing_unseen _;
    early = nothing_unseen _;
  },
  λ counted none x finds. record { goes_on = none; bytes = x; finds = finds; events = []; rows = []; counted = (refl, refl); more = counts_nothing c.args.counts.now; unseen = nothing_unseen _; early = nothing_unseen _ },
  inl c.of-bounds.ensures.start,
  [],
  λ none x finds. record { goes_on = none; bytes = x; finds = finds; events = []; noted = (refl, refl, refl, refl) },
  λ none known. ([], refl, tells_nothing _ _, none, known),
  refl,
  λ nothing. nothing,
)

pub loop-bounds-preserved : goal.loop-bounds-preserved
loop-bounds-preserved g c =
    let h = c.loop-bounds.invariant in
    let s = c.let_go.new.self in
    let w = c.loop-bounds.changes in
    let mid = c.next_event.new.changes in
    let x = c.in_ok-event-in-Some.event in
    let same = c.print_event.ensures.same in
    let place = c.position-position.ensures ∙ ap (λ (r : EventStreamReader). (kept_by r.kept).at) c.reader.ensures in
    let gives1 = subst (λ (e : Result LentEvent FileError). SourceNext (wanted_by w.choice) c.is_each-each.result (g.S.Source.remaining w.source) (reading_in w.walk) w.walk.pending (Some e) (g.S.Source.remaining mid.source) (reading_in mid.walk) mid.walk.pending) c.in_ok-event-in-Some.was c.in-Some.ensures.event in
    let gives = subst (λ (f : Filter). SourceNext (wanted_by f) c.is_each-each.result (g.S.Source.remaining w.source) (reading_in w.walk) w.walk.pending (Some (Ok x)) (g.S.Source.remaining mid.source) (reading_in mid.walk) mid.walk.pending) h.1 gives1 in
    let on : c.goes_on.result ≡ true = search rules in
    let early = subst (λ (n : ℕ). is_before c.loop-bounds.bounds.stop n ≡ true) place (sym c.goes_on.ensures ∙ on) in
    let before = subst (λ (o : Option ℕ). is_before o (reading_in w.walk).kept.at ≡ true) h.2 early in
    let writes1 = subst (λ (m : Manner). WritesEvent m s.file.now s.gtid x (g.O.Write.contents c.let_go.new.out) s.lines.bytes.items (g.O.Write.contents c.print_event.new.out) c.print_event.new.self.lines.bytes.items) (c.let_go.ensures.same.manner ∙ h.0.manner) c.in_ok-printed.ensures.lines in
    let writes = subst (λ (n : List ℕ). WritesEvent (manner_of c.args.self.now.settings.now) n s.gtid x (g.O.Write.contents c.let_go.new.out) s.lines.bytes.items (g.O.Write.contents c.print_event.new.out) c.print_event.new.self.lines.bytes.items) (c.let_go.ensures.same.file ∙ h.0.file) writes1 in
    let skips = ap (λ (m : Manner). m.skips) (c.let_go.ensures.same.manner ∙ h.0.manner) in
    let is_printed = subst (λ (b : Bool). IsPrinted b x c.in_ok-printed.printed) skips c.in_ok-printed.ensures.printed in
    let path = same.path ∙ (c.let_go.ensures.same.path ∙ h.0.path) in
    let new_gaps = c.print_event.new.self.gaps in
    let said1 = subst (λ (b : Bool). new_gaps ≡ gaps_past s.settings.now.filter.positions b c.in_ok-printed.printed x s.gaps) c.let_go.ensures.transaction c.in_ok-printed.ensures.gaps in
    let said2 = subst (λ (k : Gaps). new_gaps ≡ gaps_past s.settings.now.filter.positions c.loop-bounds.self.is_open c.in_ok-printed.printed x k) c.let_go.ensures.gaps said1 in (
      record { manner = same.manner ∙ (c.let_go.ensures.same.manner ∙ h.0.manner); form = same.form ∙ (c.let_go.ensures.same.form ∙ h.0.form); positions = same.positions ∙ (c.let_go.ensures.same.positions ∙ h.0.positions); file = same.file ∙ (c.let_go.ensures.same.file ∙ h.0.file); path = path },
      c.next_event.ensures.choice ∙ h.1,
      c.begin.ensures.stop ∙ h.2,
      λ none y finds. step _ _ _ _ _ _ _ _ _ _ _ _ _ _ _ (let_go _ _ _ _ _ _ _ _ _ _ _ _ _ _ _ (h.3 none y finds) _ _ _ c.let_go.ensures.gtid c.in_ok-let_go.ensures.all) _ x _ _ _ _ _ _ gives writes c.in_ok-printed.ensures.gtid (λ free. (c.is_each-each.ensures.free free).0) (λ free. sym h.2 ∙ (c.is_each-each.ensures.free free).1) before (subst (IsUpTo c.loop-bounds.bounds.start) place c.in_ok-begin.ensures.start.0) _ (c.in_ok-begin.ensures.start.1 ∙ ap (start_after c.loop-bounds.bounds.start) place),
      λ counted none y finds. count_step _ _ _ _ _ _ _ _ _ _ (h.4 counted none y finds) _ x _ _ _ _ gives (subst (λ (b : Bool). CountsThese (AreEventRows b x) c.loop-bounds.counts c.print_event.new.counts) skips (c.in_ok-printed.ensures.counts ((c.let_go.ensures.same.form ∙ h.0.form) ∙ counted))) (λ free. (c.is_each-each.ensures.free free).0) (λ free. sym h.2 ∙ (c.is_each-each.ensures.free free).1) before (subst (IsUpTo c.loop-bounds.bounds.start) place c.in_ok-begin.ensures.start.0) _ (c.in_ok-begin.ensures.start.1 ∙ ap (start_after c.loop-bounds.bounds.start) place),
      sought_after _ c.loop-bounds.bounds.start _ _ h.5 c.in_ok-begin.ensures.start.1,
      h.6 ++ faults_of c.in_ok-printed.printed,
      λ none y finds. note_step _ _ _ _ _ _ _ _ _ _ _ _ (h.7 none y finds) _ x _ _ _ _ _ _ gives is_printed
          (c.in_ok-printed.ensures.transaction ∙ ap (λ (b : Bool). open_past b x) c.let_go.ensures.transaction)
          (subst (λ (p : Positions). new_gaps ≡ gaps_past p c.loop-bounds.self.is_open c.in_ok-printed.printed x c.loop-bounds.self.gaps) (c.let_go.ensures.same.positions ∙ h.0.positions) said2),
      λ none known.
          let before = h.8 none known in
          let seen = c.in_ok-see.ensures.silent (inr (inr before.4)) in
          let named = silent_more seen c.see_name.ensures.silent in
          let step = c.step.ensures.text (named.meter ∙ before.3) in
          let here = still_told _ _ _ _ _ _ before.0 before.2 named.lost (ap g.E.Write.contents named.err) in
          let more = subst (λ (p : List ℕ). AreTold p (faults_of c.in_ok-printed.printed) step.0) path step.1 in (
            before.0 ++ step.0,
            told_both c.args.self.now.path.now h.6 (faults_of c.in_ok-printed.printed) before.0 step.0 before.1 more,
            tells_more _ _ _ _ _ _ before.0 step.0 here step.2,
            c.step.ensures.meter (named.meter ∙ before.3),
            subst IsSome (sym (c.step.ensures.len ∙ named.len)) before.4,
          ),
      c.step.ensures.quiet ∙ (c.see_name.ensures.silent.quiet ∙ (c.in_ok-see.ensures.quiet ∙ h.9)),
      λ nothing.
          let was = c.let_go.ensures.skipped ∙ h.10 nothing in
          c.in_ok-printed.ensures.skipped ∙ ap (skipped_past c.in_ok-printed.printed) was ∙ skipped_more c.in_ok-printed.printed h.6,
    )

pub returns-then-not-goes_on-clause-first : goal.returns-then-not-goes_on-clause-first
returns-then-not-goes_on-clause-first g c =
    let h = c.loop-bounds.invariant in
    let r = reading_in c.loop-bounds.changes.walk in
    let positions = c.args.self.now.settings.now.filter.positions in
    let place = c.position-position.ensures ∙ ap (λ (k : EventStreamReader). (kept_by k.kept).at) c.reader.ensures in
    let stopped : c.goes_on.result ≡ false = search rules in
    let past1 = subst (λ (n : ℕ). is_before c.loop-bounds.bounds.stop n ≡ false) place (sym c.goes_on.ensures ∙ stopped) in
    let past = subst (λ (o : Option ℕ). is_before o r.kept.at ≡ false) h.2 past1 in
    on_errors c.end.result _ _ _ (λ why not missed none x finds.
    let s = h.3 none x finds in
    let missed1 = subst (λ (n : ℕ). Missed why c.loop-bounds.bounds.start c.loop-bounds.bounds.stop n) place missed in
    let missed2 = subst (λ (o : Option ℕ). Missed why c.loop-bounds.bounds.start o r.kept.at) h.2 missed1 in
    events_so_far _ _ _ _ _ _ _ _ _ _ _ _ _ _ _ s why not (missing_stopped why positions c.loop-bounds.bounds.start s.events (spot_at r.kept None s.bytes) s.unseen s.early h.5 past missed2))
    c.end.ensures.failed c.end.ensures.missed

pub returns-then-not-goes_on-clause-all : goal.returns-then-not-goes_on-clause-all
returns-then-not-goes_on-clause-all g c =
    let h = c.loop-bounds.invariant in
    let place = c.position-position.ensures ∙ ap (λ (r : EventStreamReader). (kept_by r.kept).at) c.reader.ensures in
    let stopped_there : c.goes_on.result ≡ false = search rules in
    let past = subst (λ (n : ℕ). is_before c.loop-bounds.bounds.stop n ≡ false) place (sym c.goes_on.ensures ∙ stopped_there) in
    both_ok c.end.result _ _ _
    (λ found stops none x finds. stopped _ _ _ c.args.self.now.settings.now.filter.positions _ _ _ _ _ _ _ _ _ _ _ (h.3 none x finds) (subst (λ (o : Option ℕ). is_before o (reading_in c.loop-bounds.changes.walk).kept.at ≡ false) h.2 past)
    (elim stops [ inl without ↦ inl (sym h.2 ∙ without) | inr at ↦ inr (sym h.2 ∙ at ∙ ap (λ (n : ℕ). Some n) place) ])
    found)
    c.end.ensures.start c.end.ensures.stop

pub returns-then-not-goes_on-clause-noted : goal.returns-then-not-goes_on-clause-noted
returns-then-not-goes_on-clause-noted g c =
    let h = c.loop-bounds.invariant in
    let place = c.position-position.ensures ∙ ap (λ (r : EventStreamReader). (kept_by r.kept).at) c.reader.ensures in
    let stopped : c.goes_on.result ≡ false = search rules in
    let past = subst (λ (n : ℕ). is_before c.loop-bounds.bounds.stop n ≡ false) place (sym c.goes_on.ensures ∙ stopped) in
    on_ok c.end.result _ _
    (λ stops. (
      h.6,
      h.10,
      λ none x finds. note_stopped _ _ _ _ _ _ _ _ _ _ _ _ (h.7 none x finds) (subst (λ (o : Option ℕ). is_before o (reading_in c.loop-bounds.changes.walk).kept.at ≡ false) h.2 past)
          (elim stops [ inl without ↦ inl (sym h.2 ∙ without) | inr at ↦ inr (sym h.2 ∙ at ∙ ap (λ (n : ℕ). Some n) place) ]),
      λ none known.
          let told = h.8 none known in
          (told.0, told.1, None, false, subst (λ (t : List ℕ). Tells c.args.notes.now.is_lost (g.E.Write.contents c.args.notes.now.err) c.loop-bounds.notes.is_lost (g.E.Write.contents c.loop-bounds.notes.err) t) (sym (append-nil told.0)) told.2),
    ))
    c.end.ensures.stop

pub returns-in-None-clause-noted : goal.returns-in-None-clause-noted
returns-in-None-clause-noted g c =
    let h = c.loop-bounds.invariant in
    let w = c.loop-bounds.changes in
    let mid = c.next_event.new.changes in
    let is_each = c.is_each-each.result in
    let gives = subst (λ (f : Filter). SourceNext (wanted_by f) is_each (g.S.Source.remaining w.source) (reading_in w.walk) w.walk.pending None (g.S.Source.remaining mid.source) (reading_in mid.walk) mid.walk.pending) h.1 c.in-None.ensures.event in
    let place = c.position-position.ensures ∙ ap (λ (r : EventStreamReader). (kept_by r.kept).at) c.reader.ensures in
    let same = c.let_go.ensures.same.path ∙ h.0.path in
    let s = c.args.self.now in
    let was = c.args.changes.now in
    on_ok c.end-in-None.result _ _
    (λ stops. (
      h.6,
      λ nothing. c.let_go.ensures.skipped ∙ h.10 nothing,
      λ none x finds. subst (λ (k : Gaps). AreNotedToEnd s.settings.now.skips_faulty (wanted_by was.choice) s.settings.now.filter.positions (spot_at (kept_in was.walk) None x) s.is_open s.gaps k h.6) (sym c.let_go.ensures.gaps) (note_ended _ _ _ _ _ _ _ _ _ _ _ _ (h.7 none x finds) is_each (g.S.Source.remaining mid.source) (reading_in mid.walk) mid.walk.pending gives
          (λ free. sym h.2 ∙ (c.is_each-each.ensures.free free).1)
          (elim stops [ inl without ↦ inl (sym h.2 ∙ without) | inr at ↦ inr (sym h.2 ∙ at ∙ ap (λ (n : ℕ). Some n) place) ])),
      λ none known.
          let told = h.8 none known in
          let quiet = c.args.notes.now.is_quiet in
          let last = c.last_type.result in
          let is_open = c.let_go.new.self.is_open in (
            told.0,
            told.1,
            last,
            is_open,
            tells_more _ _ _ _ _ _ told.0 (break_note quiet c.args.self.now.path.now last is_open) told.2
                (subst (λ (b : Bool). Tells c.loop-bounds.notes.is_lost (g.E.Write.contents c.loop-bounds.notes.err) c.tell_break.new.self.is_lost (g.E.Write.contents c.tell_break.new.self.err) (break_note b c.args.self.now.path.now last is_open)) h.9
                (subst (λ (path : List ℕ). Tells c.loop-bounds.notes.is_lost (g.E.Write.contents c.loop-bounds.notes.err) c.tell_break.new.self.is_lost (g.E.Write.contents c.tell_break.new.self.err) (break_note c.loop-bounds.notes.is_quiet path last is_open)) same c.tell_break.ensures.text)),
          ),
    ))
    c.end-in-None.ensures.stop

pub returns-then-not-goes_on-clause-counts : goal.returns-then-not-goes_on-clause-counts
returns-then-not-goes_on-clause-counts g c =
    let h = c.loop-bounds.invariant in
    let place = c.position-position.ensures ∙ ap (λ (r : EventStreamReader). (kept_by r.kept).at) c.reader.ensures in
    let stopped : c.goes_on.result ≡ false = search rules in
    let past = subst (λ (n : ℕ). is_before c.loop-bounds.bounds.stop n ≡ false) place (sym c.goes_on.ensures ∙ stopped) in
    on_ok c.end.result _ _
    (λ stops counted none x finds. count_stopped _ _ _ _ _ _ _ _ _ _ (h.4 counted none x finds) c.args.self.now.settings.now.filter.positions.stop (subst (λ (o : Option ℕ). is_before o (reading_in c.loop-bounds.changes.walk).kept.at ≡ false) h.2 past)
    (elim stops [ inl without ↦ inl (sym h.2 ∙ without) | inr at ↦ inr (sym h.2 ∙ at ∙ ap (λ (n : ℕ). Some n) place) ]))
    c.end.ensures.stop

pub returns-then-not-goes_on-clause-first_counts : goal.returns-then-not-goes_on-clause-first_counts
returns-then-not-goes_on-clause-first_counts g c =
    let h = c.loop-bounds.invariant in
    let r = reading_in c.loop-bounds.changes.walk in
    let positions = c.args.self.now.settings.now.filter.positions in
    let place = c.position-position.ensures ∙ ap (λ (k : EventStreamReader). (kept_by k.kept).at) c.reader.ensures in
    let stopped : c.goes_on.result ≡ false = search rules in
    let past1 = subst (λ (n : ℕ). is_before c.loop-bounds.bounds.stop n ≡ false) place (sym c.goes_on.ensures ∙ stopped) in
    let past = subst (λ (o : Option ℕ). is_before o r.kept.at ≡ false) h.2 past1 in
    on_errors c.end.result _ _ _ (λ why not missed counted none x finds.
    let s = h.4 counted none x finds in
    let missed1 = subst (λ (n : ℕ). Missed why c.loop-bounds.bounds.start c.loop-bounds.bounds.stop n) place missed in
    let missed2 = subst (λ (o : Option ℕ). Missed why c.loop-bounds.bounds.start o r.kept.at) h.2 missed1 in
    count_failed _ _ _ _ _ _ _ _ _ _ s why not (missing_stopped why positions c.loop-bounds.bounds.start s.events (spot_at r.kept None s.bytes) s.unseen s.early h.5 past missed2))
    c.end.ensures.failed c.end.ensures.missed

pub returns-in-None-clause-counts : goal.returns-in-None-clause-counts
returns-in-None-clause-counts g c =
    let h = c.loop-bounds.invariant in
    let w = c.loop-bounds.changes in
    let mid = c.next_event.new.changes in
    let is_each = c.is_each-each.result in
    let gives = subst (λ (f : Filter). SourceNext (wanted_by f) is_each (g.S.Source.remaining w.source) (reading_in w.walk) w.walk.pending None (g.S.Source.remaining mid.source) (reading_in mid.walk) mid.walk.pending) h.1 c.in-None.ensures.event in
    let place = c.position-position.ensures ∙ ap (λ (r : EventStreamReader). (kept_by r.kept).at) c.reader.ensures in
    on_ok c.end-in-None.result _ _
    (λ stops counted none x finds. count_ended _ _ _ _ _ _ _ _ _ _ (h.4 counted none x finds) is_each c.args.self.now.settings.now.filter.positions.stop (g.S.Source.remaining mid.source) (reading_in mid.walk) mid.walk.pending gives
    (λ free. sym h.2 ∙ (c.is_each-each.ensures.free free).1)
    (elim stops [ inl without ↦ inl (sym h.2 ∙ without) | inr at ↦ inr (sym h.2 ∙ at ∙ ap (λ (n : ℕ). Some n) place) ]))
    c.end-in-None.ensures.stop

pub returns-in-None-clause-first_counts : goal.returns-in-None-clause-first_counts
returns-in-None-clause-first_counts g c =
    let h = c.loop-bounds.invariant in
    let w = c.loop-bounds.changes in
    let mid = c.next_event.new.changes in
    let is_each = c.is_each-each.result in
    let gives = subst (λ (f : Filter). SourceNext (wanted_by f) is_each (g.S.Source.remaining w.source) (reading_in w.walk) w.walk.pending None (g.S.Source.remaining mid.source) (reading_in mid.walk) mid.walk.pending) h.1 c.in-None.ensures.event in
    let place = c.position-position.ensures ∙ ap (λ (k : EventStreamReader). (kept_by k.kept).at) c.reader.ensures in
    on_errors c.end-in-None.result _ _ _ (λ why not missed counted none x finds.
    let missed1 = subst (λ (n : ℕ). Missed why c.loop-bounds.bounds.start c.loop-bounds.bounds.stop n) place missed in
    let missed2 = subst (λ (o : Option ℕ). Missed why c.loop-bounds.bounds.start o (reading_in w.walk).kept.at) h.2 missed1 in
    count_missing _ _ _ _ _ _ _ _ _ _ (h.4 counted none x finds) is_each (g.S.Source.remaining mid.source) (reading_in mid.walk) mid.walk.pending gives
    (λ free. (c.is_each-each.ensures.free free).0) (λ free. sym h.2 ∙ (c.is_each-each.ensures.free free).1) h.5 why not missed2)
    c.end-in-None.ensures.failed c.end-in-None.ensures.missed

pub returns-in_err-begin-clause-first_counts : goal.returns-in_err-begin-clause-first_counts
returns-in_err-begin-clause-first_counts g c =
    let why = c.in_err-begin.field-0.0 in
    let h = c.loop-bounds.invariant in
    let r = reading_in c.loop-bounds.changes.walk in
    let place = c.position-position.ensures ∙ ap (λ (k : EventStreamReader). (kept_by k.kept).at) c.reader.ensures in
    let later = subst (λ (n : ℕ). (m : ℕ) × (c.loop-bounds.bounds.start ≡ Some m) × (m < n) × (why ≡ failure.NoEvent m)) place c.in_err-begin.ensures.passed in
    passed_on _ why _ c.from_residual-in_err-begin.ensures.1 (λ counted none x finds.
    let s = h.4 counted none x finds in
    count_failed _ _ _ _ _ _ _ _ _ _ s why c.in_err-begin.ensures.failed (missing_passed why c.args.self.now.settings.now.filter.positions.stop c.loop-bounds.bounds.start s.events (spot_at r.kept None s.bytes) s.unseen later))

pub returns-in_err-see-clause-first_counts : goal.returns-in_err-see-clause-first_counts
returns-in_err-see-clause-first_counts g c =
    passed_on _ failure.Memory _ c.from_residual-in_err-see.ensures.1 (λ counted none x finds. count_failed _ _ _ _ _ _ _ _ _ _ (c.loop-bounds.invariant.4 counted none x finds) failure.Memory tt tt)

pub returns-in-None-clause-all : goal.returns-in-None-clause-all
returns-in-None-clause-all g c =
    let h = c.loop-bounds.invariant in
    let w = c.loop-bounds.changes in
    let mid = c.next_event.new.changes in
    let is_each = c.is_each-each.result in
    let gives = subst (λ (f : Filter). SourceNext (wanted_by f) is_each (g.S.Source.remaining w.source) (reading_in w.walk) w.walk.pending None (g.S.Source.remaining mid.source) (reading_in mid.walk) mid.walk.pending) h.1 c.in-None.ensures.event in
    let place = c.position-position.ensures ∙ ap (λ (r : EventStreamReader). (kept_by r.kept).at) c.reader.ensures in
    both_ok c.end-in-None.result _ _ _
    (λ found stops none x finds. ended _ _ _ c.args.self.now.settings.now.filter.positions _ _ _ _ _ _ _ _ _ _ _ (let_go _ _ _ _ _ _ _ _ _ _ _ _ _ _ _ (h.3 none x finds) _ _ _ c.let_go.ensures.gtid c.in_ok-let_go.ensures.all) is_each (g.S.Source.remaining mid.source) (reading_in mid.walk) mid.walk.pending gives
    (λ free. sym h.2 ∙ (c.is_each-each.ensures.free free).1)
    (elim stops [ inl without ↦ inl (sym h.2 ∙ without) | inr at ↦ inr (sym h.2 ∙ at ∙ ap (λ (n : ℕ). Some n) place) ])
    found)
    c.end-in-None.ensures.start c.end-in-None.ensures.stop

pub returns-in-None-clause-first : goal.returns-in-None-clause-first
returns-in-None-clause-first g c =
    let h = c.loop-bounds.invariant in
    let w = c.loop-bounds.changes in
    let mid = c.next_event.new.changes in
    let is_each = c.is_each-each.result in
    let gives = subst (λ (f : Filter). SourceNext (wanted_by f) is_each (g.S.Source.remaining w.source) (reading_in w.walk) w.walk.pending None (g.S.Source.remaining mid.source) (reading_in mid.walk) mid.walk.pending) h.1 c.in-None.ensures.event in
    let place = c.position-position.ensures ∙ ap (λ (k : EventStreamReader). (kept_by k.kept).at) c.reader.ensures in
    on_errors c.end-in-None.result _ _ _ (λ why not missed none x finds.
    let missed1 = subst (λ (n : ℕ). Missed why c.loop-bounds.bounds.start c.loop-bounds.bounds.stop n) place missed in
    let missed2 = subst (λ (o : Option ℕ). Missed why c.loop-bounds.bounds.start o (reading_in w.walk).kept.at) h.2 missed1 in
    end_so_far _ _ _ _ _ _ _ _ _ _ _ _ _ c.args.self.now.settings.now.filter.positions _ (let_go _ _ _ _ _ _ _ _ _ _ _ _ _ _ _ (h.3 none x finds) _ _ _ c.let_go.ensures.gtid c.in_ok-let_go.ensures.all) is_each (g.S.Source.remaining mid.source) (reading_in mid.walk) mid.walk.pending gives
    (λ free. (c.is_each-each.ensures.free free).0) (λ free. sym h.2 ∙ (c.is_each-each.ensures.free free).1) h.5 why not missed2)
    c.end-in-None.ensures.failed c.end-in-None.ensures.missed

pub returns-in_err-begin-clause-first : goal.returns-in_err-begin-clause-first
returns-in_err-begin-clause-first g c =
    let why = c.in_err-begin.field-0.0 in
    let h = c.loop-bounds.invariant in
    let r = reading_in c.loop-bounds.changes.walk in
    let place = c.position-position.ensures ∙ ap (λ (k : EventStreamReader). (kept_by k.kept).at) c.reader.ensures in
    let later = subst (λ (n : ℕ). (m : ℕ) × (c.loop-bounds.bounds.start ≡ Some m) × (m < n) × (why ≡ failure.NoEvent m)) place c.in_err-begin.ensures.passed in
    passed_on _ why _ c.from_residual-in_err-begin.ensures.1 (λ none x finds.
    let s = (let_go _ _ _ _ _ _ _ _ _ _ _ _ _ _ _ (h.3 none x finds) _ _ _ c.let_go.ensures.gtid c.in_ok-let_go.ensures.all) in
    events_so_far _ _ _ _ _ _ _ _ _ _ _ _ _ _ _ s why c.in_err-begin.ensures.failed (missing_passed why c.args.self.now.settings.now.filter.positions.stop c.loop-bounds.bounds.start s.events (spot_at r.kept None s.bytes) s.unseen later))

pub returns-in_err-see-clause-first : goal.returns-in_err-see-clause-first
returns-in_err-see-clause-first g c =
    passed_on _ failure.Memory _ c.from_residual-in_err-see.ensures.1 (λ none x finds. events_so_far _ _ _ _ _ _ _ _ _ _ _ _ _ _ _ (let_go _ _ _ _ _ _ _ _ _ _ _ _ _ _ _ (c.loop-bounds.invariant.3 none x finds) _ _ _ c.let_go.ensures.gtid c.in_ok-let_go.ensures.all) failure.Memory tt tt)

pub returns-in_err-event-in-Some-clause-first : goal.returns-in_err-event-in-Some-clause-first
returns-in_err-event-in-Some-clause-first g c =
    let h = c.loop-bounds.invariant in
    let w = c.loop-bounds.changes in
    let mid = c.next_event.new.changes in
    let error = c.in_err-event-in-Some.field-0.0 in
    let gives1 = subst (λ (e : Result LentEvent FileError). SourceNext (wanted_by w.choice) c.is_each-each.result (g.S.Source.remaining w.source) (reading_in w.walk) w.walk.pending (Some e) (g.S.Source.remaining mid.source) (reading_in mid.walk) mid.walk.pending) c.in_err-event-in-Some.was c.in-Some.ensures.event in
    let gives = subst (λ (f : Filter). SourceNext (wanted_by f) c.is_each-each.result (g.S.Source.remaining w.source) (reading_in w.walk) w.walk.pending (Some (Err error)) (g.S.Source.remaining mid.source) (reading_in mid.walk) mid.walk.pending) h.1 gives1 in
    let place = c.position-position.ensures ∙ ap (λ (k : EventStreamReader). (kept_by k.kept).at) c.reader.ensures in
    let on : c.goes_on.result ≡ true = search rules in
    let early = subst (λ (n : ℕ). is_before c.loop-bounds.bounds.stop n ≡ true) place (sym c.goes_on.ensures ∙ on) in
    let before = subst (λ (o : Option ℕ). is_before o (reading_in w.walk).kept.at ≡ true) h.2 early in
    passed_on _ (failure.File error) _ c.from_residual-in_err-event-in-Some.ensures.1 (λ none x finds. error_so_far _ _ _ _ _ _ _ _ _ _ _ _ _ _ _ (let_go _ _ _ _ _ _ _ _ _ _ _ _ _ _ _ (h.3 none x finds) _ _ _ c.let_go.ensures.gtid c.in_ok-let_go.ensures.all) _ error (g.S.Source.remaining mid.source) (reading_in mid.walk) mid.walk.pending gives before (λ free. sym h.2 ∙ (c.is_each-each.ensures.free free).1))

pub returns-in_err-printed-clause-first : goal.returns-in_err-printed-clause-first
returns-in_err-printed-clause-first g c =
    let h = c.loop-bounds.invariant in
    let s = c.let_go.new.self in
    let w = c.loop-bounds.changes in
    let mid = c.next_event.new.changes in
    let x = c.in_ok-event-in-Some.event in
    let gives1 = subst (λ (e : Result LentEvent FileError). SourceNext (wanted_by w.choice) c.is_each-each.result (g.S.Source.remaining w.source) (reading_in w.walk) w.walk.pending (Some e) (g.S.Source.remaining mid.source) (reading_in mid.walk) mid.walk.pending) c.in_ok-event-in-Some.was c.in-Some.ensures.event in
    let gives = subst (λ (f : Filter). SourceNext (wanted_by f) c.is_each-each.result (g.S.Source.remaining w.source) (reading_in w.walk) w.walk.pending (Some (Ok x)) (g.S.Source.remaining mid.source) (reading_in mid.walk) mid.walk.pending) h.1 gives1 in
    let why = c.in_err-printed.field-0.0 in
    let writes1 = subst (λ (m : Manner). WritesFirstOfEvent why m s.file.now s.gtid x (g.O.Write.contents c.let_go.new.out) s.lines.bytes.items (g.O.Write.contents c.print_event.new.out) c.print_event.new.self.lines.bytes.items) (c.let_go.ensures.same.manner ∙ h.0.manner) c.in_err-printed.ensures.first in
    let writes = subst (λ (n : List ℕ). WritesFirstOfEvent why (manner_of c.args.self.now.settings.now) n s.gtid x (g.O.Write.contents c.let_go.new.out) s.lines.bytes.items (g.O.Write.contents c.print_event.new.out) c.print_event.new.self.lines.bytes.items) (c.let_go.ensures.same.file ∙ h.0.file) writes1 in
    let place = c.position-position.ensures ∙ ap (λ (k : EventStreamReader). (kept_by k.kept).at) c.reader.ensures in
    let on : c.goes_on.result ≡ true = search rules in
    let early = subst (λ (n : ℕ). is_before c.loop-bounds.bounds.stop n ≡ true) place (sym c.goes_on.ensures ∙ on) in
    let before = subst (λ (o : Option ℕ). is_before o (reading_in w.walk).kept.at ≡ true) h.2 early in
    passed_on _ why _ c.from_residual-in_err-printed.ensures.1 (λ none y finds. event_so_far _ _ _ _ _ _ _ _ _ _ _ _ _ _ _ (let_go _ _ _ _ _ _ _ _ _ _ _ _ _ _ _ (h.3 none y finds) _ _ _ c.let_go.ensures.gtid c.in_ok-let_go.ensures.all) _ x (g.S.Source.remaining mid.source) (reading_in mid.walk) mid.walk.pending _ _ gives why writes (misses_none g.O.WriteOnce.writes g.O.WriteOnce.flushes why c.in_err-printed.ensures.cause) before (λ free. sym h.2 ∙ (c.is_each-each.ensures.free free).1))

pub returns-in_err-event-in-Some-clause-first_counts : goal.returns-in_err-event-in-Some-clause-first_counts
returns-in_err-event-in-Some-clause-first_counts g c =
    let h = c.loop-bounds.invariant in
    let w = c.loop-bounds.changes in
    let mid = c.next_event.new.changes in
    let error = c.in_err-event-in-Some.field-0.0 in
    let gives1 = subst (λ (e : Result LentEvent FileError). SourceNext (wanted_by w.choice) c.is_each-each.result (g.S.Source.remaining w.source) (reading_in w.walk) w.walk.pending (Some e) (g.S.Source.remaining mid.source) (reading_in mid.walk) mid.walk.pending) c.in_err-event-in-Some.was c.in-Some.ensures.event in
    let gives = subst (λ (f : Filter). SourceNext (wanted_by f) c.is_each-each.result (g.S.Source.remaining w.source) (reading_in w.walk) w.walk.pending (Some (Err error)) (g.S.Source.remaining mid.source) (reading_in mid.walk) mid.walk.pending) h.1 gives1 in
    let place = c.position-position.ensures ∙ ap (λ (k : EventStreamReader). (kept_by k.kept).at) c.reader.ensures in
    let on : c.goes_on.result ≡ true = search rules in
    let early = subst (λ (n : ℕ). is_before c.loop-bounds.bounds.stop n ≡ true) place (sym c.goes_on.ensures ∙ on) in
    let before = subst (λ (o : Option ℕ). is_before o (reading_in w.walk).kept.at ≡ true) h.2 early in
    passed_on _ (failure.File error) _ c.from_residual-in_err-event-in-Some.ensures.1 (λ counted none x finds. count_error _ _ _ _ _ _ _ _ _ _ (h.4 counted none x finds) _ error (g.S.Source.remaining mid.source) (reading_in mid.walk) mid.walk.pending gives before (λ free. sym h.2 ∙ (c.is_each-each.ensures.free free).1))

pub returns-in_err-printed-clause-first_counts : goal.returns-in_err-printed-clause-first_counts
returns-in_err-printed-clause-first_counts g c =
    let h = c.loop-bounds.invariant in
    let w = c.loop-bounds.changes in
    let mid = c.next_event.new.changes in
    let x = c.in_ok-event-in-Some.event in
    let gives1 = subst (λ (e : Result LentEvent FileError). SourceNext (wanted_by w.choice) c.is_each-each.result (g.S.Source.remaining w.source) (reading_in w.walk) w.walk.pending (Some e) (g.S.Source.remaining mid.source) (reading_in mid.walk) mid.walk.pending) c.in_ok-event-in-Some.was c.in-Some.ensures.event in
    let gives = subst (λ (f : Filter). SourceNext (wanted_by f) c.is_each-each.result (g.S.Source.remaining w.source) (reading_in w.walk) w.walk.pending (Some (Ok x)) (g.S.Source.remaining mid.source) (reading_in mid.walk) mid.walk.pending) h.1 gives1 in
    let why = c.in_err-printed.field-0.0 in
    let place = c.position-position.ensures ∙ ap (λ (k : EventStreamReader). (kept_by k.kept).at) c.reader.ensures in
    let on : c.goes_on.result ≡ true = search rules in
    let early = subst (λ (n : ℕ). is_before c.loop-bounds.bounds.stop n ≡ true) place (sym c.goes_on.ensures ∙ on) in
    let before = subst (λ (o : Option ℕ). is_before o (reading_in w.walk).kept.at ≡ true) h.2 early in
    passed_on _ why _ c.from_residual-in_err-printed.ensures.1
    (λ counted none y finds. count_first _ _ _ _ _ _ _ _ _ _ (h.4 counted none y finds) _ x (g.S.Source.remaining mid.source) (reading_in mid.walk) mid.walk.pending _ why gives (c.in_err-printed.ensures.first_counts ((c.let_go.ensures.same.form ∙ h.0.form) ∙ counted)) (misses_none g.O.WriteOnce.writes g.O.WriteOnce.flushes why c.in_err-printed.ensures.cause) before (λ free. sym h.2 ∙ (c.is_each-each.ensures.free free).1))

-- ---- causes

pub returns-then-not-goes_on-clause-cause : goal.returns-then-not-goes_on-clause-cause
returns-then-not-goes_on-clause-cause g c = on_error c.end.result _ _ (λ why missed. of_missing c.args.self.now.settings.now.filter.positions g.O.WriteOnce.writes g.O.WriteOnce.flushes why c.loop-bounds.bounds.start _ _ c.loop-bounds.invariant.5 c.loop-bounds.invariant.2 missed) c.end.ensures.missed

pub returns-in-None-clause-cause : goal.returns-in-None-clause-cause
returns-in-None-clause-cause g c = on_error c.end-in-None.result _ _ (λ why missed. of_missing c.args.self.now.settings.now.filter.positions g.O.WriteOnce.writes g.O.WriteOnce.flushes why c.loop-bounds.bounds.start _ _ c.loop-bounds.invariant.5 c.loop-bounds.invariant.2 missed) c.end-in-None.ensures.missed

pub returns-in_err-begin-clause-cause : goal.returns-in_err-begin-clause-cause
returns-in_err-begin-clause-cause g c =
    let why = c.in_err-begin.field-0.0 in
    passed_on _ why _ c.from_residual-in_err-begin.ensures.1 (of_passed c.args.self.now.settings.now.filter.positions g.O.WriteOnce.writes g.O.WriteOnce.flushes why c.loop-bounds.bounds.start _ c.loop-bounds.invariant.5 c.in_err-begin.ensures.passed)

pub returns-in_err-see-clause-cause : goal.returns-in_err-see-clause-cause
returns-in_err-see-clause-cause g c = passed_on _ failure.Memory _ c.from_residual-in_err-see.ensures.1 tt

pub returns-in_err-event-in-Some-clause-cause : goal.returns-in_err-event-in-Some-clause-cause
returns-in_err-event-in-Some-clause-cause g c = passed_on _ (failure.File c.in_err-event-in-Some.field-0.0) _ c.from_residual-in_err-event-in-Some.ensures.1 tt

pub returns-in_err-printed-clause-cause : goal.returns-in_err-printed-clause-cause
returns-in_err-printed-clause-cause g c =
    let why = c.in_err-printed.field-0.0 in
    passed_on _ why _ c.from_residual-in_err-printed.ensures.1 (of_event c.args.self.now.settings.now.filter.positions g.O.WriteOnce.writes g.O.WriteOnce.flushes why c.in_err-printed.ensures.cause)

-- ---- lines that are let go

pub returns-in_err-let_go-clause-first : goal.returns-in_err-let_go-clause-first
returns-in_err-let_go-clause-first g c =
    let why = c.in_err-let_go.field-0.0 in
    passed_on _ why _ c.from_residual.ensures.1 (λ none x finds. output_so_far _ _ _ _ _ _ _ _ _ _ _ _ _ _ _ (c.loop-bounds.invariant.3 none x finds) why c.in_err-let_go.ensures.failed _ _ c.in_err-let_go.ensures.first)

pub returns-in_err-let_go-clause-first_counts : goal.returns-in_err-let_go-clause-first_counts
returns-in_err-let_go-clause-first_counts g c =
    let why = c.in_err-let_go.field-0.0 in
    passed_on _ why _ c.from_residual.ensures.1
    (λ counted none x finds. count_failed _ _ _ _ _ _ _ _ _ _ (c.loop-bounds.invariant.4 counted none x finds) why (output_not_file why c.in_err-let_go.ensures.failed) (nothing_missing why _ _ _ (output_misses_none why c.in_err-let_go.ensures.failed)))

pub returns-in_err-let_go-clause-cause : goal.returns-in_err-let_go-clause-cause
returns-in_err-let_go-clause-cause g c =
    let why = c.in_err-let_go.field-0.0 in
    passed_on _ why _ c.from_residual.ensures.1 (of_event c.args.self.now.settings.now.filter.positions g.O.WriteOnce.writes g.O.WriteOnce.flushes why c.in_err-let_go.ensures.cause)
