use Rattle.std.proofs.Common.{List, ℕ, [], Option, Some, None, inl, inr, refl, subst, ap, sym, ◌∙◌}
use Rattle.std.specs.Io.KnownBytes.{Consumes}
use Rattle.std.proofs.KnownBytes.{Keeps-refl}
use Rattle.binlog_base.specs.Failures.{CountedState}
use Rattle.binlog_file.specs.Events.{magic}
use Rattle.binlog_file.specs.Stream.{NoHeader}
use Rattle.binlog_file.specs.Workings.Readers.{kept_by}
use Rattle.binlog_file.specs.declared.reader.EventStreamReader.{EventStreamReader}
use Rattle.binlog_file.specs.SourceChanges.{spot_at}
use Rattle.binlog_file.specs.Workings.SourceWalks.{reading_in, kept_in}
use Rattle.change_lines.specs.declared.error.Failure.TheVariants as failure
use Rattle.changed_rows.specs.Filters.{wanted_by}
use Rattle.change_lines.specs.CountedFiles.{AreCountedToEnd, AreFirstCounted}
use Rattle.change_lines.specs.Lines.{manner_of}
use Rattle.change_lines.proofs.Errors.{passed_on, on_error, on_errors, of_error, if_ok}
use Rattle.change_lines.proofs.Causes.{of_event}
use Rattle.change_lines.proofs.Failures.{nothing_appended, all_appended}
use Rattle.change_lines.proofs.First.{written_of, first_lines}
use Rattle.change_lines.proofs.Written.{on_ok}
use Rattle.change_lines.proofs.Whole.{whole}
use Rattle.change_lines.proofs.CountedFiles.{counts_nothing, counted_of, file_counted}
use Rattle.change_lines.proofs.Noted.{file_noted}
use Rattle.change_lines.proofs.run.Printer.print.Goals as goal

pub returns-clause-all : goal.returns-clause-all
returns-clause-all g c =
    let s = c.args.self.now in
    let w = c.new-changes.result in
    let file = c.in_ok-file.ensures in
    let kept = ap (λ (k : EventStreamReader). kept_by k.kept) c.new-changes.ensures.reader ∙ file.kept in
    let on = ap (λ (k : EventStreamReader). k.is_over) c.new-changes.ensures.reader ∙ file.goes_on in
    on_ok c.finish.result _ _
    (λ ended held gtid x known small.
    let read = if_ok c.print_events-read.result _ ended.0 c.print_events-read.ensures.all in
    let source = ap g.R.Read.remaining c.new.ensures.inner ∙ known in
    let left : Consumes (Some x) (g.R.Read.remaining w.source.inner) magic =
    subst (λ (o : Option (List ℕ)). Consumes o (g.R.Read.remaining w.source.inner) magic) source
    (subst (λ (o : Option (List ℕ)). Consumes (g.R.Read.remaining c.new.result.inner) o magic) (sym (ap (λ (k : CountedState _). g.R.Read.remaining k.inner) c.new-changes.ensures.source)) file.ok) in
    whole s.settings.now w.choice s.file.now x (g.R.Read.remaining w.source.inner) (reading_in w.walk) s.gtid _ _ _ _ _ _ left kept on small c.new-changes.ensures.choice held gtid (read c.new-changes.ensures.pending) ended.1 (Keeps-refl _))
    c.finish.ensures.all

pub returns-in_err-file-clause-first : goal.returns-in_err-file-clause-first
returns-in_err-file-clause-first g c =
    let error = c.in_err-file.field-0.0 in
    passed_on _ (failure.File error) _ c.from_residual.ensures.1 (λ held gtid x known small.
    let source = ap g.R.Read.remaining c.new.ensures.inner ∙ known in
    ([], inl (refl, subst (λ (o : Option (List ℕ)). NoHeader o error) source c.in_err-file.ensures.err), nothing_appended (failure.File error) _))

pub returns-clause-first : goal.returns-clause-first
returns-clause-first g c =
    let s = c.args.self.now in
    let w = c.new-changes.result in
    let file = c.in_ok-file.ensures in
    let kept = ap (λ (k : EventStreamReader). kept_by k.kept) c.new-changes.ensures.reader ∙ file.kept in
    let on = ap (λ (k : EventStreamReader). k.is_over) c.new-changes.ensures.reader ∙ file.goes_on in
    on_errors c.finish.result _ _ _ (λ why is appends held gtid x known small.
    let source = ap g.R.Read.remaining c.new.ensures.inner ∙ known in
    let left : Consumes (Some x) (g.R.Read.remaining w.source.inner) magic =
    subst (λ (o : Option (List ℕ)). Consumes o (g.R.Read.remaining w.source.inner) magic) source
    (subst (λ (o : Option (List ℕ)). Consumes (g.R.Read.remaining c.new.result.inner) o magic) (sym (ap (λ (k : CountedState _). g.R.Read.remaining k.inner) c.new-changes.ensures.source)) file.ok) in
    first_lines why s.settings.now w.choice s.file.now x (g.R.Read.remaining w.source.inner) (reading_in w.walk) s.gtid _ left kept on small c.new-changes.ensures.choice gtid (λ y finds.
    let of = written_of c.print_events-read.result why (manner_of s.settings.now) (wanted_by w.choice) s.file.now s.settings.now.filter.positions (spot_at (kept_in w.walk) None y) s.gtid (g.O.Write.contents c.args.out.now) s.lines.bytes.items (g.O.Write.contents c.print_events-read.new.out) c.print_events-read.new.self.lines.bytes.items
    (on_ok c.print_events-read.result _ _ (λ f. f c.new-changes.ensures.pending y finds) c.print_events-read.ensures.all)
    (on_error c.print_events-read.result _ _ (λ why f. f c.new-changes.ensures.pending y finds) c.print_events-read.ensures.first) is in
    (of.0, of.1, all_appended why _ _ _ _ of.0 _ of.2 of.3 held (appends of.2 of.4))))
    c.finish.ensures.failed c.finish.ensures.first

pub returns-in_err-file-clause-first_counts : goal.returns-in_err-file-clause-first_counts
returns-in_err-file-clause-first_counts g c =
    let error = c.in_err-file.field-0.0 in
    passed_on _ (failure.File error) _ c.from_residual.ensures.1 (λ counted x known small.
    let source = ap g.R.Read.remaining c.new.ensures.inner ∙ known in
    ([], inl (refl, subst (λ (o : Option (List ℕ)). NoHeader o error) source c.in_err-file.ensures.err), counts_nothing c.args.counts.now))

pub returns-clause-counts : goal.returns-clause-counts
returns-clause-counts g c =
    let s = c.args.self.now in
    let w = c.new-changes.result in
    let file = c.in_ok-file.ensures in
    let kept = ap (λ (k : EventStreamReader). kept_by k.kept) c.new-changes.ensures.reader ∙ file.kept in
    let on = ap (λ (k : EventStreamReader). k.is_over) c.new-changes.ensures.reader ∙ file.goes_on in
    on_ok c.finish.result _ _
    (λ ended same x known small.
    let read = if_ok c.print_events-read.result _ ended.0 c.print_events-read.ensures.counts in
    let source = ap g.R.Read.remaining c.new.ensures.inner ∙ known in
    let left : Consumes (Some x) (g.R.Read.remaining w.source.inner) magic =
    subst (λ (o : Option (List ℕ)). Consumes o (g.R.Read.remaining w.source.inner) magic) source
    (subst (λ (o : Option (List ℕ)). Consumes (g.R.Read.remaining c.new.result.inner) o magic) (sym (ap (λ (k : CountedState _). g.R.Read.remaining k.inner) c.new-changes.ensures.source)) file.ok) in
    let whole = file_counted s.settings.now w.choice x (g.R.Read.remaining w.source.inner) (reading_in w.walk) (AreCountedToEnd s.settings.now.skips_faulty s.settings.now.filter.positions.stop) c.args.counts.now c.print_events-read.new.counts
    left kept on small c.new-changes.ensures.choice (λ y finds. read same c.new-changes.ensures.pending y finds) in
    (whole.1.0, (whole.0, whole.1.1), whole.1.2))
    c.finish.ensures.all

pub returns-clause-first_counts : goal.returns-clause-first_counts
returns-clause-first_counts g c =
    let s = c.args.self.now in
    let w = c.new-changes.result in
    let file = c.in_ok-file.ensures in
    let kept = ap (λ (k : EventStreamReader). kept_by k.kept) c.new-changes.ensures.reader ∙ file.kept in
    let on = ap (λ (k : EventStreamReader). k.is_over) c.new-changes.ensures.reader ∙ file.goes_on in
    on_error c.finish.result _ _ (λ why is same x known small.
    let source = ap g.R.Read.remaining c.new.ensures.inner ∙ known in
    let left : Consumes (Some x) (g.R.Read.remaining w.source.inner) magic =
    subst (λ (o : Option (List ℕ)). Consumes o (g.R.Read.remaining w.source.inner) magic) source
    (subst (λ (o : Option (List ℕ)). Consumes (g.R.Read.remaining c.new.result.inner) o magic) (sym (ap (λ (k : CountedState _). g.R.Read.remaining k.inner) c.new-changes.ensures.source)) file.ok) in
    let first = file_counted s.settings.now w.choice x (g.R.Read.remaining w.source.inner) (reading_in w.walk) (AreFirstCounted why s.settings.now.skips_faulty s.settings.now.filter.positions.stop) c.args.counts.now c.print_events-read.new.counts
    left kept on small c.new-changes.ensures.choice (λ y finds. counted_of c.print_events-read.result why s.settings.now.skips_faulty s.settings.now.filter.positions.stop (wanted_by w.choice) (spot_at (kept_in w.walk) None y) c.args.counts.now c.print_events-read.new.counts
    (on_ok c.print_events-read.result _ _ (λ f. f same c.new-changes.ensures.pending y finds) c.print_events-read.ensures.counts)
    (on_error c.print_events-read.result _ _ (λ why f. f same c.new-changes.ensures.pending y finds) c.print_events-read.ensures.first_counts) is) in
    (first.1.0, inr (first.0, first.1.1), first.1.2))
    c.finish.ensures.failed

pub returns-clause-noted : goal.returns-clause-noted
returns-clause-noted g c =
    let s = c.args.self.now in
    let w = c.new-changes.result in
    let file = c.in_ok-file.ensures in
    let kept = ap (λ (k : EventStreamReader). kept_by k.kept) c.new-changes.ensures.reader ∙ file.kept in
    let on = ap (λ (k : EventStreamReader). k.is_over) c.new-changes.ensures.reader ∙ file.goes_on in
    on_ok c.finish.result _ _
    (λ ended.
    let read = if_ok c.print_events-read.result _ ended.0 c.print_events-read.ensures.noted in (
      read.0,
      read.1,
      λ closed nothing x known small.
          let source = ap g.R.Read.remaining c.new.ensures.inner ∙ known in
          let left : Consumes (Some x) (g.R.Read.remaining w.source.inner) magic =
          subst (λ (o : Option (List ℕ)). Consumes o (g.R.Read.remaining w.source.inner) magic) source
          (subst (λ (o : Option (List ℕ)). Consumes (g.R.Read.remaining c.new.result.inner) o magic) (sym (ap (λ (k : CountedState _). g.R.Read.remaining k.inner) c.new-changes.ensures.source)) file.ok) in
          file_noted s.settings.now w.choice x (g.R.Read.remaining w.source.inner) (reading_in w.walk) s.is_open s.gaps c.print_events-read.new.self.gaps read.0
          left kept on small c.new-changes.ensures.choice closed nothing (λ y finds. read.2 c.new-changes.ensures.pending y finds),
      read.3,
    ))
    c.finish.ensures.all

pub returns-clause-cause : goal.returns-clause-cause
returns-clause-cause g c =
    on_error c.finish.result _ _ (λ why is. elim is [ inl same ↦ of_error c.print_events-read.result why _ same c.print_events-read.ensures.cause | inr event ↦ of_event c.args.self.now.settings.now.filter.positions g.O.WriteOnce.writes g.O.WriteOnce.flushes why event ]) c.finish.ensures.cause

pub returns-in_err-file-clause-cause : goal.returns-in_err-file-clause-cause
returns-in_err-file-clause-cause g c = passed_on _ (failure.File c.in_err-file.field-0.0) _ c.from_residual.ensures.1 tt

pub returns-clause-flushed_first : goal.returns-clause-flushed_first
returns-clause-flushed_first g c = on_error c.finish.result _ _ (λ why is. elim is [ inl failed ↦ inl failed | inr flushed ↦ inr (inr flushed) ]) c.finish.ensures.flushed_first

pub returns-in_err-file-clause-flushed_first : goal.returns-in_err-file-clause-flushed_first
returns-in_err-file-clause-flushed_first g c = passed_on _ (failure.File c.in_err-file.field-0.0) _ c.from_residual.ensures.1 (inr (inl refl))
