use Rattle.std.proofs.Common.{◌≡◌, ◌⊎◌, ℕ, List, length, None}
use Rattle.binlog_events.specs.declared.error.FileError.{FileError}
use Rattle.binlog_file.specs.SourceChanges.{Finds, spot_at, items_left}
use Rattle.binlog_file.specs.Workings.SourceWalks.{reading_in, kept_in}
use Rattle.changed_rows.specs.Filters.{wanted_by, start_sought}
use Rattle.changed_rows.specs.Names.{up_to_most}
use Rattle.std.specs.Prelude.{IsSome}
use Rattle.change_lines.specs.Lines.{manner_of}
use Rattle.change_lines.specs.Notes.{Tells, AreTold}
use Rattle.change_lines.specs.Printers.{IsSame}
use Rattle.change_lines.specs.declared.run.Form.TheVariants as form
use Rattle.change_lines.proofs.Whole.{SoFar}
use Rattle.change_lines.proofs.CountedFiles.{CountedSoFar}
use Rattle.change_lines.proofs.Noted.{NotedSoFar}
use Rattle.change_lines.proofs.run.Printer.print_events.Given as goal

abbrev pub invariant-loop-bounds : goal.invariant-loop-bounds
invariant-loop-bounds g l =
    IsSame l.fn.self l.self
    × (l.changes.choice ≡ l.fn.changes.choice)
    × (l.bounds.stop ≡ l.fn.self.settings.now.filter.positions.stop)
    × (l.fn.changes.walk.pending ≡ None → (x : List ℕ) → Finds (reading_in l.fn.changes.walk) (g.S.Source.remaining l.fn.changes.source) x
    → SoFar (manner_of l.fn.self.settings.now) (wanted_by l.fn.changes.choice) l.fn.self.file.now (spot_at (kept_in l.fn.changes.walk) None x) l.fn.self.gtid (g.O.Write.contents l.fn.out) l.fn.self.lines.bytes.items
    (g.S.Source.remaining l.changes.source) (reading_in l.changes.walk) l.changes.walk.pending l.self.gtid (g.O.Write.contents l.out) l.self.lines.bytes.items
    l.fn.self.settings.now.filter.positions l.bounds.start)
    × (l.fn.self.settings.now.form ≡ form.Count → l.fn.changes.walk.pending ≡ None → (x : List ℕ) → Finds (reading_in l.fn.changes.walk) (g.S.Source.remaining l.fn.changes.source) x
    → CountedSoFar l.fn.self.settings.now.skips_faulty (wanted_by l.fn.changes.choice) (spot_at (kept_in l.fn.changes.walk) None x) l.fn.counts (g.S.Source.remaining l.changes.source) (reading_in l.changes.walk) l.changes.walk.pending l.counts
    l.fn.self.settings.now.filter.positions l.bounds.start)
    × ((l.bounds.start ≡ start_sought l.fn.self.settings.now.filter.positions) ⊎ (l.bounds.start ≡ None))
    × (faults : List FileError)
    × (l.fn.changes.walk.pending ≡ None → (x : List ℕ) → Finds (reading_in l.fn.changes.walk) (g.S.Source.remaining l.fn.changes.source) x
    → NotedSoFar l.fn.self.settings.now.skips_faulty (wanted_by l.fn.changes.choice) l.fn.self.settings.now.filter.positions (spot_at (kept_in l.fn.changes.walk) None x) l.fn.self.is_open l.fn.self.gaps
    (g.S.Source.remaining l.changes.source) (reading_in l.changes.walk) l.changes.walk.pending l.self.is_open l.self.gaps faults)
    × (l.fn.notes.meter ≡ None → IsSome l.fn.notes.len → (text : List ℕ) × AreTold l.fn.self.path.now faults text
    × Tells l.fn.notes.is_lost (g.E.Write.contents l.fn.notes.err) l.notes.is_lost (g.E.Write.contents l.notes.err) text × (l.notes.meter ≡ None) × IsSome l.notes.len)
    × (l.notes.is_quiet ≡ l.fn.notes.is_quiet)
    × (l.fn.self.skipped ≡ 0 → l.self.skipped ≡ up_to_most (length faults))

abbrev pub decreases-loop-bounds : goal.decreases-loop-bounds
decreases-loop-bounds g l = items_left (reading_in l.changes.walk) l.changes.walk.pending
