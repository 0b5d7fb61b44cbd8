-- What was written before an error.
use Rattle.std.proofs.Common.{◌≡◌, ◌<◌, ◌^◌, ◌+◌, ℕ, Bool, true, false, List, [], ◌++◌, length, Option, Some, None, Result, Ok, Err, IfErr, ◌⊎◌, inl, inr, refl, sym, ap, subst, ◌∙◌, append-nil, length-append, arith}
use Rattle.std.specs.Prelude.{OnOk}
use Rattle.std.specs.Io.KnownBytes.{Consumes}
use Rattle.binlog_table.specs.TableMap.{TableMap}
use Rattle.mysql_binlog_rows.specs.RowsEvent.{RowsEvent}
use Rattle.mysql_binlog_rows.specs.Images.{Pair, pair}
use Rattle.mysql_binlog_rows.specs.Cover.{IsPair, EndsWith}
use Rattle.binlog_events.specs.declared.error.EventError.TheVariants as error
use Rattle.binlog_events.specs.declared.error.FileError.{FileError}
use Rattle.binlog_events.specs.declared.origin.Origin.{Origin}
use Rattle.binlog_file.specs.declared.lent_changes.LentEvent.{LentEvent}
use Rattle.binlog_file.specs.declared.lent_changes.LentEvent.TheVariants as lent
use Rattle.binlog_file.specs.Events.{magic}
use Rattle.binlog_file.specs.Changes.{Wanted, Spot}
use Rattle.binlog_file.specs.Stream.{Kept, Reading, first_kept}
use Rattle.binlog_file.specs.LentChanges.{LentChange, PairGives}
use Rattle.binlog_file.specs.SourceChanges.{Found, Finds, spot_at}
use Rattle.row_json.specs.Columns.{columns_of}
use Rattle.change_lines.specs.declared.error.Failure.{Failure}
use Rattle.change_lines.specs.declared.error.Failure.TheVariants as failure
use Rattle.change_lines.specs.declared.run.Form.{Form}
use Rattle.change_lines.specs.declared.run.Form.TheVariants as form
use Rattle.change_lines.specs.declared.run.Settings.{Settings}
use Rattle.changed_rows.specs.declared.filter.Filter.{Filter}
use Rattle.changed_rows.specs.declared.filter.Positions.{Positions}
use Rattle.changed_rows.specs.Filters.{wanted_by, start_sought}
use Rattle.change_lines.specs.Outputs.{Outputs}
use Rattle.changed_rows.specs.Names.{up_to_most, is_before}
use Rattle.change_lines.specs.Rows.{BeginsWith, AreLinesBy}
use Rattle.change_lines.specs.Readings.{Passes, SourceNext}
use Rattle.change_lines.specs.Lines.{Manner, manner_of, IsRowLine, Writes}
use Rattle.change_lines.specs.Failures.{OutputsUpTo, IsOutput, IsNotOfFile, IsErrorOfRow, EndsAtRow, IsLineFailure, IsNotOfRow, AreFirstOfEvent, AreFirstOfNext, MissesNone, IsMissing, AreFirst, IsLostBy, WritesFirstRows, WritesFirstOfEvent, WritesFirst}
use Rattle.change_lines.specs.Runs.{AreFirstLines}
use Rattle.change_lines.proofs.Pairs.{nothing_read}
use Rattle.change_lines.proofs.Rows.{lines_weaker, no_lines}
use Rattle.change_lines.proofs.Passed.{passed_more, passed_same}
use Rattle.change_lines.proofs.Begun.{Missed, missing_ended}
use Rattle.change_lines.proofs.Failures.{up_to_all, up_to_nothing, up_to_here, up_to_more, OutputsBut, output_not_file, output_not_row, not_at_row, not_at_event, not_late, in_time_of, output_misses_none, nothing_missing}
use Rattle.change_lines.proofs.Whole.{SoFar, still_before, stays_at}

-- ---- the errors of rows

pub err_gives : (old new : LentChange) (p : Pair) (r : Result (Unit {0}) FileError) (e : FileError) → r ≡ Err e → PairGives old p (Some r) new → PairGives old p (Some (Err e)) new
err_gives old new p r e is h = subst (λ (x : Result (Unit {0}) FileError). PairGives old p (Some x) new) is h

-- a row that can't be read is the first of those that were left
pub row_error : (c old new : LentChange) (n : ℕ) (p : Pair) (e : FileError) → old.table ≡ c.table → old.rows ≡ c.rows → old.origin ≡ c.origin → old.count ≡ c.count + n → PairGives old p (Some (Err e)) new → IsErrorOfRow c n old.left e
row_error c old new n p e table rows origin count gives = (
  gives.2 ∙ ap (λ (o : Origin). o.position) origin,
  elim gives.3 [
    | inl memory ↦ inl memory
    | inr h ↦ inr (
      h.0,
      inl (
        subst (λ (d : RowsEvent). EndsWith (pair c.table d) old.left (Some h.0)) rows (subst (λ (t : TableMap). EndsWith (pair t old.rows) old.left (Some h.0)) table h.1),
        subst (λ (k : ℕ). e.error ≡ error.RowsData k h.0) count h.2,
      ),
    )
  ],
)

-- neither is one whose line can't be made
pub line_error : (c old new : LentChange) (n : ℕ) (p : Pair) (u : Unit {0}) (why : Failure) → old.table ≡ c.table → old.rows ≡ c.rows → PairGives old p (Some (Ok u)) new → IsLineFailure (columns_of c.table) c.rows c.origin.position (up_to_most n) p why
    → EndsAtRow why c n old.left
line_error c old new n p u (failure.File e) table rows gives is =
    let here = subst (λ (d : RowsEvent). IsPair (pair c.table d) gives.0 p) rows (subst (λ (t : TableMap). IsPair (pair t old.rows) gives.0 p) table gives.2) in
    (is.0, inr (is.1, inr ((gives.0, new.left, p, gives.1, here, is.2), is.3)))
line_error c old new n p u (failure.NoEvent m) table rows gives is = tt
line_error c old new n p u (failure.Output e) table rows gives is = tt
line_error c old new n p u (failure.Unopened e) table rows gives is = absurd is
line_error c old new n p u failure.Memory table rows gives is = tt

-- ---- the rows of an event

-- some rows were read and written, and then nothing more
pub rows_so_far : (why : Failure) (Is : ℕ → Pair → List ℕ → Type 0) (c : LentChange) (a b : Option (List ℕ)) (held mid left : List ℕ) (ps : List Pair) (rest text : List ℕ)
    → BeginsWith (pair c.table c.rows) c.left ps rest → AreLinesBy Is 0 ps text → Outputs a held text b mid → left ≡ mid → EndsAtRow why c (length ps) rest → WritesFirstRows why Is c a held b left
rows_so_far why Is c a b held mid left ps rest text begins lines outputs same ends = record {
  pairs = ps;
  rest = rest;
  text = text;
  begins = begins;
  lines = lines;
  ends = ends;
  outputs = up_to_here why a b held text mid left outputs same;
}

-- some rows were read and written, and of the next nothing
pub rows_up_to : (why : Failure) (Is : ℕ → Pair → List ℕ → Type 0) (c : LentChange) (a b d : Option (List ℕ)) (held mid left : List ℕ) (ps : List Pair) (rest text : List ℕ)
    → BeginsWith (pair c.table c.rows) c.left ps rest → AreLinesBy Is 0 ps text → Outputs a held text b mid → OutputsUpTo why b mid [] d left → EndsAtRow why c (length ps) rest → WritesFirstRows why Is c a held d left
rows_up_to why Is c a b d held mid left ps rest text begins lines outputs nothing ends = record {
  pairs = ps;
  rest = rest;
  text = text;
  begins = begins;
  lines = lines;
  ends = ends;
  outputs = subst (λ (t : List ℕ). OutputsUpTo why a held t d left) (append-nil text) (up_to_more why a b d held mid left text [] outputs nothing);
}

-- no row was read
pub no_rows : (why : Failure) (Is : ℕ → Pair → List ℕ → Type 0) (c : LentChange) (a : Option (List ℕ)) (held : List ℕ) → IsNotOfFile why → WritesFirstRows why Is c a held a held
no_rows why Is c a held not = record {
  pairs = [];
  rest = c.left;
  text = [];
  begins = nothing_read c.table c.rows c.left;
  lines = refl;
  ends = not_at_row why c 0 c.left not;
  outputs = up_to_nothing why a held;
}

pub first_weaker : (Is Be : ℕ → Pair → List ℕ → Type 0) → ((row : ℕ) (p : Pair) (line : List ℕ) → Is row p line → Be row p line) → (c : LentChange) (old : Option (List ℕ)) (held : List ℕ) (new : Option (List ℕ)) (left : List ℕ)
    → (why : Failure) → WritesFirstRows why Is c old held new left → WritesFirstRows why Be c old held new left
first_weaker Is Be to c old held new left why h = record {
  pairs = h.pairs;
  rest = h.rest;
  text = h.text;
  begins = h.begins;
  lines = lines_weaker Is Be to 0 h.pairs h.text h.lines;
  ends = h.ends;
  outputs = h.outputs;
}

-- some rows of an event were written
pub first_written : (m : Manner) (file : List ℕ) (gtid : Option (List ℕ)) (c : LentChange) (old : Option (List ℕ)) (held : List ℕ) (new : Option (List ℕ)) (left : List ℕ)
    → (why : Failure) → (m.skips ≡ true → IsNotOfRow why) → WritesFirstRows why (IsRowLine m.form file gtid c) c old held new left → WritesFirstOfEvent why m file gtid (lent.Rows c) old held new left
first_written m file gtid c old held new left why not h = (h.text, (h.pairs, h.rest, h.begins, h.lines, h.ends, not), h.outputs)

-- nothing is written of rows that are counted
pub first_counted : (f : Form) (file : List ℕ) (gtid : Option (List ℕ)) (c : LentChange) (old : Option (List ℕ)) (held : List ℕ) → f ≡ form.Count
    → (why : Failure) → (ps : List Pair) × (rest : List ℕ) × BeginsWith (pair c.table c.rows) c.left ps rest × EndsAtRow why c (length ps) rest → WritesFirstRows why (IsRowLine f file gtid c) c old held old held
first_counted f file gtid c old held same why h = record {
  pairs = h.0;
  rest = h.1;
  text = [];
  begins = h.2;
  lines = subst (λ (k : Form). AreLinesBy (IsRowLine k file gtid c) 0 h.0 []) (sym same) (no_lines 0 h.0);
  ends = h.3;
  outputs = up_to_nothing why old held;
}

-- ---- the events of a file

-- the lines of some events were written, and then nothing more
pub events_so_far : (f : Manner) (wanted : Wanted) (file : List ℕ) (from : Spot) (gtid : Option (List ℕ)) (out : Option (List ℕ)) (held : List ℕ) (source : Option (List ℕ)) (r : Reading) (p : Option FileError) (here : Option (List ℕ)) (new : Option (List ℕ)) (left : List ℕ) (positions : Positions) (sought : Option ℕ)
    (h : SoFar f wanted file from gtid out held source r p here new left positions sought) (why : Failure) → IsNotOfFile why → IsMissing why positions.stop h.events (spot_at r.kept None h.bytes) → WritesFirst why f positions.stop wanted file from gtid out held new left
events_so_far f wanted file from gtid out held source r p here new left positions sought h why not missing =
    let at = spot_at r.kept None h.bytes in (
      h.text,
      record { events = h.events; front = h.text; at = at; here = here; rows = []; lines = h.lines; next = inl (refl, not_at_event why wanted at not); in_time = not_late why positions.stop at not; missing = missing; whole = sym (append-nil h.text) },
      up_to_all why out new held h.text left h.outputs,
    )

-- the lines of some events were held back, and then the output failed
pub output_so_far : (f : Manner) (wanted : Wanted) (file : List ℕ) (from : Spot) (gtid : Option (List ℕ)) (out : Option (List ℕ)) (held : List ℕ) (source : Option (List ℕ)) (r : Reading) (p : Option FileError) (here : Option (List ℕ)) (mid : Option (List ℕ)) (kept : List ℕ) (positions : Positions) (sought : Option ℕ)
    → SoFar f wanted file from gtid out held source r p here mid kept positions sought
    → (why : Failure) → IsOutput why → (new : Option (List ℕ)) (left : List ℕ) → OutputsUpTo why mid kept [] new left → WritesFirst why f positions.stop wanted file from gtid out held new left
output_so_far f wanted file from gtid out held source r p here mid kept positions sought h why is new left more =
    let at = spot_at r.kept None h.bytes in
    let not = output_not_file why is in (
      h.text,
      record { events = h.events; front = h.text; at = at; here = here; rows = []; lines = h.lines; next = inl (refl, not_at_event why wanted at not); in_time = not_late why positions.stop at not; missing = nothing_missing why positions.stop h.events at (output_misses_none why is); whole = sym (append-nil h.text) },
      subst (λ (t : List ℕ). OutputsUpTo why out held t new left) (append-nil h.text) (up_to_more why out mid new held kept left h.text [] h.outputs more),
    )

-- the lines of all events were written, but no event begins at a position
pub end_so_far : (f : Manner) (wanted : Wanted) (file : List ℕ) (from : Spot) (gtid : Option (List ℕ)) (out : Option (List ℕ)) (held : List ℕ) (old : Option (List ℕ)) (r : Reading) (p : Option FileError) (here : Option (List ℕ)) (new : Option (List ℕ)) (left : List ℕ) (positions : Positions) (sought : Option ℕ)
    → SoFar f wanted file from gtid out held old r p here new left positions sought
    → (is_each : Bool) (source : Option (List ℕ)) (s : Reading) (q : Option FileError) → SourceNext wanted is_each old r p None source s q → (is_each ≡ false → sought ≡ None) → (is_each ≡ false → positions.stop ≡ None) → (sought ≡ start_sought positions) ⊎ (sought ≡ None)
    → (why : Failure) → IsNotOfFile why → Missed why sought positions.stop r.kept.at → WritesFirst why f positions.stop wanted file from gtid out held new left
end_so_far f wanted file from gtid out held old r p here new left positions sought h is_each source s q gives free whole known why not missed =
    let m = gives h.bytes h.finds in
    let at = m.2 in
    let passes = subst (λ (o : Option FileError). Passes is_each (spot_at r.kept o h.bytes) at) h.goes_on m.3 in
    let passed = passed_more f wanted file from gtid h.events h.text (spot_at r.kept None h.bytes) here is_each at h.lines passes in
    let same = passed_same f wanted file from gtid h.events h.text (spot_at r.kept None h.bytes) here is_each at h.lines passes in
    let there = stays_at is_each (spot_at r.kept None h.bytes) at passes in
    let missing = missing_ended why positions sought r.kept.at h.events passed.0 at is_each h.unseen h.early free whole known there same m.4.1 missed in (
      h.text,
      record { events = passed.0; front = h.text; at = at; here = here; rows = []; lines = passed.1; next = inl (refl, not_at_event why wanted at not); in_time = not_late why positions.stop at not; missing = missing; whole = sym (append-nil h.text) },
      up_to_all why out new held h.text left h.outputs,
    )

-- the lines of some events were written, and then an event can't be read, perhaps after others that were
-- passed over
pub error_so_far : (f : Manner) (wanted : Wanted) (file : List ℕ) (from : Spot) (gtid : Option (List ℕ)) (out : Option (List ℕ)) (held : List ℕ) (old : Option (List ℕ)) (r : Reading) (p : Option FileError) (here : Option (List ℕ)) (new : Option (List ℕ)) (left : List ℕ) (positions : Positions) (sought : Option ℕ)
    → SoFar f wanted file from gtid out held old r p here new left positions sought
    → (is_each : Bool) (e : FileError) (source : Option (List ℕ)) (s : Reading) (q : Option FileError) → SourceNext wanted is_each old r p (Some (Err e)) source s q → is_before positions.stop r.kept.at ≡ true → (is_each ≡ false → positions.stop ≡ None) → WritesFirst (failure.File e) f positions.stop wanted file from gtid out held new left
error_so_far f wanted file from gtid out held old r p here new left positions sought h is_each e source s q gives before whole =
    let m = gives h.bytes h.finds in
    let at = m.2 in
    let passes = subst (λ (o : Option FileError). Passes is_each (spot_at r.kept o h.bytes) at) h.goes_on m.3 in
    let passed = passed_more f wanted file from gtid h.events h.text (spot_at r.kept None h.bytes) here is_each at h.lines passes in (
      h.text,
      record { events = passed.0; front = h.text; at = at; here = here; rows = []; lines = passed.1; next = inl (refl, m.4.1); in_time = still_before is_each positions.stop (spot_at r.kept None h.bytes) at passes before whole; missing = tt; whole = sym (append-nil h.text) },
      up_to_all (failure.File e) out new held h.text left h.outputs,
    )

-- the lines of some events were written, and then those of some first rows of the next one
pub event_so_far : (f : Manner) (wanted : Wanted) (file : List ℕ) (from : Spot) (gtid : Option (List ℕ)) (out : Option (List ℕ)) (held : List ℕ) (old : Option (List ℕ)) (r : Reading) (p : Option FileError) (here : Option (List ℕ)) (mid : Option (List ℕ)) (kept : List ℕ) (positions : Positions) (sought : Option ℕ)
    → SoFar f wanted file from gtid out held old r p here mid kept positions sought
    → (is_each : Bool) (x : LentEvent) (source : Option (List ℕ)) (s : Reading) (q : Option FileError) (new : Option (List ℕ)) (left : List ℕ)
    → SourceNext wanted is_each old r p (Some (Ok x)) source s q → (why : Failure) → WritesFirstOfEvent why f file here x mid kept new left → MissesNone why → is_before positions.stop r.kept.at ≡ true → (is_each ≡ false → positions.stop ≡ None) → WritesFirst why f positions.stop wanted file from gtid out held new left
event_so_far f wanted file from gtid out held old r p here mid kept positions sought h is_each x source s q new left gives why writes none before whole =
    let m = gives h.bytes h.finds in
    let at = m.2 in
    let passes = subst (λ (o : Option FileError). Passes is_each (spot_at r.kept o h.bytes) at) h.goes_on m.3 in
    let passed = passed_more f wanted file from gtid h.events h.text (spot_at r.kept None h.bytes) here is_each at h.lines passes in (
      h.text ++ writes.0,
      record { events = passed.0; front = h.text; at = at; here = here; rows = writes.0; lines = passed.1; next = inr (none, m.4.0, spot_at s.kept q m.0, m.4.1, x, m.4.2, writes.1); in_time = in_time_of why positions.stop at (still_before is_each positions.stop (spot_at r.kept None h.bytes) at passes before whole); missing = nothing_missing why positions.stop passed.0 at none; whole = refl },
      up_to_more why out mid new held kept left h.text writes.0 h.outputs writes.2,
    )

-- ---- the output failed later

event_but_output : (why g : Failure) (f : Manner) (file : List ℕ) (gtid : Option (List ℕ)) (x : LentEvent) (text : List ℕ) → IsOutput g → AreFirstOfEvent why f file gtid x text → AreFirstOfEvent g f file gtid x text
event_but_output why g f file gtid (lent.Other o) text is h = (h.0, output_not_file g is)
event_but_output why g f file gtid (lent.Rows c) text is h = (h.0, h.1, h.2, h.3, not_at_row g c (length h.0) h.1 (output_not_file g is), λ skips. output_not_row g is)

next_but_output : (why g : Failure) (f : Manner) (wanted : Wanted) (file : List ℕ) (at : Spot) (gtid : Option (List ℕ)) (text : List ℕ) → IsOutput g → AreFirstOfNext why f wanted file at gtid text → AreFirstOfNext g f wanted file at gtid text
next_but_output why g f wanted file at gtid text is (inl h) = inl (h.0, not_at_event g wanted at (output_not_file g is))
next_but_output why g f wanted file at gtid text is (inr h) = inr (output_misses_none g is, h.1, h.2, h.3, h.4, h.5, event_but_output why g f file gtid h.4 text is h.6)

first_but_output : (why g : Failure) (f : Manner) (stop : Option ℕ) (wanted : Wanted) (file : List ℕ) (from : Spot) (gtid : Option (List ℕ)) (text : List ℕ) → IsOutput g → AreFirst why f stop wanted file from gtid text → AreFirst g f stop wanted file from gtid text
first_but_output why g f stop wanted file from gtid text is h = record {
  events = h.events;
  front = h.front;
  at = h.at;
  here = h.here;
  rows = h.rows;
  lines = h.lines;
  next = next_but_output why g f wanted file h.at h.here h.rows is h.next;
  in_time = not_late g stop h.at (output_not_file g is);
  missing = nothing_missing g stop h.events h.at (output_misses_none g is);
  whole = h.whole;
}

-- ---- a file

-- What was written of a file up to a failure: that of the reading, or of the output, whether the file was
-- read to its end or not.
pub written_of : (r : Result (Unit {0}) Failure) (g : Failure) (f : Manner) (wanted : Wanted) (file : List ℕ) (positions : Positions) (from : Spot) (gtid : Option (List ℕ)) (old : Option (List ℕ)) (held : List ℕ) (new : Option (List ℕ)) (left : List ℕ)
    → OnOk r (Writes f wanted file positions from gtid old held new left) → IfErr r (λ why. WritesFirst why f positions.stop wanted file from gtid old held new left) → IsOutput g ⊎ (r ≡ Err g)
    → (text : List ℕ) × AreFirst g f positions.stop wanted file from gtid text × (lost : List ℕ) × OutputsBut old held text new left lost × IsLostBy r lost
written_of (Ok u) g f wanted file positions from gtid old held new left all first (inl is) = (
  all.text,
  record { events = all.events; front = all.text; at = all.end; here = all.after; rows = []; lines = all.lines; next = inl (refl, not_at_event g wanted all.end (output_not_file g is)); in_time = not_late g positions.stop all.end (output_not_file g is); missing = nothing_missing g positions.stop all.events all.end (output_misses_none g is); whole = sym (append-nil all.text) },
  [],
  (all.outputs.0, all.outputs.1, all.outputs.2 ∙ ap (λ (t : List ℕ). all.outputs.0 ++ t) (sym (append-nil left))),
  refl,
)
written_of (Ok u) g f wanted file positions from gtid old held new left all first (inr same) = absurd cc
written_of (Err why) g f wanted file positions from gtid old held new left all first (inl is) = (first.0, first_but_output why g f positions.stop wanted file from gtid first.0 is first.1, first.2.1, (first.2.0, first.2.2, first.2.3), first.2.4)
written_of (Err why) g f wanted file positions from gtid old held new left all first (inr same) =
    let is : why ≡ g = cc in
    (first.0, subst (λ (k : Failure). AreFirst k f positions.stop wanted file from gtid first.0) is first.1, first.2.1, (first.2.0, first.2.2, first.2.3), first.2.4)

-- first lines of what a reading finds after the first bytes of a file are first lines of the file
pub first_lines : (why : Failure) (settings : Settings) (choice : Filter) (file x : List ℕ) (source : Option (List ℕ)) (r : Reading) (gtid : Option (List ℕ)) (Q : List ℕ → Type 0)
    → Consumes (Some x) source magic → r.kept ≡ first_kept → r.is_over ≡ false → length x < 2 ^ 64 → choice ≡ settings.filter → gtid ≡ None
    → ((y : List ℕ) → Finds r source y → (text : List ℕ) × AreFirst why (manner_of settings) settings.filter.positions.stop (wanted_by choice) file (spot_at r.kept None y) gtid text × Q text)
    → (text : List ℕ) × AreFirstLines why settings file x text × Q text
first_lines why settings choice file x None r gtid Q consumes kept on small chosen none writes = absurd consumes
first_lines why settings choice file x (Some y) r gtid Q consumes kept on small chosen none writes =
    let fits : r.kept.at + length y < 2 ^ 64 = omega (arith, ap (λ (k : Kept). k.at) kept, ap length consumes, length-append magic y, small) in
    let w = writes y (subst (λ (o : Bool). Found o r.kept.at (Some y) y) (sym on) (refl, fits)) in
    let f = manner_of settings in
    let lines1 = subst (λ (c : Filter). AreFirst why f settings.filter.positions.stop (wanted_by c) file (spot_at r.kept None y) gtid w.0) chosen w.1 in
    let lines2 = subst (λ (k : Kept). AreFirst why f settings.filter.positions.stop (wanted_by settings.filter) file (spot_at k None y) gtid w.0) kept lines1 in
    let lines3 = subst (λ (g : Option (List ℕ)). AreFirst why f settings.filter.positions.stop (wanted_by settings.filter) file (spot_at first_kept None y) g w.0) none lines2 in
    subst (λ (t : List ℕ). (text : List ℕ) × AreFirstLines why settings file t text × Q text) (sym consumes)
    (w.0, inr (refl, lines3), w.2)
