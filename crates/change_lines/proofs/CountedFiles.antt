-- The rows of a file are counted event by event.
use Rattle.std.proofs.Common.{◌≡◌, ◌<◌, ◌^◌, ◌+◌, ℕ, zero, suc, Bool, true, false, List, [], ◌∷◌, ◌++◌, length, Option, Some, None, Result, Ok, Err, IfErr, ◌⊎◌, inl, inr, refl, sym, ap, subst, ◌∙◌, append_assoc, append-nil, length-append, arith}
use Rattle.std.specs.Prelude.{OnOk}
use Rattle.std.specs.Io.KnownBytes.{Consumes}
use Rattle.mysql_binlog_rows.specs.Images.{Pair, pair}
use Rattle.mysql_binlog_rows.specs.Cover.{Covers}
use Rattle.binlog_events.specs.declared.error.FileError.{FileError}
use Rattle.binlog_file.specs.declared.lent_changes.LentEvent.{LentEvent}
use Rattle.binlog_file.specs.declared.lent_changes.LentEvent.TheVariants as lent
use Rattle.binlog_file.specs.Events.{Event, glance_of, is_binlog, magic}
use Rattle.binlog_file.specs.Changes.{Wanted, Spot, first_spot}
use Rattle.binlog_file.specs.Stream.{Kept, Reading, first_kept}
use Rattle.binlog_file.specs.LentChanges.{LentChange}
use Rattle.binlog_file.specs.LentEvents.{Shows, GoesPast, PassesOver, other_of}
use Rattle.binlog_file.specs.SourceChanges.{Found, Finds, spot_at}
use Rattle.binlog_file.proofs.AskedFollowed.{passed_shows}
use Rattle.change_lines.specs.declared.error.Failure.{Failure}
use Rattle.change_lines.specs.declared.error.Failure.TheVariants as failure
use Rattle.changed_rows.specs.declared.filter.Operation.{Operation}
use Rattle.changed_rows.specs.declared.filter.Filter.{Filter}
use Rattle.changed_rows.specs.declared.filter.Positions.{Positions}
use Rattle.change_lines.specs.declared.run.Settings.{Settings}
use Rattle.changed_rows.specs.declared.count.Counts.{Counts}
use Rattle.changed_rows.specs.Names.{is_before, up_to_most}
use Rattle.changed_rows.specs.Filters.{operation_of, wanted_by, start_sought, start_after, IsUpTo}
use Rattle.changed_rows.specs.Counted.{Name, Counted, AreCounts, CountsMore}
use Rattle.change_lines.specs.CountedFiles.{counted_by, counted_in, AreEventRows, AreFirstEventRows, AreCounted, AreCountedToEnd, AreNextCounted, AreFirstCounted, CountsThese}
use Rattle.change_lines.specs.Readings.{seen_types, Passes, SourceNext}
use Rattle.change_lines.specs.Rows.{BeginsWith}
use Rattle.change_lines.specs.Lines.{IsEnd}
use Rattle.change_lines.specs.Failures.{IsOutput, IsNotOfFile, EndsAtRow, MissesNone, IsMissing}
use Rattle.change_lines.proofs.Failures.{output_not_file, not_at_row, not_at_event, not_late, in_time_of, output_misses_none, nothing_missing}
use Rattle.change_lines.proofs.Whole.{is_end_at, still_before, stays_at}
use Rattle.change_lines.proofs.Begun.{IsUnseen, Missed, past_position, unseen_next, early_next, missing_ended}

-- ---- counts

pub counts_nothing : (c : Counts) → CountsMore [] c c
counts_nothing c before h = subst (λ (l : List Counted). AreCounts l c) (sym (append-nil before)) h

counts_more : (xs ys : List Counted) (a b d : Counts) → CountsMore xs a b → CountsMore ys b d → CountsMore (xs ++ ys) a d
counts_more xs ys a b d h k before is = subst (λ (l : List Counted). AreCounts l d) (append_assoc before xs ys) (k (before ++ xs) (h before is))

-- ---- the rows of an event

counted_same : (c : LentChange) (o : Option Operation) (name : Name) (n m : ℕ) → o ≡ operation_of c.rows.event_type → name ≡ (c.table.database, c.table.table) → n ≡ up_to_most m → counted_by o name n ≡ counted_in c m
counted_same c o name n m is named so_many =
    ap (λ (p : Option Operation). counted_by p name n) is ∙ ap (λ (q : Name). counted_by (operation_of c.rows.event_type) q n) named ∙ ap (λ (k : ℕ). counted_by (operation_of c.rows.event_type) (c.table.database, c.table.table) k) so_many

-- all rows of an event were counted
pub event_rows : (skips : Bool) (c : LentChange) (o : Option Operation) (name : Name) (n : ℕ) (a b : Counts) → o ≡ operation_of c.rows.event_type → name ≡ (c.table.database, c.table.table) → CountsMore (counted_by o name n) a b
    → (ps : List Pair) × Covers (pair c.table c.rows) c.left ps None × (n ≡ up_to_most (length ps)) → CountsThese (AreEventRows skips (lent.Rows c)) a b
event_rows skips c o name n a b is named more h = (counted_by o name n, inl (h.0, h.1, counted_same c o name n (length h.0) is named h.2), more)

-- the first rows of an event were counted
pub first_rows : (c : LentChange) (o : Option Operation) (name : Name) (n : ℕ) (a b : Counts) (why : Failure) → o ≡ operation_of c.rows.event_type → name ≡ (c.table.database, c.table.table) → CountsMore (counted_by o name n) a b
    → (ps : List Pair) × (rest : List ℕ) × BeginsWith (pair c.table c.rows) c.left ps rest × EndsAtRow why c (length ps) rest × (n ≡ up_to_most (length ps)) → CountsThese (AreFirstEventRows why (lent.Rows c)) a b
first_rows c o name n a b why is named more h = (counted_by o name n, inr (h.0, h.1, h.2, counted_same c o name n (length h.0) is named h.4, h.3), more)

-- ---- events, one after the other

event_counted : (skips : Bool) (wanted : Wanted) (old : Spot) (es : List Event) (xs : List Counted) (mid : Spot) (e : Event) (new : Spot) (x : LentEvent) (ys : List Counted)
    → AreCounted skips wanted old es xs mid → GoesPast mid e new → Shows wanted new.in_force.tables (glance_of e) x → AreEventRows skips x ys → AreCounted skips wanted old (es ++ e ∷ []) (xs ++ ys) new
event_counted skips wanted old [] xs mid e new x ys h past shows rows =
    (new, subst (λ (s : Spot). GoesPast s e new) h.0 past, x, shows, ys, [], rows, (refl, refl), ap (λ (l : List Counted). l ++ ys) h.1 ∙ sym (append-nil ys))
event_counted skips wanted old (d ∷ es) xs mid e new x ys h past shows rows =
    (h.0, h.1, h.2, h.3, h.4, h.5 ++ ys, h.6, event_counted skips wanted h.0 es h.5 mid e new x ys h.7 past shows rows, ap (λ (l : List Counted). l ++ ys) h.8 ∙ append_assoc h.4 h.5 ys)

over_counted : (skips : Bool) (wanted : Wanted) (from : Spot) (es : List Event) (xs : List Counted) (mid : Spot) (n : ℕ) (new : Spot) → AreCounted skips wanted from es xs mid → PassesOver seen_types n mid new → (ds : List Event) × AreCounted skips wanted from ds xs new
over_counted skips wanted from es xs mid zero new counted same = (es, subst (λ (s : Spot). AreCounted skips wanted from es xs s) (sym same) counted)
over_counted skips wanted from es xs mid (suc n) new counted h =
    let before = over_counted skips wanted from es xs mid n h.0 counted h.1 in
    let e = h.2.0 in
    let ds = before.0 ++ e ∷ [] in
    let more = event_counted skips wanted from before.0 xs h.0 e new (lent.Other (other_of (glance_of e))) [] before.1 h.2.1 (passed_shows wanted seen_types h.0 new h.2) refl in
    (ds, subst (λ (l : List Counted). AreCounted skips wanted from ds l new) (append-nil xs) more)

-- events that are passed over have no rows that are counted
passed_counted : (skips : Bool) (wanted : Wanted) (from : Spot) (es : List Event) (xs : List Counted) (mid : Spot) (is_each : Bool) (new : Spot) → AreCounted skips wanted from es xs mid → Passes is_each mid new → (ds : List Event) × AreCounted skips wanted from ds xs new
passed_counted skips wanted from es xs mid true new counted same = (es, subst (λ (s : Spot). AreCounted skips wanted from es xs s) (sym same) counted)
passed_counted skips wanted from es xs mid false new counted passes = over_counted skips wanted from es xs mid passes.0 new counted passes.1

-- none is added where each is looked at
passed_same : (skips : Bool) (wanted : Wanted) (from : Spot) (es : List Event) (xs : List Counted) (mid : Spot) (is_each : Bool) (new : Spot) (counted : AreCounted skips wanted from es xs mid) (passes : Passes is_each mid new)
    → is_each ≡ true → (passed_counted skips wanted from es xs mid is_each new counted passes).0 ≡ es
unfolding passed_counted
passed_same skips wanted from es xs mid true new counted same each = refl
passed_same skips wanted from es xs mid false new counted passes each = absurd cc

-- The rows that were counted so far: those of the events from a spot on up to the place of a reading, which
-- finds these bytes. None of them began at the start position, while an event is looked for there, or after it,
-- nor at the stop position or after it.
pub record CountedSoFar (skips : Bool) (wanted : Wanted) (from : Spot) (old : Counts) (source : Option (List ℕ)) (r : Reading) (pending : Option FileError) (new : Counts) (positions : Positions) (sought : Option ℕ) : Type 0 where
  pub goes_on : pending ≡ None
  pub bytes : List ℕ
  pub finds : Finds r source bytes
  pub events : List Event
  pub rows : List Counted
  pub counted : AreCounted skips wanted from events rows (spot_at r.kept None bytes)
  pub more : CountsMore rows old new
  pub unseen : IsUnseen sought events
  pub early : IsUnseen positions.stop events

module _ (skips : Bool) (wanted : Wanted) (from : Spot) (a b : Counts) (old : Option (List ℕ)) (r : Reading) (p : Option FileError) (positions : Positions) (sought : Option ℕ) (h : CountedSoFar skips wanted from a old r p b positions sought) where
  -- the events that were read and then those that were passed over
  passed : (is_each : Bool) (at : Spot) → Passes is_each (spot_at r.kept p h.bytes) at → (ds : List Event) × AreCounted skips wanted from ds h.rows at
  passed is_each at passes = passed_counted skips wanted from h.events h.rows (spot_at r.kept None h.bytes) is_each at h.counted (subst (λ (o : Option FileError). Passes is_each (spot_at r.kept o h.bytes) at) h.goes_on passes)

  passed_are : (is_each : Bool) (at : Spot) (passes : Passes is_each (spot_at r.kept p h.bytes) at) → is_each ≡ true → (passed is_each at passes).0 ≡ h.events
  unfolding passed
  passed_are is_each at passes each = passed_same skips wanted from h.events h.rows (spot_at r.kept None h.bytes) is_each at h.counted (subst (λ (o : Option FileError). Passes is_each (spot_at r.kept o h.bytes) at) h.goes_on passes) each

  -- where events are passed over there is no stop position
  in_time : (is_each : Bool) (at : Spot) → Passes is_each (spot_at r.kept p h.bytes) at → (stop : Option ℕ) → is_before stop r.kept.at ≡ true → (is_each ≡ false → stop ≡ None) → is_before stop at.place.at ≡ true
  in_time is_each at passes stop early whole = still_before is_each stop (spot_at r.kept p h.bytes) at passes early whole

  -- one event more was read and counted
  pub count_step : (is_each : Bool) (x : LentEvent) (source : Option (List ℕ)) (s : Reading) (q : Option FileError) (d : Counts) → SourceNext wanted is_each old r p (Some (Ok x)) source s q → CountsThese (AreEventRows skips x) b d
      → (is_each ≡ false → sought ≡ None) → (is_each ≡ false → positions.stop ≡ None) → is_before positions.stop r.kept.at ≡ true → IsUpTo sought r.kept.at → (next : Option ℕ) → next ≡ start_after sought r.kept.at
      → CountedSoFar skips wanted from a source s q d positions next
  count_step is_each x source s q d gives counts free whole early up_to next goes =
      let m = gives h.bytes h.finds in
      let before = passed is_each m.2 m.3 in
      let e : Event = m.4.0 in
      let ended : q ≡ None = m.4.1.goes_on in
      let past = subst (λ (o : Option FileError). GoesPast m.2 e (spot_at s.kept o m.0)) ended m.4.1 in
      let there = stays_at is_each (spot_at r.kept None h.bytes) m.2 (subst (λ (o : Option FileError). Passes is_each (spot_at r.kept o h.bytes) m.2) h.goes_on m.3) in
      let here = past_position m.2 (spot_at s.kept None m.0) e past in
      let same = passed_are is_each m.2 m.3 in record {
        goes_on = ended;
        bytes = m.0;
        finds = m.1;
        events = before.0 ++ e ∷ [];
        rows = h.rows ++ counts.0;
        counted = event_counted skips wanted from before.0 h.rows m.2 e (spot_at s.kept None m.0) x counts.0 before.1 past m.4.2 counts.1;
        more = counts_more h.rows counts.0 a b d h.more counts.2;
        unseen = subst (λ (o : Option ℕ). IsUnseen o (before.0 ++ e ∷ [])) (sym goes) (unseen_next sought r.kept.at m.2.place.at h.events before.0 e is_each h.unseen up_to free there same here);
        early = early_next positions.stop r.kept.at m.2.place.at h.events before.0 e is_each h.early whole there same here early;
      }

  -- no event is left
  pub count_ended : (is_each : Bool) (stop : Option ℕ) (source : Option (List ℕ)) (s : Reading) (q : Option FileError) → SourceNext wanted is_each old r p None source s q → (is_each ≡ false → stop ≡ None) → (stop ≡ None) ⊎ (stop ≡ Some r.kept.at)
      → CountsThese (AreCountedToEnd skips stop wanted from) a b
  count_ended is_each stop source s q gives whole stops =
      let m = gives h.bytes h.finds in
      let before = passed is_each m.2 m.3 in
      let passes = subst (λ (o : Option FileError). Passes is_each (spot_at r.kept o h.bytes) m.2) h.goes_on m.3 in
      (h.rows, record { events = before.0; end = m.2; counted = before.1; is_end = is_end_at is_each stop (spot_at r.kept None h.bytes) m.2 passes m.4.1 whole stops }, h.more)

  -- the stop position is reached
  pub count_stopped : (stop : Option ℕ) → is_before stop r.kept.at ≡ false → (stop ≡ None) ⊎ (stop ≡ Some r.kept.at) → CountsThese (AreCountedToEnd skips stop wanted from) a b
  count_stopped stop past stops =
      let at = spot_at r.kept None h.bytes in
      elim stops [
        | inl none ↦ absurd (let bad : true ≡ false = subst (λ (o : Option ℕ). is_before o r.kept.at ≡ false) none past in cc)
        | inr is ↦ (h.rows, record { events = h.events; end = at; counted = h.counted; is_end = subst (λ (o : Option ℕ). IsEnd o at) (sym is) refl }, h.more)
      ]

  -- nothing more was read
  pub count_failed : (why : Failure) → IsNotOfFile why → IsMissing why positions.stop h.events (spot_at r.kept None h.bytes) → CountsThese (AreFirstCounted why skips positions.stop wanted from) a b
  count_failed why not missing =
      let at = spot_at r.kept None h.bytes in
      (h.rows, record { events = h.events; front = h.rows; at = at; rows = []; counted = h.counted; next = inl (refl, not_at_event why wanted at not); in_time = not_late why positions.stop at not; missing = missing; whole = sym (append-nil h.rows) }, h.more)

  -- no event is left, and none begins at a position
  pub count_missing : (is_each : Bool) (source : Option (List ℕ)) (s : Reading) (q : Option FileError) → SourceNext wanted is_each old r p None source s q → (is_each ≡ false → sought ≡ None) → (is_each ≡ false → positions.stop ≡ None)
      → (sought ≡ start_sought positions) ⊎ (sought ≡ None) → (why : Failure) → IsNotOfFile why → Missed why sought positions.stop r.kept.at → CountsThese (AreFirstCounted why skips positions.stop wanted from) a b
  count_missing is_each source s q gives free whole known why not missed =
      let m = gives h.bytes h.finds in
      let before = passed is_each m.2 m.3 in
      let there = stays_at is_each (spot_at r.kept None h.bytes) m.2 (subst (λ (o : Option FileError). Passes is_each (spot_at r.kept o h.bytes) m.2) h.goes_on m.3) in
      let missing = missing_ended why positions sought r.kept.at h.events before.0 m.2 is_each h.unseen h.early free whole known there (passed_are is_each m.2 m.3) m.4.1 missed in
      (h.rows, record { events = before.0; front = h.rows; at = m.2; rows = []; counted = before.1; next = inl (refl, not_at_event why wanted m.2 not); in_time = not_late why positions.stop m.2 not; missing = missing; whole = sym (append-nil h.rows) }, h.more)

  -- the next event can't be read
  pub count_error : (is_each : Bool) (e : FileError) (source : Option (List ℕ)) (s : Reading) (q : Option FileError) → SourceNext wanted is_each old r p (Some (Err e)) source s q
      → is_before positions.stop r.kept.at ≡ true → (is_each ≡ false → positions.stop ≡ None) → CountsThese (AreFirstCounted (failure.File e) skips positions.stop wanted from) a b
  count_error is_each e source s q gives early whole =
      let m = gives h.bytes h.finds in
      let before = passed is_each m.2 m.3 in
      (h.rows, record { events = before.0; front = h.rows; at = m.2; rows = []; counted = before.1; next = inl (refl, m.4.1); in_time = in_time is_each m.2 m.3 positions.stop early whole; missing = tt; whole = sym (append-nil h.rows) }, h.more)

  -- some first rows of the next event were counted
  pub count_first : (is_each : Bool) (x : LentEvent) (source : Option (List ℕ)) (s : Reading) (q : Option FileError) (d : Counts) (why : Failure) → SourceNext wanted is_each old r p (Some (Ok x)) source s q → CountsThese (AreFirstEventRows why x) b d
      → MissesNone why → is_before positions.stop r.kept.at ≡ true → (is_each ≡ false → positions.stop ≡ None) → CountsThese (AreFirstCounted why skips positions.stop wanted from) a d
  count_first is_each x source s q d why gives counts none early whole =
      let m = gives h.bytes h.finds in
      let before = passed is_each m.2 m.3 in (
        h.rows ++ counts.0,
        record { events = before.0; front = h.rows; at = m.2; rows = counts.0; counted = before.1; next = inr (none, m.4.0, spot_at s.kept q m.0, m.4.1, x, m.4.2, counts.1); in_time = in_time_of why positions.stop m.2 (in_time is_each m.2 m.3 positions.stop early whole); missing = nothing_missing why positions.stop before.0 m.2 none; whole = refl },
        counts_more h.rows counts.0 a b d h.more counts.2,
      )

-- ---- the output failed later

event_but_output : (why g : Failure) (x : LentEvent) (xs : List Counted) → IsOutput g → AreFirstEventRows why x xs → AreFirstEventRows g x xs
event_but_output why g (lent.Other o) xs is h = (h.0, output_not_file g is)
event_but_output why g (lent.Rows c) xs is (inl h) = inl (h.0, output_not_file g is)
event_but_output why g (lent.Rows c) xs is (inr h) = inr (h.0, h.1, h.2, h.3, not_at_row g c (length h.0) h.1 (output_not_file g is))

next_but_output : (why g : Failure) (wanted : Wanted) (at : Spot) (xs : List Counted) → IsOutput g → AreNextCounted why wanted at xs → AreNextCounted g wanted at xs
next_but_output why g wanted at xs is (inl h) = inl (h.0, not_at_event g wanted at (output_not_file g is))
next_but_output why g wanted at xs is (inr h) = inr (output_misses_none g is, h.1, h.2, h.3, h.4, h.5, event_but_output why g h.4 xs is h.6)

but_output : (why g : Failure) (skips : Bool) (stop : Option ℕ) (wanted : Wanted) (from : Spot) (xs : List Counted) → IsOutput g → AreFirstCounted why skips stop wanted from xs → AreFirstCounted g skips stop wanted from xs
but_output why g skips stop wanted from xs is h = record { events = h.events; front = h.front; at = h.at; rows = h.rows; counted = h.counted; next = next_but_output why g wanted h.at h.rows is h.next; in_time = not_late g stop h.at (output_not_file g is); missing = nothing_missing g stop h.events h.at (output_misses_none g is); whole = h.whole }

-- what was counted up to a failure: that of the reading, or of the output
pub counted_of : (r : Result (Unit {0}) Failure) (g : Failure) (skips : Bool) (stop : Option ℕ) (wanted : Wanted) (from : Spot) (a b : Counts)
    → OnOk r (CountsThese (AreCountedToEnd skips stop wanted from) a b) → IfErr r (λ why. CountsThese (AreFirstCounted why skips stop wanted from) a b) → IsOutput g ⊎ (r ≡ Err g) → CountsThese (AreFirstCounted g skips stop wanted from) a b
counted_of (Ok u) g skips stop wanted from a b all first (inl is) = (
  all.0,
  record { events = all.1.events; front = all.0; at = all.1.end; rows = []; counted = all.1.counted; next = inl (refl, not_at_event g wanted all.1.end (output_not_file g is)); in_time = not_late g stop all.1.end (output_not_file g is); missing = nothing_missing g stop all.1.events all.1.end (output_misses_none g is); whole = sym (append-nil all.0) },
  all.2,
)
counted_of (Ok u) g skips stop wanted from a b all first (inr same) = absurd cc
counted_of (Err why) g skips stop wanted from a b all first (inl is) = (first.0, but_output why g skips stop wanted from first.0 is first.1, first.2)
counted_of (Err why) g skips stop wanted from a b all first (inr same) =
    let is : why ≡ g = cc in
    (first.0, subst (λ (k : Failure). AreFirstCounted k skips stop wanted from first.0) is first.1, first.2)

-- ---- a file

-- the rows of what a reading finds after the first bytes of a file are those of the file
pub file_counted : (settings : Settings) (choice : Filter) (x : List ℕ) (source : Option (List ℕ)) (r : Reading) (Are : Wanted → Spot → List Counted → Type 0) (a b : Counts)
    → Consumes (Some x) source magic → r.kept ≡ first_kept → r.is_over ≡ false → length x < 2 ^ 64 → choice ≡ settings.filter
    → ((y : List ℕ) → Finds r source y → CountsThese (Are (wanted_by choice) (spot_at r.kept None y)) a b)
    → (is_binlog x ≡ true) × CountsThese (Are (wanted_by settings.filter) (first_spot x)) a b
file_counted settings choice x None r Are a b consumes kept on small chosen counts = absurd consumes
file_counted settings choice x (Some y) r Are a b consumes kept on small chosen counts =
    let fits : r.kept.at + length y < 2 ^ 64 = omega (arith, ap (λ (k : Kept). k.at) kept, ap length consumes, length-append magic y, small) in
    let counted = counts y (subst (λ (o : Bool). Found o r.kept.at (Some y) y) (sym on) (refl, fits)) in
    let chose = subst (λ (c : Filter). CountsThese (Are (wanted_by c) (spot_at r.kept None y)) a b) chosen counted in
    let first = subst (λ (k : Kept). CountsThese (Are (wanted_by settings.filter) (spot_at k None y)) a b) kept chose in
    subst (λ (t : List ℕ). (is_binlog t ≡ true) × CountsThese (Are (wanted_by settings.filter) (first_spot t)) a b) (sym consumes) (refl, first)
