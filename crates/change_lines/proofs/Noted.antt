-- What a file says of changes is taken in event by event.
use Rattle.std.proofs.Common.{◌≡◌, ◌<◌, ◌^◌, ◌+◌, ◌||◌, ℕ, zero, suc, Bool, true, false, if◌then◌else◌, List, [], ◌∷◌, ◌++◌, length, Option, Some, None, Ok, ◌⊎◌, inl, inr, refl, sym, ap, subst, ◌∙◌, append_assoc, append-nil, length-append, arith}
use Rattle.std.specs.Prelude.{nat_eq}
use Rattle.std.specs.Io.KnownBytes.{Consumes}
use Rattle.binlog_events.specs.declared.error.FileError.{FileError}
use Rattle.binlog_file.specs.declared.lent_changes.LentEvent.{LentEvent}
use Rattle.binlog_file.specs.declared.lent_changes.LentEvent.TheVariants as lent
use Rattle.binlog_file.specs.Events.{Event, glance_of, magic}
use Rattle.binlog_file.specs.Changes.{Wanted, Spot}
use Rattle.binlog_file.specs.Stream.{Kept, Reading, first_kept}
use Rattle.binlog_file.specs.Asked.{is_asked}
use Rattle.binlog_file.specs.LentChanges.{OtherEvent}
use Rattle.binlog_file.specs.LentEvents.{Shows, GoesPast, PassesOver, other_of}
use Rattle.binlog_file.specs.SourceChanges.{Found, Finds, spot_at}
use Rattle.binlog_file.proofs.AskedFollowed.{passed_shows}
use Rattle.changed_rows.specs.declared.filter.Filter.{Filter}
use Rattle.changed_rows.specs.declared.filter.Positions.{Positions}
use Rattle.changed_rows.specs.declared.gaps.Gap.{Gap}
use Rattle.changed_rows.specs.declared.gaps.Gaps.{Gaps}
use Rattle.changed_rows.specs.Filters.{wanted_by, is_among}
use Rattle.changed_rows.specs.Names.{is_before}
use Rattle.changed_rows.specs.Gaps.{gap_of, with_gap, no_gaps}
use Rattle.changed_rows.specs.Transactions.{open_after}
use Rattle.change_lines.specs.declared.run.Settings.{Settings}
use Rattle.change_lines.specs.Readings.{seen_types, Passes, SourceNext}
use Rattle.change_lines.specs.declared.run.Printed.{Printed}
use Rattle.change_lines.specs.declared.run.Printed.TheVariants as printed
use Rattle.change_lines.specs.Lines.{gaps_past, open_past, IsEnd}
use Rattle.change_lines.specs.NotedFiles.{IsPrinted, faults_of, AreNoted, AreNotedToEnd, AreAllNoted}
use Rattle.change_lines.proofs.Passed.{unseen_type}
use Rattle.change_lines.proofs.Whole.{is_end_at}

-- ---- events that aren't looked at say nothing

same_among : (b : Bool) (g : Gaps) → (if b then g else g) ≡ g
same_among true g = refl
same_among false g = refl

no_gap : (a b c d e : Bool) (u v w x y : Option Gap) → a ≡ false → b ≡ false → c ≡ false → d ≡ false → e ≡ false → (if a then u else if b then v else if c then w else if d then x else if e then y else None) ≡ None
no_gap false false false false false u v w x y p q r s t = refl
no_gap true b c d e u v w x y p q r s t = absurd cc
no_gap false true c d e u v w x y p q r s t = absurd cc
no_gap false false true d e u v w x y p q r s t = absurd cc
no_gap false false false true e u v w x y p q r s t = absurd cc
no_gap false false false false true u v w x y p q r s t = absurd cc

stays_open : (a b c d e f : Bool) (x y is_open : Bool) → a ≡ false → b ≡ false → c ≡ false → d ≡ false → e ≡ false → f ≡ false → (if a then x else if b then y else if c || (d || (e || f)) then false else is_open) ≡ is_open
stays_open false false false false false false x y is_open p q r s t u = refl
stays_open true b c d e f x y is_open p q r s t u = absurd cc
stays_open false true c d e f x y is_open p q r s t u = absurd cc
stays_open false false true d e f x y is_open p q r s t u = absurd cc
stays_open false false false true e f x y is_open p q r s t u = absurd cc
stays_open false false false false true f x y is_open p q r s t u = absurd cc
stays_open false false false false false true x y is_open p q r s t u = absurd cc

unseen_says_nothing : (is_open : Bool) (o : OtherEvent) → is_asked seen_types o.header.event_type ≡ false → gap_of is_open o ≡ None
unseen_says_nothing is_open o not =
    let t = o.header.event_type in
    let is = unseen_type t not in
    no_gap (nat_eq t 0x02) (nat_eq t 0x12) (nat_eq t 0x1A) (nat_eq t 0x26) (nat_eq t 0xA5) _ _ _ _ _ is.query is.load is.incident is.prepare is.compressed

unseen_opens_nothing : (is_open : Bool) (o : OtherEvent) → is_asked seen_types o.header.event_type ≡ false → open_after is_open o ≡ is_open
unseen_opens_nothing is_open o not =
    let t = o.header.event_type in
    let is = unseen_type t not in
    stays_open (nat_eq t 0xA2) (nat_eq t 0x02) (nat_eq t 0x0F) (nat_eq t 0x21) (nat_eq t 0x22) (nat_eq t 0x2A) _ _ is_open is.mariadb is.query is.description is.gtid is.anonymous is.tagged

same_gaps : (p : Positions) (is_open : Bool) (o : OtherEvent) (g : Gaps) → is_asked seen_types o.header.event_type ≡ false → gaps_past p is_open (printed.All 0) (lent.Other o) g ≡ g
same_gaps p is_open o g not =
    let among = is_among p o.origin.position in
    subst (λ (said : Option Gap). (if among then with_gap said g else g) ≡ g) (sym (unseen_says_nothing is_open o not)) (same_among among g)

-- ---- events, one after the other

event_noted : (skips : Bool) (wanted : Wanted) (p : Positions) (old : Spot) (is_open : Bool) (gaps : Gaps) (es : List Event) (mid : Spot) (here : Bool) (said : Gaps) (faults : List FileError) (e : Event) (new : Spot) (x : LentEvent) (r : Printed)
    → AreNoted skips wanted p old is_open gaps es mid here said faults → GoesPast mid e new → Shows wanted new.in_force.tables (glance_of e) x → IsPrinted skips x r
    → AreNoted skips wanted p old is_open gaps (es ++ e ∷ []) new (open_past here x) (gaps_past p here r x said) (faults ++ faults_of r)
event_noted skips wanted p old is_open gaps [] mid here said faults e new x r h past shows rows = (
  new,
  subst (λ (s : Spot). GoesPast s e new) h.0 past,
  x,
  shows,
  r,
  rows,
  [],
  (refl, ap (λ (b : Bool). open_past b x) h.1, ap (λ (b : Bool). gaps_past p b r x said) h.1 ∙ ap (gaps_past p is_open r x) h.2, refl),
  ap (λ (l : List FileError). l ++ faults_of r) h.3 ∙ sym (append-nil (faults_of r)),
)
event_noted skips wanted p old is_open gaps (d ∷ es) mid here said faults e new x r h past shows rows = (
  h.0,
  h.1,
  h.2,
  h.3,
  h.4,
  h.5,
  h.6 ++ faults_of r,
  event_noted skips wanted p h.0 (open_past is_open h.2) (gaps_past p is_open h.4 h.2 gaps) es mid here said h.6 e new x r h.7 past shows rows,
  ap (λ (l : List FileError). l ++ faults_of r) h.8 ∙ append_assoc (faults_of h.4) h.6 (faults_of r),
)

over_noted : (skips : Bool) (wanted : Wanted) (p : Positions) (from : Spot) (is_open : Bool) (gaps : Gaps) (es : List Event) (mid : Spot) (here : Bool) (said : Gaps) (faults : List FileError) (n : ℕ) (new : Spot)
    → AreNoted skips wanted p from is_open gaps es mid here said faults → PassesOver seen_types n mid new → (ds : List Event) × AreNoted skips wanted p from is_open gaps ds new here said faults
over_noted skips wanted p from is_open gaps es mid here said faults zero new noted same = (es, subst (λ (s : Spot). AreNoted skips wanted p from is_open gaps es s here said faults) (sym same) noted)
over_noted skips wanted p from is_open gaps es mid here said faults (suc n) new noted h =
    let before = over_noted skips wanted p from is_open gaps es mid here said faults n h.0 noted h.1 in
    let e = h.2.0 in
    let o = other_of (glance_of e) in
    let ds = before.0 ++ e ∷ [] in
    let more = event_noted skips wanted p from is_open gaps before.0 h.0 here said faults e new (lent.Other o) (printed.All 0) before.1 h.2.1 (passed_shows wanted seen_types h.0 new h.2) refl in
    let none = subst (λ (l : List FileError). AreNoted skips wanted p from is_open gaps ds new (open_past here (lent.Other o)) (gaps_past p here (printed.All 0) (lent.Other o) said) l) (append-nil faults) more in
    let still = subst (λ (b : Bool). AreNoted skips wanted p from is_open gaps ds new b (gaps_past p here (printed.All 0) (lent.Other o) said) faults) (unseen_opens_nothing here o h.2.2) none in
    (ds, subst (λ (k : Gaps). AreNoted skips wanted p from is_open gaps ds new here k faults) (same_gaps p here o said h.2.2) still)

passed_noted : (skips : Bool) (wanted : Wanted) (p : Positions) (from : Spot) (is_open : Bool) (gaps : Gaps) (es : List Event) (mid : Spot) (here : Bool) (said : Gaps) (faults : List FileError) (is_each : Bool) (new : Spot)
    → AreNoted skips wanted p from is_open gaps es mid here said faults → Passes is_each mid new → (ds : List Event) × AreNoted skips wanted p from is_open gaps ds new here said faults
passed_noted skips wanted p from is_open gaps es mid here said faults true new noted same = (es, subst (λ (s : Spot). AreNoted skips wanted p from is_open gaps es s here said faults) (sym same) noted)
passed_noted skips wanted p from is_open gaps es mid here said faults false new noted passes = over_noted skips wanted p from is_open gaps es mid here said faults passes.0 new noted passes.1

-- What was said so far, and the errors of the events that were skipped: by the events from a spot on up to the place of a
-- reading, which finds these bytes.
pub record NotedSoFar (skips : Bool) (wanted : Wanted) (p : Positions) (from : Spot) (is_open : Bool) (gaps : Gaps) (source : Option (List ℕ)) (r : Reading) (pending : Option FileError) (here : Bool) (said : Gaps) (faults : List FileError) : Type 0 where
  pub goes_on : pending ≡ None
  pub bytes : List ℕ
  pub finds : Finds r source bytes
  pub events : List Event
  pub noted : AreNoted skips wanted p from is_open gaps events (spot_at r.kept None bytes) here said faults

module _ (skips : Bool) (wanted : Wanted) (p : Positions) (from : Spot) (is_open : Bool) (gaps : Gaps) (old : Option (List ℕ)) (r : Reading) (q : Option FileError) (here : Bool) (said : Gaps) (faults : List FileError) (h : NotedSoFar skips wanted p from is_open gaps old r q here said faults) where
  -- the events that were read and then those that were passed over
  passed : (is_each : Bool) (at : Spot) → Passes is_each (spot_at r.kept q h.bytes) at → (ds : List Event) × AreNoted skips wanted p from is_open gaps ds at here said faults
  passed is_each at passes = passed_noted skips wanted p from is_open gaps h.events (spot_at r.kept None h.bytes) here said faults is_each at h.noted (subst (λ (o : Option FileError). Passes is_each (spot_at r.kept o h.bytes) at) h.goes_on passes)

  -- one event more was read and taken in
  pub note_step : (is_each : Bool) (x : LentEvent) (source : Option (List ℕ)) (s : Reading) (t : Option FileError) (k : Printed) (after : Bool) (noted : Gaps) → SourceNext wanted is_each old r q (Some (Ok x)) source s t
      → IsPrinted skips x k → after ≡ open_past here x → noted ≡ gaps_past p here k x said → NotedSoFar skips wanted p from is_open gaps source s t after noted (faults ++ faults_of k)
  note_step is_each x source s t k after noted gives rows opens adds =
      let m = gives h.bytes h.finds in
      let before = passed is_each m.2 m.3 in
      let e : Event = m.4.0 in
      let ended : t ≡ None = m.4.1.goes_on in
      let past = subst (λ (o : Option FileError). GoesPast m.2 e (spot_at s.kept o m.0)) ended m.4.1 in
      let more = event_noted skips wanted p from is_open gaps before.0 m.2 here said faults e (spot_at s.kept None m.0) x k before.1 past m.4.2 rows in
      let still = subst (λ (b : Bool). AreNoted skips wanted p from is_open gaps (before.0 ++ e ∷ []) (spot_at s.kept None m.0) b (gaps_past p here k x said) (faults ++ faults_of k)) (sym opens) more in record {
        goes_on = ended;
        bytes = m.0;
        finds = m.1;
        events = before.0 ++ e ∷ [];
        noted = subst (λ (g : Gaps). AreNoted skips wanted p from is_open gaps (before.0 ++ e ∷ []) (spot_at s.kept None m.0) after g (faults ++ faults_of k)) (sym adds) still;
      }

  -- no event is left
  pub note_ended : (is_each : Bool) (source : Option (List ℕ)) (s : Reading) (t : Option FileError) → SourceNext wanted is_each old r q None source s t → (is_each ≡ false → p.stop ≡ None) → (p.stop ≡ None) ⊎ (p.stop ≡ Some r.kept.at)
      → AreNotedToEnd skips wanted p from is_open gaps said faults
  note_ended is_each source s t gives whole stops =
      let m = gives h.bytes h.finds in
      let before = passed is_each m.2 m.3 in
      let passes = subst (λ (o : Option FileError). Passes is_each (spot_at r.kept o h.bytes) m.2) h.goes_on m.3 in
      record { events = before.0; end = m.2; after = here; said = before.1; is_end = is_end_at is_each p.stop (spot_at r.kept None h.bytes) m.2 passes m.4.1 whole stops }

  -- the stop position is reached
  pub note_stopped : is_before p.stop r.kept.at ≡ false → (p.stop ≡ None) ⊎ (p.stop ≡ Some r.kept.at) → AreNotedToEnd skips wanted p from is_open gaps said faults
  note_stopped past stops =
      let at = spot_at r.kept None h.bytes in
      elim stops [
        | inl none ↦ absurd (let bad : true ≡ false = subst (λ (o : Option ℕ). is_before o r.kept.at ≡ false) none past in cc)
        | inr is ↦ record { events = h.events; end = at; after = here; said = h.noted; is_end = subst (λ (o : Option ℕ). IsEnd o at) (sym is) refl }
      ]

-- ---- a file

-- what the events say that a reading finds after the first bytes of a file is what the file says
pub file_noted : (settings : Settings) (choice : Filter) (x : List ℕ) (source : Option (List ℕ)) (r : Reading) (is_open : Bool) (gaps said : Gaps) (faults : List FileError)
    → Consumes (Some x) source magic → r.kept ≡ first_kept → r.is_over ≡ false → length x < 2 ^ 64 → choice ≡ settings.filter → is_open ≡ false → gaps ≡ no_gaps
    → ((y : List ℕ) → Finds r source y → AreNotedToEnd settings.skips_faulty (wanted_by choice) settings.filter.positions (spot_at r.kept None y) is_open gaps said faults) → AreAllNoted settings x said faults
file_noted settings choice x None r is_open gaps said faults consumes kept on small chosen closed nothing notes = absurd consumes
file_noted settings choice x (Some y) r is_open gaps said faults consumes kept on small chosen closed nothing notes =
    let fits : r.kept.at + length y < 2 ^ 64 = omega (arith, ap (λ (k : Kept). k.at) kept, ap length consumes, length-append magic y, small) in
    let p = settings.filter.positions in
    let all = notes y (subst (λ (o : Bool). Found o r.kept.at (Some y) y) (sym on) (refl, fits)) in
    let all1 = subst (λ (c : Filter). AreNotedToEnd settings.skips_faulty (wanted_by c) p (spot_at r.kept None y) is_open gaps said faults) chosen all in
    let all2 = subst (λ (k : Kept). AreNotedToEnd settings.skips_faulty (wanted_by settings.filter) p (spot_at k None y) is_open gaps said faults) kept all1 in
    let all3 = subst (λ (b : Bool). AreNotedToEnd settings.skips_faulty (wanted_by settings.filter) p (spot_at first_kept None y) b gaps said faults) closed all2 in
    let all4 = subst (λ (g : Gaps). AreNotedToEnd settings.skips_faulty (wanted_by settings.filter) p (spot_at first_kept None y) false g said faults) nothing all3 in
    subst (λ (t : List ℕ). AreAllNoted settings t said faults) (sym consumes) (refl, all4)
