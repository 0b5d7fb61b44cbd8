-- A file is read event by event, from its start to its end.
use Rattle.std.proofs.Common.{◌≡◌, ◌<◌, ◌^◌, ◌+◌, ℕ, Bool, true, false, List, [], ◌∷◌, ◌++◌, length, Option, Some, None, Ok, ◌⊎◌, inl, inr, refl, sym, ap, subst, ◌∙◌, append-nil, length-append, arith}
use Rattle.std.specs.Io.KnownBytes.{Appends, Keeps, Consumes}
use Rattle.std.proofs.KnownBytes.{Appends-trans}
use Rattle.binlog_events.specs.declared.error.FileError.{FileError}
use Rattle.binlog_file.specs.declared.lent_changes.LentEvent.{LentEvent}
use Rattle.binlog_file.specs.Events.{Event, magic}
use Rattle.binlog_file.specs.Changes.{Wanted, Spot}
use Rattle.binlog_file.specs.Stream.{Kept, Reading, first_kept}
use Rattle.binlog_file.specs.LentEvents.{GoesPast}
use Rattle.binlog_file.specs.SourceChanges.{Found, Finds, spot_at}
use Rattle.change_lines.specs.declared.run.Settings.{Settings}
use Rattle.changed_rows.specs.declared.filter.Filter.{Filter}
use Rattle.changed_rows.specs.Names.{is_before}
use Rattle.changed_rows.specs.declared.filter.Positions.{Positions}
use Rattle.changed_rows.specs.Filters.{wanted_by, start_sought, start_after, IsUpTo}
use Rattle.change_lines.specs.Outputs.{Outputs}
use Rattle.change_lines.specs.Readings.{Passes, SourceNext}
use Rattle.change_lines.specs.Lines.{Manner, manner_of, gtid_past, AreLines, WritesEvent, IsEnd, Writes}
use Rattle.change_lines.specs.Runs.{AreAllLines}
use Rattle.change_lines.proofs.Events.{event_more}
use Rattle.change_lines.proofs.Passed.{passed_more, passed_same}
use Rattle.change_lines.proofs.Begun.{IsSought, IsUnseen, past_position, sought_next, unseen_next, early_next, begun_at_end}
use Rattle.change_lines.proofs.Outputs.{outputs_more}

-- What was written so far: the lines of the events from a spot on up to the place of a reading, which finds
-- these bytes. An event is looked for at the start position, and none began there or after it; or one began there. None began
-- at the stop position or after it.
pub record SoFar (f : Manner) (wanted : Wanted) (file : List ℕ) (from : Spot) (gtid : Option (List ℕ)) (out : Option (List ℕ)) (held : List ℕ) (source : Option (List ℕ)) (r : Reading) (pending : Option FileError) (here : Option (List ℕ)) (new : Option (List ℕ)) (left : List ℕ) (positions : Positions) (sought : Option ℕ) : Type 0 where
  pub goes_on : pending ≡ None
  pub bytes : List ℕ
  pub finds : Finds r source bytes
  pub events : List Event
  pub text : List ℕ
  pub lines : AreLines f wanted file from gtid events text (spot_at r.kept None bytes) here
  pub outputs : Outputs out held text new left
  pub is_sought : IsSought (start_sought positions) sought events
  pub unseen : IsUnseen sought events
  pub early : IsUnseen positions.stop events

-- what was held back was written
pub let_go : (f : Manner) (wanted : Wanted) (file : List ℕ) (from : Spot) (gtid : Option (List ℕ)) (out : Option (List ℕ)) (held : List ℕ) (source : Option (List ℕ)) (r : Reading) (p : Option FileError) (here : Option (List ℕ)) (mid : Option (List ℕ)) (kept : List ℕ) (positions : Positions) (sought : Option ℕ)
    → SoFar f wanted file from gtid out held source r p here mid kept positions sought
    → (after : Option (List ℕ)) (new : Option (List ℕ)) (left : List ℕ) → after ≡ here → Outputs mid kept [] new left → SoFar f wanted file from gtid out held source r p after new left positions sought
let_go f wanted file from gtid out held source r p here mid kept positions sought h after new left same more = record {
  goes_on = h.goes_on;
  bytes = h.bytes;
  finds = h.finds;
  events = h.events;
  text = h.text;
  lines = subst (λ (g : Option (List ℕ)). AreLines f wanted file from gtid h.events h.text (spot_at r.kept None h.bytes) g) (sym same) h.lines;
  outputs = subst (λ (t : List ℕ). Outputs out held t new left) (append-nil h.text) (outputs_more out mid new held kept left h.text [] h.outputs more);
  is_sought = h.is_sought;
  unseen = h.unseen;
  early = h.early;
}

pub stays_at : (is_each : Bool) (old at : Spot) → Passes is_each old at → is_each ≡ true → at.place.at ≡ old.place.at
stays_at true old at same each = ap (λ (s : Spot). s.place.at) same
stays_at false old at same each = absurd (let bad = each in cc)

-- where events are passed over there is no stop position
pub still_before : (is_each : Bool) (stop : Option ℕ) (old at : Spot) → Passes is_each old at → is_before stop old.place.at ≡ true → (is_each ≡ false → stop ≡ None) → is_before stop at.place.at ≡ true
still_before true stop old at same before whole = subst (λ (s : Spot). is_before stop s.place.at ≡ true) (sym same) before
still_before false stop old at passes before whole = subst (λ (o : Option ℕ). is_before o at.place.at ≡ true) (sym (whole refl)) refl

-- one event more was read and written, perhaps after others that were passed over
pub step : (f : Manner) (wanted : Wanted) (file : List ℕ) (from : Spot) (gtid : Option (List ℕ)) (out : Option (List ℕ)) (held : List ℕ) (old : Option (List ℕ)) (r : Reading) (p : Option FileError) (here : Option (List ℕ)) (mid : Option (List ℕ)) (kept : List ℕ) (positions : Positions) (sought : Option ℕ)
    → SoFar f wanted file from gtid out held old r p here mid kept positions sought
    → (is_each : Bool) (x : LentEvent) (source : Option (List ℕ)) (s : Reading) (q : Option FileError) (after : Option (List ℕ)) (new : Option (List ℕ)) (left : List ℕ)
    → SourceNext wanted is_each old r p (Some (Ok x)) source s q → WritesEvent f file here x mid kept new left → after ≡ gtid_past here x → (is_each ≡ false → sought ≡ None) → (is_each ≡ false → positions.stop ≡ None)
    → is_before positions.stop r.kept.at ≡ true → IsUpTo sought r.kept.at → (next : Option ℕ) → next ≡ start_after sought r.kept.at → SoFar f wanted file from gtid out held source s q after new left positions next
step f wanted file from gtid out held old r p here mid kept positions sought h is_each x source s q after new left gives writes is free whole before up_to next goes =
    let m = gives h.bytes h.finds in
    let at = m.2 in
    let passes = subst (λ (o : Option FileError). Passes is_each (spot_at r.kept o h.bytes) at) h.goes_on m.3 in
    let passed = passed_more f wanted file from gtid h.events h.text (spot_at r.kept None h.bytes) here is_each at h.lines passes in
    let e : Event = m.4.0 in
    let ended : q ≡ None = m.4.1.goes_on in
    let past = subst (λ (o : Option FileError). GoesPast at e (spot_at s.kept o m.0)) ended m.4.1 in
    let there = stays_at is_each (spot_at r.kept None h.bytes) at passes in
    let here_at = past_position at (spot_at s.kept None m.0) e past in
    let same = passed_same f wanted file from gtid h.events h.text (spot_at r.kept None h.bytes) here is_each at h.lines passes in
    let lines = event_more f wanted file from gtid passed.0 h.text at here e (spot_at s.kept None m.0) x writes.0 passed.1 past m.4.2 writes.1 in record {
      goes_on = ended;
      bytes = m.0;
      finds = m.1;
      events = passed.0 ++ e ∷ [];
      text = h.text ++ writes.0;
      lines = subst (λ (g : Option (List ℕ)). AreLines f wanted file from gtid (passed.0 ++ e ∷ []) (h.text ++ writes.0) (spot_at s.kept None m.0) g) (sym is) lines;
      outputs = outputs_more out mid new held kept left h.text writes.0 h.outputs writes.2;
      is_sought = subst (λ (o : Option ℕ). IsSought (start_sought positions) o (passed.0 ++ e ∷ [])) (sym goes) (sought_next (start_sought positions) sought r.kept.at at.place.at h.events passed.0 e is_each h.is_sought free there here_at passed.2);
      unseen = subst (λ (o : Option ℕ). IsUnseen o (passed.0 ++ e ∷ [])) (sym goes) (unseen_next sought r.kept.at at.place.at h.events passed.0 e is_each h.unseen up_to free there same here_at);
      early = early_next positions.stop r.kept.at at.place.at h.events passed.0 e is_each h.early whole there same here_at before;
    }

end_without : (at : Spot) (stop : Option ℕ) → at.place.left ≡ [] → stop ≡ None → IsEnd stop at
end_without at stop left none = subst (λ (o : Option ℕ). IsEnd o at) (sym none) left

end_with : (at : Spot) (stop : Option ℕ) (n : ℕ) → at.place.at ≡ n → stop ≡ Some n → IsEnd stop at
end_with at stop n is some = subst (λ (o : Option ℕ). IsEnd o at) (sym some) is

pub is_end_at : (is_each : Bool) (stop : Option ℕ) (old at : Spot) → Passes is_each old at → at.place.left ≡ [] → (is_each ≡ false → stop ≡ None) → (stop ≡ None) ⊎ (stop ≡ Some old.place.at) → IsEnd stop at
is_end_at true stop old at same left whole stops = elim stops [ inl none ↦ end_without at stop left none | inr some ↦ end_with at stop old.place.at (ap (λ (s : Spot). s.place.at) same) some ]
is_end_at false stop old at passes left whole stops = end_without at stop left (whole refl)

-- no event is left, perhaps after others that were passed over
pub ended : (f : Manner) (wanted : Wanted) (file : List ℕ) (positions : Positions) (from : Spot) (gtid : Option (List ℕ)) (out : Option (List ℕ)) (held : List ℕ) (old : Option (List ℕ)) (r : Reading) (p : Option FileError) (here : Option (List ℕ)) (mid : Option (List ℕ)) (kept : List ℕ) (sought : Option ℕ)
    → SoFar f wanted file from gtid out held old r p here mid kept positions sought
    → (is_each : Bool) (source : Option (List ℕ)) (s : Reading) (q : Option FileError) → SourceNext wanted is_each old r p None source s q
    → (is_each ≡ false → positions.stop ≡ None) → (positions.stop ≡ None) ⊎ (positions.stop ≡ Some r.kept.at) → sought ≡ None → Writes f wanted file positions from gtid out held mid kept
ended f wanted file positions from gtid out held old r p here mid kept sought h is_each source s q gives whole stops found =
    let m = gives h.bytes h.finds in
    let at = m.2 in
    let passes = subst (λ (o : Option FileError). Passes is_each (spot_at r.kept o h.bytes) at) h.goes_on m.3 in
    let passed = passed_more f wanted file from gtid h.events h.text (spot_at r.kept None h.bytes) here is_each at h.lines passes in record {
      events = passed.0;
      text = h.text;
      end = at;
      after = here;
      lines = passed.1;
      is_end = is_end_at is_each positions.stop (spot_at r.kept None h.bytes) at passes m.4.1 whole stops;
      begun = begun_at_end (start_sought positions) sought h.events passed.0 h.is_sought found passed.2;
      outputs = h.outputs;
    }

-- the stop position is reached
pub stopped : (f : Manner) (wanted : Wanted) (file : List ℕ) (positions : Positions) (from : Spot) (gtid : Option (List ℕ)) (out : Option (List ℕ)) (held : List ℕ) (source : Option (List ℕ)) (r : Reading) (p : Option FileError) (here : Option (List ℕ)) (new : Option (List ℕ)) (left : List ℕ) (sought : Option ℕ)
    → SoFar f wanted file from gtid out held source r p here new left positions sought
    → is_before positions.stop r.kept.at ≡ false → (positions.stop ≡ None) ⊎ (positions.stop ≡ Some r.kept.at) → sought ≡ None → Writes f wanted file positions from gtid out held new left
stopped f wanted file positions from gtid out held source r p here new left sought h past stops found =
    let at = spot_at r.kept None h.bytes in
    elim stops [
      | inl none ↦ absurd (let bad : true ≡ false = subst (λ (o : Option ℕ). is_before o r.kept.at ≡ false) none past in cc)
      | inr is ↦ record {
        events = h.events;
        text = h.text;
        end = at;
        after = here;
        lines = h.lines;
        is_end = subst (λ (o : Option ℕ). IsEnd o at) (sym is) refl;
        begun = begun_at_end (start_sought positions) sought h.events h.events h.is_sought found ([], sym (append-nil h.events));
        outputs = h.outputs;
      }
    ]

appends_kept : (a b d : Option (List ℕ)) (t : List ℕ) → Appends a b t → Keeps b d → Appends a d t
appends_kept None b d t p q = tt
appends_kept (Some x) None d t p q = absurd p
appends_kept (Some x) (Some y) None t p q = absurd q
appends_kept (Some x) (Some y) (Some z) t p q = q ∙ p

-- the lines of a whole file were written
pub whole : (settings : Settings) (choice : Filter) (file x : List ℕ) (source : Option (List ℕ)) (r : Reading) (gtid : Option (List ℕ)) (a b d e : Option (List ℕ)) (held left : List ℕ)
    → Consumes (Some x) source magic → r.kept ≡ first_kept → r.is_over ≡ false → length x < 2 ^ 64 → choice ≡ settings.filter → held ≡ [] → gtid ≡ None
    → ((y : List ℕ) → Finds r source y → Writes (manner_of settings) (wanted_by choice) file settings.filter.positions (spot_at r.kept None y) gtid a held b left)
    → Appends b d left → Keeps d e → (text : List ℕ) × AreAllLines settings file x text × Appends a e text
whole settings choice file x None r gtid a b d e held left consumes kept on small chosen empty none writes written flushed = absurd consumes
whole settings choice file x (Some y) r gtid a b d e held left consumes kept on small chosen empty none writes written flushed =
    let fits : r.kept.at + length y < 2 ^ 64 = omega (arith, ap (λ (k : Kept). k.at) kept, ap length consumes, length-append magic y, small) in
    let w = writes y (subst (λ (o : Bool). Found o r.kept.at (Some y) y) (sym on) (refl, fits)) in
    let f = manner_of settings in
    let lines1 = subst (λ (c : Filter). AreLines f (wanted_by c) file (spot_at r.kept None y) gtid w.events w.text w.end w.after) chosen w.lines in
    let lines2 = subst (λ (k : Kept). AreLines f (wanted_by settings.filter) file (spot_at k None y) gtid w.events w.text w.end w.after) kept lines1 in
    let lines3 = subst (λ (g : Option (List ℕ)). AreLines f (wanted_by settings.filter) file (spot_at first_kept None y) g w.events w.text w.end w.after) none lines2 in
    let all = Appends-trans a b d w.outputs.0 left w.outputs.1 written in
    let out = subst (λ (t : List ℕ). Appends a d t) (sym w.outputs.2 ∙ ap (λ (t : List ℕ). t ++ w.text) empty) all in
    subst (λ (t : List ℕ). (text : List ℕ) × AreAllLines settings file t text × Appends a e text) (sym consumes)
    (w.text, record { magic = refl; events = w.events; end = w.end; gtid = w.after; lines = lines3; is_end = w.is_end; begun = w.begun }, appends_kept a d e w.text out flushed)
