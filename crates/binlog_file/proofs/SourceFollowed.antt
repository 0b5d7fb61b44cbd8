-- What is left at a spot of a source, and after a step from there.
use Rattle.std.proofs.Common.{◌≡◌, ◌⊎◌, ℕ, ◌+◌, ◌-◌, ◌^◌, ◌<◌, ◌≤◌, Bool, true, false, List, [], ◌∷◌, ◌++◌, length, length-append, Option, Some, None, Ok, Err, refl, sym, ap, subst, ◌∙◌, inl, inr, arith}
use Rattle.std.proofs.lemmas.Bool.{false≢true}
use Rattle.std.specs.Prelude.{◌↔◌, if◌then◌else◌, IsTrue, IsErr}
use Rattle.std.specs.Io.KnownBytes.{Consumes}
use Rattle.binlog_base.specs.Sources.{IsLeft}
use Rattle.binlog_events.specs.declared.error.EventError.{EventError}
use Rattle.binlog_events.specs.declared.error.FileError.{FileError}
use Rattle.binlog_file.specs.Events.{Event, Glance, glance_of, Place, NextGives, event}
use Rattle.binlog_file.specs.Tables.{InForce, in_force_after}
use Rattle.binlog_file.specs.Stream.{Kept, Reading, IsOutside, EventGives, ReaderGives, ReaderGlances, MayGoOn}
use Rattle.binlog_file.specs.Changes.{Wanted, Change, spot, TakeGives}
use Rattle.binlog_file.specs.SourceChanges.{Found, Finds, place_at, spot_at, SourceTakes, turns}
use Rattle.binlog_events.proofs.Reading.{long}
use Rattle.binlog_file.proofs.Sized.{sized}
use Rattle.binlog_file.proofs.Followed.{no_step, error_taken, other_taken}

taken_from : (x y : List ℕ) (new : Option (List ℕ)) → Consumes (Some x) new y → (z : List ℕ) × (new ≡ Some z) × (x ≡ y ++ z)
taken_from x y None c = absurd c
taken_from x y (Some z) c = (z, refl, c)

-- an event that was taken from known bytes
pub record Took (new : Option (List ℕ)) (x : List ℕ) (k l : Kept) (e : Event) : Type 0 where
  pub z : List ℕ
  pub left : new ≡ Some z
  pub small : l.at + length z < 2 ^ 64
  pub gives : NextGives (place_at k x) (Some (Ok e)) (place_at l z)
  pub tables : l.in_force ≡ in_force_after k.in_force e

pub took : (old new : Option (List ℕ)) (x : List ℕ) (k l : Kept) (e : Event) → old ≡ Some x → k.at + length x < 2 ^ 64 → EventGives old k (Ok (Some e)) new l → Took new x k l e
took old new x k l e known small h =
    let c = taken_from x h.0 new (subst (λ (o : Option (List ℕ)). Consumes o new h.0) known h.2) in
    let size = sized k.at k.description h.0 e h.1 in
    let at : l.at ≡ k.at + length h.0 = omega (arith, ap (λ (j : Kept). j.at) h.3, size, small, ap length c.2, length-append h.0 c.0) in
    record {
      z = c.0;
      left = c.1;
      small = omega (arith, at, small, ap length c.2, length-append h.0 c.0);
      gives = (h.0, c.2, h.1, at, ap (λ (j : Kept). j.description) h.3);
      tables = ap (λ (j : Kept). j.in_force) h.3;
    }

pub goes_further : (old new : Option (List ℕ)) (k l : Kept) (e : Event) → k.at < 2 ^ 64 - 1 → EventGives old k (Ok (Some e)) new l → k.at < l.at
goes_further old new k l e small h = omega (arith, small, ap (λ (j : Kept). j.at) h.3, sized k.at k.description h.0 e h.1, long k.at k.description h.0 e h.1)

-- ---- the next step

pub event_step : (O : EventError → Type 0) (w : Wanted) (k l : Kept) (x : List ℕ) (e : Event) (c : Option Change) (new : Option (List ℕ)) (over : Bool) (pending : Option FileError) → Took new x k l e
    → ((p q r : Place) (s : InForce) → NextGives p (Some (Ok e)) q → l.in_force ≡ in_force_after s e → (pending ≡ None → r ≡ q) → TakeGives O w (spot p s None) c (spot r l.in_force pending))
    → (pending ≡ None → over ≡ false) → (z : List ℕ) × Found over l.at new z × TakeGives O w (spot_at k None x) c (spot_at l pending z)
event_step O w k l x e c new false pending t takes on =
    (t.z, (t.left, t.small), takes (place_at k x) (place_at l t.z) (place_at l t.z) k.in_force t.gives t.tables (λ _. refl))
event_step O w k l x e c new true pending t takes on =
    ([], refl, takes (place_at k x) (place_at l t.z) (place_at l []) k.in_force t.gives t.tables (λ none. absurd (let bad : true ≡ false = on none in cc)))

pub error_step : (w : Wanted) (old new : Option (List ℕ)) (x : List ℕ) (k l : Kept) (e : FileError) → old ≡ Some x → EventGives old k (Err e) new l → TakeGives IsOutside w (spot_at k None x) None (spot_at l (Some e) [])
error_step w old new x k l e known h = elim h.1 [
  | inl outside ↦ other_taken IsOutside w (spot_at k None x) (place_at l []) l.in_force e outside
  | inr r ↦
      let same : x ≡ r.0 = subst (λ (o : Option (List ℕ)). IsLeft o r.0) known r.3 in
      error_taken IsOutside w k.in_force l.in_force (place_at k x) (place_at l []) (place_at l []) e
      (λ none. r.1 (sym same ∙ none), refl, h.0, subst (λ (y : List ℕ). (event k.at k.description).refuses y e.error) (sym same) r.2)
]

pub last_step : (w : Wanted) (old new : Option (List ℕ)) (x : List ℕ) (k l : Kept) → old ≡ Some x → EventGives old k (Ok None) new l → TakeGives IsOutside w (spot_at k None x) None (spot_at l None [])
last_step w old new x k l known h =
    let none : x ≡ [] = subst (λ (o : Option (List ℕ)). IsLeft o []) known h.0 in
    rw (h.1, none) (no_step IsOutside w (spot_at k None []))

-- ---- where a reading ends

empty_at : (over : Bool) (at : ℕ) (new : Option (List ℕ)) (z : List ℕ) → ((over ≡ false) × (at < 2 ^ 64 - 1) → ⊥) → Found over at new z → z ≡ []
empty_at true at new z stops f = f
empty_at false at new [] stops f = refl
empty_at false at new (b ∷ z) stops f = absurd (stops (refl, omega (arith, f.1)))

-- nothing is left where there may be no more events
pub empty : (r : Reading) (new : Option (List ℕ)) (z : List ℕ) → (MayGoOn r → ⊥) → Finds r new z → z ≡ []
empty r new z stops f = empty_at r.is_over r.kept.at new z stops f

most_at : (over : Bool) (at : ℕ) → (if over then 0 else 2 ^ 64 - at) ≤ 2 ^ 64 - at
most_at true at = omega arith
most_at false at = omega arith

pub most_turns : (r : Reading) → turns r ≤ 2 ^ 64 - r.kept.at
most_turns r = most_at r.is_over r.kept.at

pub turns_on : (r : Reading) → r.is_over ≡ false → turns r ≡ 2 ^ 64 - r.kept.at
turns_on r on = rw on refl

pub turns_over : (r : Reading) → r.is_over ≡ true → turns r ≡ 0
turns_over r over = rw over refl

-- ---- what a reading of the source does

not_over : (r s : Reading) (P : Type 0) → IsTrue s.is_over ↔ ((r.is_over ≡ true) ⊎ P) → (P → ⊥) → r.is_over ≡ false → s.is_over ≡ false
not_over r s P ended refuted on = by_value s.is_over (λ is. elim (ended.0 is) [ inl over ↦ absurd (let bad : true ≡ false = sym over ∙ on in cc) | inr p ↦ refuted p ])
  where
    by_value : (b : Bool) → (IsTrue b → ⊥) → b ≡ false
    by_value true n = absurd (n refl)
    by_value false n = refl

pub event_taken_from : (w : Wanted) (old new : Option (List ℕ)) (r s t : Reading) (e : Event) (c : Option Change) (pending : Option FileError) → MayGoOn r → ReaderGives old r (Ok (Some e)) new s
    → ((p q place : Place) (state : InForce) → NextGives p (Some (Ok e)) q → s.kept.in_force ≡ in_force_after state e → (pending ≡ None → place ≡ q) → TakeGives IsOutside w (spot p state None) c (spot place s.kept.in_force pending))
    → t.kept ≡ s.kept → (pending ≡ None → t.is_over ≡ s.is_over) → SourceTakes w old r None c new t pending
event_taken_from w old new r s t e c pending on gives takes kept over = λ x finds.
    let here = subst (λ (b : Bool). Found b r.kept.at old x) on.0 finds in
    let t1 = took old new x r.kept s.kept e here.0 here.1 (gives.reads on.0) in
    let going : s.is_over ≡ false = not_over r s _ gives.ended false≢true on.0 in
    subst (λ (k : Kept). (z : List ℕ) × Found t.is_over k.at new z × TakeGives IsOutside w (spot_at r.kept None x) c (spot_at k pending z)) (sym kept)
    (event_step IsOutside w r.kept s.kept x e c new t.is_over pending t1 takes (λ none. over none ∙ going))

pub fewer_turns : (old new : Option (List ℕ)) (r s t : Reading) (e : Event) → MayGoOn r → ReaderGives old r (Ok (Some e)) new s → t.kept ≡ s.kept → turns t < turns r
fewer_turns old new r s t e on gives kept =
    omega (arith, most_turns t, ap (λ (k : Kept). k.at) kept, goes_further old new r.kept s.kept e on.1 (gives.reads on.0), turns_on r on.0, on.1)

pub error_taken_from : (w : Wanted) (old new : Option (List ℕ)) (r s : Reading) (e : FileError) → MayGoOn r → ReaderGives old r (Err e) new s → SourceTakes w old r None None new s (Some e)
error_taken_from w old new r s e on gives = λ x finds.
    let here = subst (λ (b : Bool). Found b r.kept.at old x) on.0 finds in
    let over : s.is_over ≡ true = gives.ended.1 (inr refl) in
    ([], subst (λ (b : Bool). Found b s.kept.at new []) (sym over) refl, error_step w old new x r.kept s.kept e here.0 (gives.reads on.0))

-- ---- with a glance at the event in place of the event

no_end : (b : Bool) (P : Type 0) → b ≡ false → b ≡ true → P
no_end b P isnt is = absurd (let bad : true ≡ false = sym is ∙ isnt in cc)

as_reading : (old new : Option (List ℕ)) (r s : Reading) (g : Option Glance) (e : Option Event) → r.is_over ≡ false → EventGives old r.kept (Ok e) new s.kept → IsTrue s.is_over ↔ IsErr {E = FileError} (Ok g) → s.is_lost ≡ r.is_lost → ReaderGives old r (Ok e) new s
as_reading old new r s g e on h ended lost = record {
  reads = λ _. h;
  over = λ o. no_end r.is_over _ on o;
  ended = (λ t. inr (ended.0 t), λ x. elim x [ inl o ↦ no_end r.is_over _ on o | inr bad ↦ ended.1 bad ]);
  lost = lost;
  stays = tt;
}

pub glance_taken_from : (w : Wanted) (old new : Option (List ℕ)) (r s t : Reading) (g : Glance) (c : Option Change) (pending : Option FileError) → MayGoOn r → ReaderGlances old r (Ok (Some g)) new s
    → ((e : Event) (p q place : Place) (state : InForce) → g ≡ glance_of e → NextGives p (Some (Ok e)) q → s.kept.in_force ≡ in_force_after state e → (pending ≡ None → place ≡ q) → TakeGives IsOutside w (spot p state None) c (spot place s.kept.in_force pending))
    → t.kept ≡ s.kept → (pending ≡ None → t.is_over ≡ s.is_over) → SourceTakes w old r None c new t pending
glance_taken_from w old new r s t g c pending on gives takes kept over =
    let h = gives.glances in
    event_taken_from w old new r s t h.0 c pending on (as_reading old new r s (Some g) (Some h.0) on.0 h.2 gives.ended gives.lost) (λ p q place state next. takes h.0 p q place state h.1 next) kept over

pub fewer_turns_after : (old new : Option (List ℕ)) (r s t : Reading) (g : Glance) → MayGoOn r → ReaderGlances old r (Ok (Some g)) new s → t.kept ≡ s.kept → turns t < turns r
fewer_turns_after old new r s t g on gives kept =
    let h = gives.glances in
    fewer_turns old new r s t h.0 on (as_reading old new r s (Some g) (Some h.0) on.0 h.2 gives.ended gives.lost) kept

pub glance_refused_from : (w : Wanted) (old new : Option (List ℕ)) (r s : Reading) (e : FileError) → MayGoOn r → ReaderGlances old r (Err e) new s → SourceTakes w old r None None new s (Some e)
glance_refused_from w old new r s e on gives =
    error_taken_from w old new r s e on (record {
      reads = λ _. gives.glances;
      over = λ o. no_end r.is_over _ on.0 o;
      ended = (λ t. inr (gives.ended.0 t), λ x. elim x [ inl o ↦ no_end r.is_over _ on.0 o | inr bad ↦ gives.ended.1 bad ]);
      lost = gives.lost;
      stays = gives.stays;
    })
