-- Whether an event began at the start position.
use Rattle.std.proofs.Common.{◌≡◌, ◌≢◌, ◌⊎◌, ◌&&◌, ◌<◌, ◌≤◌, ℕ, nat_eq, Bool, true, false, List, [], ◌∷◌, ◌++◌, length, Option, Some, None, if◌then◌else◌, inl, inr, refl, sym, ap, subst, ◌∙◌, arith}
use Rattle.std.proofs.lemmas.Bool.{ltb-true, ltb-false}
use Rattle.std.proofs.lemmas.Bool.Decides.{eqb_tells}
use Rattle.std.specs.Prelude.{⊤}
use Rattle.std.specs.Bool.{MatchBool}
use Rattle.binlog_base.specs.Format.{FormatOf, map_value, map_fault, all_of}
use Rattle.binlog_table.specs.TableMap.{table_map_of}
use Rattle.binlog_events.specs.declared.error.EventError.{EventError}
use Rattle.binlog_events.specs.declared.error.EventError.TheVariants as error
use Rattle.binlog_events.specs.Header.{Header}
use Rattle.binlog_events.specs.Description.{Description, description, post_header_len}
use Rattle.binlog_file.specs.Events.{Event, Parts, event, other_event, is_description, is_rotate, is_supported, with_description, with_table}
use Rattle.binlog_file.specs.Changes.{Spot}
use Rattle.binlog_file.specs.LentEvents.{GoesPast}
use Rattle.changed_rows.specs.declared.filter.Positions.{Positions}
use Rattle.changed_rows.specs.Names.{is_before}
use Rattle.changed_rows.specs.Filters.{is_among, wanted_position, start_sought, start_after, IsUpTo}
use Rattle.change_lines.specs.declared.error.Failure.{Failure}
use Rattle.change_lines.specs.declared.error.Failure.TheVariants as failure
use Rattle.change_lines.specs.Lines.{BeginsAt, IsBegun}
use Rattle.change_lines.specs.Failures.{IsOfEvent, MissesNone, AllBegin, IsMissing}
use Rattle.change_lines.proofs.Causes.{Writes, Flushes}

-- ---- where an event begins

match_either : {P Q R : Type 0} (b : Bool) → (P → R) → (Q → R) → MatchBool b P Q → R
match_either true f g h = f h
match_either false f g h = g h

mapped : {A : Type 0} (f : FormatOf EventError A) (g : A → Event) (at : ℕ) (y : List ℕ) (e : Event) → ((a : A) → (g a).position ≡ at) → (map_value f g).spells y e → e.position ≡ at
mapped f g at y e same s = ap (λ (x : Event). x.position) s.5.1 ∙ same s.0

other_position : (at : ℕ) (d : Option Description) (h : Header) (p : Parts) (y : List ℕ) (e : Event) → (other_event at d h p).spells y e → e.position ≡ at
other_position at None h p y e s = match_either (is_rotate h) (λ q. ap (λ (x : Event). x.position) q.1) (λ q. absurd q) s
other_position at (Some d) h p y e s =
    match_either (nat_eq h.event_type 0x13) (mapped (map_fault (all_of p.body (table_map_of d.server (post_header_len d 0x13))) error.TableMap) (with_table at h p) at y e (λ a. refl)) (match_either (is_supported h) (λ q. ap (λ (x : Event). x.position) q.1) (λ q. absurd q)) s

position_of : (at : ℕ) (d : Option Description) (y : List ℕ) (e : Event) → (event at d).spells y e → e.position ≡ at
unfolding event
position_of at d y e s =
    let q = s.5 in
    match_either (is_description s.0) (mapped (all_of q.0.body (description (length q.0.body))) (with_description at s.0.header q.0) at q.2 e (λ a. refl)) (other_position at d s.0.header q.0 q.2 e) q.5

-- an event begins where the reading was before it
pub past_position : (old new : Spot) (e : Event) → GoesPast old e new → e.position ≡ old.place.at
past_position old new e past = position_of old.place.at old.place.in_force past.gives.0 e past.gives.2

-- ---- events one after the other

begins_more : (n : ℕ) (es ds : List Event) → BeginsAt n es → BeginsAt n (es ++ ds)
begins_more n [] ds h = absurd h
begins_more n (e ∷ es) ds (inl here) = inl here
begins_more n (e ∷ es) ds (inr later) = inr (begins_more n es ds later)

begins_last : (n : ℕ) (es : List Event) (e : Event) → e.position ≡ n → BeginsAt n (es ++ e ∷ [])
begins_last n [] e is = inl is
begins_last n (d ∷ es) e is = inr (begins_last n es e is)

begun_more : (start : Option ℕ) (es ds : List Event) → IsBegun start es → IsBegun start (es ++ ds)
begun_more None es ds h = tt
begun_more (Some n) es ds h = begins_more n es ds h

-- the start position is looked for still, or an event began there
abbrev pub IsSought : Option ℕ → Option ℕ → List Event → Type 0
IsSought start sought es = (sought ≡ start) ⊎ ((sought ≡ None) × IsBegun start es)

sought_one : (start : Option ℕ) (n at : ℕ) (es : List Event) (e : Event) → Some n ≡ start → e.position ≡ at → IsSought start (start_after (Some n) at) (es ++ e ∷ [])
sought_one start n at es e same is = elim (eqb_tells n at) [
  | inl here ↦ inr (
    ap (λ (b : Bool). if b then None else Some n) here.0,
    subst (λ (o : Option ℕ). IsBegun o (es ++ e ∷ [])) same (begins_last n es e (is ∙ sym here.1)),
  )
  | inr other ↦ inl (ap (λ (b : Bool). if b then None else Some n) other.0 ∙ same)
]

-- One event more was read, after others that were passed over. None is passed over while the start position
-- is looked for.
pub sought_next : (start sought : Option ℕ) (here there : ℕ) (es ds : List Event) (e : Event) (is_each : Bool)
    → IsSought start sought es → (is_each ≡ false → sought ≡ None) → (is_each ≡ true → there ≡ here) → e.position ≡ there → ((more : List Event) × (ds ≡ es ++ more))
    → IsSought start (start_after sought here) (ds ++ e ∷ [])
sought_next start None here there es ds e is_each (inl same) free each is longer = inl same
sought_next start (Some n) here there es ds e true (inl same) free each is longer = sought_one start n here ds e same (is ∙ each refl)
sought_next start (Some n) here there es ds e false (inl same) free each is longer = absurd (let bad = free refl in cc)
sought_next start None here there es ds e is_each (inr begun) free each is longer =
    inr (refl, begun_more start ds (e ∷ []) (subst (IsBegun start) (sym longer.1) (begun_more start es longer.0 begun.1)))
sought_next start (Some n) here there es ds e is_each (inr begun) free each is longer = absurd (let bad = begun.0 in cc)

-- where it isn't looked for any more, an event began there
pub begun_at_end : (start sought : Option ℕ) (es ds : List Event) → IsSought start sought es → sought ≡ None → ((more : List Event) × (ds ≡ es ++ more)) → IsBegun start ds
begun_at_end start sought es ds (inl same) none longer = subst (λ (o : Option ℕ). IsBegun o ds) (sym none ∙ same) tt
begun_at_end start sought es ds (inr begun) none longer = subst (IsBegun start) (sym longer.1) (begun_more start es longer.0 begun.1)

-- it is looked for at one place alone
pub sought_after : (start sought new : Option ℕ) (at : ℕ) → (sought ≡ start) ⊎ (sought ≡ None) → new ≡ start_after sought at → (new ≡ start) ⊎ (new ≡ None)
sought_after start None new at h is = inr is
sought_after start (Some n) new at (inl same) is = elim (eqb_tells n at) [
  | inl here ↦ inr (is ∙ ap (λ (b : Bool). if b then None else Some n) here.0)
  | inr other ↦ inl (is ∙ (ap (λ (b : Bool). if b then None else Some n) other.0 ∙ same))
]
sought_after start (Some n) new at (inr none) is = absurd (let bad = none in cc)

-- ---- where no event begins

-- each event begins before the position, where there is one
abbrev pub IsUnseen : Option ℕ → List Event → Type 0
IsUnseen None es = ⊤
IsUnseen (Some n) es = AllBegin es n

pub nothing_unseen : (o : Option ℕ) → IsUnseen o []
nothing_unseen None = tt
nothing_unseen (Some n) = tt

-- one event more begins before it
all_last : (n : ℕ) (es : List Event) (e : Event) → AllBegin es n → e.position < n → AllBegin (es ++ e ∷ []) n
all_last n [] e all before = (before, tt)
all_last n (d ∷ es) e all before = (all.0, all_last n es e all.1 before)

-- an event begins at the start position, which is looked for no more, or before it
unseen_one : (n here : ℕ) (es : List Event) (e : Event) → AllBegin es n → here ≤ n → e.position ≡ here → IsUnseen (start_after (Some n) here) (es ++ e ∷ [])
unseen_one n here es e all up_to is = elim (eqb_tells n here) [
  | inl same ↦ subst (λ (b : Bool). IsUnseen (if b then None else Some n) (es ++ e ∷ [])) (sym same.0) tt
  | inr other ↦ subst (λ (b : Bool). IsUnseen (if b then None else Some n) (es ++ e ∷ [])) (sym other.0) (all_last n es e all (omega (arith, up_to, is, other.1)))
]

-- one event more was read; others are passed over only where no position is looked for
pub unseen_next : (sought : Option ℕ) (here there : ℕ) (es ds : List Event) (e : Event) (is_each : Bool)
    → IsUnseen sought es → IsUpTo sought here → (is_each ≡ false → sought ≡ None) → (is_each ≡ true → there ≡ here) → (is_each ≡ true → ds ≡ es) → e.position ≡ there
    → IsUnseen (start_after sought here) (ds ++ e ∷ [])
unseen_next None here there es ds e is_each all up_to free each same is = tt
unseen_next (Some n) here there es ds e true all up_to free each same is =
    subst (λ (l : List Event). IsUnseen (start_after (Some n) here) (l ++ e ∷ [])) (sym (same refl)) (unseen_one n here es e all up_to (is ∙ each refl))
unseen_next (Some n) here there es ds e false all up_to free each same is = absurd (let bad = free refl in cc)

-- it began before the stop position
pub early_next : (stop : Option ℕ) (here there : ℕ) (es ds : List Event) (e : Event) (is_each : Bool)
    → IsUnseen stop es → (is_each ≡ false → stop ≡ None) → (is_each ≡ true → there ≡ here) → (is_each ≡ true → ds ≡ es) → e.position ≡ there → is_before stop here ≡ true
    → IsUnseen stop (ds ++ e ∷ [])
early_next None here there es ds e is_each all free each same is before = tt
early_next (Some n) here there es ds e true all free each same is before =
    let early : here < n = ltb-true here n before in
    subst (λ (l : List Event). IsUnseen (Some n) (l ++ e ∷ [])) (sym (same refl)) (all_last n es e all (omega (arith, early, is, each refl)))
early_next (Some n) here there es ds e false all free each same is before = absurd (let bad = free refl in cc)

before_past : (stop : Option ℕ) (n at : ℕ) → is_before stop n ≡ true → is_before stop at ≡ false → n < at
before_past None n at before past = absurd (let bad = past in cc)
before_past (Some s) n at before past = omega (arith, ltb-true n s before, ltb-false at s past)

second_true : (a b : Bool) → (a && b) ≡ true → b ≡ true
second_true true b h = h
second_true false b h = absurd cc

wanted_before : (p : Positions) (start : Option ℕ) (n : ℕ) → wanted_position p start ≡ Some n → is_before p.stop n ≡ true
wanted_before p None n is = absurd cc
wanted_before p (Some at) n is = by (is_among p at) refl
  where
    by : (b : Bool) → is_among p at ≡ b → is_before p.stop n ≡ true
    by true among =
        let here : Some at ≡ Some n = subst (λ (b : Bool). (if b then Some at else None) ≡ Some n) among is in
        let same : at ≡ n = cc in
        subst (λ (m : ℕ). is_before p.stop m ≡ true) same (second_true _ (is_before p.stop at) among)
    by false among = absurd (let bad : None ≡ Some n = subst (λ (b : Bool). (if b then Some at else None) ≡ Some n) among is in cc)

-- the position at which no event begins, where a reading ends or comes past it
abbrev pub Missed : Failure → Option ℕ → Option ℕ → ℕ → Type 0
Missed why sought stop here = (n : ℕ) × (why ≡ failure.NoEvent n) × ((sought ≡ Some n) ⊎ ((stop ≡ Some n) × (n ≢ here)))

unseen_at : (o : Option ℕ) (n : ℕ) (es : List Event) → IsUnseen o es → o ≡ Some n → AllBegin es n
unseen_at o n es all is = subst (λ (p : Option ℕ). IsUnseen p es) is all

missing_at : (why : Failure) (stop : Option ℕ) (n : ℕ) (es : List Event) (at : Spot) → why ≡ failure.NoEvent n → AllBegin es n → (n < at.place.at) ⊎ ((at.place.left ≡ []) × (stop ≡ Some n → n ≢ at.place.at)) → IsMissing why stop es at
missing_at why stop n es at is all past = subst (λ (w : Failure). IsMissing w stop es at) (sym is) (all, past)

-- an event begins after the start position
pub missing_passed : (why : Failure) (stop sought : Option ℕ) (es : List Event) (at : Spot) → IsUnseen sought es → (n : ℕ) × (sought ≡ Some n) × (n < at.place.at) × (why ≡ failure.NoEvent n) → IsMissing why stop es at
missing_passed why stop sought es at not h = missing_at why stop h.0 es at h.3 (unseen_at sought h.0 es not h.1) (inl h.2)

-- the start position, where one is looked for, isn't the stop position
sought_not_stop : (p : Positions) (sought : Option ℕ) (n at : ℕ) → (sought ≡ start_sought p) ⊎ (sought ≡ None) → sought ≡ Some n → p.stop ≡ Some n → n ≢ at
sought_not_stop p sought n at (inl same) is stops =
    let before = subst (λ (o : Option ℕ). is_before o n ≡ true) stops (wanted_before p p.start n (sym same ∙ is)) in
    absurd (let bad : n < n = ltb-true n n before in omega (arith, bad))
sought_not_stop p sought n at (inr none) is stops = absurd (let bad = sym none ∙ is in cc)

-- the reading stops
pub missing_stopped : (why : Failure) (p : Positions) (sought : Option ℕ) (es : List Event) (at : Spot) → IsUnseen sought es → IsUnseen p.stop es → (sought ≡ start_sought p) ⊎ (sought ≡ None)
    → is_before p.stop at.place.at ≡ false → Missed why sought p.stop at.place.at → IsMissing why p.stop es at
missing_stopped why p sought es at not early known past h = elim h.2 [
  | inl is ↦ missing_at why p.stop h.0 es at h.1 (unseen_at sought h.0 es not is) (inl (elim known [
    | inl same ↦ before_past p.stop h.0 at.place.at (wanted_before p p.start h.0 (sym same ∙ is)) past
    | inr none ↦ absurd (let bad = sym none ∙ is in cc)
  ]))
  | inr is ↦ missing_at why p.stop h.0 es at h.1 (unseen_at p.stop h.0 es early is.0) (inl (
      let late : h.0 ≤ at.place.at = ltb-false at.place.at h.0 (subst (λ (o : Option ℕ). is_before o at.place.at ≡ false) is.0 past) in
      omega (arith, late, is.1)))
]

-- no event is left
pub missing_ended : (why : Failure) (p : Positions) (sought : Option ℕ) (here : ℕ) (es ds : List Event) (at : Spot) (is_each : Bool) → IsUnseen sought es → IsUnseen p.stop es → (is_each ≡ false → sought ≡ None) → (is_each ≡ false → p.stop ≡ None)
    → (sought ≡ start_sought p) ⊎ (sought ≡ None) → (is_each ≡ true → at.place.at ≡ here) → (is_each ≡ true → ds ≡ es) → at.place.left ≡ [] → Missed why sought p.stop here → IsMissing why p.stop ds at
missing_ended why p sought here es ds at true not early free whole known there same left h =
    subst (λ (l : List Event). IsMissing why p.stop l at) (sym (same refl)) (elim h.2 [
      | inl is ↦ missing_at why p.stop h.0 es at h.1 (unseen_at sought h.0 es not is) (inr (left, sought_not_stop p sought h.0 at.place.at known is))
      | inr is ↦ missing_at why p.stop h.0 es at h.1 (unseen_at p.stop h.0 es early is.0) (inr (left, λ stops equal. is.1 (equal ∙ there refl)))
    ])
missing_ended why p sought here es ds at false not early free whole known there same left h = elim h.2 [
  | inl is ↦ absurd (let bad = sym (free refl) ∙ is in cc)
  | inr is ↦ absurd (let bad = sym (whole refl) ∙ is.0 in cc)
]

-- other failures miss no position
pub misses_none : {O : Type 0} (writes : Writes O) (flushes : Flushes O) (why : Failure) → IsOfEvent writes flushes why → MissesNone why
misses_none writes flushes (failure.File e) is = tt
misses_none writes flushes (failure.Unopened e) is = absurd is
misses_none writes flushes failure.Memory is = tt
misses_none writes flushes (failure.Output e) is = tt
misses_none writes flushes (failure.NoEvent n) is = absurd is
