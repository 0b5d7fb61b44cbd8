-- An event is read from its bytes, which were taken from a source.
use Rattle.std.proofs.Common.{◌≡◌, ℕ, ◌≤◌, List, [], ◌++◌, length, length-append, Option, Some, None, Result, Ok, Err, refl, sym, ap, subst, ◌∙◌, append-nil, inl, inr, arith}
use Rattle.std.specs.Result.{IsErrAnd}
use Rattle.binlog_base.specs.Format.{Parses}
use Rattle.binlog_events.specs.declared.error.EventError.{EventError}
use Rattle.binlog_file.specs.Lemmas.Formats.{exact_event_of_raw}
use Rattle.binlog_file.specs.Events.{Raw, raw_event, Event, event, Glance, event_of_raw}
use Rattle.binlog_file.specs.Stream.{Kept, kept_after, RawGives, ReadGives, GlanceGives}
use Rattle.binlog_file.specs.Workings.Readers.{found}
use Rattle.binlog_file.specs.Workings.Taken.{TakesRaw}
use Rattle.binlog_file.proofs.RawRead.{all_left, not_empty}

raw_long : (y : List ℕ) (r : Raw) → raw_event.spells y r → 19 ≤ length y
unfolding raw_event
raw_long y r s = omega (arith, ap length s.3, length-append s.1 s.2, s.4.1)

-- the bytes of an event are those of its header and those after it
raw_bytes : (y : List ℕ) (r : Raw) → raw_event.spells y r → y ≡ r.head ++ r.rest
unfolding raw_event
raw_bytes y r s =
    let b = s.5 in
    let c = b.5 in
    let d = c.5 in
    let third : c.2 ≡ d.0 = d.3 ∙ ap (λ (l : List ℕ). d.1 ++ l) d.5.0 ∙ append-nil d.1 ∙ sym d.4.0 in
    let second : b.2 ≡ d.0 = c.3 ∙ ap (λ (l : List ℕ). l ++ c.2) c.4.0 ∙ third in
    let first : s.2 ≡ d.0 = b.3 ∙ ap (λ (l : List ℕ). l ++ b.2) b.4.0 ∙ second in
    s.3 ∙ ap (λ (l : List ℕ). s.1 ++ l) first ∙ ap (λ (l : List ℕ). l ++ d.0) (sym s.4.0) ∙ ap (λ (x : Raw). x.head ++ x.rest) (sym d.5.1)

-- an error that is handed on
pub handed_on : (old new : Option (List ℕ)) (k l : Kept) (r : Result (Option Event) EventError) (e : EventError) → IsErrAnd r (λ d. d ≡ e) → ReadGives old k (Err e) new l → ReadGives old k r new l
handed_on old new k l (Ok x) e is h = absurd is
handed_on old new k l (Err d) e is h = subst (λ (x : EventError). ReadGives old k (Err x) new l) (sym is) h

pub none_read : (old new : Option (List ℕ)) (k : Kept) → RawGives old (Ok None) new → ReadGives old k (Ok None) new k
none_read old new k h = (h, refl)

pub raw_refused : (old new : Option (List ℕ)) (k l : Kept) (e : EventError) → RawGives old (Err e) new → ReadGives old k (Err e) new l
unfolding event
raw_refused old new k l e h = elim h [ inl o ↦ inl o | inr r ↦ inr (r.0, r.1, inl r.2, r.3) ]

pub event_refused : (old new : Option (List ℕ)) (k l : Kept) (r : Raw) (e : EventError) → RawGives old (Ok (Some r)) new → ((x : List ℕ) → Parses (event_of_raw k.at k.description r) (Err e) x x) → ReadGives old k (Err e) new l
unfolding event
event_refused old new k l r e h read =
    let more = all_left old new h.0 h.2 in
    inr (h.0 ++ more.0, not_empty h.0 more.0 (omega (arith, raw_long h.0 r h.1)), inr (r, h.0, more.0, refl, h.1, (exact_event_of_raw k.at k.description r).refused_sound more.0 e (read more.0)), more.1)

pub event_read : (old new : Option (List ℕ)) (k l : Kept) (r : Raw) (e : Event) → RawGives old (Ok (Some r)) new → ((x : List ℕ) → Parses (event_of_raw k.at k.description r) (Ok e) x x) → l ≡ kept_after k (r.head ++ r.rest) e → ReadGives old k (Ok (Some e)) new l
unfolding event
event_read old new k l r e h read kept =
    let s = (exact_event_of_raw k.at k.description r).sound [] e [] (read []) in
    let none : s.0 ≡ [] = sym (append-nil s.0) ∙ sym s.1 in
    (h.0, (r, h.0, [], sym (append-nil h.0), h.1, subst (λ (y : List ℕ). (event_of_raw k.at k.description r).spells y e) none s.2), h.2, subst (λ (y : List ℕ). l ≡ kept_after k y e) (sym (raw_bytes h.0 r h.1)) kept)

-- ---- with a glance in place of the event

pub sighting_error : {A : Type 0} (f : A → Glance) (old new : Option (List ℕ)) (k l : Kept) (r : Result (Option A) EventError) (e : EventError) → IsErrAnd r (λ d. d ≡ e) → ReadGives old k (Err e) new l → GlanceGives old k (found f r) new l
sighting_error f old new k l (Ok x) e is h = absurd is
sighting_error f old new k l (Err d) e is h = subst (λ (x : EventError). ReadGives old k (Err x) new l) (sym is) h

pub glance_read : (old new : Option (List ℕ)) (k l : Kept) (r : Raw) (g : Glance) → RawGives old (Ok (Some r)) new → TakesRaw k r (Ok g) l → GlanceGives old k (Ok (Some g)) new l
glance_read old new k l r g h t = (t.0, t.1, event_read old new k l r t.0 h t.2 t.3)

pub glance_refused : (old new : Option (List ℕ)) (k l : Kept) (r : Raw) (e : EventError) → RawGives old (Ok (Some r)) new → TakesRaw k r (Err e) l → ReadGives old k (Err e) new l
glance_refused old new k l r e h t = elim t [ inl o ↦ inl o | inr read ↦ event_refused old new k l r e h read ]
