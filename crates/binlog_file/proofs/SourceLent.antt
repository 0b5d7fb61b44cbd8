-- The next event of a source, whose pairs are lent.
use Rattle.std.proofs.Common.{◌≡◌, ◌⊎◌, ℕ, ◌+◌, ◌<◌, Bool, true, false, List, [], length, ◌^◌, Option, Some, None, Result, Ok, Err, refl, sym, ap, subst, ◌∙◌, inl, inr, arith}
use Rattle.std.specs.Prelude.{◌↔◌, IsTrue, IsErr, IfOk, IfErr}
use Rattle.std.proofs.lemmas.Bool.{false≢true}
use Rattle.binlog_base.specs.Sources.{IsLeft}
use Rattle.binlog_events.specs.declared.error.EventError.{EventError}
use Rattle.binlog_events.specs.declared.error.FileError.{FileError}
use Rattle.binlog_file.specs.declared.lent_changes.LentEvent.{LentEvent}
use Rattle.binlog_file.specs.Events.{Glance, event}
use Rattle.binlog_file.specs.Stream.{Kept, Reading, IsOutside, ReaderGlances, MayGoOn}
use Rattle.binlog_file.specs.Changes.{Wanted, IsMemory, count}
use Rattle.binlog_file.specs.LentEvents.{Shows, GivesError, NextEvent}
use Rattle.binlog_file.specs.SourceChanges.{Found, Finds, place_at, spot_at, SourceEvent, items_left}
use Rattle.binlog_file.proofs.SourceFollowed.{took, empty, fewer_turns_after}
use Rattle.binlog_file.proofs.LentFollowed.{fails_now, pending_now, event_shown, event_failed}

pub outside : (d : EventError) → IsMemory d → IsOutside d
outside d memory = inr memory

pub here : (r : Reading) (old : Option (List ℕ)) (x : List ℕ) → MayGoOn r → Finds r old x → (old ≡ Some x) × (r.kept.at + length x < 2 ^ 64)
here r old x on finds = subst (λ (b : Bool). Found b r.kept.at old x) on.0 finds

-- a reading that is over finds nothing
over_finds : (s : Reading) (new : Option (List ℕ)) → s.is_over ≡ true → Finds s new []
over_finds s new over = subst (λ (b : Bool). Found b s.kept.at new []) (sym over) refl

pub source_shown : (w : Wanted) (old new : Option (List ℕ)) (r s t : Reading) (p q : Option FileError) (g : Glance) (x : LentEvent) → MayGoOn r → p ≡ None → ReaderGlances old r (Ok (Some g)) new s → Shows w s.kept.in_force.tables g x
    → t.kept ≡ s.kept → t.is_over ≡ false → q ≡ None → SourceEvent w old r p (Some (Ok x)) new t q
source_shown w old new r s t p q g x on none gives shows kept over ended = λ bytes finds.
    let known = here r old bytes on finds in
    let h = gives.glances in
    let t1 = took old new bytes r.kept s.kept h.0 known.0 known.1 h.2 in
    let found : Finds t new t1.z = subst (λ (b : Bool). Found b t.kept.at new t1.z) (sym over) (subst (λ (k : Kept). (new ≡ Some t1.z) × (k.at + length t1.z < 2 ^ 64)) (sym kept) (t1.left, t1.small)) in
    let event = event_shown IsOutside w (spot_at r.kept p bytes) (place_at s.kept t1.z) s.kept.in_force s.kept.in_force h.0 g x (spot_at s.kept None t1.z) none t1.gives h.1 t1.tables shows refl in
    (t1.z, found, subst (λ (k : Kept). NextEvent IsOutside w (spot_at r.kept p bytes) (Some (Ok x)) (spot_at k q t1.z)) (sym kept) (subst (λ (o : Option FileError). NextEvent IsOutside w (spot_at r.kept p bytes) (Some (Ok x)) (spot_at s.kept o t1.z)) (sym ended) event))

pub source_failed : (w : Wanted) (old new : Option (List ℕ)) (r s t : Reading) (p q : Option FileError) (g : Glance) (err : FileError) → MayGoOn r → p ≡ None → ReaderGlances old r (Ok (Some g)) new s → GivesError w s.kept.in_force.tables g err
    → t.is_over ≡ true → q ≡ None → SourceEvent w old r p (Some (Err err)) new t q
source_failed w old new r s t p q g err on none gives given over ended = λ bytes finds.
    let known = here r old bytes on finds in
    let h = gives.glances in
    let t1 = took old new bytes r.kept s.kept h.0 known.0 known.1 h.2 in
    ([], over_finds t new over, event_failed IsOutside w (spot_at r.kept p bytes) (place_at s.kept t1.z) s.kept.in_force h.0 g err (spot_at t.kept q []) outside none t1.gives h.1 t1.tables given (refl, ended))

pub not_true : (b : Bool) → (IsTrue b → ⊥) → b ≡ false
not_true true n = absurd (n refl)
not_true false n = refl

-- the event of a glance, or the error that it gives
pub source_glanced : (w : Wanted) (old new : Option (List ℕ)) (r s t : Reading) (p q : Option FileError) (g : Glance) (item : Result LentEvent FileError) → MayGoOn r → p ≡ None → ReaderGlances old r (Ok (Some g)) new s
    → IfOk item (Shows w s.kept.in_force.tables g) → IfErr item (GivesError w s.kept.in_force.tables g) → IsTrue t.is_over ↔ (IsErr item ⊎ (s.is_over ≡ true)) → t.kept ≡ s.kept → q ≡ p → SourceEvent w old r p (Some item) new t q
source_glanced w old new r s t p q g (Ok x) on none gives shows given over kept same =
    let going : t.is_over ≡ false = not_true t.is_over (λ is. elim (over.0 is) [ inl bad ↦ false≢true bad | inr ends ↦ false≢true (gives.ended.0 ends) ]) in
    source_shown w old new r s t p q g x on none gives shows kept going (same ∙ none)
source_glanced w old new r s t p q g (Err err) on none gives shows given over kept same =
    source_failed w old new r s t p q g err on none gives given (over.1 (inl refl)) (same ∙ none)

-- each event lessens how many are left at most
pub fewer_left : (old new : Option (List ℕ)) (r s t : Reading) (p q : Option FileError) (g : Glance) → MayGoOn r → p ≡ None → ReaderGlances old r (Ok (Some g)) new s → t.kept ≡ s.kept → q ≡ p → items_left t q < items_left r p
fewer_left old new r s t p q g on none gives kept same =
    omega (arith, fewer_turns_after old new r s t g on gives kept, ap count (same ∙ none), ap count none)

pub source_refused : (w : Wanted) (old new : Option (List ℕ)) (r s : Reading) (p q : Option FileError) (err : FileError) → MayGoOn r → p ≡ None → ReaderGlances old r (Err err) new s → q ≡ None → SourceEvent w old r p (Some (Err err)) new s q
source_refused w old new r s p q err on none gives ended = λ x finds.
    let known = here r old x on finds in
    let over : s.is_over ≡ true = gives.ended.1 refl in
    let h = gives.glances in (
      [],
      over_finds s new over,
      (
        (refl, ended),
        elim h.1 [
          | inl outside ↦ inl outside
          | inr refused ↦
              let same : x ≡ refused.0 = subst (λ (o : Option (List ℕ)). IsLeft o refused.0) known.0 refused.3 in
              inr (fails_now w (spot_at r.kept p x) err none (
                place_at s.kept [],
                inl (
                  λ empty. refused.1 (sym same ∙ empty),
                  refl,
                  h.0,
                  subst (λ (y : List ℕ). (event r.kept.at r.kept.description).refuses y err.error) (sym same) refused.2,
                ),
              ))
        ],
      ),
    )

pub source_ended : (w : Wanted) (old new : Option (List ℕ)) (r s t : Reading) (p q : Option FileError) → MayGoOn r → p ≡ None → ReaderGlances old r (Ok None) new s → t.is_over ≡ true → q ≡ None → SourceEvent w old r p None new t q
source_ended w old new r s t p q on none gives over ended = λ x finds.
    let known = here r old x on finds in
    let left : x ≡ [] = subst (λ (o : Option (List ℕ)). IsLeft o []) known.0 gives.glances.0 in
    ([], over_finds t new over, (none, left, (refl, ended)))

-- where there may be no more events

pub source_over : (w : Wanted) (old : Option (List ℕ)) (r t : Reading) (p q : Option FileError) → ((p ≡ None) × MayGoOn r → ⊥) → p ≡ None → t.is_over ≡ true → q ≡ None → SourceEvent w old r p None old t q
source_over w old r t p q stops none over ended = λ x finds.
    ([], over_finds t old over, (none, empty r old x (λ on. stops (none, on)) finds, (refl, ended)))

pub source_pending : (w : Wanted) (old : Option (List ℕ)) (r t : Reading) (p q : Option FileError) (err : FileError) → p ≡ Some err → t.is_over ≡ true → q ≡ None → SourceEvent w old r p (Some (Err err)) old t q
source_pending w old r t p q err some over ended = λ x finds.
    ([], over_finds t old over, pending_now IsOutside w (spot_at r.kept p x) (spot_at t.kept q []) err some (refl, ended))
