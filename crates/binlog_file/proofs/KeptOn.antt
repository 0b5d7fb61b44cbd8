-- What a reading keeps after the events that were read.
use Rattle.std.proofs.Common.{◌≡◌, ℕ, ◌<◌, ◌-◌, ◌^◌, Bool, true, false, List, Option, Some, None, Result, Ok, Err, refl, sym, ap, subst, ◌∙◌}
use Rattle.std.specs.Prelude.{not, ◌||◌, IsTrue, IsErr, IsSome}
use Rattle.binlog_events.specs.declared.error.EventError.{EventError}
use Rattle.binlog_events.specs.declared.error.FileError.{FileError}
use Rattle.binlog_file.specs.Events.{Glance}
use Rattle.binlog_file.specs.Stream.{Kept, Reading, lacks_bytes, lost_after, ReaderGlances, MayGoOn}
use Rattle.binlog_file.proofs.EventErrors.{count_left}
use Rattle.binlog_file.specs.Changes.{Change}
use Rattle.binlog_file.specs.SourceChanges.{ReadsOn, here, past, KeepsOn, AreTold, CountsPending, lost_by}
use Rattle.binlog_file.specs.Checkpoints.{Reached, next}
use Rattle.binlog_file.specs.Workings.KeptSteps.{ReadsSome, KeepsTo, KeptSoFar}

-- one event
pub one_read : (old new : Option (List ℕ)) (r s : Reading) (g : Glance) → ReaderGlances old r (Ok (Some g)) new s → ReadsOn old r.kept new s.kept
one_read old new r s g gives =
    let h = gives.glances.2 in
    subst (λ (k : Kept). ReadsOn old r.kept new k) (sym h.3) (past old new r.kept h.0 gives.glances.0 here h.1 h.2)

-- and then more
pub more_read : (old mid : Option (List ℕ)) (k l : Kept) (new : Option (List ℕ)) (m : Kept) → ReadsOn old k mid l → ReadsOn mid l new m → ReadsOn old k new m
more_read old mid k l new m h here = h
more_read old mid k l new m h (past at end n y e before spells takes) = past at end n y e (more_read old mid k l at n h before) spells takes

-- none
pub none_read : (old new : Option (List ℕ)) (r s : Reading) → ReaderGlances old r (Ok None) new s → ReadsOn old r.kept old s.kept
none_read old new r s gives = subst (λ (k : Kept). ReadsOn old r.kept old k) (sym gives.glances.1) here

-- ---- what is lost

or_true : (b : Bool) → b || true ≡ true
or_true true = refl
or_true false = refl

or_false : (b c : Bool) → b || c ≡ false → c ≡ false
or_false true c h = absurd cc
or_false false c h = h

not_false : (b : Bool) → not b ≡ false → b ≡ true
not_false true h = refl
not_false false h = absurd cc

-- a reading that isn't lost after an error lacks bytes
lacks : (lost : Bool) (e : EventError) → lost || not (lacks_bytes e) ≡ false → lacks_bytes e ≡ true
lacks lost e h = not_false (lacks_bytes e) (or_false lost (not (lacks_bytes e)) h)

-- an error of an event whose bytes were there
lost_for_bytes : (lost : Bool) (e : EventError) → lacks_bytes e ≡ false → lost || not (lacks_bytes e) ≡ true
lost_for_bytes lost e has = ap (λ (b : Bool). lost || not b) has ∙ or_true lost

-- ---- the next event

-- what is kept stays
same_kept : (old : Option (List ℕ)) (r t : Reading) → t.kept ≡ r.kept → ReadsOn old r.kept old t.kept
same_kept old r t kept = subst (λ (k : Kept). ReadsOn old r.kept old k) (sym kept) here

-- one event, and what is kept stays
one_kept : (old new : Option (List ℕ)) (r s t : Reading) (g : Glance) → ReaderGlances old r (Ok (Some g)) new s → t.kept ≡ s.kept → ReadsOn old r.kept new t.kept
one_kept old new r s t g gives kept = subst (λ (k : Kept). ReadsOn old r.kept new k) (sym kept) (one_read old new r s g gives)

-- events, and an item or an error of the last one
pub read_to : {X : Type 0} (old new : Option (List ℕ)) (r t : Reading) (item : Result X FileError) → ReadsOn old r.kept new t.kept → KeepsOn old r (Some item) new t
read_to old new r t (Ok x) h = h
read_to old new r t (Err e) h = λ _. (new, h)

pub kept_shown : {X : Type 0} (old new : Option (List ℕ)) (r s t : Reading) (g : Glance) (item : Result X FileError) → ReaderGlances old r (Ok (Some g)) new s → t.kept ≡ s.kept → KeepsOn old r (Some item) new t
kept_shown old new r s t g item gives kept = read_to old new r t item (one_kept old new r s t g gives kept)

some_kept : (old new : Option (List ℕ)) (r s : Reading) (e : FileError) → ReaderGlances old r (Err e) new s → s.is_lost ≡ false → ReadsSome old r.kept s.kept
some_kept old new r s e gives on = (old, same_kept old r s (gives.stays (lacks r.is_lost e.error (sym gives.lost ∙ on))))

pub kept_refused : (X : Type 0) (old new : Option (List ℕ)) (r s : Reading) (e : FileError) → ReaderGlances old r (Err e) new s → KeepsOn {X = X} old r (Some (Err e)) new s
kept_refused X old new r s e gives = some_kept old new r s e gives

pub kept_ended : (X : Type 0) (old new : Option (List ℕ)) (r s t : Reading) → ReaderGlances old r (Ok None) new s → t.kept ≡ s.kept → KeepsOn {X = X} old r None new t
kept_ended X old new r s t gives kept = (old, subst (λ (k : Kept). ReadsOn old r.kept old k) (sym kept) (none_read old new r s gives), λ _ _. gives.glances.0)

-- where there may be no more events
pub kept_over : (X : Type 0) (old : Option (List ℕ)) (r t : Reading) → (MayGoOn r → ⊥) → t.kept ≡ r.kept → KeepsOn {X = X} old r None old t
kept_over X old r t stops kept = (old, same_kept old r t kept, λ on small. absurd (stops (on, subst (λ (k : Kept). k.at < 2 ^ 64 - 1) kept small)))

pub kept_pending : (X : Type 0) (old : Option (List ℕ)) (r t : Reading) (e : FileError) → t.kept ≡ r.kept → KeepsOn {X = X} old r (Some (Err e)) old t
kept_pending X old r t e kept = λ _. (old, same_kept old r t kept)

-- ---- the next change

not_both : (b : Bool) (P : Type 0) → b ≡ false → b ≡ true → P
not_both b P isnt is = absurd (let bad : true ≡ false = sym is ∙ isnt in cc)

by_value : (b : Bool) → (IsTrue b → ⊥) → b ≡ false
by_value true n = absurd (n refl)
by_value false n = refl

-- a reader isn't at its end after an event
pub still_on : (old new : Option (List ℕ)) (r s : Reading) (g : Glance) → ReaderGlances old r (Ok (Some g)) new s → s.is_over ≡ false
still_on old new r s g gives = by_value s.is_over (λ bad. let no_error : IsErr {E = FileError} (Ok (Some g)) = gives.ended.0 bad in absurd cc)

-- an event was taken
pub kept_taken : (old new : Option (List ℕ)) (r s t : Reading) (g : Glance) (c : Option Change) (q : Option FileError) → ReaderGlances old r (Ok (Some g)) new s → t.kept ≡ s.kept
    → (q ≡ None → t.is_over ≡ s.is_over) → (IsSome q → t.is_lost ≡ true) → (q ≡ None → t.is_lost ≡ s.is_lost) → AreTold q → KeepsTo old r c new t q
kept_taken old new r s t g (Some c) None gives kept over lost on told = (one_kept old new r s t g gives kept, on refl ∙ gives.lost)
kept_taken old new r s t g (Some c) (Some e) gives kept over lost on told = (one_kept old new r s t g gives kept, lost refl)
kept_taken old new r s t g None (Some e) gives kept over lost on told = (lost refl ∙ sym (lost_for_bytes r.is_lost e.error told), λ _. (new, one_kept old new r s t g gives kept))
kept_taken old new r s t g None None gives kept over lost on told = (
  on refl ∙ gives.lost,
  λ _. one_kept old new r s t g gives kept,
  λ is. not_both s.is_over _ (still_on old new r s g gives) (sym (over refl) ∙ is),
)

pub kept_none_left : (old new : Option (List ℕ)) (r s t : Reading) → ReaderGlances old r (Ok None) new s → t.kept ≡ s.kept → t.is_over ≡ true → t.is_lost ≡ s.is_lost → KeepsTo old r None new t None
kept_none_left old new r s t gives kept over lost = (
  lost ∙ gives.lost,
  λ on. not_both t.is_over _ on over,
  λ _. (old, subst (λ (k : Kept). ReadsOn old r.kept old k) (sym kept) (none_read old new r s gives), λ _. gives.glances.0),
)

pub kept_failed : (old new : Option (List ℕ)) (r s : Reading) (e : FileError) → ReaderGlances old r (Err e) new s → KeepsTo old r None new s (Some e)
kept_failed old new r s e gives = (gives.lost, some_kept old new r s e gives)

kept_so_far : (old : Option (List ℕ)) (r : Reading) → KeepsTo old r None old r None
kept_so_far old r = (refl, λ _. here, λ over. (old, here, λ on. not_both r.is_over _ on over))

-- one step more
kept_more : (old mid new : Option (List ℕ)) (r m s : Reading) (c : Option Change) (q : Option FileError) → KeepsTo old r None mid m None → m.is_over ≡ false → KeepsTo mid m c new s q → KeepsTo old r c new s q
kept_more old mid new r m s (Some c) None before on h = (more_read old mid r.kept m.kept new s.kept (before.1 on) h.0, h.1 ∙ before.0)
kept_more old mid new r m s (Some c) (Some e) before on h = (more_read old mid r.kept m.kept new s.kept (before.1 on) h.0, h.1)
kept_more old mid new r m s None (Some e) before on h = (
  h.0 ∙ ap (λ (b : Bool). b || not (lacks_bytes e.error)) before.0,
  λ found. let k = h.1 found in (k.0, more_read old mid r.kept m.kept k.0 s.kept (before.1 on) k.1),
)
kept_more old mid new r m s None None before on h = (
  h.0 ∙ before.0,
  λ going. more_read old mid r.kept m.kept new s.kept (before.1 on) (h.1 going),
  λ over. let k = h.2 over in (k.0, more_read old mid r.kept m.kept k.0 s.kept (before.1 on) k.1, λ _. k.2 on),
)

-- ---- steps so far

pub so_far_begun : (p : Option FileError) (old : Option (List ℕ)) (r : Reading) → KeptSoFar p old r old r p
so_far_begun None old r = kept_so_far old r
so_far_begun (Some e) old r = (refl, refl)

pub so_far_more : (p k q : Option FileError) (old mid new : Option (List ℕ)) (r m s : Reading) → KeptSoFar p old r mid m k → k ≡ None → m.is_over ≡ false → KeepsTo mid m None new s q → KeptSoFar p old r new s q
so_far_more None None q old mid new r m s before none on h = kept_more old mid new r m s None q before on h
so_far_more None (Some e) q old mid new r m s before none on h = absurd cc
so_far_more (Some e) k q old mid new r m s before none on h = absurd (let bad : None ≡ Some e = sym none ∙ before.1 in cc)

-- a change after them
pub change_after : (p k q : Option FileError) (old mid new : Option (List ℕ)) (r m s : Reading) (c : Change) → KeptSoFar p old r mid m k → k ≡ None → m.is_over ≡ false → KeepsTo mid m (Some c) new s q
    → KeepsOn old r (Some (Ok c)) new s × (s.is_lost ≡ lost_by p r.is_lost (Some (Ok c)) q)
change_after None None q old mid new r m s c before none on h = kept_more old mid new r m s (Some c) q before on h
change_after None (Some e) q old mid new r m s c before none on h = absurd cc
change_after (Some e) k q old mid new r m s c before none on h = absurd (let bad : None ≡ Some e = sym none ∙ before.1 in cc)

-- the error after them
pub failed_after : (p k : Option FileError) (old mid : Option (List ℕ)) (r m t : Reading) (e : FileError) → KeptSoFar p old r mid m k → k ≡ Some e → t.kept ≡ m.kept → t.is_lost ≡ m.is_lost
    → KeepsOn {X = Change} old r (Some (Err e)) mid t × (t.is_lost ≡ lost_by {X = Change} p r.is_lost (Some (Err e)) None)
failed_after None None old mid r m t e before some kept lost = absurd cc
failed_after None (Some d) old mid r m t e before some kept lost =
    let same : d ≡ e = cc in (
      λ found. let k = before.1 (sym lost ∙ found) in (k.0, subst (λ (l : Kept). ReadsOn old r.kept k.0 l) (sym kept) k.1),
      lost ∙ before.0 ∙ ap (λ (x : FileError). lost_after {A = Change} r.is_lost (Err x)) same,
    )
failed_after (Some d) k old mid r m t e before some kept lost =
    (λ _. (old, same_kept old r t (kept ∙ ap (λ (x : Reading). x.kept) before.0)), lost ∙ ap (λ (x : Reading). x.is_lost) before.0)

pub counts_so_far : (p : Option FileError) (n : ℕ) → AreTold p → CountsPending p n n
counts_so_far None n told = refl
counts_so_far (Some e) n told = sym (count_left e.error n told)

-- ---- what a reader keeps that began anew

pub reached_on : (old : Option (List ℕ)) (k : Kept) (new : Option (List ℕ)) (l : Kept) → Reached k → ReadsOn old k new l → Reached l
reached_on old k new l reached here = reached
reached_on old k new l reached (past mid end m y e before spells takes) = next m y e (reached_on old k mid m reached before) spells

-- ---- the event that is asked for

pub lost_asked : {X Y : Type 0} (p k q : Option FileError) (lost mid last : Bool) (y : Y) (item : Result X FileError) → p ≡ None → k ≡ None → q ≡ k → mid ≡ lost_by p lost (Some (Ok y)) k → last ≡ lost_after mid item → last ≡ lost_by p lost (Some item) q
lost_asked None None None lost mid last y item none at same h l = l ∙ ap (λ (b : Bool). lost_after b item) h
lost_asked None None (Some e) lost mid last y item none at same h l = absurd cc
lost_asked None (Some e) q lost mid last y item none at same h l = absurd cc
lost_asked (Some e) k q lost mid last y item none at same h l = absurd cc
