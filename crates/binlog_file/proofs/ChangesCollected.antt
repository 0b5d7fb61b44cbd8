-- Changes that are collected from pairs of rows that are lent.
use Rattle.std.proofs.Common.{◌≡◌, ◌⊎◌, ℕ, suc, ◌+◌, List, [], ◌∷◌, length, Option, Some, None, Result, Ok, Err, refl, sym, ap, subst, ◌∙◌, inl, inr, arith}
use Rattle.binlog_base.specs.declared.fault.Fault.{Fault}
use Rattle.mysql_binlog_rows.specs.Images.{Pair, pair}
use Rattle.mysql_binlog_rows.specs.Cover.{Covers}
use Rattle.binlog_events.specs.declared.error.EventError.{EventError}
use Rattle.binlog_events.specs.declared.error.EventError.TheVariants as error
use Rattle.binlog_events.specs.declared.error.FileError.{FileError}
use Rattle.binlog_file.specs.declared.lent_changes.LentEvent.{LentEvent}
use Rattle.binlog_file.specs.declared.lent_changes.LentEvent.TheVariants as lent
use Rattle.binlog_file.specs.Changes.{Wanted, Change, Spot, Left, LeftFrom, IsMemory}
use Rattle.binlog_file.specs.LentChanges.{LentChange, PairGives, change_with}
use Rattle.binlog_file.specs.LentEvents.{NextEvent, NextAsked, ChangesOn}
use Rattle.binlog_file.specs.CollectedChanges.{GivesPairs, Calls, AfterPairs, Collects, IsEndedBy, CollectsAll}
use Rattle.binlog_file.proofs.LentFollowed.{covers_on, changes_on}
use Rattle.binlog_file.proofs.AskedFollowed.{asked_on}

-- ---- the pairs of an event

abbrev error_from : ℕ → EventError → FileError
error_from at d = record { position = at; error = d }

-- the error of the pair that comes after so many, if it has a fault
abbrev error_at : LentChange → ℕ → Option Fault → Option FileError
error_at c n None = None
error_at c n (Some f) = Some (error_from c.origin.position (error.RowsData (c.count + n) f))

-- the pairs cover the rows data that is left, up to the error; or memory was refused
abbrev AreAll : LentChange → List Pair → Option FileError → Type 0
AreAll c ps end = IsEndedBy IsMemory end ⊎ ((f : Option Fault) × Covers (pair c.table c.rows) c.left ps f × (end ≡ error_at c (length ps) f))

same_error : (e : FileError) (at : ℕ) (d : EventError) → e.position ≡ at → e.error ≡ d → e ≡ error_from at d
same_error e at d here is = ap (λ (n : ℕ). error_from n e.error) here ∙ ap (λ (x : EventError). error_from at x) is

none_more : (n : ℕ) → n ≡ n + 0
none_more n = omega arith

last_pair : (c : LentChange) (end : Option FileError) → GivesPairs c [] end → AreAll c [] end
last_pair c None h = inr (None, covers_on c h.0 None h.1 h.2, refl)
last_pair c (Some e) h = elim (covers_on c h.0 (Some (Err e)) h.1 h.2) [
  | inl memory ↦ inl memory
  | inr fault ↦
      let d : ℕ → EventError = λ n. error.RowsData n fault.0 in
      inr (Some fault.0, fault.1, ap (λ (x : FileError). Some x) (same_error e c.origin.position (d (c.count + 0)) fault.2 (fault.3 ∙ ap d (none_more c.count))))
]

one_more : (n k : ℕ) → (n + 1) + k ≡ n + suc k
one_more n k = omega arith

error_after_one : (c : LentChange) (left : List ℕ) (n : ℕ) (f : Option Fault) → error_at (record c { left = left; count = c.count + 1 }) n f ≡ error_at c (suc n) f
error_after_one c left n None = refl
error_after_one c left n (Some f) = ap (λ (k : ℕ). Some (error_from c.origin.position (error.RowsData k f))) (one_more c.count n)

pair_more : (old new : LentChange) (p : Pair) (ps : List Pair) (end : Option FileError) → PairGives old p (Some (Ok tt)) new → AreAll new ps end → AreAll old (p ∷ ps) end
pair_more old new p ps end gives h = elim h [
  | inl memory ↦ inl memory
  | inr all ↦
      let covers : Covers (pair old.table old.rows) new.left ps all.0 = subst (λ (c : LentChange). Covers (pair c.table c.rows) new.left ps all.0) gives.3 all.1 in
      let ends : end ≡ error_at (record old { left = new.left; count = old.count + 1 }) (length ps) all.0 = subst (λ (c : LentChange). end ≡ error_at c (length ps) all.0) gives.3 all.2 in
      inr (all.0, covers_on old p (Some (Ok tt)) new gives ps all.0 covers, ends ∙ error_after_one old new.left (length ps) all.0)
]

all_pairs : (ps : List Pair) (c : LentChange) (end : Option FileError) → GivesPairs c ps end → AreAll c ps end
all_pairs [] c end h = last_pair c end h
all_pairs (p ∷ ps) c end h = pair_more c h.0 p ps end h.1 (all_pairs ps h.0 end h.2)

-- ---- a whole reading

-- what the calls for the next event are known to give
record AreSteps (O : EventError → Type 0) (w : Wanted) (Next : Calls) : Type 0 where
  changes : (old : Spot) (item : Option (Result LentEvent FileError)) (new : Spot) → Next old item new → ChangesOn O w old item new
  unread : (old : Spot) (c : LentChange) (new : Spot) → Next old (Some (Ok (lent.Rows c))) new → c.count ≡ 0
  goes_on : (old : Spot) (c : LentChange) (new : Spot) → Next old (Some (Ok (lent.Rows c))) new → new.pending ≡ None
  memory : (d : EventError) → IsMemory d → O d

last_event : (O : EventError → Type 0) (w : Wanted) (Next : Calls) → AreSteps O w Next → (old : Spot) (cs : List Change) (out : Option FileError) → Collects Next old [] cs out → IsEndedBy O out ⊎ Left w old cs out
last_event O w Next steps old cs None h = inr (subst (λ (l : List Change). Left w old l None) (sym h.2) (steps.changes old None h.0 h.1))
last_event O w Next steps old cs (Some e) h = elim (steps.changes old (Some (Err e)) h.0 h.1) [
  | inl other ↦ inl other
  | inr left ↦ inr (subst (λ (l : List Change). Left w old l (Some e)) (sym h.2) left)
]

-- without an error the pairs cover all that was left
no_fault : (c : LentChange) (n : ℕ) (f : Option Fault) → None ≡ error_at c n f → f ≡ None
no_fault c n None is = refl
no_fault c n (Some f) is = absurd cc

-- a rows event was read without an error, and more was collected after it
rows_then : (O : EventError → Type 0) (w : Wanted) (Next : Calls) → AreSteps O w Next → (old new : Spot) (c : LentChange) (ps : List Pair) (more : List Change) (out : Option FileError) → Next old (Some (Ok (lent.Rows c))) new → AreAll c ps None
    → IsEndedBy O out ⊎ Left w new more out → IsEndedBy O out ⊎ Left w old (change_with c ps ∷ more) out
rows_then O w Next steps old new c ps more out next (inl memory) after = absurd memory
rows_then O w Next steps old new c ps more out next (inr all) (inl other) = inl other
rows_then O w Next steps old new c ps more out next (inr all) (inr left) =
    let covers : Covers (pair c.table c.rows) c.left ps None = subst (λ (f : Option Fault). Covers (pair c.table c.rows) c.left ps f) (no_fault c (length ps) all.0 all.2) all.1 in
    let rest : LeftFrom w new.place new.in_force None more out = subst (λ (p : Option FileError). LeftFrom w new.place new.in_force p more out) (steps.goes_on old c new next) left in
    inr (steps.changes old (Some (Ok (lent.Rows c))) new next ps None covers more out rest)

none_before : (n k : ℕ) → n ≡ 0 → n + k ≡ k
none_before n k none = omega (arith, none)

-- a pair of a rows event can't be read
rows_failed : (O : EventError → Type 0) (w : Wanted) (Next : Calls) → AreSteps O w Next → (old new : Spot) (c : LentChange) (ps : List Pair) (e : FileError) (f : Option Fault) → Next old (Some (Ok (lent.Rows c))) new
    → Covers (pair c.table c.rows) c.left ps f → Some e ≡ error_at c (length ps) f → Left w old (change_with c ps ∷ []) (Some e)
rows_failed O w Next steps old new c ps e None next covers is = absurd cc
rows_failed O w Next steps old new c ps e (Some f) next covers is =
    let at : ℕ → FileError = λ n. error_from c.origin.position (error.RowsData n f) in
    let here : e ≡ at (c.count + length ps) = cc in
    let same : e ≡ at (length ps) = here ∙ ap at (none_before c.count (length ps) (steps.unread old c new next)) in
    let left : Left w old (change_with c ps ∷ []) (Some (at (length ps))) = steps.changes old (Some (Ok (lent.Rows c))) new next ps (Some f) covers [] (Some (at (length ps))) (refl, refl) in
    subst (λ (x : FileError). Left w old (change_with c ps ∷ []) (Some x)) (sym same) left

rows_collected : (O : EventError → Type 0) (w : Wanted) (Next : Calls) → AreSteps O w Next → (old new : Spot) (c : LentChange) (ps : List Pair) (end : Option FileError) (events : List LentEvent) (more : List Change) (out : Option FileError)
    → Next old (Some (Ok (lent.Rows c))) new → AreAll c ps end → AfterPairs end (IsEndedBy O out ⊎ Left w new more out) events more out → IsEndedBy O out ⊎ Left w old (change_with c ps ∷ more) out
rows_collected O w Next steps old new c ps None events more out next all after = rows_then O w Next steps old new c ps more out next all after
rows_collected O w Next steps old new c ps (Some e) events more out next (inl memory) after = inl (subst (λ (o : Option FileError). IsEndedBy O o) (sym after.2) (steps.memory e.error memory))
rows_collected O w Next steps old new c ps (Some e) events more out next (inr all) after =
    let left = rows_failed O w Next steps old new c ps e all.0 next all.1 all.2 in
    let whole : Left w old (change_with c ps ∷ more) (Some e) = subst (λ (l : List Change). Left w old (change_with c ps ∷ l) (Some e)) (sym after.1) left in
    inr (subst (λ (o : Option FileError). Left w old (change_with c ps ∷ more) o) (sym after.2) whole)

after_more : (end : Option FileError) (A B : Type 0) (events : List LentEvent) (more : List Change) (out : Option FileError) → (A → B) → AfterPairs end A events more out → AfterPairs end B events more out
after_more None A B events more out to h = to h
after_more (Some e) A B events more out to h = h

all_collected : (O : EventError → Type 0) (w : Wanted) (Next : Calls) → AreSteps O w Next → (events : List LentEvent) (old : Spot) (cs : List Change) (out : Option FileError) → Collects Next old events cs out → IsEndedBy O out ⊎ Left w old cs out
all_collected O w Next steps [] old cs out h = last_event O w Next steps old cs out h
all_collected O w Next steps (lent.Other o ∷ events) old cs out h = elim (all_collected O w Next steps events h.0 cs out h.2) [
  | inl other ↦ inl other
  | inr left ↦ inr (steps.changes old (Some (Ok (lent.Other o))) h.0 h.1 cs out left)
]
all_collected O w Next steps (lent.Rows c ∷ events) old cs out h =
    let after = after_more h.3 (Collects Next h.0 events h.5 out) (IsEndedBy O out ⊎ Left w h.0 h.5 out) events h.5 out (all_collected O w Next steps events h.0 h.5 out) h.7 in
    let all = rows_collected O w Next steps old h.0 c h.2 h.3 events h.5 out h.1 (all_pairs h.2 c h.3 h.4) after in
    subst (λ (l : List Change). IsEndedBy O out ⊎ Left w old l out) (sym h.6) all

-- ---- the readings of a file

steps_of : (O : EventError → Type 0) (w : Wanted) → ((d : EventError) → IsMemory d → O d) → AreSteps O w (NextEvent O w)
steps_of O w memory = record {
  changes = changes_on O w;
  unread = λ old c new h. ap (λ (d : LentChange). d.count) h.2.4.is_unread;
  goes_on = λ old c new h. h.1.goes_on;
  memory = memory;
}

asked_steps_of : (O : EventError → Type 0) (w : Wanted) (types : List ℕ) → ((d : EventError) → IsMemory d → O d) → AreSteps O w (NextAsked O w types)
asked_steps_of O w types memory = record {
  changes = asked_on O w types;
  unread = λ old c new h. ap (λ (d : LentChange). d.count) h.gives.2.4.is_unread;
  goes_on = λ old c new h. h.gives.1.goes_on;
  memory = memory;
}

pub collects_all : (O : EventError → Type 0) (w : Wanted) → ((d : EventError) → IsMemory d → O d) → CollectsAll O w (NextEvent O w)
collects_all O w memory from events changes out h = all_collected O w (NextEvent O w) (steps_of O w memory) events from changes out h

pub collects_all_asked : (O : EventError → Type 0) (w : Wanted) (types : List ℕ) → ((d : EventError) → IsMemory d → O d) → CollectsAll O w (NextAsked O w types)
collects_all_asked O w types memory from events changes out h = all_collected O w (NextAsked O w types) (asked_steps_of O w types memory) events from changes out h
