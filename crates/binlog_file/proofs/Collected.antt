-- The events that were collected so far, and those that are left.
use Rattle.std.proofs.Common.{◌≡◌, ℕ, ◌+◌, true, false, List, [], ◌∷◌, ◌++◌, length, drop, Option, Some, None, Ok, Err, refl, subst, append_assoc, append-nil}
use Rattle.binlog_events.specs.declared.error.FileError.{FileError}
use Rattle.binlog_file.specs.Description.{Description}
use Rattle.binlog_file.specs.Events.{Event, Place, AreLeft, AreEvents, AreEventsOfFile, NextGives, first_place, SoFar, is_binlog, no_binlog, after}

pub at_start : (x : List ℕ) → is_binlog x ≡ true → SoFar x [] (first_place x)
at_start x is = record { magic = is; whole = λ more end h. h }

pub one_more : (x : List ℕ) (es : List Event) (p q : Place) (e : Event) → SoFar x es p → NextGives p (Some (Ok e)) q → SoFar x (es ++ e ∷ []) q
one_more x es p q e so g = record {
  magic = so.magic;
  whole = λ more end h. rw append_assoc (so.whole (e ∷ more) end (g.0, q.left, g.1, g.2, here more end h));
}
  where
    here : (more : List Event) (end : Option FileError) → AreLeft q more end → AreEvents (p.at + length g.0) (after p.in_force e) q.left more end
    here more end h = subst (λ (d : Option Description). AreEvents (p.at + length g.0) d q.left more end) g.4 (subst (λ (at : ℕ). AreEvents at q.in_force q.left more end) g.3 h)

pub all_given : (x : List ℕ) (es : List Event) (p q : Place) → SoFar x es p → NextGives p None q → AreEventsOfFile x es None
all_given x es p q so g = rw so.magic (subst (λ (l : List Event). AreEvents 4 None (drop 4 x) l None) (append-nil es) (so.whole [] None g.0))

pub ended : (x : List ℕ) (es : List Event) (p q : Place) (e : FileError) → SoFar x es p → NextGives p (Some (Err e)) q → AreEventsOfFile x es (Some e)
ended x es p q e so g = rw so.magic (subst (λ (l : List Event). AreEvents 4 None (drop 4 x) l (Some e)) (append-nil es) (so.whole [] (Some e) (g.0, g.2, g.3)))

pub no_file : (x : List ℕ) → is_binlog x ≡ false → AreEventsOfFile x [] (Some (no_binlog x))
no_file x is = rw is (refl, refl)
