-- What is left at a spot, and after a step from there.
use Rattle.std.proofs.Common.{◌≡◌, ◌≢◌, ◌⊎◌, ℕ, ◌+◌, ◌<◌, ◌≤◌, true, false, List, [], ◌∷◌, ◌++◌, length, Option, Some, None, Result, Ok, Err, refl, sym, ap, subst, ◌∙◌, append_assoc, append-nil, inl, inr, arith}
use Rattle.std.specs.Prelude.{IfOk}
use Rattle.binlog_events.specs.declared.error.EventError.{EventError}
use Rattle.binlog_events.specs.declared.error.EventError.TheVariants as error
use Rattle.binlog_events.specs.declared.error.FileError.{FileError}
use Rattle.binlog_file.specs.Description.{Description}
use Rattle.binlog_file.specs.Events.{Event, Glance, glance_of, origin_of, Place, NextGives, Shrinks, AreLeft, AreEvents, is_binlog, no_binlog}
use Rattle.binlog_file.specs.Tables.{InForce, in_force_after, nothing_in_force}
use Rattle.binlog_file.specs.Workings.Glances.{GlanceSteps}
use Rattle.mysql_binlog_rows.specs.declared.rows_event.event.RowsEventCtx.{RowsEventCtx}
use Rattle.binlog_file.specs.Changes.{Wanted, Change, Given, nothing, Gives, EventGives, GoesOn, AreChanges, AreChangesOfFile, Spot, spot, first_spot, Left, Follows, IsMemory, ChangeGives, TakeGives, listed, at_position, count, most_left}
use Rattle.binlog_file.proofs.Rest.{rest_of}

goes_on : (Later : List Change → Type 0) (at : ℕ) (c : Option Change) (err : Option EventError) (cs : List Change) (out : Option FileError) → err ≡ None → Later cs → GoesOn Later at c err (listed c ++ cs) out
goes_on Later at c None cs out none later = (cs, refl, later)
goes_on Later at c (Some e) cs out none later = absurd cc

stops : (Later : List Change → Type 0) (at : ℕ) (c : Option Change) (err : Option EventError) (e : EventError) (cs : List Change) (out : Option FileError) → err ≡ Some e → cs ≡ listed c → out ≡ at_position at err → GoesOn Later at c err cs out
stops Later at c None e cs out some all is = absurd cc
stops Later at c (Some d) e cs out some all is = (all, is)

-- the events after one that was read
next_left : (p q : Place) (e : Event) (more : List Event) (end : Option FileError) → NextGives p (Some (Ok e)) q → AreLeft q more end → AreLeft p (e ∷ more) end
next_left p q e more end g h =
    let at_here = subst (λ (at : ℕ). AreEvents at q.in_force q.left more end) g.3 h in
    (g.0, q.left, g.1, g.2, subst (λ (d : Option Description). AreEvents (p.at + length g.0) d q.left more end) g.4 at_here)

pub event_follows : (w : Wanted) (s : InForce) (p q : Place) (e : Event) (g : Given) → NextGives p (Some (Ok e)) q → EventGives w (in_force_after s e).tables e g → g.error ≡ None
    → Follows w (spot p s None) (listed g.change) (spot q (in_force_after s e) None)
event_follows w s p q e g gives here none = λ cs out left. record {
  events = e ∷ left.events;
  end = left.end;
  are_left = next_left p q e left.events left.end gives left.are_left;
  are_changes = (g, here, goes_on (λ rest. AreChanges w (in_force_after s e) left.events left.end rest out) e.position g.change g.error cs out none left.are_changes);
}

pub event_ends : (w : Wanted) (s t : InForce) (p q r : Place) (e : Event) (g : Given) (err : EventError) → NextGives p (Some (Ok e)) q → EventGives w (in_force_after s e).tables e g → g.error ≡ Some err
    → Follows w (spot p s None) (listed g.change) (spot r t (at_position e.position (Some err)))
event_ends w s t p q r e g err gives here some = λ cs out left.
    let more = rest_of q.at q.in_force q.left in
    record {
      events = e ∷ more.0;
      end = more.1;
      are_left = next_left p q e more.0 more.1 gives more.2;
      are_changes = (
        g,
        here,
        stops (λ rest. AreChanges w (in_force_after s e) more.0 more.1 rest out) e.position g.change g.error err (listed g.change ++ cs) out some
            (ap (λ (l : List Change). listed g.change ++ l) left.0 ∙ append-nil (listed g.change))
            (left.1 ∙ ap (at_position e.position) (sym some)),
      );
    }

pub error_follows : (w : Wanted) (s t : InForce) (p q r : Place) (e : FileError) → NextGives p (Some (Err e)) q → Follows w (spot p s None) [] (spot r t (Some e))
error_follows w s t p q r e gives = λ cs out left. record {
  events = [];
  end = Some e;
  are_left = (gives.0, gives.2, gives.3);
  are_changes = subst (λ (l : List Change). AreChanges w s [] (Some e) l out) (sym left.0) left.1;
}

-- what an event gives, whether an error ends it or not; after an error it doesn't matter which bytes are left
pub event_taken : (O : EventError → Type 0) (w : Wanted) (s t : InForce) (p q r : Place) (e : Event) (g : Given) (c : Option Change) (pending : Option FileError) → NextGives p (Some (Ok e)) q
    → EventGives w (in_force_after s e).tables e g → t ≡ in_force_after s e → c ≡ g.change → pending ≡ at_position e.position g.error → (pending ≡ None → r ≡ q) → TakeGives O w (spot p s None) c (spot r t pending)
event_taken O w s t p q r e g c pending gives here kept same is on = rw (kept, same, is) (by_error g.error refl)
  where
    by_error : (err : Option EventError) → g.error ≡ err → TakeGives O w (spot p s None) g.change (spot r (in_force_after s e) (at_position e.position err))
    by_error None none =
        let place : r ≡ q = on (is ∙ ap (at_position e.position) none) in
        subst (λ (x : Place). TakeGives O w (spot p s None) g.change (spot x (in_force_after s e) None)) (sym place) (inl (event_follows w s p q e g gives here none))
    by_error (Some err) some = inl (event_ends w s (in_force_after s e) p q r e g err gives here some)

pub error_taken : (O : EventError → Type 0) (w : Wanted) (s t : InForce) (p q r : Place) (e : FileError) → NextGives p (Some (Err e)) q → TakeGives O w (spot p s None) None (spot r t (Some e))
error_taken O w s t p q r e gives = inl (error_follows w s t p q r e gives)

-- an error that isn't the bytes'
pub other_taken : (O : EventError → Type 0) (w : Wanted) (old : Spot) (p : Place) (t : InForce) (e : FileError) → O e.error → TakeGives O w old None (spot p t (Some e))
other_taken O w old p t e other = inr (refl, e, refl, other)

-- ---- the walk to the next change

pub no_step : (O : EventError → Type 0) (w : Wanted) (s : Spot) → TakeGives O w s None s
no_step O w s = inl (λ cs out left. left)

pub step_on : (O : EventError → Type 0) (w : Wanted) (old : Spot) (p : Place) (s : InForce) (c : Option Change) (new : Spot) → TakeGives O w old None (spot p s None) → TakeGives O w (spot p s None) c new → TakeGives O w old c new
step_on O w old p s c new first second = elim first [
  | inr m ↦ absurd cc
  | inl f ↦ elim second [
    | inl g ↦ inl (λ cs out left. f (listed c ++ cs) out (g cs out left))
    | inr m ↦ inr m
  ]
]

count_most : (o : Option FileError) → count o ≤ 1
count_most None = omega arith
count_most (Some e) = omega arith

lessened : (p q : Place) (item : Result Event FileError) (s : InForce) (new : Spot) → Shrinks p.left (Some item) q.left → new.place ≡ q → most_left new < most_left (spot p s None)
lessened p q (Ok e) s new h same = omega (arith, h, ap (λ (r : Place). length r.left) same, count_most new.pending)
lessened p q (Err e) s new h same = omega (arith, h.0, ap length h.1, ap (λ (r : Place). length r.left) same, count_most new.pending)

-- an event that holds no rows
pub nothing_taken : (O : EventError → Type 0) (w : Wanted) (s t : InForce) (p q r : Place) (g : Glance) (e : Event) (c : Option Change) (pending : Option FileError) → g ≡ glance_of e → g.rows ≡ None → NextGives p (Some (Ok e)) q
    → t ≡ in_force_after s e → c ≡ None → pending ≡ None → (pending ≡ None → r ≡ q) → TakeGives O w (spot p s None) c (spot r t pending)
nothing_taken O w s t p q r g e c pending is none gives kept no_change no_error on =
    let no_rows : e.rows ≡ None = ap (λ (x : Glance). x.rows) (sym is) ∙ none in
    let here : EventGives w (in_force_after s e).tables e nothing = subst (λ (o : Option RowsEventCtx). Gives w (in_force_after s e).tables (origin_of e) o e.body nothing) (sym no_rows) refl in
    event_taken O w s t p q r e nothing c pending gives here kept no_change no_error on

-- a glance at an event is taken, or the error in place of it
pub glance_onward : (w : Wanted) (old here : Spot) (p q : Place) (s t : InForce) (pending : Option FileError) (item : Result Glance FileError) (c : Option Change) (new : Spot)
    → TakeGives IsMemory w old None here → spot p s pending ≡ here → pending ≡ None → GlanceSteps p s (Some item) q t
    → ((r : Place) (u : InForce) → GlanceSteps r u (Some item) q t → TakeGives IsMemory w (spot r u None) c new) → new.place ≡ q
    → TakeGives IsMemory w old c new × (most_left new < most_left here)
glance_onward w old here p q s t pending item c new first same none steps takes kept =
    let is : here ≡ spot p s None = sym same ∙ ap (spot p s) none in (
      step_on IsMemory w old p s c new (subst (λ (h : Spot). TakeGives IsMemory w old None h) is first) (takes p s steps),
      subst (λ (h : Spot). most_left new < most_left h) (sym is) (fewer item steps),
    )
  where
    fewer : (i : Result Glance FileError) → GlanceSteps p s (Some i) q t → most_left new < most_left (spot p s None)
    fewer (Ok g) h = lessened p q (Ok h.0) s new h.2.shrinks kept
    fewer (Err e) h = elim h [
      | inl steps ↦ lessened p q (Err e) s new steps.shrinks kept
      | inr memory ↦ omega (arith, memory.1, ap length memory.2, ap (λ (r : Place). length r.left) kept, count_most new.pending)
    ]

pub change_given : (O : EventError → Type 0) (w : Wanted) (old : Spot) (c : Change) (new : Spot) → TakeGives O w old (Some c) new → Follows w old (c ∷ []) new
change_given O w old c new h = elim h [ inl f ↦ f | inr m ↦ absurd cc ]

pub error_given : (O : EventError → Type 0) (w : Wanted) (old : Spot) (p : Place) (s : InForce) (e : FileError) → TakeGives O w old None (spot p s (Some e)) → O e.error ⊎ Left w old [] (Some e)
error_given O w old p s e h = elim h [
  | inl f ↦ inr (f [] (Some e) (refl, refl))
  | inr m ↦ let same : m.1 ≡ e = cc in inl (subst (λ (x : FileError). O x.error) same m.3)
]

pub all_given : (O : EventError → Type 0) (w : Wanted) (old : Spot) (p : Place) (s : InForce) → TakeGives O w old None (spot p s None) → p.left ≡ [] → Left w old [] None
all_given O w old p s h none = elim h [
  | inl f ↦ f [] None (record { events = []; end = None; are_left = none; are_changes = refl })
  | inr m ↦ absurd cc
]

-- ---- the list of all changes

pub listed_so_far : (w : Wanted) (old : Spot) (front : List Change) (mid : Spot) (c : Change) (new : Spot) → Follows w old front mid → Follows w mid (c ∷ []) new → Follows w old (front ++ c ∷ []) new
listed_so_far w old front mid c new f g = λ cs out left. rw append_assoc (f (c ∷ cs) out (g cs out left))

pub of_file : (w : Wanted) (x : List ℕ) (cs : List Change) (out : Option FileError) → is_binlog x ≡ true → Left w (first_spot x) cs out → AreChangesOfFile w x cs out
of_file w x cs out is left = record {
  events = left.events;
  end = left.end;
  are_events = rw is left.are_left;
  are_changes = left.are_changes;
}

pub whole_file : (w : Wanted) (x : List ℕ) (front : List Change) (s : Spot) (out : Option FileError) → is_binlog x ≡ true → Follows w (first_spot x) front s → Left w s [] out → AreChangesOfFile w x front out
whole_file w x front s out is f left = of_file w x front out is (subst (λ (l : List Change). Left w (first_spot x) l out) (append-nil front) (f [] out left))

pub no_file : (w : Wanted) (x : List ℕ) (cs : List Change) (e : FileError) → cs ≡ [] → e ≡ no_binlog x → is_binlog x ≡ false → AreChangesOfFile w x cs (Some e)
no_file w x cs e none same is = record {
  events = [];
  end = Some e;
  are_events = rw is (refl, ap some_error same);
  are_changes = subst (λ (l : List Change). AreChanges w nothing_in_force [] (Some e) l (Some e)) (sym none) refl;
}
  where
    some_error : FileError → Option FileError
    some_error f = Some f

-- the list is that of the file, if an error ends it that isn't Memory
pub ended_file : {L E : Type 0} (w : Wanted) (x : List ℕ) (front : List Change) (s t : Spot) (e : FileError) (changes : L → List Change) (error_of : L → Option FileError) (r : Result L E)
    → is_binlog x ≡ true → Follows w (first_spot x) front s → ChangeGives IsMemory w s (Some (Err e)) t
    → IfOk r (λ l. changes l ≡ front) → IfOk r (λ l. error_of l ≡ Some e) → IfOk r (λ _. e.error ≢ error.Memory)
    → IfOk r (λ l. AreChangesOfFile w x (changes l) (error_of l))
ended_file w x front s t e changes error_of (Ok l) is f gives all some other =
    elim gives.1 [
      | inl memory ↦ absurd (other memory)
      | inr left ↦ rw (all, some) (whole_file w x front s (Some e) is f left)
    ]
ended_file w x front s t e changes error_of (Err f) is follows gives all some other = tt
