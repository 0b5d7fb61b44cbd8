-- What is read of a checkpoint.
use Rattle.std.proofs.Common.{◌≡◌, ℕ, ◌+◌, Bool, true, false, List, [], ◌∷◌, ◌++◌, length, length-append, map, Option, Some, None, refl, sym, ap, subst, ◌∙◌, append_assoc, append-nil, inl, inr, arith}
use Rattle.std.specs.Prelude.{if◌then◌else◌}
use Rattle.std.specs.Option.{option_map}
use Rattle.binlog_table.specs.TableMap.{TableMap}
use Rattle.mysql_binlog_rows.specs.declared.rows_event.event.RowsEventCtx.{RowsEventCtx}
use Rattle.binlog_events.specs.declared.error.FileError.{FileError}
use Rattle.binlog_file.specs.Description.{Description}
use Rattle.binlog_file.specs.Events.{Event, event, after, AreEvents, AreEventsOfFile, magic}
use Rattle.binlog_file.specs.Tables.{Tables, InForce, found, given_up, with_map, has_end_flag, nothing_in_force, in_force_after, in_force_after_all}
use Rattle.binlog_file.specs.Workings.Stored.{is_gtid}
use Rattle.binlog_file.specs.Stream.{Kept, first_kept, kept_after}
use Rattle.binlog_file.specs.Checkpoints.{Reached, start, next, Restores, begun, restored, after_all, LeadsTo, LeadsBack, GoesOnWith, checkpoint_of, is_of_checkpoint, unplaced}
use Rattle.binlog_file.proofs.Moved.{placed, moved, refused_moved, Describes, Maps, IsPlain, kind_of}

-- ---- what is kept after more bytes

-- Whatever was read before with this description and these tables, with these bytes after it they have become
-- those.
abbrev Leads : Option Description → InForce → List ℕ → Option Description → InForce → Type 0
Leads d s y f t = (x : List ℕ) (k : Kept) → Restores x k → k.description ≡ d → k.in_force ≡ s
    → (l : Kept) × Restores (x ++ y) l × (l.description ≡ f) × (l.in_force ≡ t)

leads_both : (d f g : Option Description) (s t u : InForce) (y z : List ℕ) → Leads d s y f t → Leads f t z g u → Leads d s (y ++ z) g u
leads_both d f g s t u y z a b x k r is_d is_s =
    let m = a x k r is_d is_s in
    let n = b (x ++ y) m.0 m.1 m.2 m.3 in
    (n.0, subst (λ (c : List ℕ). Restores c n.0) (append_assoc x y z) n.1, n.2, n.3)

leads_nowhere : (d : Option Description) (s : InForce) → Leads d s [] d s
leads_nowhere d s x k r is_d is_s = (k, subst (λ (c : List ℕ). Restores c k) (sym (append-nil x)) r, is_d, is_s)

leads_one : (d f : Option Description) (s t : InForce) (y : List ℕ) (e : Event) → ((at : ℕ) → (event at d).spells y (placed at e)) → is_of_checkpoint d e ≡ true → after d e ≡ f → in_force_after s e ≡ t → Leads d s y f t
leads_one d f s t y e spelled stored is state x k r is_d is_s =
    let o = placed k.at e in (
      kept_after k y o,
      restored x y k o r (subst (λ (c : Option Description). (event k.at c).spells y o) (sym is_d) (spelled k.at)) (subst (λ (c : Option Description). is_of_checkpoint c e ≡ true) (sym is_d) stored),
      ap (λ (c : Option Description). after c e) is_d ∙ is,
      ap (λ (c : InForce). in_force_after c e) is_s ∙ state,
    )

-- ---- what an event does

state_of : (s : InForce) (e : Event) (d : Option Description) (t : Option TableMap) (r : Option RowsEventCtx) → e.description ≡ d → e.table ≡ t → e.rows ≡ r
    → in_force_after s e ≡ record { tables = with_map (given_up (found s.tables s.ended) d) t; ended = has_end_flag r e.body }
state_of s e d t r a b c = rw (a, b, c) refl

-- what is stored leads back
record Holds (k : Kept) : Type 0 where
  description : Leads None nothing_in_force k.stored.description k.description nothing_in_force
  gtid : Leads k.description nothing_in_force k.stored.gtid k.description nothing_in_force
  tables : Leads k.description nothing_in_force k.stored.tables k.description (record { tables = k.in_force.tables; ended = false })

described : (k : Kept) (y : List ℕ) (e : Event) (x : Description) → Describes y e x → Holds (kept_after k y e)
described k y e x is = record {
  description = rw is.description (leads_one None (Some x) nothing_in_force nothing_in_force y e (λ at. is.anywhere at None) (rw is.description refl) (rw is.description refl) (state_of nothing_in_force e (Some x) None None is.description is.table is.rows));
  gtid = rw is.description (leads_nowhere (Some x) nothing_in_force);
  tables = rw (is.description, is.table) (leads_nowhere (Some x) nothing_in_force);
}

one_table : (d : Option Description) (ts : Tables) (ended : Bool) (old y : List ℕ) (e : Event) (t : TableMap) → ((at : ℕ) → (event at d).spells y (placed at e)) → Maps d e t → Leads d nothing_in_force old d (record { tables = ts; ended = false })
    → Leads d nothing_in_force ((if ended then [] else old) ++ y) d (record { tables = with_map (given_up (found ts ended) None) (Some t); ended = false })
one_table d ts true old y e t spelled is h = leads_one d d nothing_in_force _ y e spelled (rw (is.described, is.rows) refl) (rw is.description refl) (state_of nothing_in_force e None (Some t) None is.description is.table is.rows)
one_table d ts false old y e t spelled is h =
    let s : InForce = record { tables = ts; ended = false } in
    leads_both d d d nothing_in_force s _ old y h (leads_one d d s _ y e spelled (rw (is.described, is.rows) refl) (rw is.description refl) (state_of s e None (Some t) None is.description is.table is.rows))

mapped : (k : Kept) (y : List ℕ) (e : Event) (t : TableMap) → (event k.at k.description).spells y e → Maps k.description e t → Holds k → Holds (kept_after k y e)
mapped k y e t spelled is h = record {
  description = rw is.description h.description;
  gtid = rw (is.description, is.not_gtid) h.gtid;
  tables = rw (is.description, is.table) (one_table k.description k.in_force.tables k.in_force.ended k.stored.tables y e t (λ at. moved k.at at k.description y e spelled) is h.tables);
}

one_gtid : (d : Option Description) (old y : List ℕ) (e : Event) (b : Bool) → is_gtid e.header.event_type ≡ b → ((at : ℕ) → (event at d).spells y (placed at e)) → IsPlain d e → Leads d nothing_in_force old d nothing_in_force
    → Leads d nothing_in_force (if b then y else old) d nothing_in_force
one_gtid d old y e true gtid spelled is h = leads_one d d nothing_in_force nothing_in_force y e spelled (rw (is.described gtid, is.rows gtid) refl) (rw is.description refl) (state_of nothing_in_force e None None None is.description is.table (is.rows gtid))
one_gtid d old y e false gtid spelled is h = h

same_tables : (d : Option Description) (ts : Tables) (ended : Bool) (old : List ℕ) → Leads d nothing_in_force old d (record { tables = ts; ended = false })
    → Leads d nothing_in_force ((if ended then [] else old) ++ []) d (record { tables = with_map (given_up (found ts ended) None) None; ended = false })
same_tables d ts true old h = leads_nowhere d nothing_in_force
same_tables d ts false old h = subst (λ (l : List ℕ). Leads d nothing_in_force l d (record { tables = ts; ended = false })) (sym (append-nil old)) h

plain : (k : Kept) (y : List ℕ) (e : Event) → (event k.at k.description).spells y e → IsPlain k.description e → Holds k → Holds (kept_after k y e)
plain k y e spelled is h = record {
  description = rw is.description h.description;
  gtid = rw is.description (one_gtid k.description k.stored.gtid y e (is_gtid e.header.event_type) refl (λ at. moved k.at at k.description y e spelled) is h.gtid);
  tables = rw (is.description, is.table) (same_tables k.description k.in_force.tables k.in_force.ended k.stored.tables h.tables);
}

holds : {k : Kept} → Reached k → Holds k
holds start = record {
  description = leads_nowhere None nothing_in_force;
  gtid = leads_nowhere None nothing_in_force;
  tables = leads_nowhere None nothing_in_force;
}
holds (next k y e r spelled) = elim (kind_of k.at k.description y e spelled) [
  | inl x ↦ described k y e x.0 x.1
  | inr o ↦ elim o [
    | inl t ↦ mapped k y e t.0 spelled t.1 (holds r)
    | inr p ↦ plain k y e spelled p (holds r)
  ]
]

-- ---- the checkpoint

last_tables : (d : Option Description) (ts : Tables) (ended : Bool) (stored : List ℕ) → Leads d nothing_in_force stored d (record { tables = ts; ended = false })
    → Leads d nothing_in_force (if ended then [] else stored) d (record { tables = λ id. found ts ended id; ended = false })
last_tables d ts true stored h = leads_nowhere d nothing_in_force
last_tables d ts false stored h = h

-- the tables that the next event finds
abbrev next_found : Kept → InForce
next_found k = record { tables = λ id. found k.in_force.tables k.in_force.ended id; ended = false }

restored_by : (k : Kept) → Reached k → (l : Kept) × Restores (checkpoint_of k) l × (l.description ≡ k.description) × (l.in_force ≡ next_found k)
restored_by k r =
    let h = holds r in
    let d = k.description in
    let s = k.stored in
    let b = k.in_force.ended in
    let tables = last_tables d k.in_force.tables b s.tables h.tables in
    let first = leads_both None d d nothing_in_force nothing_in_force nothing_in_force s.description s.gtid h.description h.gtid in
    let all = leads_both None d d nothing_in_force nothing_in_force (next_found k) (s.description ++ s.gtid) (if b then [] else s.tables) first tables magic first_kept begun refl refl in
    let last = if b then [] else s.tables in
    let same = ap (λ (c : List ℕ). c ++ last) (append_assoc magic s.description s.gtid) ∙ append_assoc magic (s.description ++ s.gtid) last in
    (all.0, subst (λ (c : List ℕ). Restores c all.0) (sym same) all.1, all.2, all.3)

pub leads_back : (k : Kept) → Reached k → (at : ℕ) → LeadsBack k at
leads_back k r at =
    let l = restored_by k r in
    record {
      kept = record l.0 { at = at };
      restores = (l.0, l.1, refl);
      description = l.2;
      in_force = λ e. ap (λ (x : InForce). in_force_after x e) l.3;
    }

-- ---- the events of what restores

-- events one after the other
pub appended : (at : ℕ) (d : Option Description) (x : List ℕ) (es : List Event) → AreEvents at d x es None → (z : List ℕ) (more : List Event) (end : Option FileError)
    → AreEvents (at + length x) (after_all d es) z more end → AreEvents at d (x ++ z) (es ++ more) end
appended at d x [] none z more end h =
    let here : at + length x ≡ at = omega (arith, ap length none) in
    subst (λ (l : List ℕ). AreEvents at d (l ++ z) more end) (sym none) (subst (λ (n : ℕ). AreEvents n d z more end) here h)
appended at d x (e ∷ es) a z more end h =
    let here : at + length x ≡ at + length a.0 + length a.1 = omega (arith, ap length a.2, length-append a.0 a.1) in (
      a.0,
      a.1 ++ z,
      ap (λ (l : List ℕ). l ++ z) a.2 ∙ append_assoc a.0 a.1 z,
      a.3,
      appended (at + length a.0) (after d e) a.1 es a.4 z more end (subst (λ (n : ℕ). AreEvents n (after_all (after d e) es) z more end) here h),
    )

pub after_append : (d : Option Description) (es more : List Event) → after_all d (es ++ more) ≡ after_all (after_all d es) more
after_append d [] more = refl
after_append d (e ∷ es) more = after_append (after d e) es more

state_append : (s : InForce) (es more : List Event) → in_force_after_all s (es ++ more) ≡ in_force_after_all (in_force_after_all s es) more
state_append s [] more = refl
state_append s (e ∷ es) more = state_append (in_force_after s e) es more

-- the bytes are the magic and events, after which this is kept
record Led (c : List ℕ) (k : Kept) : Type 0 where
  bytes : List ℕ
  begins : c ≡ magic ++ bytes
  events : List Event
  are : AreEvents 4 None bytes events None
  description : after_all None events ≡ k.description
  state : in_force_after_all nothing_in_force events ≡ k.in_force

led_on : (x y : List ℕ) (k : Kept) (e : Event) → Led x k → (event k.at k.description).spells y e → Led (x ++ y) (kept_after k y e)
led_on x y k e l spelled =
    let at = 4 + length l.bytes in
    let o = placed at e in
    let here : AreEvents at k.description y (o ∷ []) None = (y, [], sym (append-nil y), moved k.at at k.description y e spelled, refl) in
    record {
      bytes = l.bytes ++ y;
      begins = ap (λ (c : List ℕ). c ++ y) l.begins ∙ append_assoc magic l.bytes y;
      events = l.events ++ (o ∷ []);
      are = appended 4 None l.bytes l.events l.are y (o ∷ []) None (subst (λ (c : Option Description). AreEvents at c y (o ∷ []) None) (sym l.description) here);
      description = after_append None l.events (o ∷ []) ∙ ap (λ (c : Option Description). after c o) l.description;
      state = state_append nothing_in_force l.events (o ∷ []) ∙ ap (λ (c : InForce). in_force_after c o) l.state;
    }

led : {c : List ℕ} {k : Kept} → Restores c k → Led c k
led begun = record { bytes = []; begins = sym (append-nil magic); events = []; are = refl; description = refl; state = refl }
led (restored x y k e r spelled is) = led_on x y k e (led r) spelled

pub leads_to : (k : Kept) → Reached k → LeadsTo (checkpoint_of k) k.description k.in_force
leads_to k r =
    let b = restored_by k r in
    let l = led b.1 in
    record {
      bytes = l.bytes;
      begins = l.begins;
      events = l.events;
      are_events = l.are;
      description = l.description ∙ b.2;
      in_force = λ e. ap (λ (x : InForce). in_force_after x e) (l.state ∙ b.3);
    }

record MovedEvents (to : ℕ) (d : Option Description) (x : List ℕ) (es : List Event) (end : Option FileError) : Type 0 where
  later : List Event
  last : Option FileError
  are : AreEvents to d x later last
  same : map unplaced later ≡ map unplaced es
  same_error : option_map (λ e. e.error) last ≡ option_map (λ e. e.error) end

moved_all : (from to : ℕ) (d : Option Description) (x : List ℕ) (es : List Event) (end : Option FileError) → AreEvents from d x es end → MovedEvents to d x es end
moved_all from to d x [] None h = record { later = []; last = None; are = h; same = refl; same_error = refl }
moved_all from to d x [] (Some e) h = record {
  later = [];
  last = Some (record { position = to; error = e.error });
  are = (h.0, refl, refused_moved from to d x e.error h.2);
  same = refl;
  same_error = refl;
}
moved_all from to d x (e ∷ es) end h =
    let m = moved_all (from + length h.0) (to + length h.0) (after d e) h.1 es end h.4 in
    record {
      later = placed to e ∷ m.later;
      last = m.last;
      are = (h.0, h.1, h.2, moved from to d h.0 e h.3, m.are);
      same = ap (λ (l : List Event). unplaced e ∷ l) m.same;
      same_error = m.same_error;
    }

pub goes_on_with : (c : List ℕ) (d : Option Description) (s : InForce) → LeadsTo c d s → (rest : List ℕ) (at : ℕ) (es : List Event) (end : Option FileError) → AreEvents at d rest es end → GoesOnWith c rest es end
goes_on_with c d s l rest at es end h =
    let m = moved_all at (4 + length l.bytes) d rest es end h in
    let are = appended 4 None l.bytes l.events l.are_events rest m.later m.last (subst (λ (f : Option Description). AreEvents (4 + length l.bytes) f rest m.later m.last) (sym l.description) m.are) in
    record {
      first = l.events;
      later = m.later;
      last = m.last;
      are_events = subst (λ (b : List ℕ). AreEventsOfFile (b ++ rest) (l.events ++ m.later) m.last) (sym l.begins) are;
      same = m.same;
      same_error = m.same_error;
    }
