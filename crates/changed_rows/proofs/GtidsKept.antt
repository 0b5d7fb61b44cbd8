-- What is read of a checkpoint leaves the GTID in force that all events left.
use Rattle.std.proofs.Common.{◌≡◌, ℕ, ◌+◌, ◌||◌, nat_eq, Bool, true, false, List, [], ◌∷◌, ◌++◌, length, length-append, Option, Some, None, refl, sym, ap, subst, ◌∙◌, append-nil, inl, inr, arith}
use Rattle.std.specs.Prelude.{if◌then◌else◌}
use Rattle.std.specs.Bool.{MatchBool}
use Rattle.std.proofs.lemmas.Bool.{false≢true}
use Rattle.std.proofs.lemmas.List.{append_cancel_left}
use Rattle.std.proofs.lemmas.Bool.Decides.{nat_tests}
use Rattle.binlog_table.specs.TableMap.{TableMap}
use Rattle.binlog_base.specs.Lemmas.Format.{one_spelling}
use Rattle.binlog_events.specs.Lemmas.Formats.{exact_event}
use Rattle.binlog_events.proofs.Reading.{long}
use Rattle.binlog_file.specs.Header.{Header}
use Rattle.binlog_file.specs.Description.{Description}
use Rattle.binlog_events.specs.Workings.Stored.{is_gtid, is_there}
use Rattle.binlog_file.specs.Events.{Parts, Event, event, other_event, is_description, is_rotate, is_supported, after, AreEvents, AreEventsOfFile}
use Rattle.binlog_file.specs.Stream.{Kept, kept_after}
use Rattle.binlog_file.specs.Checkpoints.{Reached, start, next, after_all, checkpoint_of}
use Rattle.binlog_file.proofs.Moved.{placed, moved, Describes, Maps, IsPlain, kind_of}
use Rattle.binlog_file.proofs.Checkpointed.{appended, after_append}
use Rattle.changed_rows.specs.Gtids.{mysql_gtid, mariadb_gtid}
use Rattle.changed_rows.specs.GtidsKept.{gtid_past, gtid_after_all, events_read}

abbrev Text : Type 0
Text = Option (List ℕ)

-- ---- what one event does

-- the GTID after an event, by the tests of its type
abbrev chosen : Bool → Bool → Bool → Bool → Bool → Text → Text → Text → Text
chosen mysql mariadb described anonymous tagged a b old = if mysql then a else if mariadb then b else if described || (anonymous || tagged) then None else old

any_choice : (m n d a t : Bool) (x y old other : Text) → m || a || t || n ≡ true → chosen m n d a t x y old ≡ chosen m n d a t x y other
any_choice true n d a t x y old other h = refl
any_choice false true d a t x y old other h = refl
any_choice false false true a t x y old other h = refl
any_choice false false false true t x y old other h = refl
any_choice false false false false true x y old other h = refl
any_choice false false false false false x y old other h = absurd (false≢true h)

no_choice : (m n d a t : Bool) (x y old : Text) → m || a || t || n ≡ false → d ≡ false → chosen m n d a t x y old ≡ old
no_choice true n d a t x y old h g = absurd (false≢true (sym h))
no_choice false n d true t x y old h g = absurd (false≢true (sym h))
no_choice false n d false true x y old h g = absurd (false≢true (sym h))
no_choice false true d false false x y old h g = absurd (false≢true (sym h))
no_choice false false true false false x y old h g = absurd (false≢true (sym g))
no_choice false false false false false x y old h g = refl

other_types : (t : ℕ) → nat_eq t 0x0F ≡ true → (nat_eq t 0x21 ≡ false) × (nat_eq t 0xA2 ≡ false)
other_types t h = (grind (arith, nat_tests), grind (arith, nat_tests))

-- the event of a GTID leaves its own, whatever was in force
gtid_anew : (e : Event) (old other : Text) → is_gtid e.header.event_type ≡ true → gtid_past old e ≡ gtid_past other e
gtid_anew e old other h =
    let t = e.header.event_type in
    any_choice (nat_eq t 0x21) (nat_eq t 0xA2) (nat_eq t 0x0F) (nat_eq t 0x22) (nat_eq t 0x2A) (mysql_gtid e.body) (mariadb_gtid e.header.server_id e.body) old other h

gtid_same : (e : Event) (old : Text) → is_gtid e.header.event_type ≡ false → nat_eq e.header.event_type 0x0F ≡ false → gtid_past old e ≡ old
gtid_same e old h g =
    let t = e.header.event_type in
    no_choice (nat_eq t 0x21) (nat_eq t 0xA2) (nat_eq t 0x0F) (nat_eq t 0x22) (nat_eq t 0x2A) (mysql_gtid e.body) (mariadb_gtid e.header.server_id e.body) old h g

described_choice : (m n d a t : Bool) (x y old : Text) → m ≡ false → n ≡ false → d ≡ true → chosen m n d a t x y old ≡ None
described_choice true n d a t x y old h g k = absurd (false≢true (sym h))
described_choice false true d a t x y old h g k = absurd (false≢true (sym g))
described_choice false false true a t x y old h g k = refl
described_choice false false false a t x y old h g k = absurd (false≢true k)

gtid_none : (e : Event) (old : Text) → nat_eq e.header.event_type 0x0F ≡ true → gtid_past old e ≡ None
gtid_none e old h =
    let t = e.header.event_type in
    let o = other_types t h in
    described_choice (nat_eq t 0x21) (nat_eq t 0xA2) (nat_eq t 0x0F) (nat_eq t 0x22) (nat_eq t 0x2A) (mysql_gtid e.body) (mariadb_gtid e.header.server_id e.body) old o.0 o.1 h

-- ---- format descriptions have a type of their own

match_with : {P Q R : Type 0} (b : Bool) → (b ≡ true → P → R) → (b ≡ false → Q → R) → MatchBool b P Q → R
match_with true f g h = f refl h
match_with false f g h = g refl h

type_of_header : (e : Event) (h : Header) (b : Bool) → e.header ≡ h → nat_eq h.event_type 0x0F ≡ b → is_there e.description ≡ b → is_there e.description ≡ nat_eq e.header.event_type 0x0F
type_of_header e h b is type there = there ∙ sym type ∙ ap (λ (x : Header). nat_eq x.event_type 0x0F) (sym is)

type_of_other : (at : ℕ) (d : Option Description) (h : Header) (p : Parts) (y : List ℕ) (e : Event) → nat_eq h.event_type 0x0F ≡ false → (other_event at d h p).spells y e → is_there e.description ≡ nat_eq e.header.event_type 0x0F
type_of_other at None h p y e type s = match_with (is_rotate h)
    (λ is q. type_of_header e h false (ap (λ (x : Event). x.header) q.1) type (ap (λ (x : Event). is_there x.description) q.1))
    (λ is q. absurd q)
    s
type_of_other at (Some d) h p y e type s = match_with (nat_eq h.event_type 0x13)
    (λ is q. type_of_header e h false (ap (λ (x : Event). x.header) q.5.1) type (ap (λ (x : Event). is_there x.description) q.5.1))
    (λ is s. match_with (is_supported h)
    (λ is q. type_of_header e h false (ap (λ (x : Event). x.header) q.1) type (ap (λ (x : Event). is_there x.description) q.1))
    (λ is q. absurd q) s)
    s

type_of : (at : ℕ) (d : Option Description) (y : List ℕ) (e : Event) → (event at d).spells y e → is_there e.description ≡ nat_eq e.header.event_type 0x0F
unfolding event
type_of at d y e s =
    let r = s.0 in
    let t = s.5 in
    match_with (is_description r)
    (λ is q. type_of_header e r.header true (ap (λ (x : Event). x.header) q.5.1) is (ap (λ (x : Event). is_there x.description) q.5.1))
    (λ is q. type_of_other at d r.header t.0 t.2 e is q)
    t.5

-- ---- events one after the other

gtid_append : (old : Text) (es more : List Event) → gtid_after_all old (es ++ more) ≡ gtid_after_all (gtid_after_all old es) more
gtid_append old [] more = refl
gtid_append old (e ∷ es) more = gtid_append (gtid_past old e) es more

-- the same bytes are no other events
no_event : (at : ℕ) (d : Option Description) (y z : List ℕ) (e : Event) → (event at d).spells y e → [] ≡ y ++ z → ⊥
no_event at d y z e s h = omega (arith, long at d y e s, ap length h, length-append y z)

same_events : (at : ℕ) (d : Option Description) (x : List ℕ) (es fs : List Event) → AreEvents at d x es None → AreEvents at d x fs None → es ≡ fs
same_events at d x [] [] a b = refl
same_events at d x [] (f ∷ fs) a b = absurd (no_event at d b.0 b.1 f b.3 (sym a ∙ b.2))
same_events at d x (e ∷ es) [] a b = absurd (no_event at d a.0 a.1 e a.3 (sym b ∙ a.2))
same_events at d x (e ∷ es) (f ∷ fs) a b =
    let whole : a.0 ++ a.1 ≡ b.0 ++ b.1 = sym a.2 ∙ b.2 in
    let first = one_spelling (event at d) (exact_event at d) a.0 b.0 a.1 b.1 e f a.3 b.3 whole in
    let rest : a.1 ≡ b.1 = append_cancel_left a.0 a.1 b.1 (whole ∙ ap (λ (y : List ℕ). y ++ b.1) (sym first.0)) in
    let n : at + length b.0 ≡ at + length a.0 = ap (λ (y : List ℕ). at + length y) (sym first.0) in
    let moved_n = subst (λ (m : ℕ). AreEvents m (after d f) b.1 fs None) n b.4 in
    let moved_d = subst (λ (g : Event). AreEvents (at + length a.0) (after d g) b.1 fs None) (sym first.1) moved_n in
    let moved_z = subst (λ (z : List ℕ). AreEvents (at + length a.0) (after d e) z fs None) (sym rest) moved_d in
    let more = same_events (at + length a.0) (after d e) a.1 es fs a.4 moved_z in
    λ i. first.1 i ∷ more i

-- ---- what is stored

-- the bytes are events, after which this description is in force and the GTID has become another
record Led (at : ℕ) (d : Option Description) (x : List ℕ) (f : Option Description) (old new : Text) : Type 0 where
  events : List Event
  are : AreEvents at d x events None
  description : after_all d events ≡ f
  gtid : gtid_after_all old events ≡ new

abbrev Leads : Option Description → List ℕ → Option Description → Text → Text → Type 0
Leads d x f old new = (at : ℕ) → Led at d x f old new

leads_nowhere : (d : Option Description) (old : Text) → Leads d [] d old old
leads_nowhere d old at = record { events = []; are = refl; description = refl; gtid = refl }

leads_one : (d f : Option Description) (y : List ℕ) (e : Event) (old new : Text) → ((at : ℕ) → (event at d).spells y (placed at e)) → after d e ≡ f → gtid_past old e ≡ new → Leads d y f old new
leads_one d f y e old new spelled is gtid at = record { events = placed at e ∷ []; are = (y, [], sym (append-nil y), spelled at, refl); description = is; gtid = gtid }

leads_both : (d f g : Option Description) (x z : List ℕ) (old mid new : Text) → Leads d x f old mid → Leads f z g mid new → Leads d (x ++ z) g old new
leads_both d f g x z old mid new h k at =
    let a = h at in
    let b = k (at + length x) in
    record {
      events = a.events ++ b.events;
      are = appended at d x a.events a.are z b.events None (subst (λ (c : Option Description). AreEvents (at + length x) c z b.events None) (sym a.description) b.are);
      description = after_append d a.events b.events ∙ ap (λ (c : Option Description). after_all c b.events) a.description ∙ b.description;
      gtid = gtid_append old a.events b.events ∙ ap (λ (c : Text). gtid_after_all c b.events) a.gtid ∙ b.gtid;
    }

-- what is stored leaves this GTID
record Holds (k : Kept) (gtid : Text) : Type 0 where
  description : Leads None k.stored.description k.description None None
  own : Leads k.description k.stored.gtid k.description None gtid
  tables : (old : Text) → Leads k.description k.stored.tables k.description old old

described : (k : Kept) (y : List ℕ) (e : Event) (x : Description) (g : Text) → Describes y e x → nat_eq e.header.event_type 0x0F ≡ true → Holds (kept_after k y e) (gtid_past g e)
described k y e x g is type = subst (Holds (kept_after k y e)) (sym (gtid_none e g type)) (record {
  description = rw is.description (leads_one None (Some x) y e None None (λ at. is.anywhere at None) (rw is.description refl) (gtid_none e None type));
  own = rw is.description (leads_nowhere (Some x) None);
  tables = λ old. rw (is.description, is.table) (leads_nowhere (Some x) old);
})

one_table : (d : Option Description) (ended : Bool) (stored y : List ℕ) (e : Event) (old : Text) → ((at : ℕ) → (event at d).spells y (placed at e)) → e.description ≡ None → gtid_past old e ≡ old → Leads d stored d old old
    → Leads d ((if ended then [] else stored) ++ y) d old old
one_table d true stored y e old spelled is same h = leads_one d d y e old old spelled (rw is refl) same
one_table d false stored y e old spelled is same h = leads_both d d d stored y old old old h (leads_one d d y e old old spelled (rw is refl) same)

no_table : (d : Option Description) (ended : Bool) (stored : List ℕ) (old : Text) → Leads d stored d old old → Leads d ((if ended then [] else stored) ++ []) d old old
no_table d true stored old h = leads_nowhere d old
no_table d false stored old h = subst (λ (l : List ℕ). Leads d l d old old) (sym (append-nil stored)) h

one_gtid : (d : Option Description) (stored y : List ℕ) (e : Event) (g : Text) (b : Bool) → is_gtid e.header.event_type ≡ b → nat_eq e.header.event_type 0x0F ≡ false → ((at : ℕ) → (event at d).spells y (placed at e)) → e.description ≡ None → Leads d stored d None g
    → Leads d (if b then y else stored) d None (gtid_past g e)
one_gtid d stored y e g true gtid type spelled is h = leads_one d d y e None (gtid_past g e) spelled (rw is refl) (gtid_anew e None g gtid)
one_gtid d stored y e g false gtid type spelled is h = subst (λ (x : Text). Leads d stored d None x) (sym (gtid_same e g gtid type)) h

mapped : (k : Kept) (y : List ℕ) (e : Event) (t : TableMap) (g : Text) → (event k.at k.description).spells y e → Maps k.description e t → nat_eq e.header.event_type 0x0F ≡ false → Holds k g → Holds (kept_after k y e) (gtid_past g e)
mapped k y e t g spelled is type h = subst (Holds (kept_after k y e)) (sym (gtid_same e g is.not_gtid type)) (record {
  description = rw is.description h.description;
  own = rw (is.description, is.not_gtid) h.own;
  tables = λ old. rw (is.description, is.table) (one_table k.description k.in_force.ended k.stored.tables y e old (λ at. moved k.at at k.description y e spelled) is.description (gtid_same e old is.not_gtid type) (h.tables old));
})

plain : (k : Kept) (y : List ℕ) (e : Event) (g : Text) → (event k.at k.description).spells y e → IsPlain k.description e → nat_eq e.header.event_type 0x0F ≡ false → Holds k g → Holds (kept_after k y e) (gtid_past g e)
plain k y e g spelled is type h = record {
  description = rw is.description h.description;
  own = rw is.description (one_gtid k.description k.stored.gtid y e g (is_gtid e.header.event_type) refl type (λ at. moved k.at at k.description y e spelled) is.description h.own);
  tables = λ old. rw (is.description, is.table) (no_table k.description k.in_force.ended k.stored.tables old (h.tables old));
}

-- an event that is no format description has another type
other_type : (e : Event) → is_there e.description ≡ nat_eq e.header.event_type 0x0F → e.description ≡ None → nat_eq e.header.event_type 0x0F ≡ false
other_type e same none = sym same ∙ ap is_there none

own_type : (e : Event) (x : Description) → is_there e.description ≡ nat_eq e.header.event_type 0x0F → e.description ≡ Some x → nat_eq e.header.event_type 0x0F ≡ true
own_type e x same some = sym same ∙ ap is_there some

holds_on : (k : Kept) (y : List ℕ) (e : Event) (g : Text) → (event k.at k.description).spells y e → Holds k g → Holds (kept_after k y e) (gtid_past g e)
holds_on k y e g spelled h =
    let type = type_of k.at k.description y e spelled in
    elim (kind_of k.at k.description y e spelled) [
      | inl x ↦ described k y e x.0 g x.1 (own_type e x.0 type x.1.description)
      | inr o ↦ elim o [
        | inl t ↦ mapped k y e t.0 g spelled t.1 (other_type e type t.1.description) h
        | inr p ↦ plain k y e g spelled p (other_type e type p.description) h
      ]
    ]

holds : {k : Kept} (r : Reached k) → Holds k (gtid_after_all None (events_read r))
holds start = record {
  description = leads_nowhere None None;
  own = leads_nowhere None None;
  tables = leads_nowhere None;
}
holds (next k y e r spelled) =
    subst (Holds (kept_after k y e)) (sym (gtid_append None (events_read r) (e ∷ []))) (holds_on k y e (gtid_after_all None (events_read r)) spelled (holds r))

-- ---- the checkpoint

last_tables : (d : Option Description) (ended : Bool) (stored : List ℕ) (old : Text) → Leads d stored d old old → Leads d (if ended then [] else stored) d old old
last_tables d true stored old h = leads_nowhere d old
last_tables d false stored old h = h

pub gtid_kept : (k : Kept) (r : Reached k) (es : List Event) → AreEventsOfFile (checkpoint_of k) es None → gtid_after_all None es ≡ gtid_after_all None (events_read r)
gtid_kept k r es h =
    let d = k.description in
    let g = gtid_after_all None (events_read r) in
    let s = holds r in
    let b = k.in_force.ended in
    let front = leads_both None d d k.stored.description k.stored.gtid None None g s.description s.own in
    let all = leads_both None d d (k.stored.description ++ k.stored.gtid) (if b then [] else k.stored.tables) None g g front (last_tables d b k.stored.tables g (s.tables g)) 4 in
    ap (gtid_after_all None) (same_events 4 None _ es all.events h all.are) ∙ all.gtid
