-- The layout of an event doesn't depend on its position, and that of a format description neither on the
-- description before it.
use Rattle.std.proofs.Common.{◌≡◌, ◌⊎◌, ℕ, nat_eq, Bool, true, false, List, length, Option, Some, None, is_some, refl, sym, ap, subst, ◌∙◌, inl, inr, arith}
use Rattle.std.proofs.lemmas.Bool.Decides.{nat_tests}
use Rattle.std.specs.Bool.{MatchBool}
use Rattle.binlog_base.specs.Format.{FormatOf, all_of, map_value, map_fault}
use Rattle.binlog_table.specs.TableMap.{TableMap, table_map_of}
use Rattle.binlog_events.specs.declared.error.EventError.{EventError}
use Rattle.binlog_events.specs.declared.error.EventError.TheVariants as error
use Rattle.binlog_file.specs.Header.{Header}
use Rattle.binlog_file.specs.Description.{Description, description, post_header_len}
use Rattle.binlog_file.specs.Workings.Stored.{is_gtid}
use Rattle.binlog_file.specs.Events.{Raw, Parts, Event, event, other_event, event_of_raw, is_description, is_rotate, is_supported, has_checksum, rows_type, rows_ctx, with_description, with_table}

abbrev pub placed : ℕ → Event → Event
placed at e = record e { position = at }

match_both : {P Q S T : Type 0} (b : Bool) → (P → S) → (Q → T) → MatchBool b P Q → MatchBool b S T
match_both true f g h = f h
match_both false f g h = g h

match_with : {P Q R : Type 0} (b : Bool) → (b ≡ true → P → R) → (b ≡ false → Q → R) → MatchBool b P Q → R
match_with true f g h = f refl h
match_with false f g h = g refl h

moved_value : {A : Type 0} (to : ℕ) (f : FormatOf EventError A) (g h : A → Event) (y : List ℕ) (e : Event) → ((a : A) → h a ≡ placed to (g a)) → (map_value f g).spells y e → (map_value f h).spells y (placed to e)
moved_value to f g h y e same s = (s.0, s.1, s.2, s.3, s.4, (s.5.0, ap (placed to) s.5.1 ∙ sym (same s.0)))

moved_other : (from to : ℕ) (d : Option Description) (h : Header) (p : Parts) (y : List ℕ) (e : Event) → (other_event from d h p).spells y e → (other_event to d h p).spells y (placed to e)
moved_other from to None h p y e s = match_both (is_rotate h) (λ q. (q.0, ap (placed to) q.1)) (λ q. absurd q) s
moved_other from to (Some d) h p y e s =
    match_both (nat_eq h.event_type 0x13) (moved_value to (map_fault (all_of p.body (table_map_of d.server (post_header_len d 0x13))) error.TableMap) (with_table from h p) (with_table to h p) y e (λ a. refl)) (match_both (is_supported h) (λ q. (q.0, ap (placed to) q.1)) (λ q. absurd q)) s

moved_raw : (from to : ℕ) (d : Option Description) (r : Raw) (y : List ℕ) (e : Event) → (event_of_raw from d r).spells y e → (event_of_raw to d r).spells y (placed to e)
moved_raw from to d r y e s =
    (s.0, s.1, s.2, s.3, s.4, match_both (is_description r) (moved_value to (all_of s.0.body (description (length s.0.body))) (with_description from r.header s.0) (with_description to r.header s.0) s.2 e (λ a. refl)) (moved_other from to d r.header s.0 s.2 e) s.5)

pub moved : (from to : ℕ) (d : Option Description) (y : List ℕ) (e : Event) → (event from d).spells y e → (event to d).spells y (placed to e)
unfolding event
moved from to d y e s = (s.0, s.1, s.2, s.3, s.4, moved_raw from to d s.0 s.2 e s.5)

pub refused_moved : (from to : ℕ) (d : Option Description) (x : List ℕ) (e : EventError) → (event from d).refuses x e → (event to d).refuses x e
unfolding event
refused_moved from to None x e r = r
refused_moved from to (Some d) x e r = r

-- ---- what an event is

-- a format description, whatever description is in force before it
pub record Describes (y : List ℕ) (e : Event) (x : Description) : Type 0 where
  pub description : e.description ≡ Some x
  pub table : e.table ≡ None
  pub rows : e.rows ≡ None
  pub anywhere : (to : ℕ) (d : Option Description) → (event to d).spells y (placed to e)

-- a table map event, which comes after a description
pub record Maps (d : Option Description) (e : Event) (t : TableMap) : Type 0 where
  pub description : e.description ≡ None
  pub table : e.table ≡ Some t
  pub rows : e.rows ≡ None
  pub not_gtid : is_gtid e.header.event_type ≡ false
  pub described : is_some d ≡ true

-- any other event; a GTID event comes after a description
pub record IsPlain (d : Option Description) (e : Event) : Type 0 where
  pub description : e.description ≡ None
  pub table : e.table ≡ None
  pub rows : is_gtid e.header.event_type ≡ true → e.rows ≡ None
  pub described : is_gtid e.header.event_type ≡ true → is_some d ≡ true

abbrev pub Kind : Option Description → List ℕ → Event → Type 0
Kind d y e = ((x : Description) × Describes y e x) ⊎ (((t : TableMap) × Maps d e t) ⊎ IsPlain d e)

same_checksum : (r : Raw) (c d : Option Description) → is_description r ≡ true → has_checksum c r ≡ has_checksum d r
same_checksum r None None is = refl
same_checksum r None (Some d) is = rw is refl
same_checksum r (Some c) None is = rw is refl
same_checksum r (Some c) (Some d) is = rw is refl

gtid_rows : (n : ℕ) → is_gtid n ≡ true → rows_type n ≡ None
gtid_rows n is = grind (arith, nat_tests)

not_gtid : (n : ℕ) → nat_eq n 0x13 ≡ true → is_gtid n ≡ false
not_gtid n is = grind (arith, nat_tests)

rotate_gtid : (n : ℕ) → nat_eq n 0x04 ≡ true → is_gtid n ≡ true → false ≡ true
rotate_gtid n is gtid = grind (arith, nat_tests)

no_rows : (d : Description) (n : ℕ) → is_gtid n ≡ true → rows_ctx d n ≡ None
unfolding rows_ctx
no_rows d n is = rw (gtid_rows n is) refl

kind_of_other : (at : ℕ) (d : Option Description) (h : Header) (p : Parts) (y : List ℕ) (e : Event) → (other_event at d h p).spells y e → ((t : TableMap) × Maps d e t) ⊎ IsPlain d e
kind_of_other at None h p y e s = inr (match_with (is_rotate h)
    (λ is q. record {
      description = ap (λ (x : Event). x.description) q.1;
      table = ap (λ (x : Event). x.table) q.1;
      rows = λ gtid. ap (λ (x : Event). x.rows) q.1;
      described = λ gtid. rotate_gtid h.event_type is (subst (λ (x : Header). is_gtid x.event_type ≡ true) (ap (λ (x : Event). x.header) q.1) gtid);
    })
    (λ is q. absurd q)
    s)
kind_of_other at (Some d) h p y e s = match_with (nat_eq h.event_type 0x13)
    (λ is q.
    let head : e.header ≡ h = ap (λ (x : Event). x.header) q.5.1 in
    inl (
      q.0,
      record {
        description = ap (λ (x : Event). x.description) q.5.1;
        table = ap (λ (x : Event). x.table) q.5.1;
        rows = ap (λ (x : Event). x.rows) q.5.1;
        not_gtid = rw head (not_gtid h.event_type is);
        described = refl;
      },
    ))
    (λ not_table s. match_with (is_supported h)
    (λ is q.
    let head : e.header ≡ h = ap (λ (x : Event). x.header) q.1 in
    inr (record {
      description = ap (λ (x : Event). x.description) q.1;
      table = ap (λ (x : Event). x.table) q.1;
      rows = λ gtid. ap (λ (x : Event). x.rows) q.1 ∙ no_rows d h.event_type (subst (λ (x : Header). is_gtid x.event_type ≡ true) head gtid);
      described = λ gtid. refl;
    }))
    (λ is q. absurd q) s)
    s

pub kind_of : (at : ℕ) (d : Option Description) (y : List ℕ) (e : Event) → (event at d).spells y e → Kind d y e
unfolding event
kind_of at d y e s =
    let r = s.0 in
    let t = s.5 in
    match_with (is_description r)
    (λ is q. inl (
      q.0,
      record {
        description = ap (λ (x : Event). x.description) q.5.1;
        table = ap (λ (x : Event). x.table) q.5.1;
        rows = ap (λ (x : Event). x.rows) q.5.1;
        anywhere = λ to c. (s.0, s.1, s.2, s.3, s.4, moved_raw at to c r s.2 e (t.0, t.1, t.2, t.3, (t.4.0, rw (same_checksum r c d is) t.4.1), rw is (q.0, q.1, q.2, q.3, q.4, q.5)));
      },
    ))
    (λ is q. inr (kind_of_other at d r.header t.0 t.2 e q))
    t.5
