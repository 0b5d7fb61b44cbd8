-- The size in an event's header is how many bytes the event has.
use Rattle.std.proofs.Common.{◌≡◌, ℕ, ◌+◌, nat_eq, Bool, true, false, List, [], ◌++◌, length, length-append, Option, Some, None, Ok, refl, ap, ◌∙◌, arith}
use Rattle.std.proofs.lemmas.Bool.Decides.{nat_tests}
use Rattle.std.specs.Bool.{MatchBool}
use Rattle.binlog_base.specs.Format.{FormatOf, all_of, map_value, map_fault}
use Rattle.binlog_table.specs.TableMap.{table_map_of}
use Rattle.binlog_events.specs.declared.error.EventError.{EventError}
use Rattle.binlog_events.specs.declared.error.EventError.TheVariants as error
use Rattle.binlog_file.specs.Header.{Header}
use Rattle.binlog_file.specs.Description.{Description, description, post_header_len}
use Rattle.binlog_file.specs.Events.{Raw, Parts, Event, raw_event, event, other_event, event_of_raw, is_description, is_rotate, is_supported, rest_len, with_description, with_table}

pub match_either : {P Q R : Type 0} (b : Bool) → (P → R) → (Q → R) → MatchBool b P Q → R
match_either true f g h = f h
match_either false f g h = g h

no_bytes_left : (y u v : List ℕ) → y ≡ u ++ v → u ≡ [] → v ≡ [] → y ≡ []
no_bytes_left y u v s p q = s ∙ ap (λ (l : List ℕ). l ++ v) p ∙ q

mapped : {A : Type 0} (f : FormatOf EventError A) (g : A → Event) (h : Header) (y : List ℕ) (e : Event) → ((u : List ℕ) (a : A) → f.spells u a → u ≡ []) → ((a : A) → (g a).header ≡ h) → (map_value f g).spells y e
    → (y ≡ []) × (e.header ≡ h)
mapped f g h y e empty same s = (no_bytes_left y s.1 s.2 s.3 (empty s.1 s.0 s.4) s.5.0, ap (λ (x : Event). x.header) s.5.1 ∙ same s.0)

of_other : (at : ℕ) (d : Option Description) (h : Header) (p : Parts) (y : List ℕ) (e : Event) → (other_event at d h p).spells y e → (y ≡ []) × (e.header ≡ h)
of_other at None h p y e s = match_either (is_rotate h) (λ q. (q.0, ap (λ (x : Event). x.header) q.1)) (λ q. absurd q) s
of_other at (Some d) h p y e s =
    match_either (nat_eq h.event_type 0x13) (mapped (map_fault (all_of p.body (table_map_of d.server (post_header_len d 0x13))) error.TableMap) (with_table at h p) h y e (λ u a q. q.0) (λ a. refl)) (match_either (is_supported h) (λ q. (q.0, ap (λ (x : Event). x.header) q.1)) (λ q. absurd q)) s

-- what the bytes of an event say takes no more bytes, and has their header
pub of_raw : (at : ℕ) (d : Option Description) (r : Raw) (y : List ℕ) (e : Event) → (event_of_raw at d r).spells y e → (y ≡ []) × (e.header ≡ r.header)
of_raw at d r y e s =
    let more : (s.2 ≡ []) × (e.header ≡ r.header) = match_either (is_description r) (mapped (all_of s.0.body (description (length s.0.body))) (with_description at r.header s.0) r.header s.2 e (λ u a q. q.0) (λ a. refl)) (of_other at d r.header s.0 s.2 e) s.5 in
    (no_bytes_left y s.1 s.2 s.3 s.4.0 more.0, more.1)

rest_is : (h : Header) (n : ℕ) → rest_len h ≡ Ok n → h.event_size ≡ n + 19
rest_is h n e = grind (arith, nat_tests)

pub sized : (at : ℕ) (d : Option Description) (y : List ℕ) (e : Event) → (event at d).spells y e → e.header.event_size ≡ length y
unfolding event raw_event
sized at d y e s =
    let q = s.4 in
    let body = of_raw at d s.0 s.2 e s.5 in
    let size : e.header.event_size ≡ q.5.0.event_size = ap (λ (x : Header). x.event_size) (body.1 ∙ ap (λ (x : Raw). x.header) q.5.5.5.5.1) in
    omega (
      arith,
      size,
      rest_is q.5.0 q.5.5.0 q.5.5.4.1,
      ap length s.3,
      length-append s.1 s.2,
      ap length body.0,
      ap length q.3,
      length-append q.1 q.2,
      q.4.1,
      ap length q.5.3,
      length-append q.5.1 q.5.2,
      ap length q.5.4.0,
      ap length q.5.5.3,
      length-append q.5.5.1 q.5.5.2,
      ap length q.5.5.4.0,
      ap length q.5.5.5.3,
      length-append q.5.5.5.1 q.5.5.5.2,
      ap length q.5.5.5.5.0,
      q.5.5.5.4.1,
    )
