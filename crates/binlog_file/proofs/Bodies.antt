-- What an event has of the bytes after its header, and by its type.
use Rattle.std.proofs.Common.{◌≡◌, ℕ, ◌-◌, nat_eq, nat_lt, not, ◌||◌, ◌++◌, Bool, true, false, List, [], length, take, drop, arith, Option, Some, None, Result, Ok, Err, refl, sym, ap, subst, ◌∙◌}
use Rattle.std.proofs.Math.Seq.{take-length}
use Rattle.std.proofs.lemmas.List.{take_min, take-take, length-take}
use Rattle.std.specs.Prelude.{if◌then◌else◌, min}
use Rattle.byteorder.specs.Endian.{little_number}
use Rattle.binlog_base.specs.Format.{FormatOf, Parses, all_of, map_value, map_fault}
use Rattle.binlog_table.specs.TableMap.{table_map_of}
use Rattle.binlog_events.specs.declared.error.EventError.{EventError}
use Rattle.binlog_events.specs.declared.error.EventError.TheVariants as error
use Rattle.binlog_file.specs.Crc32.{crc32}
use Rattle.binlog_file.specs.Header.{Header}
use Rattle.binlog_file.specs.Description.{Description, description, post_header_len}
use Rattle.binlog_file.specs.Events.{Raw, Parts, Event, Glance, parts_of, summed, is_checked, summed_head, has_checksum, event, other_event, event_of_raw, is_description, is_rotate, is_supported, rows_type, rows_ctx, with_description, with_table}
use Rattle.binlog_file.specs.Stream.{Kept}
use Rattle.binlog_file.specs.Workings.Taken.{TakesRaw}
use Rattle.binlog_file.specs.Lemmas.Formats.{exact_event_of_raw}
use Rattle.binlog_file.proofs.Sized.{match_either}

-- these are the first bytes of those
abbrev pub Begins : List ℕ → List ℕ → Type 0
Begins body rest = body ≡ take (length body) rest

begins_all : (x rest : List ℕ) → x ≡ rest → Begins x rest
begins_all x rest is = is ∙ sym (take-length rest) ∙ ap (λ (y : List ℕ). take (length y) rest) (sym is)

begins_take : (n : ℕ) (x rest : List ℕ) → x ≡ take n rest → Begins x rest
begins_take n x rest is = is ∙ sym (take_min n rest) ∙ ap (λ (k : ℕ). take k rest) (sym (length-take n rest)) ∙ ap (λ (y : List ℕ). take (length y) rest) (sym is)

chosen : (b : Bool) (q p : Parts) (e : EventError) → (if b then Ok q else Err e) ≡ Ok p → p.body ≡ q.body
chosen true q p e h = cc
chosen false q p e h = absurd cc

not_short : (b : Bool) (e : EventError) (r : Result Parts EventError) (p : Parts) → (if b then Err e else r) ≡ Ok p → r ≡ Ok p
not_short true e r p h = absurd cc
not_short false e r p h = h

parts_begin : (has : Bool) (r : Raw) (p : Parts) → parts_of has r ≡ Ok p → Begins p.body r.rest
unfolding parts_of
parts_begin false r p h = begins_all p.body r.rest cc
parts_begin true r p h =
    let n = length r.rest - 4 in
    let s = not_short (nat_lt (length r.rest) 4) _ (summed (is_checked r) (summed_head r) (little_number 4 (drop n r.rest)) (take n r.rest)) p h in
    begins_take n p.body r.rest (chosen (not (is_checked r) || nat_eq (little_number 4 (drop n r.rest)) (crc32 (summed_head r ++ take n r.rest))) (record { body = take n r.rest; checksum = Some (little_number 4 (drop n r.rest)) }) p _ s)

mapped_body : {A : Type 0} (f : FormatOf EventError A) (g : A → Event) (b : List ℕ) (y : List ℕ) (e : Event) → ((a : A) → (g a).body ≡ b) → (map_value f g).spells y e → e.body ≡ b
mapped_body f g b y e same s = ap (λ (x : Event). x.body) s.5.1 ∙ same s.0

other_body : (at : ℕ) (d : Option Description) (h : Header) (p : Parts) (y : List ℕ) (e : Event) → (other_event at d h p).spells y e → e.body ≡ p.body
other_body at None h p y e s = match_either (is_rotate h) (λ q. ap (λ (x : Event). x.body) q.1) (λ q. absurd q) s
other_body at (Some d) h p y e s =
    match_either (nat_eq h.event_type 0x13) (mapped_body (map_fault (all_of p.body (table_map_of d.server (post_header_len d 0x13))) error.TableMap) (with_table at h p) p.body y e (λ a. refl)) (match_either (is_supported h) (λ q. ap (λ (x : Event). x.body) q.1) (λ q. absurd q)) s

-- an event's body begins the bytes after its header
body_begins : (at : ℕ) (d : Option Description) (r : Raw) (y : List ℕ) (e : Event) → (event_of_raw at d r).spells y e → Begins e.body r.rest
body_begins at d r y e s =
    let same : e.body ≡ s.0.body = match_either (is_description r) (mapped_body (all_of s.0.body (description (length s.0.body))) (with_description at r.header s.0) s.0.body s.2 e (λ a. refl)) (other_body at d r.header s.0 s.2 e) s.5 in
    subst (λ (b : List ℕ). Begins b r.rest) (sym same) (parts_begin (has_checksum d r) r s.0 s.4.1)

-- the same of an event that was read
read_begins : (at : ℕ) (d : Option Description) (r : Raw) (e : Event) → ((x : List ℕ) → Parses (event_of_raw at d r) (Ok e) x x) → Begins e.body r.rest
read_begins at d r e read =
    let s = (exact_event_of_raw at d r).sound [] e [] (read []) in
    body_begins at d r s.0 e s.2

-- the same of a glance at an event that was taken
pub taken_begins : (k l : Kept) (r : Raw) (g : Glance) → TakesRaw k r (Ok g) l → Begins g.body r.rest
taken_begins k l r g t = subst (λ (b : List ℕ). Begins b r.rest) (sym (ap (λ (x : Glance). x.body) t.1)) (read_begins k.at k.description r t.0 t.2)

-- what begins the first bytes of others begins these
pub begins_longer : (n : ℕ) (body rest : List ℕ) → Begins body (take n rest) → Begins body rest
begins_longer n body rest h =
    let k = length body in
    let short : k ≡ min k (length (take n rest)) = ap length h ∙ length-take k (take n rest) in
    h ∙ take-take k n rest (omega (arith, short, length-take n rest))

-- ---- events that aren't rows events

no_ctx : (d : Description) (n : ℕ) → rows_type n ≡ None → rows_ctx d n ≡ None
unfolding rows_ctx
no_ctx d n none = rw none refl

mapped_rows : {A : Type 0} (f : FormatOf EventError A) (g : A → Event) (y : List ℕ) (e : Event) → ((a : A) → (g a).rows ≡ None) → (map_value f g).spells y e → e.rows ≡ None
mapped_rows f g y e none s = ap (λ (x : Event). x.rows) s.5.1 ∙ none s.0

other_rows : (at : ℕ) (d : Option Description) (h : Header) (p : Parts) (y : List ℕ) (e : Event) → rows_type e.header.event_type ≡ None → (other_event at d h p).spells y e → e.rows ≡ None
other_rows at None h p y e none s = match_either (is_rotate h) (λ q. ap (λ (x : Event). x.rows) q.1) (λ q. absurd q) s
other_rows at (Some d) h p y e none s =
    match_either (nat_eq h.event_type 0x13) (mapped_rows (map_fault (all_of p.body (table_map_of d.server (post_header_len d 0x13))) error.TableMap) (with_table at h p) y e (λ a. refl))
    (match_either (is_supported h) (λ q. ap (λ (x : Event). x.rows) q.1 ∙ no_ctx d h.event_type (subst (λ (n : ℕ). rows_type n ≡ None) (ap (λ (x : Event). x.header.event_type) q.1) none)) (λ q. absurd q)) s

-- an event of a type that no rows event has isn't read as one
pub no_rows : (at : ℕ) (d : Option Description) (y : List ℕ) (e : Event) → rows_type e.header.event_type ≡ None → (event at d).spells y e → e.rows ≡ None
unfolding event
no_rows at d y e none s =
    let q = s.5 in
    match_either (is_description s.0) (mapped_rows (all_of q.0.body (description (length q.0.body))) (with_description at s.0.header q.0) q.2 e (λ a. refl)) (other_rows at d s.0.header q.0 q.2 e none) q.5
