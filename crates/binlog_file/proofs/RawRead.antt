-- The bytes of an event are taken from a source.
use Rattle.std.proofs.Common.{◌≡◌, ◌≢◌, ◌⊎◌, ℕ, ◌-◌, ◌<◌, ◌≤◌, List, [], ◌∷◌, ◌++◌, length, take, Option, Some, None, Result, Ok, Err, refl, sym, ap, subst, ◌∙◌, append-nil, inl, inr, arith}
use Rattle.std.proofs.lemmas.List.{length-take-le}
use Rattle.std.specs.Result.{IsErrAnd}
use Rattle.std.specs.Io.KnownBytes.{Consumes, IsAtEnd}
use Rattle.std.proofs.KnownBytes.{Consumes-trans}
use Rattle.binlog_base.specs.Format.{FormatOf, Parses, within, map_fault}
use Rattle.binlog_base.specs.Lemmas.Format.{exact_within, exact_map_fault}
use Rattle.binlog_base.specs.Format.{IsExactOf}
use Rattle.binlog_base.specs.Sources.{IsLeft}
use Rattle.binlog_events.specs.declared.error.EventError.{EventError}
use Rattle.binlog_events.specs.declared.error.EventError.TheVariants as error
use Rattle.binlog_file.specs.Header.{Header, header}
use Rattle.binlog_file.specs.Lemmas.Formats.{Any, exact_header}
use Rattle.binlog_file.specs.Events.{Raw, raw, raw_event, rest_len}
use Rattle.binlog_file.specs.Stream.{Fills, IsOutside, RawGives}
use Rattle.binlog_file.specs.Workings.Readers.{found}

abbrev pub in_head : List ℕ → FormatOf EventError Header
in_head h = map_fault (within h header) error.Description

exact_head : (h : List ℕ) → IsExactOf Any (in_head h)
exact_head h = exact_map_fault (within h header) error.Description (exact_within h header exact_header) (λ d k. tt)

pub all_taken : (old new : Option (List ℕ)) (x : List ℕ) → Consumes old new x → IsAtEnd new → IsLeft old x
all_taken None new x c end = tt
all_taken (Some y) None x c end = absurd c
all_taken (Some y) (Some z) x c end = c ∙ ap (λ (l : List ℕ). x ++ l) end ∙ append-nil x

-- the bytes that were left, of which these are the first
pub all_left : (old new : Option (List ℕ)) (x : List ℕ) → Consumes old new x → (z : List ℕ) × IsLeft old (x ++ z)
all_left None new x c = ([], tt)
all_left (Some y) None x c = absurd c
all_left (Some y) (Some z) x c = (z, c)

pub not_empty : (x z : List ℕ) → 0 < length x → x ++ z ≢ []
not_empty [] z some none = absurd (omega arith)
not_empty (b ∷ x) z some none = cc

abbrev pub Refused : Option (List ℕ) → EventError → Type 0
Refused old e = IsOutside e ⊎ ((x : List ℕ) × (x ≢ []) × raw_event.refuses x e × IsLeft old x)

pub none_left : (old new : Option (List ℕ)) (h : List ℕ) → Fills 19 old new h → h ≡ [] → IsLeft old []
none_left old new h f none =
    all_taken old new [] (subst (Consumes old new) none f.taken) (f.ends (omega (arith, ap length none)))

pub head_cut : (old new : Option (List ℕ)) (h : List ℕ) → Fills 19 old new h → 0 < length h → length h < 19 → Refused old (error.Cut (19 - length h))
unfolding raw_event
head_cut old new h f some short =
    inr (h, λ none. absurd (omega (arith, some, ap length none)), inl (short, refl), all_taken old new h f.taken (f.ends short))

header_spelled : (h : List ℕ) (hd : Header) → ((x : List ℕ) → Parses (in_head h) (Ok hd) x x) → (in_head h).spells [] hd
header_spelled h hd read = let s = (exact_head h).sound [] hd [] (read []) in (refl, s.2.1, s.2.2, s.2.3, s.2.4)

pub header_refused : (old new : Option (List ℕ)) (h : List ℕ) (e : EventError) → Fills 19 old new h → length h ≡ 19 → ((x : List ℕ) → Parses (in_head h) (Err e) x x) → Refused old e
unfolding raw_event
header_refused old new h e f long read =
    let more = all_left old new h f.taken in
    let r = (exact_head h).refused_sound [] e (read []) in
    inr (h ++ more.0, not_empty h more.0 (omega (arith, long)), inr (h, h, more.0, refl, (refl, long), inl r), more.1)

pub size_refused : (old new : Option (List ℕ)) (h : List ℕ) (hd : Header) (e : EventError) → Fills 19 old new h → length h ≡ 19 → ((x : List ℕ) → Parses (in_head h) (Ok hd) x x) → rest_len hd ≡ Err e → Refused old e
unfolding raw_event
size_refused old new h hd e f long read bad =
    let more = all_left old new h f.taken in
    inr (h ++ more.0, not_empty h more.0 (omega (arith, long)), inr (h, h, more.0, refl, (refl, long), inr (hd, [], more.0, refl, header_spelled h hd read, inl bad)), more.1)

pub rest_cut : (old mid new : Option (List ℕ)) (h r : List ℕ) (hd : Header) (n : ℕ) → Fills 19 old mid h → length h ≡ 19 → ((x : List ℕ) → Parses (in_head h) (Ok hd) x x) → rest_len hd ≡ Ok n
    → Fills n mid new r → length r < n → Refused old (error.Cut (n - length r))
unfolding raw_event
rest_cut old mid new h r hd n f long read len g short =
    inr (
      h ++ r,
      not_empty h r (omega (arith, long)),
      inr (h, h, r, refl, (refl, long), inr (hd, [], r, refl, header_spelled h hd read, inr (n, [], r, refl, (refl, len), inl (short, refl)))),
      all_taken old new (h ++ r) (Consumes-trans old mid new h r f.taken g.taken) (g.ends short),
    )

pub whole : (old mid new : Option (List ℕ)) (h r : List ℕ) (hd : Header) (n : ℕ) → Fills 19 old mid h → length h ≡ 19 → ((x : List ℕ) → Parses (in_head h) (Ok hd) x x) → rest_len hd ≡ Ok n
    → Fills n mid new r → n ≤ length r → RawGives old (Ok (Some (raw h hd r))) new
unfolding raw_event
whole old mid new h r hd n f long read len g enough =
    let all : length r ≡ n = omega (arith, g.fits, enough) in
    (h ++ r, (h, h, r, refl, (refl, long), (hd, [], r, refl, header_spelled h hd read, (n, [], r, refl, (refl, len), (r, r, [], sym (append-nil r), (refl, all), (refl, refl))))), Consumes-trans old mid new h r f.taken g.taken)

-- ---- in a buffer

-- n bytes that came whole
pub full : (n len : ℕ) (items : List ℕ) (old new : Option (List ℕ)) → Fills n old new (take len items) → len ≤ length items → n ≤ len → Fills n old new (take n items) × (length (take n items) ≡ n)
full n len items old new f within enough =
    let have = length-take-le len items within in
    let same : len ≡ n = omega (arith, f.fits, have, enough) in
    (subst (λ (k : ℕ). Fills n old new (take k items)) same f, length-take-le n items (omega (arith, within, enough)))

-- an error that is handed on
pub found_error : {A : Type 0} (f : A → Raw) (old new : Option (List ℕ)) (r : Result (Option A) EventError) (e : EventError) → IsErrAnd r (λ d. d ≡ e) → Refused old e → RawGives old (found f r) new
found_error f old new (Ok x) e is h = absurd is
found_error f old new (Err d) e is h = subst (Refused old) (sym is) h
