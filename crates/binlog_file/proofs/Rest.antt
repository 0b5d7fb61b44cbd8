-- From each place on, the bytes are events, and then nothing or an error.
use Rattle.std.proofs.Common.{◌≡◌, ℕ, zero, suc, ◌+◌, ◌≤◌, List, [], ◌∷◌, length, length-append, Option, Some, None, Ok, Err, refl, ap, arith}
use Rattle.binlog_events.specs.declared.error.FileError.{FileError}
use Rattle.binlog_file.specs.Lemmas.Formats.{exact_event}
use Rattle.binlog_file.specs.Description.{Description}
use Rattle.binlog_file.specs.Events.{Event, event, after, AreEvents}
use Rattle.binlog_events.proofs.Reading.{long}

abbrev Rest : ℕ → Option Description → List ℕ → Type 0
Rest at d x = (es : List Event) × (end : Option FileError) × AreEvents at d x es end

up_to : (n at : ℕ) (d : Option Description) (x : List ℕ) → length x ≤ n → Rest at d x
up_to n at d [] h = ([], None, refl)
up_to zero at d (b ∷ x) h = absurd (omega arith)
up_to (suc n) at d (b ∷ x) h =
    elim ((event at d).parse (b ∷ x)) as (λ r. (event at d).parse (b ∷ x) ≡ r → Rest at d (b ∷ x)) [
      | Ok p ↦ λ read.
          let first = (exact_event at d).sound (b ∷ x) p.0 p.1 read in
          let short : length p.1 ≤ n = omega (arith, ap length first.1, length-append first.0 p.1, long at d first.0 p.0 first.2) in
          let more = up_to n (at + length first.0) (after d p.0) p.1 short in
          (p.0 ∷ more.0, more.1, (first.0, p.1, first.1, first.2, more.2))
      | Err e ↦ λ read.
          ([], Some (record { position = at; error = e }), (λ none. cc, refl, (exact_event at d).refused_sound (b ∷ x) e read))
    ] refl

pub rest_of : (at : ℕ) (d : Option Description) (x : List ℕ) → (es : List Event) × (end : Option FileError) × AreEvents at d x es end
rest_of at d x = up_to (length x) at d x (omega arith)
