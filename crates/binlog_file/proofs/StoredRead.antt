-- What is read of a checkpoint, event after event.
use Rattle.std.proofs.Common.{◌≡◌, ◌≢◌, ◌⊎◌, ◌++◌, ◌<◌, ℕ, Bool, true, false, List, [], length, length-append, append_assoc, append-nil, Option, Some, None, Ok, Err, refl, sym, ap, subst, ◌∙◌, inl, inr, arith}
use Rattle.binlog_events.specs.declared.error.EventError.{EventError}
use Rattle.binlog_events.specs.declared.error.EventError.TheVariants as error
use Rattle.binlog_events.proofs.Reading.{long}
use Rattle.binlog_file.specs.Events.{Event, event, magic}
use Rattle.binlog_file.specs.Stream.{Kept, ReadGives, count_after}
use Rattle.binlog_file.specs.Checkpoints.{TakesStored, NothingStored, ReadsStored, Restores, restored, IsNoCheckpoint, IsRefused, is_of_checkpoint}

-- an event that was read is one that a checkpoint may have, or not
pub stored_or_other : (k l : Kept) (x rest : List ℕ) (e : Event) → ReadGives (Some x) k (Ok (Some e)) (Some rest) l → (b : Bool) → b ≡ is_of_checkpoint k.description e → ReadsStored b k x l rest
stored_or_other k l x rest e g true is = record { bytes = g.0; first = e; begins = g.2; spells = g.1; is_stored = sym is; kept = g.3 }
stored_or_other k l x rest e g false is = inr (g.0, rest, e, g.2, g.1, sym is)

one_failure : (e : EventError) → e ≡ error.Reader → 0 ≡ count_after e 0 → ⊥
one_failure e reader counts =
    let one : 0 ≡ 1 = subst (λ (d : EventError). 0 ≡ count_after d 0) reader counts in
    omega (arith, one)

-- a slice is a source that doesn't fail, so an error is want of memory, or the bytes are no event
pub unread : (k l : Kept) (x : List ℕ) (new : Option (List ℕ)) (e : EventError) → ReadGives (Some x) k (Err e) new l → 0 ≡ count_after e 0 → (e ≡ error.Memory) ⊎ NothingStored k x
unread k l x new e g counts = elim g [
  | inl outside ↦ elim outside [
    | inl reader ↦ absurd (one_failure e reader counts)
    | inr memory ↦ inl memory
  ]
  | inr refused ↦ inr (inl (e, subst (λ (y : List ℕ). y ≢ []) (sym refused.3) refused.1, subst (λ (y : List ℕ). (event k.at k.description).refuses y e) (sym refused.3) refused.2))
]

pub one_more : (c x z rest : List ℕ) (k l : Kept) → c ≡ x ++ z → Restores x k → TakesStored k z l rest → (y : List ℕ) × (c ≡ y ++ rest) × Restores y l
one_more c x z rest k l is r t = (
  x ++ t.bytes,
  is ∙ ap (λ (b : List ℕ). x ++ b) t.begins ∙ sym (append_assoc x t.bytes rest),
  subst (λ (m : Kept). Restores (x ++ t.bytes) m) (sym t.kept) (restored x t.bytes k t.first r t.spells t.is_stored),
)

pub all_read : (c x z : List ℕ) (k : Kept) → z ≡ [] → c ≡ x ++ z → Restores x k → Restores c k
all_read c x z k empty is r = subst (λ (b : List ℕ). Restores b k) (sym (is ∙ ap (λ (b : List ℕ). x ++ b) empty ∙ append-nil x)) r

pub refused_at : (c x z : List ℕ) (k : Kept) (e : EventError) → c ≡ x ++ z → Restores x k → (e ≡ error.Memory) ⊎ ((e ≡ error.NotACheckpoint) × NothingStored k z) → IsRefused c e
refused_at c x z k e is r why = elim why [
  | inl memory ↦ inl memory
  | inr nothing ↦ inr (nothing.0, inr (x, z, k, is, r, nothing.1))
]

pub shorter : (z rest : List ℕ) (k l : Kept) → TakesStored k z l rest → length rest < length z
shorter z rest k l t = omega (arith, ap length t.begins, length-append t.bytes rest, long k.at k.description t.bytes t.first t.spells)
