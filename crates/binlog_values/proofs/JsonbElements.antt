-- One element after another.
use Rattle.std.proofs.Common.{◌≡◌, ℕ, suc, ◌+◌, ◌-◌, ◌<◌, ◌≤◌, [], ◌∷◌, Result, refl, ap, arith}
use Rattle.binlog_base.specs.declared.fault.Fault.{Fault}
use Rattle.binlog_base.specs.Faults.{OfBytes}
use Rattle.binlog_base.specs.Items.{result_map}
use Rattle.binlog_base.specs.Lemmas.Faults.{mapped_of_bytes}
use Rattle.binlog_values.specs.declared.jsonb.value.Value.{Value}
use Rattle.binlog_values.specs.JsonbValues.{Frame, element_at}
use Rattle.binlog_values.specs.JsonbViews.{view_of}
use Rattle.binlog_values.specs.Lemmas.JsonbValues.{element_of_bytes}
use Rattle.binlog_values.specs.JsonbElements.{places, from}

pub from_next : {A : Type 0} (f : Frame → ℕ → Result A Fault) (c : Frame) (i : ℕ) → i < c.count → from f c i ≡ f c i ∷ from f c (i + 1)
from_next f c i lt =
    let k : c.count - i ≡ suc (c.count - suc i) = omega arith in
    let next : suc i ≡ i + 1 = omega arith in
    rw k (ap (λ (j : ℕ). f c i ∷ places (f c) (c.count - j) j) next)

pub from_end : {A : Type 0} (f : Frame → ℕ → Result A Fault) (c : Frame) (i : ℕ) → c.count ≤ i → from f c i ≡ []
from_end f c i le =
    let k : c.count - i ≡ 0 = omega arith in
    rw k refl

-- what is read of an element is a value, or a fault that bytes can have
pub value_of_bytes : (c : Frame) (i : ℕ) (r : Result Value Fault) → result_map view_of r ≡ element_at c i → OfBytes r
value_of_bytes c i r h = mapped_of_bytes view_of r (element_at c i) h (element_of_bytes c i)
