-- The formats of numbers of a fixed width are exact, and what is written of a number is read back.
use Rattle.std.proofs.Common.{◌≡◌, ℕ, ◌<◌, ◌≤◌, ◌^◌, min, List, [], ◌++◌, length, refl, sym, ap, ◌∙◌, append-nil, arith}
use Rattle.binlog_base.specs.Format.{IsExact, HasWidth, take_bytes}
use Rattle.std.specs.Prelude.{Some}
use Rattle.binlog_base.specs.Lemmas.Format.{exact_take_bytes, exact_map_value, bytes_width}
use Rattle.binlog_base.specs.Coding.{Coding, HasRoom}
use Rattle.binlog_base.specs.Fixed.{fixed}

pub exact_fixed : {A : Type 0} (number : ℕ → List ℕ → ℕ) (value : ℕ → ℕ → A) (w : ℕ) → IsExact (fixed number value w)
unfolding fixed
exact_fixed number value w = exact_map_value (take_bytes w) (λ x. value w (number w x)) (exact_take_bytes w)

pub fixed_width : {A : Type 0} (number : ℕ → List ℕ → ℕ) (value : ℕ → ℕ → A) (w : ℕ) → HasWidth (Some w) (fixed number value w)
unfolding fixed
fixed_width number value w = bytes_width w (λ x. value w (number w x))

pub fixed_written : {A : Type 0} {size : ℕ} (c : Coding A size) (number : ℕ → List ℕ → ℕ) (spelling : ℕ → ℕ → List ℕ)
    → ((n x : ℕ) (more : List ℕ) → x < 256 ^ n → number n (spelling n x ++ more) ≡ x)
    → ((n x : ℕ) → length (spelling n x) ≡ n)
    → (w : ℕ) → HasRoom size w → (a : A) → c.Fits w a → (fixed number c.value w).spells (spelling w (c.bits w a)) a
unfolding fixed
fixed_written c number spelling back long w room a fits =
    let x = spelling w (c.bits w a) in
    let read : number w x ≡ c.bits w a = ap (number w) (sym (append-nil x)) ∙ back w (c.bits w a) [] (c.bits_fit w a) in
    (x, x, [], sym (append-nil x), (refl, long w (c.bits w a)), (refl, sym (ap (c.value w) read ∙ c.told w a room.some room.most fits)))

-- a width that fits a type's size is read as it is
pub few : (w size : ℕ) → w ≤ size → min w size ≡ w
few w size h = omega arith
