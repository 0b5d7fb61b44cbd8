-- Numbers that are written at the end of zeros: the zeros before the digits are their padding.
use Rattle.std.proofs.Common.{◌≡◌, ℕ, ◌+◌, ◌-◌, ◌≤◌, List, ◌++◌, length, take, drop, replicate, sym, ap, ◌∙◌, append_assoc, arith}
use Rattle.std.proofs.lemmas.List.{drop-append-le, take-append-drop, take-take, take-replicate, drop-replicate, length-replicate}

-- The digits are written up to the end of the zeros: those before the digits are left.
pub record AtEnd (new old digits : List ℕ) (at end : ℕ) : Type 0 where
  pub long : at + length digits ≡ end
  pub written : drop at new ≡ digits ++ drop end old
  pub before : take at new ≡ take at old
  pub zeros : take end old ≡ replicate end 48

pub zeros_left : (new old digits : List ℕ) (at end start : ℕ) → AtEnd new old digits at end → start ≤ at → take start new ≡ replicate start 48
zeros_left new old digits at end start a le =
    sym (take-take start at new le) ∙ ap (take start) a.before ∙ take-take start at old le
    ∙ sym (take-take start end old (omega (arith, le, a.long))) ∙ ap (take start) a.zeros ∙ take-replicate start end 48 (omega (arith, le, a.long))

-- from before the digits on are as many zeros, the digits, and what is after them
pub padded : (new old digits : List ℕ) (at end start : ℕ) → AtEnd new old digits at end → start ≤ at → drop start new ≡ (replicate (at - start) 48 ++ digits) ++ drop end old
padded new old digits at end start a le =
    let front : take at new ≡ replicate at 48 = zeros_left new old digits at end at a (omega arith) in
    let whole : new ≡ replicate at 48 ++ (digits ++ drop end old) = sym (take-append-drop at new) ∙ ap (λ (t : List ℕ). t ++ drop at new) front ∙ ap (λ (t : List ℕ). replicate at 48 ++ t) a.written in
    ap (drop start) whole
    ∙ drop-append-le start (replicate at 48) (digits ++ drop end old) (omega (arith, le, length-replicate {A = ℕ} at 48))
    ∙ ap (λ (t : List ℕ). t ++ (digits ++ drop end old)) (drop-replicate start at 48)
    ∙ sym (append_assoc (replicate (at - start) 48) digits (drop end old))
