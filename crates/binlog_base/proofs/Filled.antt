-- The result of a call that took the bytes of a value of known width from a source, and then parsed
-- them.
use Rattle.std.proofs.lemmas.List.{length-take-le}
use Rattle.std.proofs.Common.{◌≡◌, ◌≢◌, ◌≤◌, ℕ, Bool, false, true, List, [], ◌∷◌, take, ◌++◌, length, Option, Some, None, Result, Ok, Err, refl, sym, ap, subst, ◌∙◌, append-nil}
use Rattle.std.specs.Io.KnownBytes.{Consumes}
use Rattle.binlog_base.specs.declared.fault.Fault.{Fault}
use Rattle.binlog_base.specs.declared.fault.Fault.TheVariants as fault
use Rattle.binlog_base.specs.Format.{Format, IsExact, Parses, OrMemoryIf, ◌>>=◌}
use Rattle.binlog_base.specs.Lemmas.Format.{ok_is}
use Rattle.binlog_base.specs.Failures.{CountsFailure, IsShort, count_after}
use Rattle.binlog_base.specs.Sources.{TakesSpelling, Answers}
use Rattle.binlog_base.specs.Faults.{IsOfBytes}
use Rattle.binlog_base.specs.Widths.{IsOfWidth}
use Rattle.binlog_base.proofs.Known.{answers}

-- fewer than n bytes were left in the source
pub short_takes : {Y : Type 0} (n : ℕ) (f : Format Y) → IsExact f → IsOfWidth n f → (e : Fault) (old last : Option (List ℕ)) → (e ≢ fault.Reader → (e ≡ fault.UnexpectedEof) × IsShort old n) → TakesSpelling f (Err e) old last
short_takes n f ef wf e None last h = λ other. let s = h other in ([], ef.refused_sound [] e (wf.short [] s.1 ∙ ap (λ (d : Fault). Err d) (sym s.0)), tt)
short_takes n f ef wf e (Some x) last h = λ other. let s = h other in (x, ef.refused_sound x e (wf.short x s.1 ∙ ap (λ (d : Fault). Err d) (sym s.0)), refl)

-- parsing n bytes leaves none of them
none_left : {Y : Type 0} (n : ℕ) (f : Format Y) → IsOfWidth n f → (y : Y) (taken left : List ℕ) → length taken ≡ n → f.parse taken ≡ Ok (y, left) → left ≡ []
none_left {Y} n f wf y taken left long h =
    let again : f.parse taken ≡ Ok (y, []) = ap f.parse (sym (append-nil taken)) ∙ wf.whole taken [] long ∙ ap (λ (r : Result (Y × List ℕ) Fault). r >>= λ p. Ok (p.0, [])) h in
    ap (λ (p : Y × List ℕ). p.1) (ok_is (y, left) (y, []) (sym h ∙ again))

-- n bytes were taken and parsed
pub filled_takes : {Y : Type 0} (n : ℕ) (f : Format Y) → IsExact f → IsOfWidth n f → (r : Result Y Fault) (old new : Option (List ℕ)) (taken left : List ℕ) → length taken ≡ n → Consumes old new taken → Parses f r taken left → TakesSpelling f r old new
filled_takes n f ef wf (Ok y) old new taken left long c h =
    let all = ef.sound taken y left h in
    let none : all.0 ≡ taken = sym (all.1 ∙ ap (λ (l : List ℕ). all.0 ++ l) (none_left n f wf y taken left long h) ∙ append-nil all.0) in
    (taken, subst (λ (t : List ℕ). f.spells t y) none all.2, c)
filled_takes n f ef wf (Err e) None new taken left long c h = λ other. (taken, ef.refused_sound taken e h, tt)
filled_takes n f ef wf (Err e) (Some old) None taken left long c h = absurd c
filled_takes {Y} n f ef wf (Err e) (Some old) (Some new) taken left long c h =
    let refused : f.parse old ≡ Err e = ap f.parse c ∙ wf.whole taken new long ∙ ap (λ (r : Result (Y × List ℕ) Fault). r >>= λ p. Ok (p.0, new)) h in
    λ other. (old, ef.refused_sound old e refused, refl)

-- a fault that bytes can have, or Memory, leaves the count of failures as it is
keeps_count : (e : Fault) (n : ℕ) → (e ≢ fault.Memory → IsOfBytes e) → count_after e n ≡ n
keeps_count fault.Reader n h = let of_bytes : IsOfBytes fault.Reader = h (λ same. cc) in absurd cc
keeps_count _ n h = refl

filled_counts : {Y : Type 0} (takes : Bool) (f : Format Y) → IsExact f → (r : Result Y Fault) (n m : ℕ) (taken left : List ℕ) → m ≡ n → OrMemoryIf takes r (Parses f r taken left) → CountsFailure r n m
filled_counts false f ef (Ok y) n m taken left is h = is
filled_counts true f ef (Ok y) n m taken left is h = is
filled_counts false f ef (Err e) n m taken left is h = is ∙ sym (keeps_count e n (λ other. ef.of_bytes taken e (ef.refused_sound taken e h)))
filled_counts true f ef (Err e) n m taken left is h = is ∙ sym (keeps_count e n (λ other. ef.of_bytes taken e (ef.refused_sound taken e (h other))))

-- ---- the whole result

pub short_answers : {Y : Type 0} (takes : Bool) (n : ℕ) (f : Format Y) → IsExact f → IsOfWidth n f → (e : Fault) (old new : Option (List ℕ)) (failures failures_after : ℕ)
    → (e ≢ fault.Reader → (e ≡ fault.UnexpectedEof) × IsShort old n) → CountsFailure {X = Y} (Err e) failures failures_after
    → Answers takes f (Err e) old new failures failures_after
short_answers {Y = Y} takes n f ef wf e old new m k h c = answers {Y = Y} takes f ef (Err e) old new m k (short_or takes) c
  where
    short_or : (takes : Bool) → OrMemoryIf {X = Y} takes (Err e) (TakesSpelling f (Err e) old new)
    short_or false = short_takes n f ef wf e old new h
    short_or true = λ other. short_takes n f ef wf e old new h

pub filled_answers : {Y : Type 0} (takes : Bool) (n : ℕ) (f : Format Y) → IsExact f → IsOfWidth n f → (r : Result Y Fault) (old new : Option (List ℕ)) (failures failures_after : ℕ) (taken left : List ℕ)
    → length taken ≡ n → Consumes old new taken → failures_after ≡ failures → OrMemoryIf takes r (Parses f r taken left)
    → Answers takes f r old new failures failures_after
filled_answers {Y = Y} takes n f ef wf r old new m k taken left long c is h =
    answers takes f ef r old new m k (filled_or takes r h) (filled_counts takes f ef r m k taken left is h)
  where
    filled_or : (takes : Bool) (r : Result Y Fault) → OrMemoryIf takes r (Parses f r taken left) → OrMemoryIf takes r (TakesSpelling f r old new)
    filled_or false r h = filled_takes n f ef wf r old new taken left long c h
    filled_or true (Ok y) h = filled_takes n f ef wf (Ok y) old new taken left long c h
    filled_or true (Err e) h = λ other. filled_takes n f ef wf (Err e) old new taken left long c (h other)

-- the first n of eight bytes are n bytes
pub of_eight : {Y : Type 0} (n : ℕ) (f : Format Y) → n ≤ 8 → IsOfWidth n f → IsOfWidth (length {A = ℕ} (take n (0 ∷ 0 ∷ 0 ∷ 0 ∷ 0 ∷ 0 ∷ 0 ∷ 0 ∷ []))) f
of_eight n f most = subst (λ (w : ℕ). IsOfWidth w f) (sym (length-take-le n (0 ∷ 0 ∷ 0 ∷ 0 ∷ 0 ∷ 0 ∷ 0 ∷ 0 ∷ []) most))
