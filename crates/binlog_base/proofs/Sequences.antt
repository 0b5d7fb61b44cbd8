-- What was taken from a source by one format and then by another.
use Rattle.std.proofs.Common.{ℕ, List, [], ◌++◌, Option, Some, None, Result, Ok, Err, refl, ap, ◌∙◌, inl, inr}
use Rattle.std.specs.Io.KnownBytes.{Consumes}
use Rattle.std.proofs.KnownBytes.{Consumes-trans}
use Rattle.binlog_base.specs.declared.fault.Fault.{Fault}
use Rattle.binlog_base.specs.Format.{Format, sequence}
use Rattle.binlog_base.specs.Sources.{TakesSpelling, IsLeft}

-- a source from which no bytes were taken is unchanged
pub Consumes-nil : (old : Option (List ℕ)) → Consumes old old []
Consumes-nil None = tt
Consumes-nil (Some x) = refl

-- the bytes that were in a source are those that were taken and those that were left
left_after : (old mid : Option (List ℕ)) (taken bytes : List ℕ) → Consumes old mid taken → IsLeft mid bytes → IsLeft old (taken ++ bytes)
left_after None mid taken bytes c l = tt
left_after (Some x) None taken bytes c l = absurd c
left_after (Some x) (Some y) taken bytes c l = c ∙ ap (λ (t : List ℕ). taken ++ t) l

-- the first format was refused
pub takes_first : {A B : Type 0} (f : Format A) (g : A → Format B) (e : Fault) (old new last : Option (List ℕ)) → TakesSpelling f (Err e) old new → TakesSpelling (sequence f g) (Err e) old last
takes_first f g e old new last h = λ other. let s = h other in (s.0, inl s.1, s.2)

-- the first format was read, and then the second was read or refused
pub takes_then : {A B : Type 0} (f : Format A) (g : A → Format B) (x : A) (r : Result B Fault) (old mid new : Option (List ℕ)) → TakesSpelling f (Ok x) old mid → TakesSpelling (g x) r mid new → TakesSpelling (sequence f g) r old new
takes_then f g x (Ok y) old mid new h k = (h.0 ++ k.0, (x, h.0, k.0, refl, h.1, k.1), Consumes-trans _ _ _ _ _ h.2 k.2)
takes_then f g x (Err e) old mid new h k = λ other. let s = k other in (h.0 ++ s.0, inr (x, h.0, s.0, refl, h.1, s.1), left_after old mid h.0 s.0 h.2 s.2)
