use Rattle.std.proofs.Common.{◌≡◌, ℕ, List, sym, ◌∙◌, Ok, Err, Result, inl, inr}
use Rattle.std.specs.Str.{is_utf8, IsUtf8}
use Rattle.std.specs.Result.{MatchResult, is_ok}
use Rattle.std.proofs.lemmas.Bool.{cases_Bool}
use Rattle.std.proofs.lemmas.Str.{IsUtf8-from_is_utf8, is_utf8-from_IsUtf8}
use Rattle.table_schema.proofs.line.is_utf8.Goals as goal

tells : {S E : Type 0} (r : Result S E) (P : S → Type 0) (Q : E → Type 0) (bs : List ℕ) → MatchResult r (λ s. P s × IsUtf8 bs) (λ e. ¬ IsUtf8 bs × Q e) → is_ok r ≡ is_utf8 bs
tells (Ok s) P Q bs h = sym (is_utf8-from_IsUtf8 bs h.1)
tells (Err e) P Q bs h = elim (cases_Bool (is_utf8 bs)) [ inl t ↦ absurd (h.0 (IsUtf8-from_is_utf8 bs t)) | inr f ↦ sym f ]

pub returns : goal.returns
returns c = c.is_ok.ensures.value ∙ tells c.from_utf8.result _ _ c.args.bytes.now c.from_utf8.ensures.cases
