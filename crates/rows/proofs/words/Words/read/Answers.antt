use Rattle.std.proofs.Common.{arith, ◌≡◌, List, ℕ, [], ◌∷◌, length, refl, sym, ◌∙◌, inr}
use Rattle.std.specs.String.{string_bytes}
use Rattle.std.proofs.lemmas.List.{length-map}
use Rattle.mysql_binlog_rows.specs.Decodes.{Input}
use Rattle.rows.specs.Words.{AreArguments}
use Rattle.rows.proofs.SixWords.{six}
use Rattle.rows.proofs.words.Words.read.Goals as goal

are_six : (c : goal.After-six_words) → c.args.words.now ≡ c.index-words-0.result ∷ c.index-words-1.result ∷ c.index-words-2.result ∷ c.index-words-3.result ∷ c.index-words-4.result ∷ c.index-words-5.result ∷ []
are_six c = six c.args.words.now _ _ _ _ _ _ (omega (arith, c.if-words-ne6)) c.index-words-0.is c.index-words-1.is c.index-words-2.is c.index-words-3.is c.index-words-4.is c.index-words-5.is

pub returns-clause-err : goal.returns-clause-err
returns-clause-err c = rw (are_six c, ← c.deref.ensures, ← c.deref-2.ensures, ← c.deref-3.ensures, ← c.deref-4.ensures, ← c.deref-5.ensures, ← c.deref-6.ensures) c.six_words.ensures.err

pub returns-clause-ok : goal.returns-clause-ok
returns-clause-ok c = rw (are_six c, ← c.deref.ensures, ← c.deref-2.ensures, ← c.deref-3.ensures, ← c.deref-4.ensures, ← c.deref-5.ensures, ← c.deref-6.ensures) c.six_words.ensures.ok

are_counted : (words : List (List ℕ)) (i : Input) → AreArguments words i → length words ≡ 6
are_counted (a ∷ b ∷ c ∷ d ∷ e ∷ f ∷ []) i h = refl
are_counted _ i h = absurd h

pub returns-then-words-ne6-clause-err : goal.returns-then-words-ne6-clause-err
returns-then-words-ne6-clause-err c = inr (λ i h. c.if-words-ne6.true (sym (length-map c.args.words.now string_bytes) ∙ are_counted _ i h))
