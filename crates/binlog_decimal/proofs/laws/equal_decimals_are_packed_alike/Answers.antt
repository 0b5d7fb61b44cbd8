use Rattle.std.proofs.Common.{◌≡◌, ℕ, true, List, sym, ap, ◌∙◌, refl}
use Rattle.std.specs.Ordering.{nat_cmp, is_eq}
use Rattle.std.specs.declared.cmp.Ordering.{Ordering}
use Rattle.std.specs.declared.cmp.Ordering.TheVariants.{Less, Equal, Greater}
use Rattle.std.specs.Cmp.Lexicographic.{slice_cmp, bytes_decides, texts_ties}
use Rattle.binlog_decimal.specs.Decimals.{packed_bytes}
use Rattle.binlog_decimal.proofs.laws.equal_decimals_are_packed_alike.Goals as goal

equal_from : (o : Ordering) → is_eq o ≡ true → o ≡ Equal
equal_from Less h = absurd cc
equal_from Equal h = refl
equal_from Greater h = absurd cc

alike : (xs ys : List ℕ) → slice_cmp nat_cmp xs ys ≡ Equal → xs ≡ ys
alike xs ys h = (bytes_decides xs ys).0 (texts_ties xs ys ∙ ap is_eq h)

equal : (xs ys : List ℕ) → xs ≡ ys → slice_cmp nat_cmp xs ys ≡ Equal
equal xs ys h = equal_from (slice_cmp nat_cmp xs ys) (sym (texts_ties xs ys) ∙ (bytes_decides xs ys).1 h)

pub returns : goal.returns
returns c = λ a b. (alike (packed_bytes a) (packed_bytes b), equal (packed_bytes a) (packed_bytes b))
