use Rattle.std.proofs.Common.{◌≡◌, ◌∙◌, ℕ, Bool, false, sym, ap, subst, get_or, length, arith}
use Rattle.std.specs.Prelude.{◌==◌, ◌&&◌, not}
use Rattle.std.specs.List.{list_any, range_with_len}
use Rattle.changed_rows.specs.Patterns.{has_point, is_point}
use Rattle.changed_rows.proofs.Patterns.{one_is, none_more, takes_more}
use Rattle.changed_rows.proofs.pattern.has_point.Goals as goal

pub returns-then-is_point : goal.returns-then-is_point
unfolding has_point
returns-then-is_point c =
    let text = c.args.pattern.now in
    let i = c.loop-byte.byte-index in
    let here : is_point text i ≡ c.is_point.result = ap (λ (b : Bool). get_or text i 0 == 46 && not b) (sym c.loop-byte.invariant.taken) ∙ sym c.is_point.ensures in
    sym (one_is (λ n. is_point text n) (length text) i c.loop-byte-test.true (here ∙ c.if-is_point.true))

pub loop-byte-preserved : goal.loop-byte-preserved
loop-byte-preserved c =
    let text = c.args.pattern.now in
    let i = c.loop-byte.byte-index in
    let here : is_point text i ≡ c.is_point.result = ap (λ (b : Bool). get_or text i 0 == 46 && not b) (sym c.loop-byte.invariant.taken) ∙ sym c.is_point.ensures in
    record {
      taken = c.takes_next-is_taken.ensures ∙ ap (λ (b : Bool). get_or text i 0 == 92 && not b) c.loop-byte.invariant.taken ∙ sym (takes_more text i c.loop-byte-test.true);
      none = none_more (λ n. is_point text n) i c.loop-byte.invariant.none (here ∙ c.if-is_point.false);
    }

pub returns : goal.returns
unfolding has_point
returns c =
    let whole : c.loop-byte.byte-index ≡ length c.args.pattern.now = omega (arith, c.loop-byte-test.false, c.loop-byte.auto.byte-index-end) in
    sym (subst (λ (n : ℕ). list_any (λ i. is_point c.args.pattern.now i) (range_with_len 0 n) ≡ false) whole c.loop-byte.invariant.none)
