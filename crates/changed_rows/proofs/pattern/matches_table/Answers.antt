use Rattle.std.proofs.Common.{◌≡◌, ◌∙◌, ℕ, Bool, false, sym, ap, subst, get_or, length, arith}
use Rattle.std.specs.Prelude.{◌==◌, ◌&&◌, not}
use Rattle.std.specs.List.{list_any, range_with_len}
use Rattle.changed_rows.specs.Patterns.{matches_table, is_point, divides}
use Rattle.changed_rows.proofs.Patterns.{and_true, and_left, and_right, one_is, none_more, takes_more}
use Rattle.changed_rows.proofs.pattern.matches_table.Goals.{else-is_point-via-then-is_point+else-divides, else-is_point-via-else-is_point}
use Rattle.changed_rows.proofs.pattern.matches_table.Goals as goal

pub returns-then-divides : goal.returns-then-divides
unfolding matches_table
returns-then-divides c =
    let text = c.args.pattern.now in
    let i = c.loop-index.index in
    let here : is_point text i ≡ c.is_point.result = ap (λ (b : Bool). get_or text i 0 == 46 && not b) (sym c.loop-index.invariant.taken) ∙ sym c.is_point.ensures in
    let divided : ℕ → Bool = λ n. divides c.args.case text c.args.database.now c.args.table.now n in
    let both = and_true (is_point text i) (divided i) (here ∙ c.if-is_point.true) (sym c.divides.ensures ∙ c.if-divides.true) in
    sym (one_is (λ n. is_point text n && divided n) (length text) i c.loop-index-test.true both)

pub loop-index-preserved : goal.loop-index-preserved
loop-index-preserved c =
    let text = c.args.pattern.now in
    let i = c.loop-index.index in
    let here : is_point text i ≡ c.is_point.result = ap (λ (b : Bool). get_or text i 0 == 46 && not b) (sym c.loop-index.invariant.taken) ∙ sym c.is_point.ensures in
    let divided : ℕ → Bool = λ n. divides c.args.case text c.args.database.now c.args.table.now n in
    let neither : (is_point text i && divided i) ≡ false =
    elim c.else-is_point.branch [
      | else-is_point-via-then-is_point+else-divides w ↦ and_right (is_point text i) (divided i) (sym w.divides.ensures ∙ w.if-divides.false)
      | else-is_point-via-else-is_point w ↦ and_left (is_point text i) (divided i) (here ∙ w.if-is_point.false)
    ] in
    record {
      taken = c.takes_next-is_taken.ensures ∙ ap (λ (b : Bool). get_or text i 0 == 92 && not b) c.loop-index.invariant.taken ∙ sym (takes_more text i c.loop-index-test.true);
      none = none_more (λ n. is_point text n && divided n) i c.loop-index.invariant.none neither;
    }

pub returns : goal.returns
unfolding matches_table
returns c =
    let whole : c.loop-index.index ≡ length c.args.pattern.now = omega (arith, c.loop-index-test.false, c.loop-index.auto.index-end) in
    let divided : ℕ → Bool = λ i. is_point c.args.pattern.now i && divides c.args.case c.args.pattern.now c.args.database.now c.args.table.now i in
    sym (subst (λ (n : ℕ). list_any divided (range_with_len 0 n) ≡ false) whole c.loop-index.invariant.none)
