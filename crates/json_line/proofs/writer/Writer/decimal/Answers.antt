use Rattle.std.proofs.Common.{◌≡◌, ◌∷◌, [], ◌++◌, true, ap, ◌∙◌, refl, cond}
use Rattle.std.specs.Prelude.{decimal}
use Rattle.json.specs.Token.{number}
use Rattle.json.specs.Print.{separator, token_text}
use Rattle.json_line.proofs.Pieces.{after_comma, pushed, pushed_tokens, pushed_before}
use Rattle.json_line.proofs.writer.Writer.decimal.Goals as goal

pub invariant_of-self-2 : goal.invariant_of-self-2
invariant_of-self-2 c =
    let w = c.self.inside in
    let s = cond c.args.minus (45 ∷ []) [] ++ decimal c.args.n in
    let items : c.put_decimal.new.self.items ≡ w.out.items ++ (separator w.after_value (number s) ++ token_text (number s)) =
    c.put_decimal.ensures.items ∙ (λ i. c.in_ok-reserve.ensures.items i ++ after_comma w.after_value s i) in
    pushed w (record w { out = c.put_decimal.new.self; after_value = true }) c.self.invariant (number s) c.requires refl refl items

pub returns : goal.returns
returns c =
    let w = c.self.inside in
    let v = record w { out = c.put_decimal.new.self; after_value = true } in
    let s = cond c.args.minus (45 ∷ []) [] ++ decimal c.args.n in
    let items : c.put_decimal.new.self.items ≡ w.out.items ++ (separator w.after_value (number s) ++ token_text (number s)) =
    c.put_decimal.ensures.items ∙ (λ i. c.in_ok-reserve.ensures.items i ++ after_comma w.after_value s i) in
    record {
      ok = pushed_tokens w v c.self.invariant (number s) c.requires refl refl items ∙ ap (λ x. x.tokens ++ number s ∷ []) c.self.view_is;
      err = tt;
      before = pushed_before w v c.self.invariant (number s) c.requires refl refl items ∙ ap (λ x. x.before) c.self.view_is;
    }
