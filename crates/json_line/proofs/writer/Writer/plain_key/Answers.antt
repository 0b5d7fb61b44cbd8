use Rattle.std.proofs.Common.{◌≡◌, ◌∷◌, [], ◌++◌, false, ap, ◌∙◌, refl, cond}
use Rattle.json.specs.Token.{key}
use Rattle.json.specs.Print.{separator, token_text}
use Rattle.json_line.proofs.Pieces.{quoted_key, pushed, pushed_tokens, pushed_before}
use Rattle.json_line.proofs.writer.Writer.plain_key.Goals as goal

pub invariant_of-self-2 : goal.invariant_of-self-2
invariant_of-self-2 c =
    let w = c.self.inside in
    let s = c.args.name.now in
    let items : c.put_quoted.new.self.items ≡ w.out.items ++ (separator w.after_value (key s) ++ token_text (key s)) =
    c.put_quoted.ensures.items ∙ (λ i. c.in_ok-reserve.ensures.items i ++ (cond w.after_value (44 ∷ []) [] ++ 34 ∷ (c.as_bytes.ensures.value i ++ 34 ∷ 58 ∷ []))) ∙ ap (λ l. w.out.items ++ l) (quoted_key w.after_value s c.requires) in
    pushed w (record w { out = c.put_quoted.new.self; after_value = false }) c.self.invariant (key s) tt refl refl items

pub returns : goal.returns
returns c =
    let w = c.self.inside in
    let v = record w { out = c.put_quoted.new.self; after_value = false } in
    let s = c.args.name.now in
    let items : c.put_quoted.new.self.items ≡ w.out.items ++ (separator w.after_value (key s) ++ token_text (key s)) =
    c.put_quoted.ensures.items ∙ (λ i. c.in_ok-reserve.ensures.items i ++ (cond w.after_value (44 ∷ []) [] ++ 34 ∷ (c.as_bytes.ensures.value i ++ 34 ∷ 58 ∷ []))) ∙ ap (λ l. w.out.items ++ l) (quoted_key w.after_value s c.requires) in
    record {
      ok = pushed_tokens w v c.self.invariant (key s) tt refl refl items ∙ ap (λ x. x.tokens ++ key s ∷ []) c.self.view_is;
      err = tt;
      before = pushed_before w v c.self.invariant (key s) tt refl refl items ∙ ap (λ x. x.before) c.self.view_is;
    }
