use Rattle.std.proofs.Common.{[], ◌∷◌, ◌++◌, refl, ap, ◌∙◌}
use Rattle.json.specs.Reads.{token_of}
use Rattle.json_line.proofs.Pieces.{pushed, pushed_tokens, pushed_before}
use Rattle.json_line.proofs.writer.Writer.token.Goals as goal

pub invariant_of-self-2 : goal.invariant_of-self-2
invariant_of-self-2 c =
    let w = c.self.inside in
    pushed w (record w { out = c.put.new.out; after_value = c.ends_value-self-inside.result }) c.self.invariant (token_of c.args.token) c.requires refl
    c.ends_value-self-inside.ensures c.in_ok-put.ensures

pub returns : goal.returns
returns c =
    let w = c.self.inside in
    let v = record w { out = c.put.new.out; after_value = c.ends_value-self-inside.result } in
    let t = token_of c.args.token in
    record {
      ok = pushed_tokens w v c.self.invariant t c.requires refl c.ends_value-self-inside.ensures c.in_ok-put.ensures ∙ ap (λ x. x.tokens ++ t ∷ []) c.self.view_is;
      err = tt;
      before = pushed_before w v c.self.invariant t c.requires refl c.ends_value-self-inside.ensures c.in_ok-put.ensures ∙ ap (λ x. x.before) c.self.view_is;
    }
