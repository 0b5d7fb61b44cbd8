use Rattle.std.proofs.Common.{arith, ◌≡◌, ◌++◌, drop, ap, ◌∙◌, refl}
use Rattle.json.specs.Print.{print_from}
use Rattle.json_line.proofs.Pieces.{has_comma, from_place, appended, appended_tokens, appended_before}
use Rattle.json_line.proofs.writer.Writer.append.Goals as goal

pub put_blocks-requires : goal.put_blocks-requires
put_blocks-requires c =
    let b = c.bytes.ensures in
    omega (arith, has_comma c.bytes.result.now c.args.piece.now b.room b.begun b.text, c.left_out-from.ensures.few)

pub invariant_of-self-2 : goal.invariant_of-self-2
invariant_of-self-2 c =
    let w = c.self.inside in
    let ts = c.args.piece.now in
    let b = c.bytes.ensures in
    let items : c.put_blocks.new.self.items ≡ w.out.items ++ print_from w.after_value ts =
    c.in_ok-put_blocks.ensures.ok ∙ ap (λ l. w.out.items ++ l) ((λ i. drop (c.left_out-from.ensures.is i) (b.text i)) ∙ from_place w.after_value ts b.begun) in
    appended w (record w { out = c.put_blocks.new.self; after_value = c.ends_value-self-inside.result }) c.self.invariant ts b.begun b.printable refl
    c.ends_value-self-inside.ensures items

pub returns : goal.returns
returns c =
    let w = c.self.inside in
    let v = record w { out = c.put_blocks.new.self; after_value = c.ends_value-self-inside.result } in
    let ts = c.args.piece.now in
    let b = c.bytes.ensures in
    let items : c.put_blocks.new.self.items ≡ w.out.items ++ print_from w.after_value ts =
    c.in_ok-put_blocks.ensures.ok ∙ ap (λ l. w.out.items ++ l) ((λ i. drop (c.left_out-from.ensures.is i) (b.text i)) ∙ from_place w.after_value ts b.begun) in
    record {
      ok = appended_tokens w v c.self.invariant ts b.begun b.printable refl c.ends_value-self-inside.ensures items ∙ ap (λ x. x.tokens ++ ts) c.self.view_is;
      err = tt;
      before = appended_before w v c.self.invariant ts b.begun b.printable refl c.ends_value-self-inside.ensures items ∙ ap (λ x. x.before) c.self.view_is;
    }
