use Rattle.std.proofs.Common.{◌≡◌, ◌++◌, ◌∷◌, [], List, ℕ, Vec, Global, ◌-◌, length, take, arith, sym, ap, ◌∙◌, subst}
use Rattle.std.specs.Prelude.{OnOk, vec_len}
use Rattle.json.specs.Token as token
use Rattle.row_json.specs.LongLines.{LinePart, characters}
use Rattle.row_json.specs.Workings.Drafts.{Goes}
use Rattle.row_json.specs.Wrote.{Adds}
use Rattle.row_json.proofs.Drafts.{goes_apart_if}
use Rattle.row_json.proofs.long.Draft.write_apart.Goals as goal

pub returns : goal.returns
returns c =
    let ps = c.args.self.now.parts.items in
    let a = c.args.self.now.out in
    let t = c.take_written-before in
    let len : vec_len t.result ≡ length t.result.items = grind arith in
    let cut_off : c.pop.new.self.items ≡ take (length t.result.items - 1) t.result.items = c.pop.ensures.rest ∙ ap (λ (n : ℕ). take (n - 1) t.result.items) len in
    let p : LinePart = record { before = c.pop.new.self.items; text = c.args.text } in
    let empty : Adds a c.string.new.self (token.string [] ∷ []) = record { before = c.string.ensures.before; tokens = c.in_ok-string.ensures.ok } in
    let same : t.new.self.parts.items ≡ ps = ap (λ (v : Vec LinePart Global). v.items) t.ensures.parts in
    let parts : c.push.new.self.items ≡ ps ++ p ∷ [] = c.in_ok-push.ensures.items ∙ ap (λ (qs : List LinePart). qs ++ p ∷ []) same in
    subst (λ (qs : List LinePart). OnOk c.string-2.result (Goes ps a qs c.string-2.new.self (token.string (characters c.args.text) ∷ []))) (sym parts)
    (goes_apart_if c.string-2.result ps p a c.string.new.self t.new.self.out c.string-2.new.self t.result.items empty cut_off t.ensures.bytes t.ensures.printable t.ensures.before t.ensures.tokens c.string-2.ensures)
