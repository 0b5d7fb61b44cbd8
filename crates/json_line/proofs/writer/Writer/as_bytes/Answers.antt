use Rattle.std.proofs.Common.{◌≡◌, ◌++◌, sym, ap, ◌∙◌, subst, take, take-append-drop}
use Rattle.json.specs.Lex.{tokens}
use Rattle.json.specs.Print.{print}
use Rattle.json.proofs.Printed.Tokens.{tokens-print}
use Rattle.json_line.proofs.Pieces.{shows_printed}
use Rattle.json_line.proofs.writer.Writer.as_bytes.Goals as goal

pub returns-clause-items : goal.returns-clause-items
returns-clause-items c =
    let w = c.self.inside in
    let h = c.self.invariant in
    let printed : h.printed ≡ c.args.self.now.tokens = sym (shows_printed w h) ∙ ap (λ v. v.tokens) c.self.view_is in
    c.as_slice.ensures ∙ sym (take-append-drop w.start w.out.items) ∙ ap (λ l. take w.start w.out.items ++ l) h.text
    ∙ (λ i. (c.self.view_is i).before ++ print (printed i))

pub returns-clause-reads_back : goal.returns-clause-reads_back
returns-clause-reads_back c =
    let h = c.self.invariant in
    let printed : h.printed ≡ c.args.self.now.tokens = sym (shows_printed c.self.inside h) ∙ ap (λ v. v.tokens) c.self.view_is in
    subst (λ ts. tokens (print ts) ≡ ts) printed (tokens-print h.printed h.printable)
