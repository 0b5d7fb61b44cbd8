use Rattle.std.proofs.Common.{◌≡◌, ◌<◌, ◌++◌, length, sym, ap, ◌∙◌, subst, arith}
use Rattle.json.specs.Lex.{tokens}
use Rattle.json.specs.Print.{print}
use Rattle.json_line.specs.Written.{Written}
use Rattle.row_json.proofs.Drafts.{text_without, all_of_it, but_the_first, last_printable}
use Rattle.row_json.proofs.long.Draft.take_written.Goals as goal

pub returns-then-not-is_empty-clause-bytes : goal.returns-then-not-is_empty-clause-bytes
returns-then-not-is_empty-clause-bytes c = λ ts h.
    let ps = c.args.self.now.parts.items in
    let out = c.args.self.now.out in
    let text = c.into_inner-written.result.items in
    let is : text ≡ out.before ++ print out.tokens = c.into_inner-written.ensures.items ∙ ap (λ (w : Written). w.before ++ print w.tokens) c.replace-out.ensures.value in
    let some : 0 < length ps = grind arith in
    c.remove_first.ensures ∙ sym (but_the_first ps text some) ∙ text_without ps out ts h text is

pub returns-else-not-is_empty-clause-bytes : goal.returns-else-not-is_empty-clause-bytes
returns-else-not-is_empty-clause-bytes c = λ ts h.
    let ps = c.args.self.now.parts.items in
    let out = c.args.self.now.out in
    let text = c.into_inner-written.result.items in
    let is : text ≡ out.before ++ print out.tokens = c.into_inner-written.ensures.items ∙ ap (λ (w : Written). w.before ++ print w.tokens) c.replace-out.ensures.value in
    let none : length ps ≡ 0 = grind arith in
    sym (all_of_it ps text none) ∙ text_without ps out ts h text is

pub returns-then-not-is_empty-clause-printable : goal.returns-then-not-is_empty-clause-printable
returns-then-not-is_empty-clause-printable c = λ ts h.
    let back = subst (λ (w : Written). tokens (print w.tokens) ≡ w.tokens) c.replace-out.ensures.value c.into_inner-written.ensures.reads_back in
    last_printable c.args.self.now.parts.items c.args.self.now.out ts h back

pub returns-else-not-is_empty-clause-printable : goal.returns-else-not-is_empty-clause-printable
returns-else-not-is_empty-clause-printable c = λ ts h.
    let back = subst (λ (w : Written). tokens (print w.tokens) ≡ w.tokens) c.replace-out.ensures.value c.into_inner-written.ensures.reads_back in
    last_printable c.args.self.now.parts.items c.args.self.now.out ts h back
