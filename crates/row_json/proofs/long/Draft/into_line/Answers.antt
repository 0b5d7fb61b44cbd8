use Rattle.std.proofs.Common.{◌≡◌, ◌++◌, ◌∷◌, [], List, ℕ, Vec, Global, sym, ap, ◌∙◌, append_assoc}
use Rattle.std.specs.List.{flat_map}
use Rattle.json.specs.Print.{print_from}
use Rattle.row_json.specs.LongLines.{LinePart, part_bytes}
use Rattle.row_json.specs.Workings.Drafts.{has_parts, closing}
use Rattle.row_json.proofs.Drafts.{whole_text, all_printable}
use Rattle.row_json.proofs.long.Draft.into_line.Goals as goal

pub returns-clause-bytes : goal.returns-clause-bytes
returns-clause-bytes c = λ ts h.
    let ps = c.args.self.parts.items in
    let t = c.take_written-rest in
    let same : t.new.self.parts.items ≡ ps = ap (λ (v : Vec LinePart Global). v.items) t.ensures.parts in
    let rest : c.push.new.self.items ≡ (closing ps ++ print_from (has_parts ps) h.last) ++ 10 ∷ [] = c.in_ok-push.ensures.items ∙ ap (λ (b : List ℕ). b ++ 10 ∷ []) (t.ensures.bytes ts h) in
    ap (λ (qs : List LinePart). flat_map part_bytes qs ++ c.push.new.self.items) same
    ∙ ap (λ (b : List ℕ). flat_map part_bytes ps ++ b) rest
    ∙ sym (append_assoc (flat_map part_bytes ps) (closing ps ++ print_from (has_parts ps) h.last) (10 ∷ []))
    ∙ ap (λ (b : List ℕ). b ++ 10 ∷ []) (whole_text ps c.args.self.out ts h)

pub returns-clause-printable : goal.returns-clause-printable
returns-clause-printable c = λ ts h. all_printable c.args.self.parts.items c.args.self.out ts h (c.take_written-rest.ensures.printable ts h)
