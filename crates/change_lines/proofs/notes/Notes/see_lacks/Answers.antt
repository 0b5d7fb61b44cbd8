use Rattle.std.proofs.Common.{◌≡◌, ◌<◌, ℕ, true, false, List, length, refl, sym, ap, subst, ◌∙◌, arith, rules}
use Rattle.changed_rows.specs.declared.lacks.Lacks.{Lacks}
use Rattle.changed_rows.specs.Counted.{Name, name_of, name_text}
use Rattle.changed_rows.specs.Lacks.{lacks_of}
use Rattle.changed_rows.proofs.Counted.{listed}
use Rattle.change_lines.specs.Lacking.{is_known, with_table, lack_note}
use Rattle.change_lines.specs.Notes.{Tells}
use Rattle.change_lines.proofs.Written.{on_ok}
use Rattle.change_lines.proofs.notes.Notes.see_lacks.Goals as goal

pub returns-then-contains-clause-grouped : goal.returns-then-contains-clause-grouped
returns-then-contains-clause-grouped g c = λ lacking sized.
    let keys = c.args.self.now.told.keys in
    let n = c.in_ok-name.name in
    let there : c.contains.result ≡ is_known (c.args.table.now.database, c.args.table.now.table) keys = c.contains.ensures ∙ listed n keys ∙ ap (λ (q : Name). is_known q keys) c.in_ok-name.ensures in
    record {
      known = λ is. (refl, refl);
      full = λ is. refl;
      added = λ new few. absurd (let bad : true ≡ false = sym c.if-contains.true ∙ there ∙ new in cc);
    }

pub returns-clause-grouped : goal.returns-clause-grouped
returns-clause-grouped g c =
    let keys = c.args.self.now.told.keys in
    let n = c.in_ok-name.name in
    let there : c.contains.result ≡ is_known (c.args.table.now.database, c.args.table.now.table) keys = c.contains.ensures ∙ listed n keys ∙ ap (λ (q : Name). is_known q keys) c.in_ok-name.ensures in
    let few : length keys < 1024 = search rules in
    let name : c.as_str-2.result.now ≡ name_text n = c.as_str-2.ensures.value ∙ c.in_ok-text.ensures in
    let after = c.insert.new.self.keys in
    let is_told : is_known (name_of n) after ≡ true = sym (listed n after) ∙ c.in_ok-insert.ensures.updates.1 in
    on_ok c.add_table.result _ _ (λ added lacking sized. record {
      known = λ is. absurd (let bad : true ≡ false = sym is ∙ sym there ∙ c.if-contains.false in cc);
      full = λ is. absurd (omega (arith, few, is));
      added = λ new room. (
        n,
        c.in_ok-name.ensures,
        added ∙ ap (λ (l : Lacks). with_table l c.as_str-2.result.now c.args.self.now.groups.items) c.lacks_of-lacks.ensures ∙ ap (λ (t : List ℕ). with_table (lacks_of c.args.table.now) t c.args.self.now.groups.items) name,
        subst (λ (q : Name). is_known q after ≡ true) c.in_ok-name.ensures is_told,
      );
    }) c.add_table.ensures

pub returns-then-contains-clause-at_once : goal.returns-then-contains-clause-at_once
returns-then-contains-clause-at_once g c = λ lacking unsized.
    let keys = c.args.self.now.told.keys in
    let there : c.contains.result ≡ is_known (c.args.table.now.database, c.args.table.now.table) keys = c.contains.ensures ∙ listed c.in_ok-name.name keys ∙ ap (λ (q : Name). is_known q keys) c.in_ok-name.ensures in
    (λ is. refl, λ new few. absurd (let bad : true ≡ false = sym c.if-contains.true ∙ there ∙ new in cc))

pub returns-then-is_none-2-clause-at_once : goal.returns-then-is_none-2-clause-at_once
returns-then-is_none-2-clause-at_once g c =
    let s = c.args.self.now in
    let after = c.tell_lacks.new.self in
    let keys = s.told.keys in
    let n = c.in_ok-name.name in
    let there : c.contains.result ≡ is_known (c.args.table.now.database, c.args.table.now.table) keys = c.contains.ensures ∙ listed n keys ∙ ap (λ (q : Name). is_known q keys) c.in_ok-name.ensures in
    let name : c.as_str.result.now ≡ name_text n = c.as_str.ensures.value ∙ c.in_ok-text.ensures in
    let note : lack_note c.as_str.result.now c.lacks_of-lacks.result ≡ lack_note (name_text n) (lacks_of c.args.table.now) =
    ap (λ (t : List ℕ). lack_note t c.lacks_of-lacks.result) name ∙ ap (lack_note (name_text n)) c.lacks_of-lacks.ensures in
    on_ok c.tell_lacks.result _ _ (λ tells lacking unsized. (
      λ is. absurd (let bad : true ≡ false = sym is ∙ sym there ∙ c.if-contains.false in cc),
      λ new few. (n, c.in_ok-name.ensures, subst (λ (t : List ℕ). Tells s.is_lost (g.E.Write.contents s.err) after.is_lost (g.E.Write.contents after.err) t) note tells),
    )) c.tell_lacks.ensures.text
