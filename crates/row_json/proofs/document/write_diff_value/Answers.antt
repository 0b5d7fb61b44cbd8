use Rattle.std.proofs.Common.{◌≡◌, List, [], ◌∷◌, rules, refl, sym, ap, append-nil}
use Rattle.std.specs.Prelude.{Some, codes}
use Rattle.json.specs.Token as token
use Rattle.json.specs.Token.{Token}
use Rattle.json.specs.Tree.{json_tokens}
use Rattle.row_json.proofs.Steps.{adds_both, adds_same}
use Rattle.binlog_values.specs.JsonbViews.{view_of}
use Rattle.row_json.proofs.document.write_diff_value.Goals as goal

pub returns-in_ok-write_document-in-Some-clause-written : goal.returns-in_ok-write_document-in-Some-clause-written
returns-in_ok-write_document-in-Some-clause-written c =
    let w = c.in_ok-write_document-in-Some.ensures.written in
    let e : c.args.diff.now.value ≡ Some (view_of c.in-Some.value.now) = search rules in
    rw e (
      (codes "value", w.value) ∷ [],
      (w.value, w.is, refl),
      adds_same _ _ (ap (λ (l : List Token). token.key (codes "value") ∷ l) (sym (append-nil (json_tokens w.value))))
          (adds_both (token.key (codes "value") ∷ []) (json_tokens w.value) (record { before = c.key.ensures.before; tokens = c.in_ok-key-in-Some.ensures.ok }) w.adds),
    )

pub returns-in_ok-write_document-in-Some-clause-sound : goal.returns-in_ok-write_document-in-Some-clause-sound
returns-in_ok-write_document-in-Some-clause-sound c =
    let e : c.args.diff.now.value ≡ Some (view_of c.in-Some.value.now) = search rules in
    rw e c.in_ok-write_document-in-Some.ensures.sound
