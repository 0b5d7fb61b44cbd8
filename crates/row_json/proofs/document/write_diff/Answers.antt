use Rattle.std.proofs.Common.{List, [], ◌∷◌, ◌++◌, refl, sym, ap}
use Rattle.json.specs.Token as token
use Rattle.json.specs.Token.{Token}
use Rattle.row_json.proofs.Steps.{adds_both, adds_same, members_end}
use Rattle.row_json.specs.Documents.{place_tokens}
use Rattle.row_json.proofs.document.write_diff.Goals as goal

pub returns-clause-written : goal.returns-clause-written
returns-clause-written c =
    let ms = c.in_ok-write_diff_value.ensures.written in
    let d = c.args.diff.now in record {
      value = _;
      is = (ms.0, ms.1, refl);
      adds = adds_same _ _ (ap (λ (l : List Token). token.begin_object ∷ (place_tokens d ++ l)) (sym (members_end ms.0)))
          (adds_both (token.begin_object ∷ []) _ (record { before = c.begin_object.ensures.before; tokens = c.in_ok-begin_object.ensures.ok })
          (adds_both _ _ c.in_ok-write_place.ensures.written (adds_both _ (token.end_object ∷ []) ms.2 (record { before = c.end_object.ensures.before; tokens = c.in_ok-end_object.ensures.ok }))));
    }
