-- The object of a pair, of its parts.
use Rattle.std.proofs.Common.{◌≡◌, List, [], ◌∷◌, ◌++◌, sym, ap, ◌∙◌, append_assoc}
use Rattle.std.specs.Prelude.{codes, OnOk, Result, Ok, Err}
use Rattle.std.specs.List.{flat_map}
use Rattle.std.proofs.lemmas.Grind.{flat_map-append}
use Rattle.mysql_binlog_rows.specs.Images.{Pair}
use Rattle.mysql_binlog_rows.specs.RowsEvent.{RowsEvent}
use Rattle.json.specs.Json.{string, object}
use Rattle.json.specs.Token.{Token}
use Rattle.json.specs.Token as token
use Rattle.json.specs.Tree.{json_tokens}
use Rattle.json_line.specs.Written.{Written}
use Rattle.row_json.specs.Columns.{Column}
use Rattle.row_json.specs.Rows.{operation_of, AreImages, IsPairJson}
use Rattle.row_json.specs.Wrote.{Adds, Wrote, Named, named_tokens, members_of, object_end}
use Rattle.row_json.proofs.Steps.{adds_both, adds_same, members_end}

-- what was written, and then what a call wrote
pub adds_then : {E : Type 0} (r : Result (Unit {0}) E) (a b c : Written) (ts us : List Token) → Adds a b ts → OnOk r (Adds b c us) → OnOk r (Adds a c (ts ++ us))
adds_then (Ok _) a b c ts us x y = adds_both ts us x y
adds_then (Err _) a b c ts us x y = tt

object_tokens : (op : Named) (added ms : List Named) →
    (token.begin_object ∷ named_tokens op) ++ (flat_map named_tokens added ++ object_end ms) ≡ json_tokens (object (members_of (op ∷ (added ++ ms))))
object_tokens op added ms =
    let inner : flat_map named_tokens (added ++ ms) ≡ flat_map named_tokens added ++ flat_map named_tokens ms = flat_map-append named_tokens added ms in
    let middle : object_end (added ++ ms) ≡ flat_map named_tokens added ++ object_end ms = ap (λ (l : List Token). l ++ token.end_object ∷ []) inner ∙ append_assoc (flat_map named_tokens added) (flat_map named_tokens ms) (token.end_object ∷ []) in
    let whole : object_end (op ∷ (added ++ ms)) ≡ named_tokens op ++ object_end (added ++ ms) = append_assoc (named_tokens op) (flat_map named_tokens (added ++ ms)) (token.end_object ∷ []) in
    sym (ap (λ (l : List Token). token.begin_object ∷ l) (members_end (op ∷ (added ++ ms)) ∙ (whole ∙ ap (λ (l : List Token). named_tokens op ++ l) middle)))

pub pair_wrote : {E : Type 0} (r : Result (Unit {0}) E) (cs : List Column) (e : RowsEvent) (added : List Named) (pair : Pair) (a b c d : Written) → Adds a b (token.begin_object ∷ named_tokens (codes "op", string (operation_of pair))) →
    Adds b c (flat_map named_tokens added) → OnOk r ((ms : List Named) × AreImages cs e pair ms × Adds c d (object_end ms)) → OnOk r (Wrote (IsPairJson cs e added pair) a d)
pair_wrote (Ok _) cs e added pair a b c d begun own w =
    let i = w.1 in
    let op : Named = (codes "op", string (operation_of pair)) in record {
      value = object (members_of (op ∷ (added ++ w.0)));
      is = record { before = i.before; after = i.after; diffs = i.diffs; is_before = i.is_before; is_after = i.is_after; are_diffs = i.are_diffs; is = ap (λ (ms : List Named). object (members_of (op ∷ (added ++ ms)))) i.are };
      adds = adds_same _ _ (object_tokens op added w.0) (adds_both (token.begin_object ∷ named_tokens op) _ begun (adds_both (flat_map named_tokens added) (object_end w.0) own w.2));
    }
pair_wrote (Err _) cs e added pair a b c d begun own w = tt
