-- Diffs that were written, one after the other.
use Rattle.std.proofs.Common.{List, [], ◌∷◌, ◌++◌, refl, ap}
use Rattle.binlog_values.specs.JsonDiffs.{Diff}
use Rattle.json.specs.Json.{Json}
use Rattle.row_json.specs.Documents.{IsDiffJson, AreDiffs}

pub one_more_diff : (ds : List Diff) (d : Diff) (js : List Json) (j : Json) → AreDiffs ds js → IsDiffJson d j → AreDiffs (ds ++ d ∷ []) (js ++ j ∷ [])
one_more_diff [] d js j are is = (j, [], is, refl, ap (λ (l : List Json). l ++ j ∷ []) are)
one_more_diff (x ∷ ds) d js j are is =
    (are.0, are.1 ++ j ∷ [], are.2, one_more_diff ds d are.1 j are.3 is, ap (λ (l : List Json). l ++ j ∷ []) are.4)
