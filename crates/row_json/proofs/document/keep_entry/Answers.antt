use Rattle.std.proofs.Common.{List, ℕ, Option, Ok, sym, ap, ◌∙◌}
use Rattle.binlog_values.specs.JsonbValues.{JsonbValue}
use Rattle.binlog_values.specs.JsonbElements.{key_in}
use Rattle.binlog_values.specs.JsonbViews.{view_of}
use Rattle.row_json.proofs.Walked.{on_ok, key_of}
use Rattle.row_json.proofs.document.keep_entry.Goals as goal

pub returns-in-Some-clause-kept : goal.returns-in-Some-clause-kept
returns-in-Some-clause-kept c =
    let v = view_of c.args.object.now in
    let e = ap (λ (o : Option (List ℕ)). Ok o) (sym c.in-Some.is) ∙ (c.in_ok-key.ensures ∙ ap (λ (x : JsonbValue). key_in x c.args.pos) c.of.ensures) in
    on_ok c.keep.result _ _ (λ k. key_of v c.args.pos c.in-Some.key _ e k) c.keep.ensures.kept
