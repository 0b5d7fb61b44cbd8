use Rattle.std.proofs.Common.{◌≤◌, List, length, refl, sym, ap, take, arith}
use Rattle.std.specs.List.{flat_map}
use Rattle.std.proofs.lemmas.List.{take_all}
use Rattle.row_json.specs.Fields.{Field, fields_json}
use Rattle.row_json.specs.Wrote.{named_tokens}
use Rattle.row_json.proofs.Steps.{adds_same}
use Rattle.row_json.proofs.FieldSteps.{fields_more, adds_field}
use Rattle.row_json.proofs.fields.write_fields.Goals as goal

pub loop-name-preserved : goal.loop-name-preserved
loop-name-preserved c =
    let fields = c.args.fields.now in
    let i = c.loop-name.name-index in
    adds_same _ _ (ap (flat_map named_tokens) (sym (fields_more fields i _ (omega arith)))) (adds_field (fields_json (take i fields)) _ c.loop-name.invariant c.in_ok-write_field.ensures.written)

pub returns-clause-written : goal.returns-clause-written
returns-clause-written c =
    let fields = c.args.fields.now in
    let all : length fields ≤ c.loop-name.name-index = omega arith in
    (fields_json fields, refl, adds_same _ _ (ap (λ (fs : List Field). flat_map named_tokens (fields_json fs)) (take_all _ fields all)) c.loop-name.invariant)
