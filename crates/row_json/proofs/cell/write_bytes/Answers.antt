use Rattle.std.proofs.Common.{◌≡◌, refl, sym, subst, ◌∙◌}
use Rattle.row_json.specs.declared.kind.Kind.{Kind}
use Rattle.row_json.specs.declared.kind.Kind.TheVariants as kind
use Rattle.row_json.specs.Values.{base64_json, padded, IsBytesJson}
use Rattle.row_json.proofs.Steps.{wrote_value}
use Rattle.row_json.proofs.Bytes.{other_bytes}
use Rattle.row_json.proofs.cell.write_bytes.Goals as goal

pub returns-in_default-clause-written : goal.returns-in_default-clause-written
returns-in_default-clause-written c =
    let column = c.args.column.now in
    let bytes = c.args.bytes.now in
    let is = c.kind.ensures in
    wrote_value c.write_base64.result c.args.out.now c.write_base64.new.out _ (base64_json bytes)
    (other_bytes column column.kind bytes (base64_json bytes) (λ s e. c.in_default.not-Text s (is ∙ e)) (λ n e. c.in_default.not-Binary n (is ∙ e)) (λ e. c.in_default.not-Year (is ∙ e)) (λ e. c.in_default.not-Bits (is ∙ e)) (λ e. c.in_default.not-Set (is ∙ e)) (λ d e. c.in_default.not-Timestamp d (is ∙ e)) refl)
    c.write_base64.ensures.written

pub returns-in-Binary-clause-written : goal.returns-in-Binary-clause-written
returns-in-Binary-clause-written c =
    let column = c.args.column.now in
    let bytes = c.args.bytes.now in
    let is : column.kind ≡ kind.Binary c.in-Binary.length = sym c.kind.ensures ∙ c.in-Binary.is in
    let json = base64_json (padded c.in-Binary.length bytes) in
    wrote_value c.write_padded.result c.args.out.now c.write_padded.new.out _ json (subst (λ (k : Kind). IsBytesJson column k bytes json) (sym is) refl) c.write_padded.ensures.written
