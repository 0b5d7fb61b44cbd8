use Rattle.std.proofs.Common.{arith, refl, ap, ◌∙◌}
use Rattle.std.proofs.lemmas.Grind.{common_steps}
use Rattle.json.specs.Json as json
use Rattle.row_json.proofs.Steps.{token_wrote, wrote_value}
use Rattle.row_json.specs.Documents.{moment_text}
use Rattle.row_json.proofs.document.write_scalar.Goals as goal

pub returns-in-Null-clause-written : goal.returns-in-Null-clause-written
returns-in-Null-clause-written c = rw c.in-Null.is (token_wrote c.null.result c.args.out.now c.null.new.self _ json.null _ refl c.null.ensures refl)

pub returns-in-Boolean-clause-written : goal.returns-in-Boolean-clause-written
returns-in-Boolean-clause-written c = rw c.in-Boolean.is (token_wrote c.boolean.result c.args.out.now c.boolean.new.self _ (json.boolean c.in-Boolean.value) _ refl c.boolean.ensures refl)

pub returns-in-String-clause-written : goal.returns-in-String-clause-written
returns-in-String-clause-written c = rw c.in-String.is (token_wrote c.string.result c.args.out.now c.string.new.self _ (json.string c.as_str.result.now) _ refl c.string.ensures (ap json.string c.as_str.ensures.value))

pub returns-in-DateTime-clause-written : goal.returns-in-DateTime-clause-written
returns-in-DateTime-clause-written c = rw c.in-DateTime.is (wrote_value c.write_moment.result c.args.out.now c.write_moment.new.out _ (json.string (moment_text c.in-DateTime.time.time_type c.in-DateTime.time)) refl c.write_moment.ensures.written)

pub returns-in_ok-write_text-in-Opaque-clause-written : goal.returns-in_ok-write_text-in-Opaque-clause-written
returns-in_ok-write_text-in-Opaque-clause-written c =
    rw c.in-Opaque.is (token_wrote c.string-in-Opaque.result c.args.out.now c.string-in-Opaque.new.self _ (json.string c.as_str-in-Opaque.result.now) _ refl c.string-in-Opaque.ensures (ap json.string (c.as_str-in-Opaque.ensures.value ∙ grind (arith, common_steps, c.in_ok-write_text-in-Opaque.ensures, c.in_ok-write_text-in-Opaque.was, c.clear.ensures.bytes))))
