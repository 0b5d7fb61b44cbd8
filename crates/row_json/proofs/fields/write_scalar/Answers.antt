use Rattle.std.proofs.Common.{ℤ, rules, refl, ap}
use Rattle.std.proofs.lemmas.Int.{to_z-of_z}
use Rattle.std.specs.Fmt.{signed_decimal}
use Rattle.json.specs.Json as json
use Rattle.row_json.proofs.Steps.{token_wrote}
use Rattle.row_json.proofs.fields.write_scalar.Goals as goal

pub returns-in-Text-clause-written : goal.returns-in-Text-clause-written
returns-in-Text-clause-written c = rw c.in-Text.is (token_wrote c.string.result c.args.out.now c.string.new.self _ (json.string _) _ refl c.string.ensures refl)

pub returns-in-Number-clause-written : goal.returns-in-Number-clause-written
returns-in-Number-clause-written c = rw c.in-Number.is (token_wrote c.u64.result c.args.out.now c.u64.new.self _ (json.number _) _ refl c.u64.ensures refl)

pub returns-in-Signed-clause-written : goal.returns-in-Signed-clause-written
returns-in-Signed-clause-written c = rw c.in-Signed.is (token_wrote c.i64.result c.args.out.now c.i64.new.self _ (json.number _) _ refl c.i64.ensures (ap (λ (z : ℤ). json.number (signed_decimal z)) (search (rules, to_z-of_z))))

pub returns-in-Bool-clause-written : goal.returns-in-Bool-clause-written
returns-in-Bool-clause-written c = rw c.in-Bool.is (token_wrote c.boolean.result c.args.out.now c.boolean.new.self _ (json.boolean c.in-Bool.flag) _ refl c.boolean.ensures refl)

pub returns-in-Null-clause-written : goal.returns-in-Null-clause-written
returns-in-Null-clause-written c = rw c.in-Null.is (token_wrote c.null.result c.args.out.now c.null.new.self _ json.null _ refl c.null.ensures refl)
