use Rattle.std.proofs.Common.{ℤ, rules, refl, ap}
use Rattle.std.proofs.lemmas.Int.{to_z-of_z}
use Rattle.std.specs.Fmt.{signed_decimal}
use Rattle.json.specs.Json as json
use Rattle.row_json.proofs.Steps.{token_wrote}
use Rattle.row_json.proofs.document.write_number.Goals as goal

pub returns-in-Int-clause-written : goal.returns-in-Int-clause-written
returns-in-Int-clause-written c = rw c.in-Int.is (token_wrote c.i64.result c.args.out.now c.i64.new.self _ (json.number _) _ refl c.i64.ensures (ap (λ (z : ℤ). json.number (signed_decimal z)) (search (rules, to_z-of_z))))

pub returns-in-Uint-clause-written : goal.returns-in-Uint-clause-written
returns-in-Uint-clause-written c = rw c.in-Uint.is (token_wrote c.u64.result c.args.out.now c.u64.new.self _ (json.number _) _ refl c.u64.ensures refl)
