use Rattle.std.proofs.Common.{[], ◌∷◌, refl}
use Rattle.json.specs.Json as json
use Rattle.json.specs.Token as token
use Rattle.json.specs.Tree.{json_tokens}
use Rattle.row_json.specs.Wrote.{Adds}
use Rattle.row_json.proofs.Columns.{one_member}
use Rattle.row_json.proofs.row.write_member.Goals as goal

pub returns-in_ok-null-in-None-clause-written : goal.returns-in_ok-null-in-None-clause-written
returns-in_ok-null-in-None-clause-written g c =
    let name = c.args.column.now.name in
    let key : Adds c.args.out.now c.write_key.new.out (token.key name ∷ []) = record { before = c.write_key.ensures.before; tokens = c.in_ok-write_key-in-None.ensures.ok } in
    let value : Adds c.write_key.new.out c.null.new.self (json_tokens json.null) = record { before = c.null.ensures.before; tokens = c.in_ok-null-in-None.ensures.ok } in
    rw c.in-None.is ((name, json.null) ∷ [], refl, one_member _ _ _ name name json.null refl key value)
