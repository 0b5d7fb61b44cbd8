use Rattle.std.proofs.Common.{refl, [], ◌∷◌}
use Rattle.std.specs.Prelude.{codes}
use Rattle.json.specs.Token as token
use Rattle.row_json.specs.Wrote.{Adds}
use Rattle.row_json.specs.Rows.{operation_of}
use Rattle.row_json.proofs.Steps.{adds_both, adds_string}
use Rattle.row_json.proofs.Objects.{adds_then}
use Rattle.json.specs.Print.{escape_byte}
use Rattle.row_json.proofs.pair.begin_pair.Goals as goal

pub returns-clause-written : goal.returns-clause-written
returns-clause-written g c =
    let begun : Adds c.args.out.now c.begin_object.new.self (token.begin_object ∷ []) = record { before = c.begin_object.ensures.before; tokens = c.in_ok-begin_object.ensures.ok } in
    let op_key : Adds c.begin_object.new.self c.plain_key.new.self (token.key (codes "op") ∷ []) = record { before = c.plain_key.ensures.before; tokens = c.in_ok-plain_key.ensures.ok } in
    adds_then c.string.result c.args.out.now c.plain_key.new.self c.string.new.self (token.begin_object ∷ token.key (codes "op") ∷ []) (token.string (operation_of (g.P.Images.pair c.args.pair.now)) ∷ []) (adds_both (token.begin_object ∷ []) (token.key (codes "op") ∷ []) begun op_key)
    (adds_string c.string.result c.plain_key.new.self c.string.new.self c.operation_of.result.now (operation_of (g.P.Images.pair c.args.pair.now)) c.operation_of.ensures c.string.ensures)

pub plain_key-requires : goal.plain_key-requires
unfolding escape_byte
plain_key-requires g c = refl
