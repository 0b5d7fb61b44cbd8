use Rattle.std.proofs.Common.{[], ◌∷◌, refl}
use Rattle.json.specs.Token as token
use Rattle.row_json.specs.Wrote.{Adds}
use Rattle.row_json.proofs.Columns.{one_member, member_of_cell}
use Rattle.row_json.proofs.row.write_member_of_value.Goals as goal

pub returns-in_ok-write_cell-in_default-clause-written : goal.returns-in_ok-write_cell-in_default-clause-written
returns-in_ok-write_cell-in_default-clause-written g c =
    let name = c.args.column.now.name in
    let key : Adds c.args.out.now c.write_key.new.out (token.key name ∷ []) = record { before = c.write_key.ensures.before; tokens = c.in_ok-write_key-in_default.ensures.ok } in
    let w = c.in_ok-write_cell-in_default.ensures.written in
    ((name, w.value) ∷ [], member_of_cell c.args.column.now c.args.value.now w.value c.in_default.not-Diffs w.is, one_member _ _ _ name name w.value refl key w.adds)
