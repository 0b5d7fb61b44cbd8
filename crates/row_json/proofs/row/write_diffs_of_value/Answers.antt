use Rattle.std.proofs.Common.{[], ◌∷◌, refl}
use Rattle.json.specs.Token as token
use Rattle.row_json.specs.Wrote.{Adds}
use Rattle.row_json.proofs.Steps.{adds_nothing}
use Rattle.row_json.proofs.Columns.{one_member, no_diffs_member, no_diffs_fault}
use Rattle.row_json.proofs.row.write_diffs_of_value.Goals as goal

pub returns-in_ok-write_lent_diffs-in-Diffs-clause-written : goal.returns-in_ok-write_lent_diffs-in-Diffs-clause-written
returns-in_ok-write_lent_diffs-in-Diffs-clause-written c =
    let name = c.args.column.now.name in
    let key : Adds c.args.out.now c.write_key.new.out (token.key name ∷ []) = record { before = c.write_key.ensures.before; tokens = c.in_ok-write_key-in-Diffs.ensures.ok } in
    let w = c.in_ok-write_lent_diffs-in-Diffs.ensures.written in
    rw c.in-Diffs.is ((name, w.value) ∷ [], (w.value, w.is, refl), one_member _ _ _ name name w.value refl key w.adds)

pub returns-in_default-clause-written : goal.returns-in_default-clause-written
returns-in_default-clause-written c = ([], no_diffs_member c.args.column.now c.args.value.now c.in_default.not-Diffs, adds_nothing c.args.out.now)

pub returns-in_default-clause-sound : goal.returns-in_default-clause-sound
returns-in_default-clause-sound c = no_diffs_fault c.args.value.now c.in_default.not-Diffs
