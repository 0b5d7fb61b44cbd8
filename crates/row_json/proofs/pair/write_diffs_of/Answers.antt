use Rattle.row_json.proofs.Faults.{without_diffs}
use Rattle.std.proofs.Common.{[], ◌∷◌, sym, ap, ◌∙◌}
use Rattle.std.specs.Prelude.{codes}
use Rattle.std.specs.Option.{option_map}
use Rattle.json.specs.Token as token
use Rattle.row_json.specs.Wrote.{Adds}
use Rattle.row_json.proofs.Columns.{diffs_wrote}
use Rattle.row_json.proofs.pair.write_diffs_of.Goals as goal

pub returns-in_ok-key-in-Some-clause-written : goal.returns-in_ok-key-in-Some-clause-written
returns-in_ok-key-in-Some-clause-written g c =
    let key : Adds c.args.out.now c.key.new.self (token.key (codes "diffs") ∷ []) = record { before = c.key.ensures.before; tokens = c.in_ok-key-in-Some.ensures.ok } in
    diffs_wrote c.write_object.result c.args.out.now c.key.new.self c.write_object.new.out c.args.table.now c.args.present.now _ (g.R.Row.image c.in-Some.row.now) (ap (option_map _) c.in-Some.is) (sym c.has_diffs_in.ensures ∙ c.if-has_diffs_in.true) key c.write_object.ensures.written

pub returns-in_default-clause-sound : goal.returns-in_default-clause-sound
returns-in_default-clause-sound g c = without_diffs c.args.table.now c.args.present.now _ (g.R.Row.image c.in-Some.row.now) (ap (option_map _) c.in-Some.is) (sym c.has_diffs_in.ensures ∙ c.if-has_diffs_in.false)
