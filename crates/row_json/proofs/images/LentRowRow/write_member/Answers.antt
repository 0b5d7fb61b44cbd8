use Rattle.row_json.proofs.images.LentRowRow.write_member.Goals as goal
use Rattle.row_json.specs.Faults.{HasNone, IsFaultOfCell}
use Rattle.binlog_cells.specs.Cells.{Cell}
use Rattle.std.specs.Prelude.{Option, OnOk}
use Rattle.std.proofs.Common.{subst}

pub returns-clause-sound : goal.returns-clause-sound
returns-clause-sound c = subst (λ (cell : Option Cell). OnOk c.write_member_of.result (HasNone (IsFaultOfCell c.args.part cell))) c.as_ref.ensures c.write_member_of.ensures.sound
