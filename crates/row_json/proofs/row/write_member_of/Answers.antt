use Rattle.row_json.proofs.row.write_member_of.Goals as goal

pub returns-in-Row-clause-sound : goal.returns-in-Row-clause-sound
returns-in-Row-clause-sound g c = rw c.in-Row.is c.write_member.ensures.sound

pub returns-in-Diffs-clause-sound : goal.returns-in-Diffs-clause-sound
returns-in-Diffs-clause-sound g c = rw c.in-Diffs.is c.write_diffs_member.ensures.sound
