use Rattle.std.proofs.Common.{◌+◌, Some, Result, Ok, Err, subst}
use Rattle.std.specs.Arc.{arc_value}
use Rattle.binlog_base.specs.declared.fault.Fault.{Fault}
use Rattle.mysql_binlog_rows.specs.Images.{pair}
use Rattle.mysql_binlog_rows.specs.Rows.{ItemGives}
use Rattle.mysql_binlog_rows.specs.LentPairs.{lent_result, EmptyUnlessRead}
use Rattle.binlog_file.specs.LentChanges.{LentChange, PairGives}
use Rattle.binlog_file.proofs.LentFollowed.{pair_read, pair_failed}
use Rattle.binlog_file.proofs.lent_changes.LentChange.next_pair.Goals as goal

pub returns-in-Ok-clause-gives : goal.returns-in-Ok-clause-gives
returns-in-Ok-clause-gives c =
    let s : LentChange = record { origin = c.self.inside.origin; rows = c.self.inside.rows; table = arc_value c.self.inside.table; left = c.self.inside.pairs.left; count = c.self.inside.count } in
    let p = c.next_lent.new.pair in
    let left = c.next_lent.new.self.left in
    let item = c.in_ok-next_lent.ensures.gives.item s.table s.rows c.self.invariant.0 in
    let read = subst (λ (r : Result (Unit {0}) Fault). ItemGives (pair s.table s.rows) s.left (Some (lent_result p r)) left) c.in-Ok.is item in
    subst (λ (old : LentChange). PairGives old p (Some (Ok tt)) (record s { left = left; count = s.count + 1 })) c.self.view_is (pair_read s p left read)

pub returns-in-Err-clause-gives : goal.returns-in-Err-clause-gives
returns-in-Err-clause-gives c =
    let s : LentChange = record { origin = c.self.inside.origin; rows = c.self.inside.rows; table = arc_value c.self.inside.table; left = c.self.inside.pairs.left; count = c.self.inside.count } in
    let p = c.next_lent.new.pair in
    let left = c.next_lent.new.self.left in
    let item = c.in_ok-next_lent.ensures.gives.item s.table s.rows c.self.invariant.0 in
    let failed = subst (λ (r : Result (Unit {0}) Fault). ItemGives (pair s.table s.rows) s.left (Some (lent_result p r)) left) c.in-Err.is item in
    let none = subst (λ (r : Result (Unit {0}) Fault). EmptyUnlessRead (Some r) p) c.in-Err.is c.in_ok-next_lent.ensures.empty in
    subst (λ (old : LentChange). PairGives old p (Some (Err c.error_of.result)) (record s { left = left })) c.self.view_is
    (pair_failed s p left c.in-Err.fault c.error_of.result failed none c.error_of.ensures.position c.error_of.ensures.error)
