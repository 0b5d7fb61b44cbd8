use Rattle.std.proofs.Common.{◌≡◌, ℕ, Bool, true, Some, cond, ap, subst, ◌∙◌, rules}
use Rattle.std.specs.Cmp.{nat_cmp_total, tied_itself}
use Rattle.std.specs.Ordering.{is_eq, nat_cmp}
use Rattle.std.specs.BTreeMap.{is_at}
use Rattle.binlog_kept.specs.Kept.{HasRoom, kept_at}
use Rattle.changed_rows.specs.declared.table.Table.{Table}
use Rattle.changed_rows.proofs.Kept.{tells_if}
use Rattle.changed_rows.proofs.tables.KeptTables.store.Goals as goal

pub returns-clause-stored : goal.returns-clause-stored
returns-clause-stored c =
    let table = c.in_ok-table.table in
    let key = c.args.key in
    let yes : c.in_ok-make_room.field-0 ≡ true = search rules in
    let room = subst (λ (n : ℕ). HasRoom (λ (t : Table). t.bytes) c.make_room.new.self n) c.bytes.ensures (c.in_ok-make_room.ensures.room yes) in
    let same : is_at (nat_cmp key) key ≡ true = ap is_eq (tied_itself nat_cmp_total key) in
    let is = c.in_ok-insert.ensures.kept room key ∙ ap (λ (b : Bool). cond b (Some table) (kept_at c.make_room.new.self key)) same in
    λ _. tells_if (kept_at c.insert.new.self key) table c.args.event.now is (record {
      columns = c.in_ok-table.ensures.columns;
      database = c.in_ok-table.ensures.database;
      name = c.in_ok-table.ensures.name;
    })
