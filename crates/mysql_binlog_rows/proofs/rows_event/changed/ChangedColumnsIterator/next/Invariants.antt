use Rattle.std.proofs.Common.{◌≡◌, take}
use Rattle.binlog_base.specs.Bits.{count_set}
use Rattle.mysql_binlog_rows.proofs.Changed.{left_from}
use Rattle.mysql_binlog_rows.proofs.rows_event.changed.ChangedColumnsIterator.next.Given as goal

abbrev pub invariant-loop-column : goal.invariant-loop-column
invariant-loop-column l =
    let here = l.self-inside in
    let first = l.initial.self-inside in
    record {
      index : here.index ≡ l.column;
      end : here.end ≡ first.end;
      before : here.before.place ≡ count_set (take l.column here.before.present);
      after : here.after.place ≡ count_set (take l.column here.after.present);
      left : left_from here.before here.after l.column here.end ≡ left_from first.before first.after first.index first.end;
    }
