use Rattle.std.proofs.Common.{◌≡◌, length}
use Rattle.std.specs.Option.{option_or}
use Rattle.binlog_base.specs.Items.{before_fault}
use Rattle.binlog_table.specs.Fields.{fields, last_of}
use Rattle.row_json.specs.Columns.{enums_in, sets_in}
use Rattle.row_json.proofs.names.names_in.Given as goal

abbrev pub invariant-loop-item : goal.invariant-loop-item
invariant-loop-item l =
    let left = before_fault (fields l.fields) in
    let all = before_fault (fields l.fn.fields) in
    record {
      enums : option_or (last_of enums_in left) l.enums ≡ last_of enums_in all;
      sets : option_or (last_of sets_in left) l.sets ≡ last_of sets_in all;
    }

abbrev pub decreases-loop-item : goal.decreases-loop-item
decreases-loop-item l = length l.fields.left.bytes
