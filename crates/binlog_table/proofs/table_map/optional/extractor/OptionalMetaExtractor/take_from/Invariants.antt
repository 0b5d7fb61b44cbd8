use Rattle.std.proofs.Common.{◌≡◌, ◌+◌, length}
use Rattle.std.specs.Option.{option_or}
use Rattle.binlog_base.specs.Items.{before_fault, first_fault}
use Rattle.binlog_table.specs.Fields.{fields, last_of, signs_in, default_in, charsets_in, names_in, simple_in, prefixed_in, enum_default_in, enum_charsets_in}
use Rattle.binlog_table.specs.Lists.{Spends}
use Rattle.binlog_table.specs.Steps.{up_to_fault}
use Rattle.binlog_table.proofs.table_map.optional.extractor.OptionalMetaExtractor.take_from.Given as goal

abbrev pub invariant-loop-item : goal.invariant-loop-item
invariant-loop-item l =
    let left = before_fault (fields l.fields) in
    let all = before_fault (fields l.fn.fields) in
    record {
      count : l.fields.left.taken + length (fields l.fields) ≡ l.fn.fields.left.taken + length (fields l.fn.fields);
      read : l.fields.left.taken + up_to_fault (fields l.fields) ≡ l.fn.fields.left.taken + up_to_fault (fields l.fn.fields);
      spends : Spends l.fn.fields.left.taken (length l.fn.fields.left.bytes) l.fields.left.taken (length l.fields.left.bytes);
      fault : first_fault (fields l.fields) ≡ first_fault (fields l.fn.fields);
      signs : option_or (last_of signs_in left) l.signs ≡ last_of signs_in all;
      default : option_or (last_of default_in left) l.default ≡ last_of default_in all;
      charsets : option_or (last_of charsets_in left) l.charsets ≡ last_of charsets_in all;
      names : option_or (last_of names_in left) l.names ≡ last_of names_in all;
      simple : option_or (last_of simple_in left) l.simple ≡ last_of simple_in all;
      prefixed : option_or (last_of prefixed_in left) l.prefixed ≡ last_of prefixed_in all;
      enum_default : option_or (last_of enum_default_in left) l.enum_default ≡ last_of enum_default_in all;
      enum_charsets : option_or (last_of enum_charsets_in left) l.enum_charsets ≡ last_of enum_charsets_in all;
    }

abbrev pub decreases-loop-item : goal.decreases-loop-item
decreases-loop-item l = length l.fields.left.bytes
