use Rattle.std.proofs.Common.{rules}
use Rattle.binlog_table.proofs.ColumnWalk.{column_of_next, walk_follows, parts_of_next}
use Rattle.binlog_table.proofs.StepByStep.{step_first, step_unknown, step_type_fault, step_charset_fault, step_name_fault, step_key, step_later}
use Rattle.binlog_table.proofs.table_map.optional.columns.next_column.Goals as goal

pub returns-in_err-column_type-clause-now : goal.returns-in_err-column_type-clause-now
returns-in_err-column_type-clause-now c = rw (column_of_next c.args.walk.now c.in-Some.raw.now c.in-Some.types.now c.in_ok-raw_type.raw_type (search rules) (search rules)) (search rules)

pub returns-in_err-charset-clause-now : goal.returns-in_err-charset-clause-now
returns-in_err-charset-clause-now c = rw (column_of_next c.args.walk.now c.in-Some.raw.now c.in-Some.types.now c.in_ok-raw_type.raw_type (search rules) (search rules)) (search rules)

pub returns-in_err-name-clause-now : goal.returns-in_err-name-clause-now
returns-in_err-name-clause-now c = rw (column_of_next c.args.walk.now c.in-Some.raw.now c.in-Some.types.now c.in_ok-raw_type.raw_type (search rules) (search rules)) (search rules)

pub returns-in_err-is_key-clause-now : goal.returns-in_err-is_key-clause-now
returns-in_err-is_key-clause-now c = rw (column_of_next c.args.walk.now c.in-Some.raw.now c.in-Some.types.now c.in_ok-raw_type.raw_type (search rules) (search rules)) (search rules)

pub returns-clause-now : goal.returns-clause-now
returns-clause-now c = rw (column_of_next c.args.walk.now c.in-Some.raw.now c.in-Some.types.now c.in_ok-raw_type.raw_type (search rules) (search rules)) (search rules)

pub returns-clause-later : goal.returns-clause-later
returns-clause-later c =
    walk_follows c.args.walk.now _ c.in-Some.raw.now c.in_ok-raw_type.raw_type c.in_ok-column_type.column_type (search rules) (search rules) (search rules) (search rules) c.take_chunk-metadata.ensures.left
    c.next_sign-unsigned.ensures.left c.in_ok-charset.ensures.characters c.in_ok-charset.ensures.enums c.next_name.ensures.later (search rules) c.in_ok-is_key.ensures.later
    (search rules)

pub returns-in_err-raw_type-clause-exact : goal.returns-in_err-raw_type-clause-exact
returns-in_err-raw_type-clause-exact c = λ _. step_unknown c.args.walk.now c.in-Some.raw.now c.in-Some.types.now c.in_err-raw_type.field-0.0 (search rules) (search rules)

pub returns-in_err-column_type-clause-exact : goal.returns-in_err-column_type-clause-exact
returns-in_err-column_type-clause-exact c = λ _.
    rw (step_first c.args.walk.now c.in-Some.raw.now c.in-Some.types.now c.in_ok-raw_type.raw_type (search rules) (search rules))
    (step_type_fault c.args.walk.now (parts_of_next c.args.walk.now c.in_ok-raw_type.raw_type) c.in_err-column_type.field-0.0 (search rules))

pub returns-in_err-charset-clause-exact : goal.returns-in_err-charset-clause-exact
returns-in_err-charset-clause-exact c = λ _.
    rw (step_first c.args.walk.now c.in-Some.raw.now c.in-Some.types.now c.in_ok-raw_type.raw_type (search rules) (search rules))
    (step_charset_fault c.args.walk.now (parts_of_next c.args.walk.now c.in_ok-raw_type.raw_type) c.in_ok-column_type.column_type c.in_err-charset.field-0.0 c.next_charset.new.characters c.next_charset.new.enums (search rules) (search rules)
    c.in_err-charset.ensures.characters_taken c.in_err-charset.ensures.enums_taken)

pub returns-in_err-name-clause-exact : goal.returns-in_err-name-clause-exact
returns-in_err-name-clause-exact c = λ _.
    rw (step_first c.args.walk.now c.in-Some.raw.now c.in-Some.types.now c.in_ok-raw_type.raw_type (search rules) (search rules))
    (step_name_fault c.args.walk.now (parts_of_next c.args.walk.now c.in_ok-raw_type.raw_type) c.in_ok-column_type.column_type c.in_ok-charset.charset c.in_err-name.field-0.0 c.next_name.new.names c.next_charset.new.characters c.next_charset.new.enums
    (search rules) (search rules) (search rules) c.next_name.ensures.taken c.in_ok-charset.ensures.characters_taken c.in_ok-charset.ensures.enums_taken)

pub returns-in_err-is_key-clause-exact : goal.returns-in_err-is_key-clause-exact
returns-in_err-is_key-clause-exact c = λ _.
    rw (step_first c.args.walk.now c.in-Some.raw.now c.in-Some.types.now c.in_ok-raw_type.raw_type (search rules) (search rules))
    (step_key c.args.walk.now (parts_of_next c.args.walk.now c.in_ok-raw_type.raw_type) c.in_ok-column_type.column_type c.in_ok-charset.charset c.in_ok-name.name c.next_name.new.names c.is_key.new.self c.next_charset.new.characters c.next_charset.new.enums
    (search rules) (search rules) (search rules) c.next_name.ensures.taken (search rules) c.in_ok-charset.ensures.characters_taken c.in_ok-charset.ensures.enums_taken)

pub returns-clause-exact : goal.returns-clause-exact
returns-clause-exact c = λ _.
    rw (step_first c.args.walk.now c.in-Some.raw.now c.in-Some.types.now c.in_ok-raw_type.raw_type (search rules) (search rules))
    (step_key c.args.walk.now (parts_of_next c.args.walk.now c.in_ok-raw_type.raw_type) c.in_ok-column_type.column_type c.in_ok-charset.charset c.in_ok-name.name c.next_name.new.names c.is_key.new.self c.next_charset.new.characters c.next_charset.new.enums
    (search rules) (search rules) (search rules) c.next_name.ensures.taken (search rules) c.in_ok-charset.ensures.characters_taken c.in_ok-charset.ensures.enums_taken)

pub returns-clause-ahead : goal.returns-clause-ahead
returns-clause-ahead c =
    step_later c.args.walk.now _ c.in-Some.raw.now c.in-Some.types.now c.in_ok-raw_type.raw_type c.in_ok-column_type.column_type c.in_ok-charset.charset c.in_ok-name.name (search rules) (search rules)
    (search rules) (search rules) (search rules) (search rules) (search rules) (search rules) c.next_name.ensures.taken (search rules) c.in_ok-charset.ensures.characters_ahead c.in_ok-charset.ensures.enums_ahead
    (walk_follows c.args.walk.now _ c.in-Some.raw.now c.in_ok-raw_type.raw_type c.in_ok-column_type.column_type (search rules) (search rules) (search rules) (search rules) c.take_chunk-metadata.ensures.left
    c.next_sign-unsigned.ensures.left c.in_ok-charset.ensures.characters c.in_ok-charset.ensures.enums c.next_name.ensures.later (search rules) c.in_ok-is_key.ensures.later
    (search rules))
