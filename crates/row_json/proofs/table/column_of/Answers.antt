use Rattle.std.proofs.Common.{rules, ◌≡◌, [], map}
use Rattle.std.specs.Prelude.{unwrap_or}
use Rattle.std.specs.Option.{option_map}
use Rattle.std.specs.String.{string_bytes}
use Rattle.binlog_table.specs.Workings.ColumnsLeft.{seen_column}
use Rattle.row_json.specs.Charsets.{charset_of, text_in}
use Rattle.row_json.specs.Columns.{name_of, names_of_type}
use Rattle.row_json.specs.Kinds.{kind_of}
use Rattle.row_json.proofs.table.column_of.Goals as goal

pub returns-clause-column : goal.returns-clause-column
returns-clause-column c =
    let col = seen_column c.args.column.now in
    let n : string_bytes c.in_ok-name.name ≡ name_of c.args.index col.name = c.in_ok-name.ensures in
    let k : c.kind_of.result ≡ kind_of col.column_type (unwrap_or col.metadata []) col.charset = search rules in
    let s : map (option_map string_bytes) c.in_ok-take.field-0.items ≡ map (text_in (charset_of col.charset)) (names_of_type col.column_type c.args.names.now) = search rules in
    λ i. record { name = n i; kind = k i; names = s i }
