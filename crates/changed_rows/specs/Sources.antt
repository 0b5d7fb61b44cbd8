-- What a Source writes. It is a module of its own because Source is a type of the code.
use Rattle.std.specs.Prelude.{ℕ, List}
use Rattle.std.specs.Option.{option_map}
use Rattle.row_json.specs.Wrote.{Named}
use Rattle.changed_rows.specs.declared.source.Source.{Source}
use Rattle.changed_rows.specs.Origins.{source_fields, source_member}

abbrev pub fields_of : Source → List Named
fields_of s = source_fields s.file.now s.origin s.row (option_map (λ g. g.now) s.gtid) s.database.now s.table.now

abbrev pub members_in : Source → List Named
members_in s = source_member (fields_of s)

-- where the row of this number of the same event comes from
abbrev pub source_at : Source → ℕ → Source
source_at s row = record s { row = row }
