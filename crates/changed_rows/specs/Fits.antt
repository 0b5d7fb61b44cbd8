-- The member `source` nests two levels.
use Rattle.std.proofs.Common.{arith, ℕ, List, Option, Some, None}
use Rattle.std.specs.Option.{option_map}
use Rattle.row_json.specs.Wrote.{Fits}
use Rattle.binlog_events.specs.declared.origin.Origin.{Origin}
use Rattle.changed_rows.specs.declared.source.Source.{Source}
use Rattle.changed_rows.specs.Origins.{source_fields, source_member}
use Rattle.changed_rows.specs.Sources.{members_in}

fits : (file : List ℕ) (from : Origin) (row : ℕ) (gtid : Option (List ℕ)) (database table : List ℕ) → Fits (source_member (source_fields file from row gtid database table))
fits file from row None database table = omega arith
fits file from row (Some g) database table = omega arith

pub members_fit : (s : Source) → Fits (members_in s)
members_fit s = fits s.file.now s.origin s.row (option_map (λ g. g.now) s.gtid) s.database.now s.table.now
