-- Which events are asked for.
use Rattle.std.specs.Prelude.{ℕ, nat_eq, Bool, ◌||◌, List}
use Rattle.std.specs.List.{list_any}
use Rattle.std.specs.Option.{is_some}
use Rattle.binlog_file.specs.Events.{rows_type}

-- events of this type are asked for: rows events are, and those of these types
abbrev pub is_asked : List ℕ → ℕ → Bool
is_asked types type = is_some (rows_type type) || list_any (λ t. nat_eq t type) types
