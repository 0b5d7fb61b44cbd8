-- Where a reading of changes is. It is a module of its own because Walk is a type of the code.
use Rattle.std.specs.Prelude.{ℕ, ◌+◌}
use Rattle.binlog_file.specs.TableMaps.{held_by, most_kept}
use Rattle.binlog_file.specs.Changes.{Spot}
use Rattle.binlog_file.specs.declared.walk.Walk.{Walk}

abbrev pub spot_of : Walk → Spot
spot_of w = record { place = w.events; in_force = held_by w.tables; pending = w.pending }

-- how many bytes the table map events and plans take at most that are kept past the end of statements,
-- beside the last 64 plans
abbrev pub most_kept_in : Walk → ℕ
most_kept_in w = most_kept w.tables + w.plans.stored.most
