-- Which table map events a TableMaps holds. It is a module of its own because TableMaps is a type of
-- the code.
use Rattle.std.specs.Prelude.{ℕ, Option}
use Rattle.std.specs.Option.{option_map}
use Rattle.std.specs.Ordering.{nat_cmp}
use Rattle.std.specs.Arc.{arc_value}
use Rattle.std.specs.BTreeMap as tree
use Rattle.binlog_table.specs.TableMap.{TableMap}
use Rattle.binlog_events.specs.Tables as events
use Rattle.binlog_events.specs.Tables.{Tables}
use Rattle.binlog_kept.specs.Opened.{first_or}
use Rattle.binlog_kept.specs.declared.in_force.InForce.{InForce}
use Rattle.binlog_kept.specs.declared.tables.TableMaps.{TableMaps}

-- the table map event that is in force for a table id
abbrev pub in_force_at : InForce → Tables
in_force_at f id = first_or (option_map arc_value f.first) id (option_map arc_value (tree.get nat_cmp f.others id))

abbrev pub in_maps : TableMaps → Tables
in_maps t = in_force_at t.in_force

abbrev pub held_by : TableMaps → events.InForce
held_by t = record { tables = in_maps t; ended = t.ended }

-- how many bytes of memory the table map events take at most that are kept past their statements
abbrev pub most_kept : TableMaps → ℕ
most_kept t = t.kept.most

-- the table map event that was opened last, whether it is in force still or not
abbrev pub opened_in : TableMaps → Option TableMap
opened_in t = option_map arc_value t.in_force.opened
