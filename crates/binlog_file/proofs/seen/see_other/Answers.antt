use Rattle.std.proofs.Common.{Option, ap, ◌∙◌}
use Rattle.binlog_file.specs.Description.{Description}
use Rattle.binlog_file.specs.Events.{Glance, glance_of}
use Rattle.binlog_file.specs.Tables.{in_force_after}
use Rattle.binlog_file.specs.TableMaps.{held_by}
use Rattle.binlog_file.specs.Workings.Glances.{seen}
use Rattle.binlog_file.proofs.TablesLeft.{held_as}
use Rattle.binlog_file.proofs.seen.see_other.Goals as goal

pub returns-clause-sees : goal.returns-clause-sees
returns-clause-sees c =
    let e = c.in_ok-event.event in (
      e,
      ap (λ (g : Glance). seen g c.description_again.result) c.glance.ensures ∙ ap (λ (d : Option Description). seen (glance_of e) d) c.description_again.ensures,
      c.in_ok-event.ensures,
      held_as (held_by c.take.new.self) (in_force_after (held_by c.args.tables.now) e) c.in_ok-take.ensures.tables c.in_ok-take.ensures.ended,
    )
