use Rattle.std.proofs.Common.{◌≡◌, Bool, true, false, nat_eq, refl, rules}
use Rattle.std.specs.Prelude.{not, ◌&&◌}
use Rattle.binlog_events.proofs.Reading.{other}
use Rattle.binlog_events.proofs.event.PlainEvent.of_raw.Goals as goal

first_is_not : (a b : Bool) → not a && not b ≡ true → a ≡ false
first_is_not false b h = refl
first_is_not true b h = cc

pub returns-clause-parses : goal.returns-clause-parses
returns-clause-parses c = λ x.
    other c.args.position c.args.in_force.now c.args.raw.now _ c.in_ok-parts.parts x c.plain_event.result c.header-header.ensures (search rules)
    (first_is_not (nat_eq c.args.raw.now.header.event_type 0x0F) (nat_eq c.args.raw.now.header.event_type 0x13) c.requires) (c.plain_event.ensures.parses x)
