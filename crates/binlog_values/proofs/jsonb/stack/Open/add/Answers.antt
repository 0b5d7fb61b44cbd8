use Rattle.std.proofs.Common.{◌+◌, ℕ, ap}
use Rattle.binlog_values.proofs.jsonb.stack.Open.add.Goals as goal

pub returns-clause-open : goal.returns-clause-open
returns-clause-open g c = λ of pos front t h is.
    record {
      container = h.container;
      place = ap (λ (n : ℕ). n + 1) h.place;
      collected = c.in_ok-add.ensures.entry of front t h.collected is;
    }
