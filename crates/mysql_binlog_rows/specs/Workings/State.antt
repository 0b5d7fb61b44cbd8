-- How an iterator reads pairs, before and after its first pair. It is a module of its own because
-- `State`, a type of the code, is declared by means of Rows and Plans.
use Rattle.std.specs.Prelude.{◌≡◌, ℕ, ◌≤◌, Bool, true, false}
use Rattle.mysql_binlog_rows.specs.declared.rows_event.rows.State.{State}
use Rattle.mysql_binlog_rows.specs.declared.rows_event.rows.State.TheVariants as state
use Rattle.mysql_binlog_rows.specs.Workings.Plans.{Plans}
use Rattle.mysql_binlog_rows.specs.Rows.{plans_of_events, steps_of_events, most_of_events}

-- the plans, made or not yet made
abbrev pub plans_in : State → Plans
plans_in (state.Events events) = plans_of_events events
plans_in (state.Plans made) = made.plans

-- whether the plans are made
abbrev pub is_planned : State → Bool
is_planned (state.Events events) = false
is_planned (state.Plans made) = true

-- the steps that making them took for this event; 0 before
abbrev pub steps_in : State → ℕ
steps_in (state.Events events) = 0
steps_in (state.Plans made) = made.steps

-- the steps that making them takes for this event
abbrev pub due_in : State → ℕ
due_in (state.Events events) = steps_of_events events
due_in (state.Plans made) = made.steps

-- the most steps: those that were made, once the plans are made
abbrev pub most_in : State → ℕ
most_in (state.Events events) = most_of_events events
most_in (state.Plans made) = made.steps

-- the plans and their steps stay as they are, once they are made
pub record PlansKept (old new : State) : Type 0 where
  pub plans : plans_in new ≡ plans_in old
  pub once : is_planned old ≡ true → (is_planned new ≡ true) × (steps_in new ≡ steps_in old)
  pub due : due_in new ≡ due_in old
  pub most : most_in new ≤ most_in old
