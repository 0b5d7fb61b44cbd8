-- The plan of the images after the change. It is a module of its own because `After`, a type of the
-- code, is declared by means of Plans.
use Rattle.std.specs.Prelude.{ℕ, Bool, true, false, Option}
use Rattle.mysql_binlog_rows.specs.declared.rows_event.rows.After.{After}
use Rattle.mysql_binlog_rows.specs.declared.rows_event.rows.After.TheVariants as after
use Rattle.mysql_binlog_rows.specs.Workings.Plans.{Plan, walked_in}

-- the plan, which may be that of the images before the change
abbrev pub after_in : Option Plan → After → Option Plan
after_in before after.Same = before
after_in before (after.Own plan) = plan

-- how many columns were walked over for it alone
abbrev pub walked_after : After → ℕ
walked_after after.Same = 0
walked_after (after.Own plan) = walked_in plan

-- whether it is that of the images before the change
abbrev pub is_same : After → Bool
is_same after.Same = true
is_same (after.Own plan) = false
