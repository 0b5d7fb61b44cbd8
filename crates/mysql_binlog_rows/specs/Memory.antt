-- What plans take of memory, in bytes, reckoned from lengths. The numbers are bounds from above: they
-- hold the sizes of structs where addresses have eight bytes, and what the allocator adds to a block.
use Rattle.std.specs.Prelude.{ℕ, ◌+◌, ◌*◌, ◌-◌, ◌^◌, min, List, length, sum_by, Bool, true, false, Option, Some, None}
use Rattle.binlog_base.specs.Values.{ColumnView}
use Rattle.mysql_binlog_rows.specs.Workings.Plans.{Plan, Plans}

-- the number; the greatest `usize` where it is greater
abbrev pub in_usize : ℕ → ℕ
in_usize n = min n (2 ^ 64 - 1)

-- the names of columns
abbrev pub names_bytes : List ColumnView → ℕ
names_bytes columns = sum_by (λ c. length c.name) columns

-- The plan of an image: for each column in it 68 bytes, of which 12 are room for its name, and the
-- names twice, since the room for their text doubles when it grows.
abbrev pub plan_bytes : Plan → ℕ
plan_bytes p = 192 + 68 * p.count + 2 * names_bytes p.planned.columns

-- the plan, if there is one
abbrev pub maybe_bytes : Option Plan → ℕ
maybe_bytes None = 0
maybe_bytes (Some p) = plan_bytes p

-- the plan of the images after the change, if it is one of its own
abbrev pub bytes_apart : Bool → Option Plan → ℕ
bytes_apart true p = 0
bytes_apart false p = maybe_bytes p

-- the plans of both images
abbrev pub plans_bytes : Plans → ℕ
plans_bytes p = maybe_bytes p.before + bytes_apart p.is_one p.after
