-- The group numbers of GTIDs.
use Rattle.std.specs.Prelude.{ℕ, Bool, ◌-◌, ◌^◌, ◌==◌, ◌||◌, ◌&&◌, nat_le, nat_lt}

-- the lowest number of a transaction that has a GTID
abbrev pub min_gno : ℕ
min_gno = 1

-- the highest number of an i64
abbrev pub max_gno : ℕ
max_gno = 2 ^ 63 - 1

-- a group number is 0, for an anonymous transaction, or at least min_gno and below max_gno
abbrev pub is_group_number : ℕ → Bool
is_group_number n = n == 0 || (nat_le min_gno n && nat_lt n max_gno)
