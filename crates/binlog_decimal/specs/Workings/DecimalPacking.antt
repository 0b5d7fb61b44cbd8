-- What is still to come of a packed form, as it is made group by group.
use Rattle.std.specs.Prelude.{◌≡◌, ℕ, ◌+◌, ◌<◌, ◌≤◌, List, [], ◌++◌, length, drop, Option, MatchOption}
use Rattle.std.specs.Int.Digits.{AllBelowBase}
use Rattle.binlog_decimal.specs.declared.decimal.pack.Group.{Group}
use Rattle.binlog_decimal.specs.declared.decimal.pack.Groups.{Groups}
use Rattle.binlog_decimal.specs.declared.decimal.pack.PackedBytes.{PackedBytes}
use Rattle.binlog_decimal.specs.Decimals.{group_bytes, grouped_bytes, integer_groups, fraction_groups}
use Rattle.binlog_decimal.specs.DecimalMasks.{masked_bytes}

-- the bytes of a group, with the sign encoding
abbrev pub group_left : Group → List ℕ
group_left g = drop g.start g.bytes

-- the bytes of the groups that are left, without the sign encoding
abbrev pub plain_left : Groups → List ℕ
plain_left s = grouped_bytes (integer_groups (length s.integer.now)) s.integer.now ++ grouped_bytes (fraction_groups (length s.fraction.now)) s.fraction.now

-- the bytes of the groups that are left, with the sign encoding
abbrev pub groups_left : Groups → List ℕ
groups_left s = masked_bytes s.negative s.first (plain_left s)

-- the digits that are left are from 0 to 9
abbrev pub AreDigits : Groups → Type 0
AreDigits s = AllBelowBase 10 s.integer.now × AllBelowBase 10 s.fraction.now

-- the digits of the next group
pub record TakesDigits (s : Groups) (digits : List ℕ) (t : Groups) : Type 0 where
  pub bytes : plain_left s ≡ group_bytes digits ++ plain_left t
  pub some : 0 < length digits
  pub most : length digits ≤ 9
  pub below : AllBelowBase 10 digits
  pub later : AreDigits t
  pub fewer : length t.integer.now + length t.fraction.now < length s.integer.now + length s.fraction.now
  pub negative : t.negative ≡ s.negative
  pub first : t.first ≡ s.first

-- the next group, which has bytes, and those after it; or no group is left
abbrev pub TakesGroup : Groups → Option Group → Groups → Type 0
TakesGroup s r t = MatchOption r ((groups_left s ≡ []) × (groups_left t ≡ [])) (λ g. (groups_left s ≡ group_left g ++ groups_left t) × (g.start < 4))

-- the bytes that are left of a group and of those after it
abbrev pub packed_left : PackedBytes → List ℕ
packed_left s = group_left s.group ++ groups_left s.groups
