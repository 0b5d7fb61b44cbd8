-- The version of a server, as the format description event has it.
use Rattle.std.specs.Prelude.{ℕ, ◌+◌, ◌-◌, ◌*◌, ◌&&◌, ◌||◌, not, Bool, false, nat_lt, nat_eq, min, if◌then◌else◌, List, [], ◌∷◌, drop, codes}
use Rattle.std.specs.List.{starts_with}
use Rattle.binlog_base.specs.declared.below.columns.server.Server.{Server}
use Rattle.binlog_base.specs.declared.below.columns.server.Server.TheVariants.{MySql, MariaDb}

-- the number that a text begins with, after digits that make n, and the text after it; a number above
-- 255 is 256
abbrev pub leading : ℕ → List ℕ → ℕ × List ℕ
leading n [] = (n, [])
leading n (c ∷ x) = if nat_lt 47 c && nat_lt c 58 then leading (min 256 (10 * n + (c - 48))) x else (n, c ∷ x)

abbrev pub has_point : List ℕ → Bool
has_point [] = false
has_point (c ∷ x) = nat_eq c 46

-- the number after a point, and the text after it; 0 if there is no point
abbrev pub after_point : List ℕ → ℕ × List ℕ
after_point x = if has_point x then leading 0 (drop 1 x) else (0, x)

-- three numbers below 256 as one number, by which versions are compared
abbrev pub version : ℕ → ℕ → ℕ → ℕ
version a b c = 65536 * a + 256 * b + c

-- The version that a text such as 10.6.12-MariaDB begins with. It is 0.0.0 if a number is above 255, or
-- no point follows the first.
abbrev pub version_of : List ℕ → ℕ
version_of x =
    let first = leading 0 x in
    let second = after_point first.1 in
    let third = after_point second.1 in
    if has_point first.1 && nat_lt first.0 256 && nat_lt second.0 256 && nat_lt third.0 256 then version first.0 second.0 third.0 else 0

-- the text has the word, which isn't empty, in it
abbrev pub occurs : List ℕ → List ℕ → Bool
occurs word [] = false
occurs word (c ∷ x) = starts_with nat_eq (c ∷ x) word || occurs word x

-- MariaDB has its name in its versions
unfoldable pub server_of : List ℕ → Server
server_of x = if occurs (codes "MariaDB") x || occurs (codes "-maria-") x then MariaDb else MySql

-- the first version of a server whose events may end with checksums
abbrev pub first_with_checksums : Server → ℕ
first_with_checksums MySql = version 5 6 1
first_with_checksums MariaDb = version 5 3 0

unfoldable pub knows_checksums : List ℕ → Bool
knows_checksums x = not (nat_lt (version_of x) (first_with_checksums (server_of x)))

-- only servers from 5.0.0 on write binlog version 4
unfoldable pub is_too_old : List ℕ → Bool
is_too_old x = nat_lt (version_of x) (version 5 0 0)
