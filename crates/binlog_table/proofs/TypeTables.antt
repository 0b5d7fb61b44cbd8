-- The tables of column types have at each place the type of its number, and what is so of that type.
use Rattle.std.proofs.Common.{rules, ◌≡◌, ℕ, zero, suc, ◌+◌, ◌-◌, ◌<◌, ◌≤◌, get_or, length, take, drop, cond, ◌||◌, nat_le, inl, inr, Bool, true, false, ◌&&◌, List, [], ◌∷◌, Option, Some, Ok, refl, subst, ◌∙◌, arith}
use Rattle.std.specs.Prelude.{◌==◌, slice_get}
use Rattle.std.proofs.lemmas.Bool.{eqb-true, cases_eq, le-ltb}
use Rattle.std.specs.Bool.{beq}
use Rattle.std.proofs.lemmas.List.Sums.{sum_by-take-drop, count_by-le-length}
use Rattle.std.proofs.lemmas.Option.{slice_get_read}
use Rattle.binlog_base.specs.declared.below.columns.column_type.ColumnType.{ColumnType}
use Rattle.binlog_base.specs.ColumnTypes.{column_number, column_type_of}
use Rattle.binlog_base.specs.Lemmas.ColumnTypes.{column_number_reads_back}
use Rattle.binlog_base.specs.declared.below.columns.column_type.ColumnType.TheVariants as column
use Rattle.binlog_base.specs.declared.below.columns.server.Server.{Server}
use Rattle.binlog_base.specs.Servers.{numeric_group}
use Rattle.binlog_table.specs.ColumnTypes.{real_type}
use Rattle.binlog_table.specs.declared.table_map.raw_type.Chunk.{Chunk}
use Rattle.binlog_table.specs.declared.table_map.raw_type.Chunk.TheVariants as chunk
use Rattle.binlog_table.specs.declared.table_map.raw_type.Sort.{Sort}
use Rattle.binlog_table.specs.declared.table_map.raw_type.Sort.TheVariants as sort
use Rattle.binlog_table.specs.declared.table_map.raw_type.Row.{Row}
use Rattle.binlog_table.specs.declared.table_map.raw_type.TheConstants.{LOW_TYPES, HIGH_TYPES}
use Rattle.binlog_base.specs.declared.below.columns.server.Server.TheVariants.{MySql, MariaDb}
use Rattle.binlog_table.specs.Fields.{is_numeric_number, numeric_count}
use Rattle.binlog_base.specs.Format.{take_bytes}
use Rattle.binlog_table.specs.Chunks.{type_chunk, array_chunk}
use Rattle.binlog_table.specs.RawTypes.{chunk_of, sort_of, IsRow, IsRowOf}

same_chunk : Chunk → Chunk → Bool
same_chunk chunk.Empty chunk.Empty = true
same_chunk chunk.OneByte chunk.OneByte = true
same_chunk chunk.TwoBytes chunk.TwoBytes = true
same_chunk chunk.Array chunk.Array = true
same_chunk _ _ = false

chunk_is : (p q : Chunk) → same_chunk p q ≡ true → p ≡ q
unfolding same_chunk
chunk_is chunk.Empty chunk.Empty h = refl
chunk_is chunk.OneByte chunk.OneByte h = refl
chunk_is chunk.TwoBytes chunk.TwoBytes h = refl
chunk_is chunk.Array chunk.Array h = refl
chunk_is p q h = absurd cc

same_sort : Sort → Sort → Bool
same_sort sort.Numeric sort.Numeric = true
same_sort sort.OldNumeric sort.OldNumeric = true
same_sort sort.Plain sort.Plain = true
same_sort sort.Charset sort.Charset = true
same_sort sort.Renamed sort.Renamed = true
same_sort _ _ = false

sort_is : (p q : Sort) → same_sort p q ≡ true → p ≡ q
unfolding same_sort
sort_is sort.Numeric sort.Numeric h = refl
sort_is sort.OldNumeric sort.OldNumeric h = refl
sort_is sort.Plain sort.Plain h = refl
sort_is sort.Charset sort.Charset h = refl
sort_is sort.Renamed sort.Renamed h = refl
sort_is p q h = absurd cc

-- rows with the numbers from n on
are_from : ℕ → List Row → Bool
are_from n [] = true
are_from n (r ∷ rows) = (column_number r.column_type == n) && (same_chunk r.chunk (chunk_of r.column_type) && (same_sort r.sort (sort_of r.column_type) && are_from (suc n) rows))

both_of : (x y : Bool) → (x && y) ≡ true → (x ≡ true) × (y ≡ true)
both_of true y h = (refl, h)
both_of false y h = cc

record RowAt (n : ℕ) (r : Row) : Type 0 where
  number : column_number r.column_type ≡ n
  row : IsRow r

record Told (n : ℕ) (x : Row) (rows : List Row) : Type 0 where
  number : column_number x.column_type ≡ n
  chunk : x.chunk ≡ chunk_of x.column_type
  sort : x.sort ≡ sort_of x.column_type
  others : are_from (suc n) rows ≡ true

told : (n : ℕ) (x : Row) (rows : List Row) → are_from n (x ∷ rows) ≡ true → Told n x rows
unfolding are_from
told n x rows h =
    let first = both_of (column_number x.column_type == n) (same_chunk x.chunk (chunk_of x.column_type) && (same_sort x.sort (sort_of x.column_type) && are_from (suc n) rows)) h in
    let second = both_of (same_chunk x.chunk (chunk_of x.column_type)) (same_sort x.sort (sort_of x.column_type) && are_from (suc n) rows) first.1 in
    let third = both_of (same_sort x.sort (sort_of x.column_type)) (are_from (suc n) rows) second.1 in
    record {
      number = eqb-true (column_number x.column_type) n first.0;
      chunk = chunk_is x.chunk (chunk_of x.column_type) second.0;
      sort = sort_is x.sort (sort_of x.column_type) third.0;
      others = third.1;
    }

row_at : (n k : ℕ) (rows : List Row) (r : Row) → are_from n rows ≡ true → slice_get rows k ≡ Some r → RowAt (n + k) r
row_at n k [] r h g = absurd cc
row_at n zero (x ∷ rows) r h g =
    let t = told n x rows h in
    let same : x ≡ r = cc in
    let at : n ≡ n + 0 = omega arith in
    subst (RowAt (n + 0)) same (record { number = t.number ∙ at; row = record { chunk = t.chunk; sort = t.sort } })
row_at n (suc k) (x ∷ rows) r h g =
    let at : suc n + k ≡ n + suc k = omega arith in
    subst (λ (m : ℕ). RowAt m r) at (row_at (suc n) k rows r (told n x rows h).others g)

known : (n : ℕ) (t : ColumnType) → column_number t ≡ n → column_type_of n ≡ Ok t
known n t h = subst (λ (m : ℕ). column_type_of m ≡ Ok t) h (column_number_reads_back t)

row_of : (n : ℕ) (r : Row) → RowAt n r → IsRowOf n r
row_of n r at = record { type = known n r.column_type at.number; row = at.row }

pub low_row : (n : ℕ) (r : Row) → n < 21 → r ≡ get_or LOW_TYPES n r → IsRowOf n r
unfolding are_from same_chunk same_sort
low_row n r lt h =
    let at : 0 + n ≡ n = omega arith in
    row_of n r (subst (λ (m : ℕ). RowAt m r) at (row_at 0 n LOW_TYPES r refl (slice_get_read LOW_TYPES 21 n r refl lt h)))

pub high_row : (n : ℕ) (r : Row) → 245 ≤ n → n < 256 → r ≡ get_or HIGH_TYPES (n - 245) r → IsRowOf n r
unfolding are_from same_chunk same_sort
high_row n r le lt h =
    let at : 245 + (n - 245) ≡ n = omega (arith, le) in
    let within : n - 245 < 11 = omega (arith, lt, le) in
    row_of n r (subst (λ (m : ℕ). RowAt m r) at (row_at 245 (n - 245) HIGH_TYPES r refl (slice_get_read HIGH_TYPES 11 (n - 245) r refl within h)))

-- ---- what a sort tells

abbrev pub numeric_sort : Server → Sort → Bool
numeric_sort server sort.Numeric = true
numeric_sort MySql sort.OldNumeric = false
numeric_sort MariaDb sort.OldNumeric = true
numeric_sort server s = false

pub numeric_by_sort : (server : Server) (t : ColumnType) → numeric_group server t ≡ numeric_sort server (sort_of t)
numeric_by_sort MySql t = search rules
numeric_by_sort MariaDb t = search rules

pub real_by_sort : (t : ColumnType) (c : Option (List ℕ)) → (sort_of t ≡ sort.Renamed → ⊥) → real_type t c ≡ Ok t
real_by_sort column.MYSQL_TYPE_STRING c h = absurd (h refl)
real_by_sort column.MYSQL_TYPE_DATE c h = absurd (h refl)
real_by_sort t c h = refl

-- ---- numeric types by their numbers

-- a test holds of every number below n
all_below : (ℕ → Bool) → ℕ → Bool
all_below f zero = true
all_below f (suc n) = f n && all_below f n

below_at : (f : ℕ → Bool) (n i : ℕ) → all_below f n ≡ true → i < n → f i ≡ true
unfolding all_below
below_at f zero i h lt = absurd (omega (arith, lt))
below_at f (suc n) i h lt =
    let both = both_of (f n) (all_below f n) h in
    elim (cases_eq i n) [ inl same ↦ rw same both.0 | inr other ↦ below_at f n i both.1 (omega (arith, lt, other)) ]

beq_is : (a b : Bool) → beq a b ≡ true → a ≡ b
beq_is true true h = refl
beq_is false false h = refl
beq_is true false h = absurd cc
beq_is false true h = absurd cc

abbrev pub mysql_test : ℕ → Bool
mysql_test n = (nat_le 1 n && nat_le n 5) || (n == 8) || (n == 9) || (n == 246)

abbrev pub mariadb_test : ℕ → Bool
mariadb_test n = nat_le n 5 || (n == 8) || (n == 9) || (n == 13) || (n == 246)

pub mysql_numbers : (n : ℕ) → n < 256 → mysql_test n ≡ is_numeric_number MySql n
unfolding all_below is_numeric_number
mysql_numbers n lt = beq_is (mysql_test n) (is_numeric_number MySql n) (below_at (λ i. beq (mysql_test i) (is_numeric_number MySql i)) 256 n refl lt)

pub mariadb_numbers : (n : ℕ) → n < 256 → mariadb_test n ≡ is_numeric_number MariaDb n
unfolding all_below is_numeric_number
mariadb_numbers n lt = beq_is (mariadb_test n) (is_numeric_number MariaDb n) (below_at (λ i. beq (mariadb_test i) (is_numeric_number MariaDb i)) 256 n refl lt)

-- a count over the first types and one over the others
pub count_split : (server : Server) (types : List ℕ) (i : ℕ) → numeric_count server (take i types) + numeric_count server (drop i types) ≡ numeric_count server types
count_split server types i = sum_by-take-drop (λ x. cond (is_numeric_number server x) 1 0) types i

pub count_fits : (server : Server) (types : List ℕ) → numeric_count server types ≤ length types
count_fits server types = count_by-le-length (is_numeric_number server) types

-- ---- what a chunk tells

empty_type : (t : ColumnType) → chunk_of t ≡ chunk.Empty → type_chunk t ≡ take_bytes 0
empty_type column.MYSQL_TYPE_FLOAT h = absurd cc
empty_type column.MYSQL_TYPE_DOUBLE h = absurd cc
empty_type column.MYSQL_TYPE_VARCHAR h = absurd cc
empty_type column.MYSQL_TYPE_BIT h = absurd cc
empty_type column.MYSQL_TYPE_TIMESTAMP2 h = absurd cc
empty_type column.MYSQL_TYPE_DATETIME2 h = absurd cc
empty_type column.MYSQL_TYPE_TIME2 h = absurd cc
empty_type column.MYSQL_TYPE_TYPED_ARRAY h = absurd cc
empty_type column.MYSQL_TYPE_JSON h = absurd cc
empty_type column.MYSQL_TYPE_NEWDECIMAL h = absurd cc
empty_type column.MYSQL_TYPE_ENUM h = absurd cc
empty_type column.MYSQL_TYPE_SET h = absurd cc
empty_type column.MYSQL_TYPE_TINY_BLOB h = absurd cc
empty_type column.MYSQL_TYPE_MEDIUM_BLOB h = absurd cc
empty_type column.MYSQL_TYPE_LONG_BLOB h = absurd cc
empty_type column.MYSQL_TYPE_BLOB h = absurd cc
empty_type column.MYSQL_TYPE_VAR_STRING h = absurd cc
empty_type column.MYSQL_TYPE_STRING h = absurd cc
empty_type column.MYSQL_TYPE_GEOMETRY h = absurd cc
empty_type column.MYSQL_TYPE_VECTOR h = absurd cc
empty_type t h = refl

no_bytes_taken : (x : List ℕ) → (take_bytes 0).parse x ≡ Ok ([], x)
no_bytes_taken x = rw (le-ltb (length x) 0 (omega arith)) refl

pub empty_chunk : (t : ColumnType) (x : List ℕ) → chunk_of t ≡ chunk.Empty → (type_chunk t).parse x ≡ Ok ([], x)
empty_chunk t x h = rw (empty_type t h) (no_bytes_taken x)

pub one_byte : (t : ColumnType) → chunk_of t ≡ chunk.OneByte → type_chunk t ≡ take_bytes 1
one_byte column.MYSQL_TYPE_FLOAT h = refl
one_byte column.MYSQL_TYPE_DOUBLE h = refl
one_byte column.MYSQL_TYPE_TINY_BLOB h = refl
one_byte column.MYSQL_TYPE_MEDIUM_BLOB h = refl
one_byte column.MYSQL_TYPE_LONG_BLOB h = refl
one_byte column.MYSQL_TYPE_BLOB h = refl
one_byte column.MYSQL_TYPE_GEOMETRY h = refl
one_byte column.MYSQL_TYPE_JSON h = refl
one_byte column.MYSQL_TYPE_VECTOR h = refl
one_byte column.MYSQL_TYPE_TIMESTAMP2 h = refl
one_byte column.MYSQL_TYPE_DATETIME2 h = refl
one_byte column.MYSQL_TYPE_TIME2 h = refl
one_byte t h = absurd cc

pub two_bytes : (t : ColumnType) → chunk_of t ≡ chunk.TwoBytes → type_chunk t ≡ take_bytes 2
two_bytes column.MYSQL_TYPE_VARCHAR h = refl
two_bytes column.MYSQL_TYPE_VAR_STRING h = refl
two_bytes column.MYSQL_TYPE_STRING h = refl
two_bytes column.MYSQL_TYPE_ENUM h = refl
two_bytes column.MYSQL_TYPE_SET h = refl
two_bytes column.MYSQL_TYPE_BIT h = refl
two_bytes column.MYSQL_TYPE_NEWDECIMAL h = refl
two_bytes t h = absurd cc

pub array : (t : ColumnType) → chunk_of t ≡ chunk.Array → type_chunk t ≡ array_chunk
array column.MYSQL_TYPE_TYPED_ARRAY h = refl
array t h = absurd cc

-- a chunk of a fixed length is read as so many bytes
pub parses_none : (t : ColumnType) (x : List ℕ) → chunk_of t ≡ chunk.Empty → (type_chunk t).parse x ≡ (take_bytes 0).parse x
parses_none t x h = rw (empty_type t h) refl

pub parses_one : (t : ColumnType) (x : List ℕ) → chunk_of t ≡ chunk.OneByte → (type_chunk t).parse x ≡ (take_bytes 1).parse x
parses_one t x h = rw (one_byte t h) refl

pub parses_two : (t : ColumnType) (x : List ℕ) → chunk_of t ≡ chunk.TwoBytes → (type_chunk t).parse x ≡ (take_bytes 2).parse x
parses_two t x h = rw (two_bytes t h) refl
