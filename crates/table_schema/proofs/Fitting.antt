-- The columns of an event that a table fits, and those of the table.
use Rattle.std.proofs.Common.{◌≡◌, ℕ, zero, suc, ◌+◌, Bool, true, false, ◌||◌, ◌&&◌, not, List, [], ◌∷◌, ◌++◌, map, length, take, Option, Some, None, Result, Ok, Err, refl, sym, ap, subst, ◌∙◌, arith, one-add}
use Rattle.std.specs.Prelude.{slice_get, count_by, if◌then◌else◌, ◌==◌, bit_or}
use Rattle.std.specs.List.{list_any}
use Rattle.std.proofs.lemmas.Bool.{false≢true}
use Rattle.std.proofs.lemmas.List.Sums.{sum_by-cons}
use Rattle.binlog_base.specs.declared.fault.Fault.TheVariants as fault
use Rattle.binlog_base.specs.declared.fault.Fault.{Fault}
use Rattle.binlog_base.specs.declared.below.columns.column_type.ColumnType.{ColumnType}
use Rattle.binlog_base.specs.declared.below.columns.column_type.ColumnType.TheVariants as column
use Rattle.binlog_base.specs.declared.below.columns.server.Server.{Server}
use Rattle.binlog_base.specs.declared.below.columns.server.Server.TheVariants as server
use Rattle.binlog_base.specs.Lemmas.Format.{bind_ok, ok_is}
use Rattle.binlog_base.specs.Items.{before_fault, first_fault}
use Rattle.binlog_base.specs.Servers.{numeric_group}
use Rattle.binlog_base.specs.Tables.{from_table}
use Rattle.binlog_base.specs.ColumnTypes.{column_types}
use Rattle.binlog_table.specs.declared.table_map.bad_column_type.BadColumnType.{BadColumnType}
use Rattle.binlog_table.specs.declared.table_map.bad_column_type.BadColumnType.TheVariants as bad
use Rattle.binlog_base.specs.declared.below.columns.column_type.UnknownColumnType.{UnknownColumnType}
use Rattle.binlog_table.specs.declared.table_map.optional.fields.OptionalMetadataField.{OptionalMetadataField}
use Rattle.binlog_table.specs.TableMap.{TableMap}
use Rattle.binlog_table.specs.Chunks.{chunk_at}
use Rattle.binlog_table.specs.ColumnTypes.{raw_type_of, some_of, string_types, string_type, real_type, real_type_of}
use Rattle.binlog_table.specs.Fields.{is_numeric_number, numeric_count, in_group, fields}
use Rattle.binlog_table.specs.Extracted.{fields_of}
use Rattle.binlog_table.specs.TableColumns as table
use Rattle.binlog_table.specs.TableColumns.{column_then, columns_by, column_at, column_by, typed, type_at, table_columns, unless_faulty}
use Rattle.table_schema.specs.Schemas.{Column, Table}
use Rattle.table_schema.specs.Has.{is_fault, has_of}
use Rattle.table_schema.specs.Fits.{fit_columns, fits_column, fits}
use Rattle.table_schema.specs.Completed.{among, types_of}

and_left : (a b : Bool) → (a && b) ≡ true → a ≡ true
and_left true b h = refl
and_left false b h = h

pub and_right : (a b : Bool) → (a && b) ≡ true → b ≡ true
and_right true b h = h
and_right false b h = absurd (false≢true h)

pub not_either : (a b : Bool) → not (a || b) ≡ true → (a ≡ false) × (b ≡ false)
not_either true b h = absurd (false≢true h)
not_either false true h = absurd (false≢true h)
not_either false false h = (refl, refl)

-- ---- no fault

pub all_before : {A : Type 0} (xs ys : List A) → before_fault (map Ok xs ++ map Ok ys) ≡ xs ++ ys
all_before [] [] = refl
all_before [] (y ∷ ys) = ap (λ l. y ∷ l) (all_before [] ys)
all_before (x ∷ xs) ys = ap (λ l. x ∷ l) (all_before xs ys)

-- ---- columns

fit_all : (signs : Bool) (s : Server) (nulls : List Bool) (cs : List Column) (rs : List (Result table.Column Fault)) → fit_columns signs s nulls cs rs ≡ true → (cols : List table.Column) × (rs ≡ map Ok cols) × (length cols ≡ length cs)
fit_all signs s nulls [] [] h = ([], refl, refl)
fit_all signs s nulls [] (t ∷ ts) h = absurd (false≢true h)
fit_all signs s nulls (c ∷ cs) [] h = absurd (false≢true h)
fit_all signs s nulls (c ∷ cs) (Err e ∷ ts) h = absurd (false≢true h)
fit_all signs s [] (c ∷ cs) (Ok t ∷ ts) h = absurd (false≢true h)
fit_all signs s (null ∷ nulls) (c ∷ cs) (Ok t ∷ ts) h =
    let r = fit_all signs s nulls cs ts (and_right (fits_column (signs && numeric_group s t.column_type) null c t) (fit_columns signs s nulls cs ts) h) in
    (t ∷ r.0, ap (λ l. Ok t ∷ l) r.1, ap suc r.2)

record Then (r : Result table.Column Fault) (more : List (Result table.Column Fault)) (cols : List table.Column) : Type 0 where
  c : table.Column
  cs : List table.Column
  is : cols ≡ c ∷ cs
  first : r ≡ Ok c
  later : more ≡ map Ok cs

then_all : (r : Result table.Column Fault) (more : List (Result table.Column Fault)) (cols : List table.Column) → column_then r more ≡ map Ok cols → Then r more cols
then_all (Ok x) more [] h = absurd cc
then_all (Ok x) more (c ∷ cs) h = record { c = c; cs = cs; is = refl; first = cc; later = cc }
then_all (Err e) more [] h = absurd cc
then_all (Err e) more (c ∷ cs) h = absurd cc

at_first : (f : ℕ → Result table.Column Fault) (x c : table.Column) → f 0 ≡ Ok x → Some x ≡ Some c → f 0 ≡ Ok c
at_first f x c h k = cc

-- these are the columns by their numbers
record By (f : ℕ → Result table.Column Fault) (n : ℕ) (cols : List table.Column) : Type 0 where
  count : length cols ≡ n
  each : (i : ℕ) (c : table.Column) → slice_get cols i ≡ Some c → f i ≡ Ok c

by_more : (f : ℕ → Result table.Column Fault) (n : ℕ) (x : table.Column) (xs : List table.Column) → f 0 ≡ Ok x → By (λ i. f (suc i)) n xs → By f (suc n) (x ∷ xs)
by_more f n x xs h k = record { count = ap suc k.count; each = go } where
  go : (i : ℕ) (c : table.Column) → slice_get (x ∷ xs) i ≡ Some c → f i ≡ Ok c
  go zero c e = at_first f x c h e
  go (suc i) c e = k.each i c e

by_all : (f : ℕ → Result table.Column Fault) (n : ℕ) (cols : List table.Column) → columns_by f n ≡ map Ok cols → By f n cols
by_all f zero [] h = record { count = refl; each = λ i c e. absurd cc }
by_all f zero (c ∷ cs) h = absurd cc
by_all f (suc n) cols h =
    let t = then_all (f 0) (columns_by (λ i. f (suc i)) n) cols h in
    subst (λ l. By f (suc n) l) (sym t.is) (by_more f n t.c t.cs t.first (by_all (λ i. f (suc i)) n t.cs t.later))

-- ---- raw types and real types

table_step : {E : Type 0} (g : ColumnType → Bool) (t : Bool) (row a : ColumnType) (next : Result ColumnType E) → g row ≡ false → (next ≡ Ok a → g a ≡ false) → (if t then Ok row else next) ≡ Ok a → g a ≡ false
table_step g true row a next h k e = subst (λ x. g x ≡ false) (ok_is row a e) h
table_step g false row a next h k e = k e

or_no : (a b : Bool) → (a || b) ≡ false → (a ≡ false) × (b ≡ false)
or_no true b h = absurd (false≢true (sym h))
or_no false b h = (refl, h)

-- a test that no row of a table meets
table_none : {E : Type 0} (g : ColumnType → Bool) (rows : List (ℕ × ColumnType)) (refused : ℕ → E) (n : ℕ) (a : ColumnType) → list_any (λ row. g row.1) rows ≡ false → from_table rows refused n ≡ Ok a → g a ≡ false
table_none g [] refused n a h e = absurd cc
table_none g (row ∷ rows) refused n a h e =
    let o = or_no (g row.1) (list_any (λ r. g r.1) rows) h in
    table_step g (n == row.0) row.1 a (from_table rows refused n) o.0 (λ k. table_none g rows refused n a o.1 k) e

same_step : {D E : Type 0} (t : Bool) (row a : ColumnType) (x : Result ColumnType D) (y : Result ColumnType E) → (x ≡ Ok a → y ≡ Ok a) → (if t then Ok row else x) ≡ Ok a → (if t then Ok row else y) ≡ Ok a
same_step true row a x y k e = ap (λ (c : ColumnType). Ok c) (ok_is row a e)
same_step false row a x y k e = k e

-- what a table has for a number, whatever it says of others
same_table : {D E : Type 0} (rows : List (ℕ × ColumnType)) (f : ℕ → D) (g : ℕ → E) (n : ℕ) (a : ColumnType) → from_table rows f n ≡ Ok a → from_table rows g n ≡ Ok a
same_table [] f g n a e = absurd cc
same_table (row ∷ rows) f g n a e = same_step (n == row.0) row.1 a (from_table rows f n) (from_table rows g n) (same_table rows f g n a) e

string_no : (s : Server) → numeric_group s column.MYSQL_TYPE_STRING ≡ false
string_no server.MySql = refl
string_no server.MariaDb = refl

date_same : (s : Server) → numeric_group s column.MYSQL_TYPE_DATE ≡ numeric_group s column.MYSQL_TYPE_NEWDATE
date_same server.MySql = refl
date_same server.MariaDb = refl

strings_no : (s : Server) → list_any (λ row. numeric_group s row.1) string_types ≡ false
strings_no server.MySql = refl
strings_no server.MariaDb = refl

string_none : (s : Server) (chunk : Option (List ℕ)) (real : ColumnType) → string_type chunk ≡ Ok real → numeric_group s real ≡ false
string_none s None real h = subst (λ x. numeric_group s x ≡ false) (ok_is column.MYSQL_TYPE_STRING real h) (string_no s)
string_none s (Some []) real h = subst (λ x. numeric_group s x ≡ false) (ok_is column.MYSQL_TYPE_STRING real h) (string_no s)
string_none s (Some (first ∷ more)) real h =
    table_step (numeric_group s) (first == 0) column.MYSQL_TYPE_STRING real (from_table string_types bad.Unexpected (bit_or first 48)) (string_no s) (λ k. table_none (numeric_group s) string_types bad.Unexpected (bit_or first 48) real (strings_no s) k) h

real_numeric : (s : Server) (raw : ColumnType) (chunk : Option (List ℕ)) (real : ColumnType) → real_type raw chunk ≡ Ok real → numeric_group s raw ≡ numeric_group s real
real_numeric s column.MYSQL_TYPE_DATE chunk real h = date_same s ∙ ap (numeric_group s) (ok_is column.MYSQL_TYPE_NEWDATE real h)
real_numeric s column.MYSQL_TYPE_STRING chunk real h = string_no s ∙ sym (string_none s chunk real h)
real_numeric s raw chunk real h = ap (numeric_group s) (ok_is raw real h)

typed_real : (q : Result ColumnType BadColumnType) (real : ColumnType) → typed (some_of q) ≡ Ok real → q ≡ Ok real
typed_real (Ok x) real h = ap (λ (c : ColumnType). Ok c) (ok_is x real h)
typed_real (Err b) real h = absurd cc

-- what a type byte of a column tells of its sign, by its real type
record Raw (raws : Option ℕ) (real : ColumnType) : Type 0 where
  raw : ℕ
  is : raws ≡ Some raw
  numeric : (s : Server) → is_numeric_number s raw ≡ numeric_group s real

raw_some : (n : ℕ) (chunk : Option (List ℕ)) (real : ColumnType) → typed (real_type_of (raw_type_of (Some n)) chunk) ≡ Ok real → (s : Server) → is_numeric_number s n ≡ numeric_group s real
unfolding is_numeric_number
raw_some n chunk real h s =
    let t = typed_of (from_table column_types (λ k. record { 0 = k }) n) chunk real h in
    ap (in_group (numeric_group s)) (same_table column_types (λ k. record { 0 = k }) fault.UnknownColumnType n t.0 t.1) ∙ real_numeric s t.0 chunk real t.2
  where
    typed_of : (r : Result ColumnType UnknownColumnType) (c : Option (List ℕ)) (x : ColumnType) → typed (real_type_of (some_of r) c) ≡ Ok x → (raw : ColumnType) × (r ≡ Ok raw) × (real_type raw c ≡ Ok x)
    typed_of (Ok a) c x e = (a, refl, typed_real (real_type a c) x e)
    typed_of (Err u) c x e = absurd cc

raw_of : (raws : Option ℕ) (chunk : Option (List ℕ)) (real : ColumnType) → typed (real_type_of (raw_type_of raws) chunk) ≡ Ok real → Raw raws real
raw_of None chunk real h = absurd cc
raw_of (Some n) chunk real h = record { raw = n; is = refl; numeric = raw_some n chunk real h }

-- the type of a column
column_type : (p : table.Parts) (i : ℕ) (c : table.Column) → column_by p i ≡ Ok c → p.type i ≡ Ok c.column_type
column_type p i c h =
    let a = bind_ok (p.type i) _ c h in
    let b = bind_ok (p.charset i) _ c a.2 in
    let d = bind_ok (p.name i) _ c b.2 in
    let e = bind_ok (p.key i) _ c d.2 in
    a.1 ∙ ap (λ (x : table.Column). Ok x.column_type) (ok_is _ c e.2)

pub type_of_column : (t : TableMap) (i : ℕ) (c : table.Column) → column_at t i ≡ Ok c → type_at t i ≡ Ok c.column_type
unfolding column_at
type_of_column t i c h = column_type (table.parts_of t) i c h

-- ---- counts

abbrev pub reals_of : List table.Column → List ColumnType
reals_of cols = map (λ c. c.column_type) cols

pub counted : {X : Type 0} (p : X → Bool) (x : X) (xs : List X) → count_by p (x ∷ xs) ≡ (if p x then 1 else 0) + count_by p xs
counted p x xs = sum_by-cons (λ y. if p y then 1 else 0) x xs

-- the type bytes tell of signs what the real types do
pub record AreTypes (s : Server) (types : List ℕ) (reals : List ColumnType) : Type 0 where
  pub count : length types ≡ length reals
  pub numeric : (i raw : ℕ) (real : ColumnType) → slice_get types i ≡ Some raw → slice_get reals i ≡ Some real → is_numeric_number s raw ≡ numeric_group s real

later_types : (s : Server) (raw : ℕ) (types : List ℕ) (real : ColumnType) (reals : List ColumnType) → AreTypes s (raw ∷ types) (real ∷ reals) → AreTypes s types reals
later_types s raw types real reals h = record { count = omega (arith, h.count); numeric = λ i x y a b. h.numeric (suc i) x y a b }

pub numbers_count : (s : Server) (types : List ℕ) (reals : List ColumnType) → AreTypes s types reals → numeric_count s types ≡ count_by (numeric_group s) reals
numbers_count s [] [] h = refl
numbers_count s [] (y ∷ ys) h = absurd (omega (arith, h.count))
numbers_count s (x ∷ xs) [] h = absurd (omega (arith, h.count))
numbers_count s (x ∷ xs) (y ∷ ys) h =
    counted (is_numeric_number s) x xs
    ∙ ap (λ b. (if b then 1 else 0) + count_by (is_numeric_number s) xs) (h.numeric 0 x y refl refl)
    ∙ ap (λ n. (if numeric_group s y then 1 else 0) + n) (numbers_count s xs ys (later_types s x xs y ys h))
    ∙ sym (counted (numeric_group s) y ys)

among_more : (t : Bool) (c : Column) (cs : List Column) (n : ℕ) → length cs ≡ n → length (if t then c ∷ cs else cs) ≡ (if t then 1 else 0) + n
among_more true c cs n h = omega (arith, h)
among_more false c cs n h = omega (arith, h)

pub among_count : (is : ColumnType → Bool) (ts : List ColumnType) (cs : List Column) → length ts ≡ length cs → length (among is ts cs) ≡ count_by is ts
among_count is [] cs h = refl
among_count is (t ∷ ts) [] h = absurd (omega (arith, h))
among_count is (t ∷ ts) (c ∷ cs) h = among_more (is t) c (among is ts cs) (count_by is ts) (among_count is ts cs (omega (arith, h))) ∙ sym (counted is t ts)

among_here : (t : Bool) (c : Column) (cs : List Column) → t ≡ true → slice_get (if t then c ∷ cs else cs) 0 ≡ Some c
among_here true c cs h = refl
among_here false c cs h = absurd (false≢true h)

among_later : (t : Bool) (c : Column) (cs : List Column) (n : ℕ) → slice_get (if t then c ∷ cs else cs) ((if t then 1 else 0) + n) ≡ slice_get cs n
among_later true c cs n = rw (one-add n) refl
among_later false c cs n = ap (slice_get cs) (omega arith)

-- the column of a type in a group stands there behind those of the group before it
pub among_at : (is : ColumnType → Bool) (ts : List ColumnType) (cs : List Column) (i : ℕ) (t : ColumnType) (c : Column) → slice_get ts i ≡ Some t → slice_get cs i ≡ Some c → is t ≡ true → slice_get (among is ts cs) (count_by is (take i ts)) ≡ Some c
among_at is [] cs i t c a b h = absurd cc
among_at is (x ∷ ts) [] i t c a b h = absurd cc
among_at is (x ∷ ts) (y ∷ cs) zero t c a b h = among_here (is x) y (among is ts cs) (is_first x t a h) ∙ b
  where
    is_first : (x t : ColumnType) → Some x ≡ Some t → is t ≡ true → is x ≡ true
    is_first x t e k = cc
among_at is (x ∷ ts) (y ∷ cs) (suc i) t c a b h = ap (slice_get (among is (x ∷ ts) (y ∷ cs))) (counted is x (take i ts)) ∙ among_later (is x) y (among is ts cs) (count_by is (take i ts)) ∙ among_at is ts cs i t c a b h

-- ---- an event that a table fits

pub record Fitting (s : Table) (t : TableMap) : Type 0 where
  pub cols : List table.Column
  pub columns : table_columns t ≡ map Ok cols
  pub count : length cols ≡ length s.columns
  pub bytes : length t.types ≡ length cols
  pub each : (i : ℕ) (c : table.Column) → slice_get cols i ≡ Some c → column_at t i ≡ Ok c

not_faulty : (found : List (Result OptionalMetadataField Fault)) → list_any is_fault found ≡ false → first_fault found ≡ None
not_faulty [] h = refl
not_faulty (Ok a ∷ found) h = not_faulty found h
not_faulty (Err e ∷ found) h = absurd (false≢true (sym h))

pub fitting : (s : Table) (t : TableMap) → list_any is_fault (fields (fields_of t)) ≡ false → fits s t ≡ true → Fitting s t
fitting s t whole fit =
    let r = fit_all (has_of t).signs t.server _ s.columns (table_columns t) (and_right (length s.columns == t.columns_count) _ fit) in
    let by = by_all (column_at t) (length t.types) r.0 (sym (ap (λ o. unless_faulty o (columns_by (column_at t) (length t.types))) (not_faulty (fields (fields_of t)) whole)) ∙ r.1) in
    record { cols = r.0; columns = r.1; count = r.2; bytes = sym by.count; each = by.each }

before_ok : {A : Type 0} (xs : List A) → before_fault (map Ok xs) ≡ xs
before_ok [] = refl
before_ok (x ∷ xs) = ap (λ l. x ∷ l) (before_ok xs)

-- the types of the event are those of its columns
pub types_are : (s : Table) (t : TableMap) (f : Fitting s t) → types_of t ≡ reals_of f.cols
types_are s t f = ap (λ l. map (λ c. c.column_type) (before_fault l)) f.columns ∙ ap (λ l. map (λ c. c.column_type) l) (before_ok f.cols)

real_at : (cols : List table.Column) (i : ℕ) (real : ColumnType) → slice_get (reals_of cols) i ≡ Some real → (c : table.Column) × (slice_get cols i ≡ Some c) × (c.column_type ≡ real)
real_at [] i real h = absurd cc
real_at (c ∷ cols) zero real h = (c, refl, cc)
real_at (c ∷ cols) (suc i) real h = real_at cols i real h

length_reals : (cols : List table.Column) → length (reals_of cols) ≡ length cols
length_reals [] = refl
length_reals (c ∷ cols) = ap suc (length_reals cols)

pub type_is : (s : Table) (t : TableMap) (f : Fitting s t) (i : ℕ) (real : ColumnType) → slice_get (reals_of f.cols) i ≡ Some real → type_at t i ≡ Ok real
type_is s t f i real h = let c = real_at f.cols i real h in type_of_column t i c.0 (f.each i c.0 c.1) ∙ ap (λ (x : ColumnType). Ok x) c.2

numeric_by : (raws : Option ℕ) (raw : ℕ) (real : ColumnType) (s : Server) → raws ≡ Some raw → Raw raws real → is_numeric_number s raw ≡ numeric_group s real
numeric_by raws raw real s h r = ap (is_numeric_number s) (some_is raw r.raw (sym h ∙ r.is)) ∙ r.numeric s
  where
    some_is : (a b : ℕ) → Some a ≡ Some b → a ≡ b
    some_is a b e = cc

pub are_types : (s : Table) (t : TableMap) (f : Fitting s t) → AreTypes t.server t.types (reals_of f.cols)
are_types s t f = record {
  count = f.bytes ∙ sym (length_reals f.cols);
  numeric = λ i raw real a b. numeric_by (slice_get t.types i) raw real t.server a (raw_of (slice_get t.types i) (chunk_at t.types t.metadata i) real (type_is s t f i real b));
}
