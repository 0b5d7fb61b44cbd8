-- The signs of the columns of a completed event.
use Rattle.std.proofs.Common.{◌≡◌, ℕ, zero, suc, ◌+◌, Bool, true, false, ◌&&◌, List, [], ◌∷◌, map, length, take, Some, None, Ok, refl, sym, ap, ◌∙◌, arith, if◌then◌else◌, inl, inr}
use Rattle.std.specs.Prelude.{slice_get, count_by, slice_index_or}
use Rattle.std.specs.Option.{option_or}
use Rattle.std.proofs.lemmas.Bool.{cases_Bool, false≢true}
use Rattle.binlog_base.specs.declared.below.columns.column_type.ColumnType.{ColumnType}
use Rattle.binlog_base.specs.declared.below.columns.server.Server.{Server}
use Rattle.binlog_base.specs.Items.{before_fault}
use Rattle.binlog_base.specs.Servers.{numeric_group}
use Rattle.binlog_table.specs.declared.table_map.optional.fields.OptionalMetadataField.{OptionalMetadataField}
use Rattle.binlog_table.specs.declared.table_map.optional.fields.OptionalMetadataField.TheVariants as field
use Rattle.binlog_table.specs.TableMap.{TableMap}
use Rattle.binlog_table.specs.Fields.{fields, last_of, signs_in, is_numeric_number, numeric_count}
use Rattle.binlog_table.specs.Extracted.{fields_of, kept_of, list_or}
use Rattle.binlog_table.specs.TableColumns.{sign_at, type_at, sign_in, is_numeric_at}
use Rattle.table_schema.specs.Schemas.{Column, Table}
use Rattle.table_schema.specs.declared.complete.Has.{Has}
use Rattle.table_schema.specs.Has.{has_of, tells_signs}
use Rattle.table_schema.specs.Completed.{made, told_unless, told, signs_of, among, packed, signs_value, types_of, completed_by, IsCompletedBy, sign_told}
use Rattle.table_schema.proofs.Fitting.{Fitting, fitting, reals_of, types_are, type_is, are_types, AreTypes, among_at, counted}
use Rattle.table_schema.proofs.CompletedColumns.{length_map, completed_is, whole, event_none, or_none, signs_part, no_charsets, no_names, no_values, no_key, only_signs, kept_by}
use Rattle.table_schema.proofs.Unpacked.{length_back}
use Rattle.binlog_base.specs.Lemmas.Format.{ok_is}

-- ---- places

some_at : {A B : Type 0} (xs : List A) (ys : List B) (i : ℕ) (x : A) → length ys ≡ length xs → slice_get xs i ≡ Some x → (y : B) × (slice_get ys i ≡ Some y)
some_at [] ys i x h e = absurd cc
some_at (a ∷ xs) [] i x h e = absurd (omega (arith, h))
some_at (a ∷ xs) (b ∷ ys) zero x h e = (b, refl)
some_at (a ∷ xs) (b ∷ ys) (suc i) x h e = some_at xs ys i x (omega (arith, h)) e

-- the real type of a column
pub real_of : (s : Table) (t : TableMap) (f : Fitting s t) (i : ℕ) (c : Column) (real : ColumnType) → slice_get s.columns i ≡ Some c → type_at t i ≡ Ok real → slice_get (reals_of f.cols) i ≡ Some real
real_of s t f i c real a h =
    let y = some_at s.columns (reals_of f.cols) i c (length_map (λ x. x.column_type) f.cols ∙ f.count) a in
    y.1 ∙ ap (λ (x : ColumnType). Some x) (ok_is y.0 real (sym (type_is s t f i y.0 y.1) ∙ h))

later : (s : Server) (raw : ℕ) (types : List ℕ) (real : ColumnType) (reals : List ColumnType) → AreTypes s (raw ∷ types) (real ∷ reals) → AreTypes s types reals
later s raw types real reals h = record { count = omega (arith, h.count); numeric = λ i x y a b. h.numeric (suc i) x y a b }

numeric_here : (s : Server) (x : ℕ) (y real : ColumnType) → is_numeric_number s x ≡ numeric_group s y → Some y ≡ Some real → is_numeric_number s x ≡ numeric_group s real
numeric_here s x y real h e = cc

numeric_at : (s : Server) (types : List ℕ) (reals : List ColumnType) (i : ℕ) (real : ColumnType) → AreTypes s types reals → slice_get reals i ≡ Some real → is_numeric_at s types i ≡ numeric_group s real
numeric_at s [] [] i real h e = absurd cc
numeric_at s [] (y ∷ reals) i real h e = absurd (omega (arith, h.count))
numeric_at s (x ∷ types) [] i real h e = absurd cc
numeric_at s (x ∷ types) (y ∷ reals) zero real h e = numeric_here s x y real (h.numeric 0 x y refl refl) e
numeric_at s (x ∷ types) (y ∷ reals) (suc i) real h e = numeric_at s types reals i real (later s x types y reals h) e

numeric_before : (s : Server) (types : List ℕ) (reals : List ColumnType) (i : ℕ) → AreTypes s types reals → numeric_count s (take i types) ≡ count_by (numeric_group s) (take i reals)
numeric_before s types reals zero h = refl
numeric_before s [] [] (suc i) h = refl
numeric_before s [] (y ∷ reals) (suc i) h = absurd (omega (arith, h.count))
numeric_before s (x ∷ types) [] (suc i) h = absurd (omega (arith, h.count))
numeric_before s (x ∷ types) (y ∷ reals) (suc i) h =
    counted (is_numeric_number s) x (take i types)
    ∙ ap (λ b. (if b then 1 else 0) + count_by (is_numeric_number s) (take i types)) (h.numeric 0 x y refl refl)
    ∙ ap (λ n. (if numeric_group s y then 1 else 0) + n) (numeric_before s types reals i (later s x types y reals h))
    ∙ sym (counted (numeric_group s) y (take i reals))

index_map : (xs : List Column) (n : ℕ) (c : Column) → slice_get xs n ≡ Some c → slice_index_or (map (λ c. c.unsigned) xs) n false ≡ c.unsigned
index_map [] n c h = absurd cc
index_map (x ∷ xs) zero c h = cc
index_map (x ∷ xs) (suc n) c h = index_map xs n c h

sign_list : (s : Server) (types : List ℕ) (reals : List ColumnType) (cs : List Column) (i : ℕ) (real : ColumnType) (c : Column) → AreTypes s types reals → slice_get reals i ≡ Some real → slice_get cs i ≡ Some c → sign_in s types (signs_of (numeric_group s) reals cs) i ≡ (numeric_group s real && c.unsigned)
sign_list s types reals cs i real c are at here =
    let bits = signs_of (numeric_group s) reals cs in
    ap (λ b. b && slice_index_or bits (numeric_count s (take i types)) false) (numeric_at s types reals i real are at)
    ∙ elim (cases_Bool (numeric_group s real)) [
      | inl y ↦ ap (λ x. numeric_group s real && x) (ap (λ n. slice_index_or bits n false) (numeric_before s types reals i are) ∙ index_map (among (numeric_group s) reals cs) (count_by (numeric_group s) (take i reals)) c (among_at (numeric_group s) reals cs i real c at here y))
      | inr n ↦ ap (λ b. b && slice_index_or bits (numeric_count s (take i types)) false) n ∙ sym (ap (λ b. b && c.unsigned) n)
    ]

-- ---- the field

signs_no : (f : OptionalMetadataField) → tells_signs f ≡ false → signs_in f ≡ None
signs_no (field.Signedness x) h = absurd (false≢true (sym h))
signs_no _ h = refl

no_bits : (bits : List Bool) → packed bits ≡ [] → bits ≡ []
no_bits [] h = refl
no_bits (b ∷ bits) h = absurd (omega (arith, ap length h, length_back (b ∷ bits)))

made_signs : (v : List ℕ) (bits : List Bool) → (v ≡ [] → bits ≡ []) → list_or (last_of signs_in (made (λ _. field.Signedness bits) v)) ≡ bits
made_signs [] bits h = sym (h refl)
made_signs (b ∷ bs) bits h = refl

told_signs : (s : Table) (server : Server) (has : Has) (types : List ColumnType) → last_of signs_in (told s server has types) ≡ last_of signs_in (signs_part s server has types)
told_signs s server has types = only_signs signs_in s server has types (no_charsets signs_in s server has types (λ x. refl)) (no_names signs_in s server has types (λ x. refl)) (no_values signs_in s server has types (λ x. refl) (λ x. refl) (λ x. refl)) (no_key signs_in s server has types (λ x. refl))

part_left : (s : Table) (server : Server) (has : Has) (types : List ColumnType) → has.signs ≡ true → last_of signs_in (signs_part s server has types) ≡ None
unfolding signs_part
part_left s server has types h = ap (λ b. last_of signs_in (told_unless b (made (λ _. field.Signedness (signs_of (numeric_group server) types s.columns)) (signs_value (numeric_group server) types s.columns)))) h

part_signs : (s : Table) (server : Server) (has : Has) (types : List ColumnType) → has.signs ≡ false → list_or (last_of signs_in (signs_part s server has types)) ≡ signs_of (numeric_group server) types s.columns
unfolding signs_part
part_signs s server has types h =
    let bits = signs_of (numeric_group server) types s.columns in
    ap (λ b. list_or (last_of signs_in (told_unless b (made (λ _. field.Signedness bits) (packed bits))))) h
    ∙ made_signs (packed bits) bits (no_bits bits)

signs_left : (s : Table) (t : TableMap) → IsCompletedBy s t → (has_of t).signs ≡ true → (kept_of (completed_by s t)).signs ≡ (kept_of t).signs
signs_left s t h e = kept_by signs_in s t h ∙ ap (λ o. option_or o (last_of signs_in (before_fault (fields (fields_of t))))) (told_signs s t.server (has_of t) (types_of t) ∙ part_left s t.server (has_of t) (types_of t) e)

signs_kept : (s : Table) (t : TableMap) → IsCompletedBy s t → (has_of t).signs ≡ false → list_or (kept_of (completed_by s t)).signs ≡ signs_of (numeric_group t.server) (types_of t) s.columns
signs_kept s t h e =
    ap list_or (kept_by signs_in s t h
    ∙ ap (option_or (last_of signs_in (told s t.server (has_of t) (types_of t)))) (event_none signs_in tells_signs signs_no (fields (fields_of t)) e)
    ∙ or_none (last_of signs_in (told s t.server (has_of t) (types_of t)))
    ∙ told_signs s t.server (has_of t) (types_of t))
    ∙ part_signs s t.server (has_of t) (types_of t) e

pub sign_known : (s : Table) (t : TableMap) (i : ℕ) (c : Column) (real : ColumnType) → IsCompletedBy s t → slice_get s.columns i ≡ Some c → type_at t i ≡ Ok real → sign_at (completed_by s t) i ≡ sign_told t i real c
sign_known s t i c real h at is =
    let f = fitting s t (whole t h.asked) h.fits in
    let first : sign_at (completed_by s t) i ≡ sign_in t.server t.types (list_or (kept_of (completed_by s t)).signs) i =
    ap (λ x. sign_in x.server x.types (list_or (kept_of (completed_by s t)).signs) i) (completed_is s t h.asked h.fits) in
    first ∙ elim (cases_Bool (has_of t).signs) [
      | inl y ↦ ap (λ o. sign_in t.server t.types (list_or o) i) (signs_left s t h y) ∙ sym (ap (λ b. if b then sign_at t i else (numeric_group t.server real && c.unsigned)) y)
      | inr n ↦
          ap (λ l. sign_in t.server t.types l i) (signs_kept s t h n ∙ ap (λ ts. signs_of (numeric_group t.server) ts s.columns) (types_are s t f))
          ∙ sign_list t.server t.types (reals_of f.cols) s.columns i real c (are_types s t f) (real_of s t f i c real at is) at
          ∙ sym (ap (λ b. if b then sign_at t i else (numeric_group t.server real && c.unsigned)) n)
    ]
