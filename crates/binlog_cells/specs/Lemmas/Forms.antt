-- By the form that is found out for a column, its cells are read as by its type and metadata.
use Rattle.std.specs.Prelude.{ℕ, zero, suc, Bool, true, false, List, [], ◌∷◌, ◌++◌, ◌==◌, nat_lt, Result, Ok, Err, IsTrue, if◌then◌else◌}
use Rattle.std.proofs.Common.{arith, ◌≡◌, ◌<◌, refl, sym, ap, cond, subst, ◌∙◌}
use Rattle.std.proofs.lemmas.Bool.{ne_eqb, le-ltb}
use Rattle.std.proofs.Math.Bool.{and-false}
use Rattle.std.proofs.lemmas.List.{append-nil}
use Rattle.binlog_base.specs.declared.fault.Fault.{Fault}
use Rattle.binlog_base.specs.declared.below.columns.column_type.ColumnType.{ColumnType}
use Rattle.binlog_base.specs.declared.below.columns.column_type.ColumnType.TheVariants as column
use Rattle.binlog_base.specs.declared.fault.Fault.TheVariants.{UnknownBlob, UnknownEnum}
use Rattle.binlog_base.specs.Faults.{IsOfBytes}
use Rattle.binlog_base.specs.Tables.{from_table}
use Rattle.binlog_base.specs.Format.{Format, IsExact, OrMemory, ParsesAs, ◌>>=◌}
use Rattle.binlog_base.specs.Lemmas.Format.{exact_check, exact_sequence, exact_map_value}
use Rattle.binlog_base.specs.ColumnTypes.{column_type_of}
use Rattle.binlog_base.specs.Values.{PlainValue}
use Rattle.binlog_cells.specs.declared.value.form.Width.{Width}
use Rattle.binlog_cells.specs.declared.value.form.PlainForm.{PlainForm}
use Rattle.binlog_cells.specs.declared.value.form.PlainForm.TheVariants as form
use Rattle.binlog_cells.specs.declared.value.form.Form.{Form}
use Rattle.binlog_cells.specs.declared.value.form.Form.TheVariants as way
use Rattle.binlog_cells.specs.declared.value.form.Width.TheVariants as width
use Rattle.binlog_cells.specs.Cells.{Cell, PlainCell, text_cell, length_bytes, varchar_length, string_length, blob_cell, enum_cell, with_first, with_two, plain_cell, element_cell, inner_cell, cell}
use Rattle.binlog_cells.specs.Forms.{bytes_in, plain_by, length_width, first_byte, first_two, blob_widths, blob_form, variant_widths, variant_form, two_form, plain_form, element_form, typed_form, form_of, cell_by, cell_by_form}
use Rattle.binlog_cells.specs.Lemmas.Cells.{exact_integer, exact_long_integer, exact_float_bits, exact_double_bits, exact_timestamp_cell, exact_time_cell, exact_datetime_cell, exact_year_cell, exact_date_cell, exact_timestamp2_cell, exact_datetime2_cell, exact_time2_cell, exact_decimal_cell, exact_fixed_bytes, exact_text_cell, exact_variant_cell, exact_json_cell, exact_cell}

-- ---- a form reads what the type and metadata say

-- a plain value that is read by the form, or the fault of its column
abbrev plain_at : Result PlainForm Fault → List ℕ → Result (PlainValue × List ℕ) Fault
plain_at r x = r >>= λ f. (plain_by f).parse x

-- the bytes of a width that is found by a condition
width_bytes : (b : Bool) → bytes_in (if b then width.One else width.Two) ≡ (if b then 1 else 2)
width_bytes true = refl
width_bytes false = refl

text_reads : (most : ℕ) (x : List ℕ) → (plain_by (form.Text (length_width most))).parse x ≡ (text_cell (length_bytes most)).parse x
unfolding plain_by
text_reads most x = ap (λ (w : ℕ). (text_cell w).parse x) (width_bytes (nat_lt most 256))

apart : (a b : ℕ) → b < a → (a == b) ≡ false
apart a b lt = ne_eqb a b (λ e. omega (arith, lt, e))

blob_reads : (m0 : ℕ) (x : List ℕ) → plain_at (blob_form m0) x ≡ (blob_cell m0).parse x
unfolding plain_by
blob_reads zero x = refl
blob_reads (suc zero) x = refl
blob_reads (suc (suc zero)) x = refl
blob_reads (suc (suc (suc zero))) x = refl
blob_reads (suc (suc (suc (suc zero)))) x = refl
blob_reads (suc (suc (suc (suc (suc n))))) x =
    let m = suc (suc (suc (suc (suc n)))) in
    rw (apart m 1 (omega arith), apart m 2 (omega arith), apart m 3 (omega arith), apart m 4 (omega arith), le-ltb m 5 (omega arith), and-false (nat_lt 0 m)) refl

enum_reads : (m1 : ℕ) (x : List ℕ) → plain_at (variant_form m1) x ≡ (enum_cell m1).parse x
unfolding plain_by
enum_reads zero x = refl
enum_reads (suc zero) x = refl
enum_reads (suc (suc zero)) x = refl
enum_reads (suc (suc (suc n))) x =
    let m = suc (suc (suc n)) in
    rw (apart m 1 (omega arith), apart m 2 (omega arith), le-ltb m 3 (omega arith), and-false (nat_lt 0 m)) refl

first_reads : (metadata : List ℕ) (g : ℕ → Result PlainForm Fault) (f : ℕ → Format PlainValue) (x : List ℕ) → ((m0 : ℕ) → plain_at (g m0) x ≡ (f m0).parse x) → plain_at (first_byte metadata >>= g) x ≡ (with_first metadata f).parse x
first_reads [] g f x each = refl
first_reads (m0 ∷ more) g f x each = each m0

two_reads : (metadata : List ℕ) (g : ℕ × ℕ → Result PlainForm Fault) (f : ℕ → ℕ → Format PlainValue) (x : List ℕ) → ((m0 m1 : ℕ) → plain_at (g (m0, m1)) x ≡ (f m0 m1).parse x) → plain_at (first_two metadata >>= g) x ≡ (with_two metadata f).parse x
two_reads [] g f x each = refl
two_reads (m0 ∷ []) g f x each = refl
two_reads (m0 ∷ m1 ∷ more) g f x each = each m0 m1

plain_reads : (type : ColumnType) (metadata : List ℕ) (unsigned : Bool) (x : List ℕ) → plain_at (plain_form type metadata unsigned) x ≡ (plain_cell type metadata unsigned).parse x
unfolding plain_form plain_by plain_cell
plain_reads column.MYSQL_TYPE_TIMESTAMP2 metadata unsigned x = first_reads metadata _ _ x (λ m0. refl)
plain_reads column.MYSQL_TYPE_DATETIME2 metadata unsigned x = first_reads metadata _ _ x (λ m0. refl)
plain_reads column.MYSQL_TYPE_TIME2 metadata unsigned x = first_reads metadata _ _ x (λ m0. refl)
plain_reads column.MYSQL_TYPE_NEWDECIMAL metadata unsigned x = two_reads metadata _ _ x (λ m0 m1. refl)
plain_reads column.MYSQL_TYPE_BIT metadata unsigned x = two_reads metadata _ _ x (λ m0 m1. refl)
plain_reads column.MYSQL_TYPE_SET metadata unsigned x = two_reads metadata _ _ x (λ m0 m1. refl)
plain_reads column.MYSQL_TYPE_ENUM metadata unsigned x = two_reads metadata _ _ x (λ m0 m1. enum_reads m1 x)
plain_reads column.MYSQL_TYPE_TINY_BLOB metadata unsigned x = first_reads metadata _ _ x (λ m0. blob_reads m0 x)
plain_reads column.MYSQL_TYPE_MEDIUM_BLOB metadata unsigned x = first_reads metadata _ _ x (λ m0. blob_reads m0 x)
plain_reads column.MYSQL_TYPE_LONG_BLOB metadata unsigned x = first_reads metadata _ _ x (λ m0. blob_reads m0 x)
plain_reads column.MYSQL_TYPE_BLOB metadata unsigned x = first_reads metadata _ _ x (λ m0. blob_reads m0 x)
plain_reads column.MYSQL_TYPE_GEOMETRY metadata unsigned x = first_reads metadata _ _ x (λ m0. blob_reads m0 x)
plain_reads column.MYSQL_TYPE_VECTOR metadata unsigned x = first_reads metadata _ _ x (λ m0. blob_reads m0 x)
plain_reads column.MYSQL_TYPE_VARCHAR metadata unsigned x = two_reads metadata _ _ x (λ m0 m1. text_reads (varchar_length m0 m1) x)
plain_reads column.MYSQL_TYPE_VAR_STRING metadata unsigned x = two_reads metadata _ _ x (λ m0 m1. text_reads (varchar_length m0 m1) x)
plain_reads column.MYSQL_TYPE_STRING metadata unsigned x = two_reads metadata _ _ x (λ m0 m1. text_reads (string_length m0 m1) x)
plain_reads _ metadata unsigned x = refl

-- a cell that is read by the form, or the fault of its column
abbrev cell_at : Result Form Fault → Bool → List ℕ → Result (Cell × List ℕ) Fault
cell_at r partial x = r >>= λ f. (cell_by partial f).parse x

as_cell : (r : Result PlainForm Fault) (partial : Bool) (x : List ℕ) → cell_at (r >>= λ f. Ok (way.Plain f)) partial x ≡ plain_at r x >>= λ v. Ok (PlainCell v.0, v.1)
unfolding cell_by
as_cell (Ok f) partial x = refl
as_cell (Err e) partial x = refl

element_reads : (type : ColumnType) (metadata : List ℕ) (unsigned partial : Bool) (x : List ℕ) → cell_at (element_form type metadata unsigned) partial x ≡ (element_cell type metadata unsigned partial).parse x
unfolding cell_by
element_reads column.MYSQL_TYPE_JSON metadata unsigned partial x = refl
element_reads type metadata unsigned partial x =
    as_cell (plain_form type metadata unsigned) partial x
    ∙ ap (λ (r : Result (PlainValue × List ℕ) Fault). r >>= λ v. Ok (PlainCell v.0, v.1)) (plain_reads type metadata unsigned x)

inner_reads : (type : Result ColumnType Fault) (metadata : List ℕ) (unsigned partial : Bool) (x : List ℕ) → cell_at (typed_form type metadata unsigned) partial x ≡ (inner_cell type metadata unsigned partial).parse x
inner_reads (Ok type) metadata unsigned partial x = element_reads type metadata unsigned partial x
inner_reads (Err e) metadata unsigned partial x = refl

array_reads : (metadata all : List ℕ) (unsigned partial : Bool) (x : List ℕ) → cell_at (first_byte metadata >>= λ m0. typed_form (column_type_of m0) all unsigned) partial x ≡ (with_first metadata (λ m0. inner_cell (column_type_of m0) all unsigned partial)).parse x
array_reads [] all unsigned partial x = refl
array_reads (m0 ∷ more) all unsigned partial x = inner_reads (column_type_of m0) all unsigned partial x

form_reads : (type : ColumnType) (metadata : List ℕ) (unsigned partial : Bool) (x : List ℕ) → cell_at (form_of type metadata unsigned) partial x ≡ (cell type metadata unsigned partial).parse x
unfolding cell
form_reads column.MYSQL_TYPE_TYPED_ARRAY metadata unsigned partial x = array_reads metadata metadata unsigned partial x
form_reads type metadata unsigned partial x = element_reads type metadata unsigned partial x

abbrev checked_at : Result Form Fault → List ℕ → Result (Form × List ℕ) Fault
checked_at r x = r >>= λ f. Ok (f, x)

checked : (r : Result Form Fault) (partial : Bool) (x : List ℕ) → checked_at r x >>= (λ c. (cell_by partial c.0).parse c.1) ≡ cell_at r partial x
checked (Ok f) partial x = refl
checked (Err e) partial x = refl

-- the same cells are read by the form and by the column's type and metadata
pub reads_by_form : (type : ColumnType) (metadata : List ℕ) (unsigned partial : Bool) (x : List ℕ) → (cell_by_form type metadata unsigned partial).parse x ≡ (cell type metadata unsigned partial).parse x
unfolding cell_by_form
reads_by_form type metadata unsigned partial x = checked (form_of type metadata unsigned) partial x ∙ form_reads type metadata unsigned partial x

-- what was read by the form was read by the column's type and metadata
pub read_by_form : {X : Type 0} (view : X → Cell) (type : ColumnType) (metadata : List ℕ) (unsigned partial : Bool) (r : Result X Fault) (old new : List ℕ)
    → OrMemory r (ParsesAs view (cell_by_form type metadata unsigned partial) r old new) → OrMemory r (ParsesAs view (cell type metadata unsigned partial) r old new)
read_by_form view type metadata unsigned partial (Ok v) old new is = sym (reads_by_form type metadata unsigned partial old) ∙ is
read_by_form view type metadata unsigned partial (Err e) old new is = λ not. sym (reads_by_form type metadata unsigned partial old) ∙ is not

-- ---- reading by a form is exact

exact_plain_by : (f : PlainForm) → IsExact (plain_by f)
unfolding plain_by
exact_plain_by (form.Integer w unsigned) = exact_integer (bytes_in w) unsigned
exact_plain_by (form.LongInteger unsigned) = exact_long_integer unsigned
exact_plain_by form.Float = exact_float_bits
exact_plain_by form.Double = exact_double_bits
exact_plain_by form.Timestamp = exact_timestamp_cell
exact_plain_by form.Time = exact_time_cell
exact_plain_by form.Datetime = exact_datetime_cell
exact_plain_by form.Year = exact_year_cell
exact_plain_by form.Date = exact_date_cell
exact_plain_by (form.Timestamp2 decimals) = exact_timestamp2_cell decimals
exact_plain_by (form.Datetime2 decimals) = exact_datetime2_cell decimals
exact_plain_by (form.Time2 decimals) = exact_time2_cell decimals
exact_plain_by (form.Decimal precision scale) = exact_decimal_cell precision scale
exact_plain_by (form.Fixed n) = exact_fixed_bytes n
exact_plain_by (form.Text w) = exact_text_cell (bytes_in w)
exact_plain_by (form.Variant w) = exact_variant_cell (bytes_in w)

exact_by : (partial : Bool) (f : Form) → IsExact (cell_by partial f)
unfolding cell_by
exact_by partial (way.Plain f) = exact_map_value (plain_by f) PlainCell (exact_plain_by f)
exact_by partial way.Json = exact_json_cell partial

-- ---- the fault of a type or of metadata is one that reading bytes may give

abbrev IsSoundForm : {F : Type 0} → Result F Fault → Type 0
IsSoundForm (Ok f) = IsTrue true
IsSoundForm (Err e) = IsOfBytes e

by_first : {F : Type 0} (metadata : List ℕ) (g : ℕ → Result F Fault) → ((m0 : ℕ) → IsSoundForm (g m0)) → IsSoundForm (first_byte metadata >>= g)
by_first [] g each = refl
by_first (m0 ∷ more) g each = each m0

by_two : (metadata : List ℕ) (g : ℕ × ℕ → Result PlainForm Fault) → ((m : ℕ × ℕ) → IsSoundForm (g m)) → IsSoundForm (first_two metadata >>= g)
by_two [] g each = refl
by_two (m0 ∷ []) g each = refl
by_two (m0 ∷ m1 ∷ more) g each = each (m0, m1)

by_width : (table : List (ℕ × Width)) (e : Fault) (n : ℕ) (g : Width → PlainForm) → IsOfBytes e → IsSoundForm (from_table table (λ m. e) n >>= λ w. Ok (g w))
by_width [] e n g of_bytes = of_bytes
by_width (row ∷ rows) e n g of_bytes = elim (n == row.0) as (λ b. IsSoundForm (cond b (Ok row.1) (from_table rows (λ m. e) n) >>= λ w. Ok (g w))) [
  | true ↦ refl
  | false ↦ by_width rows e n g of_bytes
]

blob_sound : (m0 : ℕ) → IsSoundForm (blob_form m0)
blob_sound m0 = by_width blob_widths UnknownBlob m0 form.Text refl

two_sound : (type : ColumnType) (metadata : List ℕ) → IsSoundForm (two_form type metadata)
two_sound column.MYSQL_TYPE_BIT metadata = by_two metadata _ (λ m. refl)
two_sound column.MYSQL_TYPE_SET metadata = by_two metadata _ (λ m. refl)
two_sound column.MYSQL_TYPE_ENUM metadata = by_two metadata _ (λ m. by_width variant_widths UnknownEnum m.1 form.Variant refl)
two_sound column.MYSQL_TYPE_VARCHAR metadata = by_two metadata _ (λ m. refl)
two_sound column.MYSQL_TYPE_VAR_STRING metadata = by_two metadata _ (λ m. refl)
two_sound column.MYSQL_TYPE_STRING metadata = by_two metadata _ (λ m. refl)
two_sound column.MYSQL_TYPE_NEWDECIMAL metadata = by_two metadata _ (λ m. refl)
two_sound _ metadata = refl

plain_sound : (type : ColumnType) (metadata : List ℕ) (unsigned : Bool) → IsSoundForm (plain_form type metadata unsigned)
unfolding plain_form
plain_sound column.MYSQL_TYPE_TINY_BLOB metadata unsigned = by_first metadata _ blob_sound
plain_sound column.MYSQL_TYPE_MEDIUM_BLOB metadata unsigned = by_first metadata _ blob_sound
plain_sound column.MYSQL_TYPE_LONG_BLOB metadata unsigned = by_first metadata _ blob_sound
plain_sound column.MYSQL_TYPE_BLOB metadata unsigned = by_first metadata _ blob_sound
plain_sound column.MYSQL_TYPE_GEOMETRY metadata unsigned = by_first metadata _ blob_sound
plain_sound column.MYSQL_TYPE_VECTOR metadata unsigned = by_first metadata _ blob_sound
plain_sound column.MYSQL_TYPE_TIMESTAMP2 metadata unsigned = by_first metadata _ (λ m0. refl)
plain_sound column.MYSQL_TYPE_DATETIME2 metadata unsigned = by_first metadata _ (λ m0. refl)
plain_sound column.MYSQL_TYPE_TIME2 metadata unsigned = by_first metadata _ (λ m0. refl)
plain_sound column.MYSQL_TYPE_TINY metadata unsigned = refl
plain_sound column.MYSQL_TYPE_SHORT metadata unsigned = refl
plain_sound column.MYSQL_TYPE_INT24 metadata unsigned = refl
plain_sound column.MYSQL_TYPE_LONG metadata unsigned = refl
plain_sound column.MYSQL_TYPE_LONGLONG metadata unsigned = refl
plain_sound column.MYSQL_TYPE_FLOAT metadata unsigned = refl
plain_sound column.MYSQL_TYPE_DOUBLE metadata unsigned = refl
plain_sound column.MYSQL_TYPE_TIMESTAMP metadata unsigned = refl
plain_sound column.MYSQL_TYPE_TIME metadata unsigned = refl
plain_sound column.MYSQL_TYPE_DATETIME metadata unsigned = refl
plain_sound column.MYSQL_TYPE_YEAR metadata unsigned = refl
plain_sound column.MYSQL_TYPE_NEWDATE metadata unsigned = refl
plain_sound type metadata unsigned = two_sound type metadata

plain_is_sound : (r : Result PlainForm Fault) → IsSoundForm r → IsSoundForm (r >>= λ f. Ok (way.Plain f))
plain_is_sound (Ok f) h = refl
plain_is_sound (Err e) h = h

element_sound : (type : ColumnType) (metadata : List ℕ) (unsigned : Bool) → IsSoundForm (element_form type metadata unsigned)
element_sound column.MYSQL_TYPE_JSON metadata unsigned = refl
element_sound type metadata unsigned = plain_is_sound (plain_form type metadata unsigned) (plain_sound type metadata unsigned)

typed_sound : (type : Result ColumnType Fault) (metadata : List ℕ) (unsigned : Bool) → IsSoundForm (typed_form type metadata unsigned)
typed_sound (Ok type) metadata unsigned = element_sound type metadata unsigned
typed_sound (Err e) metadata unsigned = refl

form_sound : (type : ColumnType) (metadata : List ℕ) (unsigned : Bool) → IsSoundForm (form_of type metadata unsigned)
form_sound column.MYSQL_TYPE_TYPED_ARRAY metadata unsigned = by_first metadata _ (λ m0. typed_sound (column_type_of m0) metadata unsigned)
form_sound type metadata unsigned = element_sound type metadata unsigned

fault_sound : (r : Result Form Fault) (e : Fault) → IsSoundForm r → r ≡ Err e → IsOfBytes e
fault_sound r e sound is = subst IsSoundForm is sound

exact_cell_by_form : (type : ColumnType) (metadata : List ℕ) (unsigned partial : Bool) → IsExact (cell_by_form type metadata unsigned partial)
unfolding cell_by_form
exact_cell_by_form type metadata unsigned partial =
    exact_sequence _ _ (exact_check (form_of type metadata unsigned) (λ e. fault_sound (form_of type metadata unsigned) e (form_sound type metadata unsigned))) (exact_by partial)

-- bytes that are read whole spell what is read
same_spelling : (f : Format Cell) → IsExact f → (x : List ℕ) (c : Cell) → f.parse (x ++ []) ≡ Ok (c, []) → f.spells x c
same_spelling f exact x c is =
    let found = exact.sound (x ++ []) c [] is in
    let same : found.0 ≡ x = sym (append-nil found.0) ∙ sym found.1 ∙ append-nil x in
    subst (λ (y : List ℕ). f.spells y c) same found.2

-- bytes that spell a cell spell it by the form
pub spelled_by_form : (type : ColumnType) (metadata : List ℕ) (unsigned partial : Bool) (x : List ℕ) (c : Cell) → (cell type metadata unsigned partial).spells x c → (cell_by_form type metadata unsigned partial).spells x c
spelled_by_form type metadata unsigned partial x c s =
    same_spelling (cell_by_form type metadata unsigned partial) (exact_cell_by_form type metadata unsigned partial) x c
    (reads_by_form type metadata unsigned partial (x ++ []) ∙ (exact_cell type metadata unsigned partial).complete x [] c s)
