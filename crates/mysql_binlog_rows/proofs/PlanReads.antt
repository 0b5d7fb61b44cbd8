-- By a plan, the images and pairs are read that the two events denote.
use Rattle.std.proofs.Common.{◌≡◌, ℕ, zero, suc, ◌+◌, ◌<◌, ◌≤◌, Bool, true, false, List, [], ◌∷◌, length, drop, Option, Some, None, Result, Ok, Err, refl, sym, ap, subst, ◌∙◌, ◌⊎◌, inl, inr, arith}
use Rattle.std.specs.Prelude.{slice_index_or, unwrap_or, if◌then◌else◌, ◌&&◌}
use Rattle.std.specs.Option.{option_map, is_some}
use Rattle.binlog_base.specs.declared.bits.BitOrder.{BitOrder}
use Rattle.binlog_base.specs.declared.bits.BitOrder.TheVariants.{LeastSignificantFirst}
use Rattle.binlog_base.specs.declared.fault.Fault.{Fault}
use Rattle.binlog_base.specs.Format.{◌>>=◌}
use Rattle.binlog_base.specs.Bits.{bits_from, bits_of, bit_list, count_set}
use Rattle.binlog_base.specs.Values.{ColumnView}
use Rattle.binlog_consts.specs.declared.consts.event_type.EventType.{EventType}
use Rattle.binlog_consts.specs.declared.consts.event_type.EventType.TheVariants as event
use Rattle.binlog_table.specs.TableMap.{TableMap}
use Rattle.binlog_table.specs.Keys.{unless}
use Rattle.binlog_table.specs.Extracted.{field_fault}
use Rattle.binlog_table.specs.TableColumns.{Column, column_at, column_then, columns_by, unless_faulty}
use Rattle.binlog_table.specs.Lemmas.TableColumns.{no_column}
use Rattle.mysql_binlog_rows.specs.RowsEvent.{RowsEvent, image_columns, has_before, has_after, has_options}
use Rattle.mysql_binlog_rows.specs.RowsEventWritten.{IsRowsEvent}
use Rattle.binlog_cells.specs.Cells.{Cell}
use Rattle.binlog_cells.specs.Forms.{cell_by_form}
use Rattle.binlog_cells.specs.Lemmas.Forms.{reads_by_form}
use Rattle.mysql_binlog_rows.specs.Images.{BinlogRow, row_column, row_of, is_json, is_partial, nullable_cell, cells, options_of, image, maybe_image, pair}
use Rattle.mysql_binlog_rows.specs.Workings.Plans.{Planned, slot_of, nothing_then, planned_then, first_column, after_first, planned_from, unless_refused, plan_of, plans_of, walked_in, slot_count, slot_cell, slot_cells, planned_image, planned_maybe, planned_pair}
use Rattle.mysql_binlog_rows.specs.Rows.{IsDescribed, columns_in}
use Rattle.mysql_binlog_rows.proofs.SamePlan.{after_least}

bind_same : {A B : Type 0} (r : Result A Fault) (f g : A → Result B Fault) → ((a : A) → f a ≡ g a) → r >>= f ≡ r >>= g
bind_same (Ok a) f g h = h a
bind_same (Err e) f g h = refl

-- ---- a walk has the columns of the table

by_first : (r : Result Column Fault) (more : List (Result Column Fault)) → first_column (column_then r more) ≡ r
by_first (Ok c) more = refl
by_first (Err e) more = refl

first_is : (t : TableMap) (i n : ℕ) (f : ℕ → Result Column Fault) → i + n ≡ length t.types → ((j : ℕ) → f j ≡ column_at t (i + j)) → first_column (columns_by f n) ≡ column_at t i
first_is t i zero f whole each = sym (no_column t i (omega (arith, whole)))
first_is t i (suc n) f whole each =
    let same : i + 0 ≡ i = omega arith in
    by_first (f 0) (columns_by (λ j. f (suc j)) n) ∙ each 0 ∙ ap (column_at t) same

after_by : (f : ℕ → Result Column Fault) (n : ℕ) (c : Column) → f 0 ≡ Ok c → after_first (columns_by f (suc n)) ≡ columns_by (λ j. f (suc j)) n
after_by f n c h = rw h refl

each_later : (t : TableMap) (i : ℕ) (f : ℕ → Result Column Fault) → ((j : ℕ) → f j ≡ column_at t (i + j)) → (j : ℕ) → f (suc j) ≡ column_at t (suc i + j)
each_later t i f each j = each (suc j) ∙ ap (column_at t) (omega arith)

-- ---- cells

abbrev Read : Type 0
Read = Result (List (Option Cell) × List ℕ) Fault

abbrev CellsRead : Type 0
CellsRead = Result (List (ColumnView × Cell) × List ℕ) Fault

abbrev RowRead : Type 0
RowRead = Result (BinlogRow × List ℕ) Fault

abbrev with_columns : List ColumnView → Read → RowRead
with_columns columns read = read >>= λ r. Ok (record { columns = columns; values = r.0 }, r.1)

abbrev as_row : CellsRead → RowRead
as_row read = read >>= λ r. Ok (row_of r.0, r.1)

abbrev by_plan : List Bool → Planned → List Bool → List ℕ → RowRead
by_plan bs k nulls x = with_columns k.columns ((slot_cells bs k.slots k.fault nulls).parse x)

abbrev by_table : TableMap → List Bool → List Bool → ℕ → ℕ → List Bool → List ℕ → RowRead
by_table t bs nulls i k present x = as_row ((cells t bs nulls i k present).parse x)

-- a row with a column and its cell in front
abbrev grow : ColumnView → Cell → RowRead → RowRead
grow column v read = read >>= λ r. Ok (record { columns = column ∷ r.0.columns; values = Some v ∷ r.0.values }, r.1)

grow_plan : (column : ColumnView) (v : Cell) (columns : List ColumnView) (read : Read) → with_columns (column ∷ columns) (read >>= λ r. Ok (Some v ∷ r.0, r.1)) ≡ grow column v (with_columns columns read)
grow_plan column v columns (Ok r) = refl
grow_plan column v columns (Err e) = refl

grow_cells : (column : ColumnView) (v : Cell) (read : CellsRead) → as_row (read >>= λ r. Ok ((column, v) ∷ r.0, r.1)) ≡ grow column v (as_row read)
grow_cells column v (Ok r) = refl
grow_cells column v (Err e) = refl

grow_both : (cell : Result (Cell × List ℕ) Fault) (p : List ℕ → Read) (c : List ℕ → CellsRead) (column : ColumnView) (columns : List ColumnView)
    → ((y : List ℕ) → with_columns columns (p y) ≡ as_row (c y))
    → with_columns (column ∷ columns) (cell >>= λ v. p v.1 >>= λ r. Ok (Some v.0 ∷ r.0, r.1)) ≡ as_row (cell >>= λ v. c v.1 >>= λ r. Ok ((column, v.0) ∷ r.0, r.1))
grow_both (Ok v) p c column columns h = grow_plan column v.0 columns (p v.1) ∙ ap (grow column v.0) (h v.1) ∙ sym (grow_cells column v.0 (c v.1))
grow_both (Err e) p c column columns h = refl

-- the partial bit of a column, by its slot
partial_by : (b : Bool) (bs : List Bool) (k : ℕ) → unwrap_or (option_map (λ j. slice_index_or bs j false) (if b then Some k else None)) false ≡ b && slice_index_or bs k false
partial_by true bs k = refl
partial_by false bs k = refl

same_cell : (is_null : Bool) (bs : List Bool) (c : Column) (x : List ℕ) → (slot_cell is_null bs (slot_of c)).parse x ≡ (nullable_cell is_null bs c).parse x
unfolding slot_cell nullable_cell cell_by_form
same_cell true bs c x = refl
same_cell false bs c x =
    rw (partial_by (is_json c.column_type) bs c.json_place)
    (reads_by_form c.column_type (unwrap_or c.metadata []) c.unsigned (is_partial bs c) x)

-- the null bits that are left after the first k
first_left : (k : ℕ) (nulls : List Bool) → slice_index_or (drop k nulls) 0 false ≡ slice_index_or nulls k false
first_left zero nulls = refl
first_left (suc k) [] = refl
first_left (suc k) (b ∷ nulls) = first_left k nulls

one_less : (k : ℕ) (nulls : List Bool) → drop 1 (drop k nulls) ≡ drop (suc k) nulls
one_less zero nulls = refl
one_less (suc k) [] = refl
one_less (suc k) (b ∷ nulls) = one_less k nulls

column_reads : (t : TableMap) (bs nulls : List Bool) (i k : ℕ) (c : Column) (present : Bool) (others : Planned) (ps : List Bool) (x : List ℕ) → column_at t i ≡ Ok c
    → ((j : ℕ) (y : List ℕ) → by_plan bs others (drop j nulls) y ≡ by_table t bs nulls (suc i) j ps y)
    → by_plan bs (planned_then t i (Ok c) present others) (drop k nulls) x ≡ by_table t bs nulls i k (present ∷ ps) x
unfolding slot_cells cells
column_reads t bs nulls i k c true others ps x is h =
    rw (is, first_left k nulls, one_less k nulls, same_cell (slice_index_or nulls k false) bs c x)
    (grow_both ((nullable_cell (slice_index_or nulls k false) bs c).parse x) (slot_cells bs others.slots others.fault (drop (suc k) nulls)).parse (cells t bs nulls (suc i) (suc k) ps).parse (row_column t i c) others.columns (h (suc k)))
column_reads t bs nulls i k c false others ps x is h = rw is (h k x)

fault_reads : (t : TableMap) (bs nulls : List Bool) (i k : ℕ) (e : Fault) (present : Bool) (others : Planned) (ps : List Bool) (x : List ℕ) → column_at t i ≡ Err e
    → by_plan bs (planned_then t i (Err e) present others) (drop k nulls) x ≡ by_table t bs nulls i k (present ∷ ps) x
unfolding slot_cells cells
fault_reads t bs nulls i k e present others ps x is = rw is refl

one_reads : (t : TableMap) (bs nulls : List Bool) (i k : ℕ) (r : Result Column Fault) (present : Bool) (others : Planned) (ps : List Bool) (x : List ℕ) → column_at t i ≡ r
    → ((c : Column) → r ≡ Ok c → (j : ℕ) (y : List ℕ) → by_plan bs others (drop j nulls) y ≡ by_table t bs nulls (suc i) j ps y)
    → by_plan bs (planned_then t i r present others) (drop k nulls) x ≡ by_table t bs nulls i k (present ∷ ps) x
one_reads t bs nulls i k (Ok c) present others ps x is h = column_reads t bs nulls i k c present others ps x is (h c refl)
one_reads t bs nulls i k (Err e) present others ps x is h = fault_reads t bs nulls i k e present others ps x is

none_reads : (t : TableMap) (bs nulls : List Bool) (i k : ℕ) (x : List ℕ) → by_plan bs (nothing_then None) (drop k nulls) x ≡ by_table t bs nulls i k [] x
unfolding slot_cells cells
none_reads t bs nulls i k x = refl

-- the walk after a column, if there is one
rest_reads : (t : TableMap) (bs nulls : List Bool) (i n : ℕ) (f : ℕ → Result Column Fault) (ps : List Bool) → i + n ≡ length t.types → ((j : ℕ) → f j ≡ column_at t (i + j))
    → ((m : ℕ) (g : ℕ → Result Column Fault) → suc i + m ≡ length t.types → ((j : ℕ) → g j ≡ column_at t (suc i + j)) → (k : ℕ) (y : List ℕ) → by_plan bs (planned_from t (suc i) (columns_by g m) ps) (drop k nulls) y ≡ by_table t bs nulls (suc i) k ps y)
    → (c : Column) → first_column (columns_by f n) ≡ Ok c → (k : ℕ) (y : List ℕ) → by_plan bs (planned_from t (suc i) (after_first (columns_by f n)) ps) (drop k nulls) y ≡ by_table t bs nulls (suc i) k ps y
rest_reads t bs nulls i zero f ps whole each h c is k y = absurd cc
rest_reads t bs nulls i (suc n) f ps whole each h c is k y =
    let here : f 0 ≡ Ok c = sym (by_first (f 0) (columns_by (λ j. f (suc j)) n)) ∙ is in
    ap (λ (walk : List (Result Column Fault)). by_plan bs (planned_from t (suc i) walk ps) (drop k nulls) y) (after_by f n c here)
    ∙ h n (λ j. f (suc j)) (omega (arith, whole)) (each_later t i f each) k y

cells_read : (t : TableMap) (bs nulls ps : List Bool) (i n : ℕ) (f : ℕ → Result Column Fault) → i + n ≡ length t.types → ((j : ℕ) → f j ≡ column_at t (i + j))
    → (k : ℕ) (x : List ℕ) → by_plan bs (planned_from t i (columns_by f n) ps) (drop k nulls) x ≡ by_table t bs nulls i k ps x
cells_read t bs nulls [] i n f whole each k x = none_reads t bs nulls i k x
cells_read t bs nulls (p ∷ ps) i n f whole each k x =
    one_reads t bs nulls i k (first_column (columns_by f n)) p (planned_from t (suc i) (after_first (columns_by f n)) ps) ps x (sym (first_is t i n f whole each))
    (rest_reads t bs nulls i n f ps whole each (λ m g w e. cells_read t bs nulls ps (suc i) m g w e))

-- ---- images and pairs

abbrev checked : Result (List Bool) Fault → List ℕ → Result (List Bool × List ℕ) Fault
checked r x = r >>= λ nulls. Ok (nulls, x)

from_zero : (t : TableMap) (j : ℕ) → column_at t j ≡ column_at t (0 + j)
from_zero t j = ap (column_at t) (omega arith)

fields_read : (t : TableMap) (bs : List Bool) (fault : Option Fault) (ps nulls : List Bool) (x : List ℕ)
    → by_plan bs (unless_refused fault (planned_from t 0 (unless_faulty fault (columns_by (column_at t) (length t.types))) ps)) nulls x
    ≡ checked (unless fault nulls) x >>= λ r. by_table t bs r.0 0 0 ps r.1
unfolding slot_cells
fields_read t bs None ps nulls x = cells_read t bs nulls ps 0 (length t.types) (column_at t) (omega arith) (from_zero t) 0 x
fields_read t bs (Some e) ps nulls x = refl

pub image_reads : (t : TableMap) (o : Bool) (ps : List Bool) (x : List ℕ) → (planned_image o (plan_of t ps)).parse x ≡ (image t o ps).parse x
unfolding planned_image image
image_reads t o ps x =
    bind_same ((options_of t o).parse x) _ _ (λ b. bind_same ((bit_list LeastSignificantFirst (count_set ps)).parse b.1) _ _ (λ r. fields_read t b.0 (field_fault t) ps r.0 r.1))

maybe_reads : (t : TableMap) (o : Bool) (present : Option (List Bool)) (x : List ℕ) → (planned_maybe o (option_map (plan_of t) present)).parse x ≡ (maybe_image t o present).parse x
maybe_reads t o None x = refl
maybe_reads t o (Some ps) x = rw (image_reads t o ps x) refl

pub plans_read : (t : TableMap) (e : RowsEvent) (x : List ℕ) → (planned_pair (plans_of t e)).parse x ≡ (pair t e).parse x
unfolding planned_pair pair
plans_read t e x =
    rw (maybe_reads t false (image_columns e.num_columns e.before) x)
    (bind_same ((maybe_image t false (image_columns e.num_columns e.before)).parse x) _ _ (λ b. rw (maybe_reads t (has_options e.event_type) (image_columns e.num_columns e.after) b.1) refl))

-- ---- how many columns a plan has

slots_all : (t : TableMap) (ps : List Bool) (i n : ℕ) (f : ℕ → Result Column Fault) → i + n ≡ length t.types → ((j : ℕ) → f j ≡ column_at t (i + j))
    → ((j : ℕ) → j < length ps → (c : Column) × (column_at t (i + j) ≡ Ok c)) → (planned_from t i (columns_by f n) ps).walked ≡ length ps
slots_all t [] i n f whole each h = refl
slots_all t (p ∷ ps) i zero f whole each h =
    let first = h 0 (omega arith) in
    let same : i + 0 ≡ i = omega arith in
    let is : first_column (columns_by f 0) ≡ Ok first.0 = first_is t i 0 f whole each ∙ ap (column_at t) (sym same) ∙ first.1 in
    absurd cc
slots_all t (p ∷ ps) i (suc n) f whole each h =
    let first = h 0 (omega arith) in
    let here : f 0 ≡ Ok first.0 = each 0 ∙ first.1 in
    let later = slots_all t ps (suc i) n (λ j. f (suc j)) (omega (arith, whole)) (each_later t i f each) (λ j lt.
    let next = h (suc j) (omega (arith, lt)) in
    (next.0, ap (column_at t) (omega arith) ∙ next.1)) in
    rw here (ap suc later)

plan_slots : (t : TableMap) (ps : List Bool) → IsDescribed t (length ps) → walked_in (Some (plan_of t ps)) ≡ length ps
plan_slots t ps d = rw d.fields (slots_all t ps 0 (length t.types) (column_at t) (omega arith) (from_zero t) (λ j lt. let c = d.columns j lt in (c.0, sym (from_zero t j) ∙ c.1)))

bits_counted : (order : BitOrder) (bytes : List ℕ) (i n : ℕ) → length (bits_from order bytes i n) ≡ n
bits_counted order bytes i zero = refl
bits_counted order bytes i (suc n) = ap suc (bits_counted order bytes (suc i) n)

image_least : (t : TableMap) (n : ℕ) (o : Option (List ℕ)) → IsDescribed t n → is_some o ≡ true → walked_in (option_map (plan_of t) (image_columns n o)) ≡ n
image_least t n None d h = absurd cc
image_least t n (Some bytes) d h =
    let count = bits_counted LeastSignificantFirst bytes 0 n in
    plan_slots t (bits_of LeastSignificantFirst n bytes) (subst (λ (k : ℕ). IsDescribed t k) (sym count) d) ∙ count

pub columns_most : (n : ℕ) (o : Option (List ℕ)) → columns_in (image_columns n o) ≤ n
columns_most n None = omega arith
columns_most n (Some bytes) = let count = bits_counted LeastSignificantFirst bytes 0 n in omega (arith, count)

-- each event has an image
some_image : (type : EventType) → (has_before type ≡ true) ⊎ (has_after type ≡ true)
some_image event.DELETE_ROWS_EVENT = inl refl
some_image event.DELETE_ROWS_EVENT_V1 = inl refl
some_image _ = inr refl

pub slots_least : (t : TableMap) (e : RowsEvent) → IsRowsEvent e → IsDescribed t e.num_columns → e.num_columns ≤ slot_count (plans_of t e)
slots_least t e is d =
    let before = image_columns e.num_columns e.before in
    let after = image_columns e.num_columns e.after in
    elim (some_image e.event_type) [
      | inl h ↦ let n = image_least t e.num_columns e.before d (is.before.there ∙ h) in omega (arith, n)
      | inr h ↦ let n = image_least t e.num_columns e.after d (is.after.there ∙ h) in omega (arith, n, after_least t (has_options e.event_type) before after)
    ]
