-- Which fault is the first.
use Rattle.std.proofs.Common.{◌≡◌, ◌<◌, ℕ, zero, suc, Bool, true, false, List, [], ◌∷◌, length, get_or, refl, sym, ap, ◌∙◌, subst, arith, inl, inr}
use Rattle.std.specs.Prelude.{Option, Some, None, Ok, slice_get}
use Rattle.std.specs.Result.{result_err}
use Rattle.binlog_base.specs.declared.fault.Fault.{Fault}
use Rattle.binlog_values.specs.JsonbValues.{JsonbValue}
use Rattle.binlog_values.specs.JsonbDocuments.{document_of, limit_of, positions, first_fault}
use Rattle.binlog_values.specs.JsonbTrees.{Tree, Denotes}
use Rattle.binlog_values.specs.JsonbParsed.{IsWithinLimits}
use Rattle.binlog_values.specs.JsonDiffs.{Diff}
use Rattle.binlog_values.proofs.JsonbFirstFault.{walk_first}
use Rattle.binlog_values.proofs.JsonbDenoting.{tree-given}
use Rattle.mysql_binlog_rows.specs.Images.{BinlogRow}
use Rattle.row_json.specs.declared.row.Part.{Part}
use Rattle.row_json.specs.Columns.{Column}
use Rattle.row_json.specs.declared.row.Part.TheVariants as part
use Rattle.binlog_cells.specs.Cells.{Cell, PlainCell, JsonCell, DiffsCell}
use Rattle.std.specs.List.{list_any}
use Rattle.std.proofs.lemmas.Bool.{false≢true}
use Rattle.row_json.specs.Rows.{is_diffs}
use Rattle.row_json.specs.Faults.{HasNone, IsFaultOfFirst, IsFaultOfBoth, IsFaultOf, IsFaultOfCell, IsFaultOfImage}
use Rattle.row_json.proofs.Diffs.{any_at}

-- a document that denotes a tree has no fault
pub no_fault : (value : JsonbValue) (t : Tree) → Denotes t (Ok value) → IsWithinLimits value → HasNone (IsFaultOf value)
no_fault value t denoted within = λ e w.
    let given = tree-given t (Ok value) (limit_of value) 100 0 denoted within.0 (omega (arith, within.1)) in
    let first : first_fault (limit_of value) 0 (positions (document_of (Ok value))) ≡ None = sym (walk_first (limit_of value) (document_of (Ok value))) ∙ ap result_err given in
    let is = w.1 in
    absurd (cc)

-- where none of all has a fault, there is no first
pub none_of_all : (n : ℕ) (IsFaultAt : ℕ → Fault → Type 0) → ((k : ℕ) → k < n → HasNone (IsFaultAt k)) → HasNone (IsFaultOfFirst n IsFaultAt)
none_of_all n IsFaultAt none = λ e w. none w.place w.within e w.here

pub diff_at : (ds : List Diff) (i : ℕ) (d : Diff) → i < length ds → d ≡ get_or ds i d → slice_get ds i ≡ Some d
diff_at [] i d b h = absurd (omega (arith, b))
diff_at (x ∷ xs) zero d b h = ap (λ (y : Diff). Some y) (sym h)
diff_at (x ∷ xs) (suc i) d b h = diff_at xs i d (omega (arith, b)) h

-- the same image, known otherwise
pub image_fault : (p : Part) (cs : List Column) (a b : List Bool) (x y : Option BinlogRow) (f : Fault) → a ≡ b → x ≡ y → IsFaultOfImage p cs a x f → IsFaultOfImage p cs b y f
image_fault p cs a b x y f same is fault = subst (λ (bits : List Bool). IsFaultOfImage p cs bits y f) same (subst (λ (i : Option BinlogRow). IsFaultOfImage p cs a i f) is fault)

pub image_sound : (p : Part) (cs : List Column) (a b : List Bool) (x y : Option BinlogRow) → a ≡ b → x ≡ y → HasNone (IsFaultOfImage p cs a x) → HasNone (IsFaultOfImage p cs b y)
image_sound p cs a b x y same is none = λ f w. none f (image_fault p cs b a y x f (sym same) (sym is) w)

pub both_sound : (IsFirst IsSecond : Fault → Type 0) → HasNone IsFirst → HasNone IsSecond → HasNone (IsFaultOfBoth IsFirst IsSecond)
both_sound IsFirst IsSecond first second = λ e w. elim w [ inl f ↦ first e f | inr s ↦ second e s.1 ]

-- a fault in `diffs` is one of diffs
fault_of_diffs : (cell : Option Cell) (e : Fault) → IsFaultOfCell part.Diffs cell e → is_diffs cell ≡ true
fault_of_diffs None e w = absurd w
fault_of_diffs (Some (PlainCell v)) e w = absurd w
fault_of_diffs (Some (JsonCell v)) e w = absurd w
fault_of_diffs (Some (DiffsCell d)) e w = refl

pub without_diffs : (cs : List Column) (present : List Bool) (image : Option BinlogRow) (row : BinlogRow) → image ≡ Some row → list_any is_diffs row.values ≡ false → HasNone (IsFaultOfImage part.Diffs cs present image)
without_diffs cs present image row is none = subst (λ (i : Option BinlogRow). HasNone (IsFaultOfImage part.Diffs cs present i)) (sym is)
    (λ e w. false≢true (sym none ∙ any_at row.values w.place (fault_of_diffs _ e w.here)))
