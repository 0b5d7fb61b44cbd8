-- The members of a row, column by column.
use Rattle.std.proofs.Common.{◌≡◌, ◌<◌, ◌≤◌, ◌+◌, ℕ, zero, suc, length, subst, add-one, Bool, true, false, List, [], ◌∷◌, ◌++◌, drop, get_or, refl, ap, inl, inr, sym, ◌∙◌, append-nil}
use Rattle.std.specs.Prelude.{Option, Some, Result, Ok, Err, OnOk, ◌⊎◌, codes}
use Rattle.std.specs.Bool.{MatchBool}
use Rattle.std.proofs.lemmas.Bool.{false≢true}
use Rattle.std.proofs.lemmas.List.{drop_more, drop_all}
use Rattle.row_json.specs.declared.kind.Kind.TheVariants.{Plain}
use Rattle.binlog_base.specs.Values.{value_at}
use Rattle.binlog_cells.specs.Cells.{Cell}
use Rattle.row_json.specs.declared.row.Part.{Part}
use Rattle.row_json.specs.Columns.{Column, columns_in}
use Rattle.row_json.specs.Faults.{HasNone, IsFaultOfCell}
use Rattle.row_json.specs.declared.row.Part.TheVariants as part
use Rattle.binlog_values.specs.JsonDiffs.{Diff}
use Rattle.binlog_cells.specs.declared.value.lent.LentCell.{LentCell}
use Rattle.binlog_cells.specs.declared.value.lent.LentCell.TheVariants as lent
use Rattle.binlog_cells.specs.LentCells.{lent_cell}
use Rattle.row_json.specs.Rows.{IsCellJson, IsMember, IsDiffsMember, IsMemberOf, AreMembers, IsObjectOf, is_diffs, AreDiffs}
use Rattle.std.specs.List.{flat_map, list_any}
use Rattle.mysql_binlog_rows.specs.Images.{BinlogRow}
use Rattle.json.specs.Token as token
use Rattle.json.specs.Json.{Json}
use Rattle.json.specs.Tree.{json_tokens}
use Rattle.json_line.specs.Written.{Written}
use Rattle.row_json.specs.Wrote.{Adds, Wrote, WroteMembers, Named, named_tokens}
use Rattle.row_json.proofs.Steps.{adds_both, adds_same}

pub true_at : (bits : List Bool) (i : ℕ) → get_or bits i false ≡ true → drop i bits ≡ true ∷ drop (suc i) bits
true_at [] i e = absurd (false≢true e)
true_at (b ∷ bs) zero e = ap (λ x. x ∷ bs) e
true_at (b ∷ bs) (suc i) e = true_at bs i e

pub false_at : (bits : List Bool) (i : ℕ) → get_or bits i false ≡ false → (drop i bits ≡ false ∷ drop (suc i) bits) ⊎ ((drop i bits ≡ []) × (drop (suc i) bits ≡ []))
false_at [] zero e = inr (refl, refl)
false_at [] (suc i) e = inr (refl, refl)
false_at (b ∷ bs) zero e = inl (ap (λ x. x ∷ bs) e)
false_at (b ∷ bs) (suc i) e = false_at bs i e

none_left : (p : Part) (cs : List Column) (place : ℕ) (values : List (Option Cell)) (ms : List Named) → AreMembers p cs [] place values ms → ms ≡ []
none_left p [] place values ms are = are
none_left p (c ∷ cs) place values ms are = are

-- a column of the image
pub present_step : (p : Part) (cs : List Column) (bits : List Bool) (i place : ℕ) (values : List (Option Cell)) (c : Column) (first more : List Named) → i < length cs → c ≡ get_or cs i c → get_or bits i false ≡ true →
    IsMemberOf p c (value_at values place) first → AreMembers p (drop (i + 1) cs) (drop (i + 1) bits) (place + 1) values more → AreMembers p (drop i cs) (drop i bits) place values (first ++ more)
present_step p cs bits i place values c first more b here e is are =
    let at : drop i cs ≡ c ∷ drop (suc i) cs = drop_more cs i c b ∙ (ap (λ (d : Column). d ∷ drop (i + 1) cs) (sym here) ∙ ap (λ (n : ℕ). c ∷ drop n cs) (add-one i)) in
    let rest = subst (λ (n : ℕ). AreMembers p (drop n cs) (drop n bits) (place + 1) values more) (add-one i) are in
    let later = subst (λ (n : ℕ). AreMembers p (drop (suc i) cs) (drop (suc i) bits) n values more) (add-one place) rest in
    rw (at, true_at bits i e) (first, more, is, later, refl)

no_column : Column
no_column = record { name = []; kind = Plain; names = [] }

-- one that isn't in the image
pub absent_step : (p : Part) (cs : List Column) (bits : List Bool) (i place : ℕ) (values : List (Option Cell)) (more : List Named) → i < length cs → get_or bits i false ≡ false →
    AreMembers p (drop (i + 1) cs) (drop (i + 1) bits) place values more → AreMembers p (drop i cs) (drop i bits) place values more
absent_step p cs bits i place values more b e are =
    let at : drop i cs ≡ get_or cs i no_column ∷ drop (suc i) cs = drop_more cs i no_column b ∙ ap (λ (n : ℕ). get_or cs i no_column ∷ drop n cs) (add-one i) in
    let rest = subst (λ (n : ℕ). AreMembers p (drop n cs) (drop n bits) place values more) (add-one i) are in
    elim (false_at bits i e) [ inl q ↦ rw (at, q) rest | inr q ↦ rw (at, q.0) (none_left p (drop (suc i) cs) place values more (subst (λ (bs : List Bool). AreMembers p (drop (suc i) cs) bs place values more) q.1 rest)) ]

-- after the last column
pub last_step : (p : Part) (cs : List Column) (bits : List Bool) (i place : ℕ) (values : List (Option Cell)) → length cs ≤ i → AreMembers p (drop i cs) (drop i bits) place values []
last_step p cs bits i place values b = rw (drop_all i cs b) refl

-- ---- how many columns are left

none_in : (cs : List Column) → columns_in cs [] ≡ []
none_in [] = refl
none_in (c ∷ cs) = refl

pub count_present : (cs : List Column) (bits : List Bool) (i : ℕ) → i < length cs → get_or bits i false ≡ true →
    length (columns_in (drop i cs) (drop i bits)) ≡ suc (length (columns_in (drop (i + 1) cs) (drop (i + 1) bits)))
count_present cs bits i b e =
    let at : drop i cs ≡ get_or cs i no_column ∷ drop (suc i) cs = drop_more cs i no_column b ∙ ap (λ (n : ℕ). get_or cs i no_column ∷ drop n cs) (add-one i) in
    rw (at, true_at bits i e, add-one i) refl

pub count_absent : (cs : List Column) (bits : List Bool) (i : ℕ) → i < length cs → get_or bits i false ≡ false →
    length (columns_in (drop i cs) (drop i bits)) ≡ length (columns_in (drop (i + 1) cs) (drop (i + 1) bits))
count_absent cs bits i b e =
    let at : drop i cs ≡ get_or cs i no_column ∷ drop (suc i) cs = drop_more cs i no_column b ∙ ap (λ (n : ℕ). get_or cs i no_column ∷ drop n cs) (add-one i) in
    elim (false_at bits i e) [ inl q ↦ rw (at, q, add-one i) refl | inr q ↦ rw (at, q.0, add-one i, q.1, none_in (drop (suc i) cs)) refl ]

pub count_last : (cs : List Column) (bits : List Bool) (i : ℕ) → length cs ≤ i → length (columns_in (drop i cs) (drop i bits)) ≡ 0
count_last cs bits i b = rw (drop_all i cs b) refl

-- ---- members

-- a name and then a value
pub one_member : (a b d : Written) (s name : List ℕ) (j : Json) → s ≡ name → Adds a b (token.key s ∷ []) → Adds b d (json_tokens j) → Adds a d (flat_map named_tokens ((name, j) ∷ []))
one_member a b d s name j e key value =
    adds_same _ _ (ap (λ t. token.key t ∷ json_tokens j) e ∙ sym (append-nil (token.key name ∷ json_tokens j))) (adds_both (token.key s ∷ []) (json_tokens j) key value)

-- the member `diffs` of an image with diffs
pub diffs_wrote : {E : Type 0} (r : Result (Unit {0}) E) (a b d : Written) (cs : List Column) (present : List Bool) (image : Option BinlogRow) (row : BinlogRow) → image ≡ Some row → list_any is_diffs row.values ≡ true →
    Adds a b (token.key (codes "diffs") ∷ []) → OnOk r (Wrote (IsObjectOf part.Diffs cs present row) b d) → OnOk r (WroteMembers (AreDiffs cs present image) a d)
diffs_wrote (Ok _) a b d cs present image row is has key w =
    let ms : List Named = (codes "diffs", w.value) ∷ [] in
    let are : AreDiffs cs present (Some row) ms = subst (λ (c : Bool). MatchBool c ((j : Json) × IsObjectOf part.Diffs cs present row j × (ms ≡ (codes "diffs", j) ∷ [])) (ms ≡ [])) (sym has) (w.value, w.is, refl) in
    (ms, subst (λ (i : Option BinlogRow). AreDiffs cs present i ms) (sym is) are, one_member a b d (codes "diffs") (codes "diffs") w.value refl key w.adds)
diffs_wrote (Err _) a b d cs present image row is has key w = tt

-- a cell that isn't diffs is a member
pub member_of_cell : (c : Column) (cell : LentCell) (j : Json) → ((d : List Diff) → cell ≡ lent.Diffs d → ⊥) → IsCellJson c (lent_cell cell) j → IsMember c (Some (lent_cell cell)) ((c.name, j) ∷ [])
member_of_cell c lent.Null j other is = (j, is, refl)
member_of_cell c (lent.Bytes bytes) j other is = (j, is, refl)
member_of_cell c (lent.Int number) j other is = (j, is, refl)
member_of_cell c (lent.UInt number) j other is = (j, is, refl)
member_of_cell c (lent.Float bits) j other is = (j, is, refl)
member_of_cell c (lent.Double bits) j other is = (j, is, refl)
member_of_cell c (lent.Date y m d h i s u) j other is = (j, is, refl)
member_of_cell c (lent.Time n d h i s u) j other is = (j, is, refl)
member_of_cell c (lent.Year year) j other is = (j, is, refl)
member_of_cell c (lent.Timestamp t) j other is = (j, is, refl)
member_of_cell c (lent.Decimal d) j other is = (j, is, refl)
member_of_cell c (lent.Json value) j other is = (j, is, refl)
member_of_cell c (lent.Diffs diffs) j other is = absurd (other diffs refl)

-- and no member of `diffs`
pub no_diffs_member : (c : Column) (cell : LentCell) → ((d : List Diff) → cell ≡ lent.Diffs d → ⊥) → IsDiffsMember c (Some (lent_cell cell)) []
no_diffs_member c lent.Null other = refl
no_diffs_member c (lent.Bytes bytes) other = refl
no_diffs_member c (lent.Int number) other = refl
no_diffs_member c (lent.UInt number) other = refl
no_diffs_member c (lent.Float bits) other = refl
no_diffs_member c (lent.Double bits) other = refl
no_diffs_member c (lent.Date y m d h i s u) other = refl
no_diffs_member c (lent.Time n d h i s u) other = refl
no_diffs_member c (lent.Year year) other = refl
no_diffs_member c (lent.Timestamp t) other = refl
no_diffs_member c (lent.Decimal d) other = refl
no_diffs_member c (lent.Json value) other = refl
no_diffs_member c (lent.Diffs diffs) other = absurd (other diffs refl)

-- whose document can't be faulty
pub no_diffs_fault : (cell : LentCell) → ((d : List Diff) → cell ≡ lent.Diffs d → ⊥) → HasNone (IsFaultOfCell part.Diffs (Some (lent_cell cell)))
no_diffs_fault lent.Null other = λ e w. w
no_diffs_fault (lent.Bytes bytes) other = λ e w. w
no_diffs_fault (lent.Int number) other = λ e w. w
no_diffs_fault (lent.UInt number) other = λ e w. w
no_diffs_fault (lent.Float bits) other = λ e w. w
no_diffs_fault (lent.Double bits) other = λ e w. w
no_diffs_fault (lent.Date y m d h i s u) other = λ e w. w
no_diffs_fault (lent.Time n d h i s u) other = λ e w. w
no_diffs_fault (lent.Year year) other = λ e w. w
no_diffs_fault (lent.Timestamp t) other = λ e w. w
no_diffs_fault (lent.Decimal d) other = λ e w. w
no_diffs_fault (lent.Json value) other = λ e w. w
no_diffs_fault (lent.Diffs diffs) other = absurd (other diffs refl)
