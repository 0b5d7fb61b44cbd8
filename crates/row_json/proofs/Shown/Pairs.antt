-- Pairs with the same JSON, and lines with the same text, show the same.
use Rattle.std.proofs.Common.{◌≡◌, ℕ, Bool, true, false, List, [], ◌∷◌, ◌++◌, length, refl, sym, ap, ◌∙◌, subst, arith, append_assoc, length-append}
use Rattle.std.specs.Prelude.{Option, Some, None, codes, get_or}
use Rattle.std.specs.Bool.{MatchBool}
use Rattle.std.specs.List.{list_any}
use Rattle.std.proofs.lemmas.Bool.{false≢true}
use Rattle.std.proofs.lemmas.List.{append_cancel_right}
use Rattle.binlog_base.specs.Values.{value_at}
use Rattle.binlog_cells.specs.Cells.{Cell, DiffsCell}
use Rattle.mysql_binlog_rows.specs.Images.{BinlogRow, Pair}
use Rattle.mysql_binlog_rows.specs.RowsEvent.{RowsEvent}
use Rattle.json.specs.Json.{Json, null, string, object, document}
use Rattle.json.specs.Print.{print}
use Rattle.json.specs.Tree.{json_tokens}
use Rattle.row_json.specs.declared.row.Part.TheVariants as part
use Rattle.row_json.specs.Columns.{Column}
use Rattle.row_json.specs.Rows.{IsImageJson, is_diffs, has_diffs, IsDiffsOf, AreDiffs, operation_of, before_in, after_in, IsPairJson, IsLine}
use Rattle.row_json.specs.Wrote.{Named, members_of}
use Rattle.row_json.specs.ShownRows.{ShowTheSame, ShowTheSameDiffs, EachCell, EachCellOfImages, AreRowsOfOneTable, AreImagesOfOneTable, ArePairsOfOneTable, PairsShowTheSame}
use Rattle.row_json.proofs.Diffs.{any_at}
use Rattle.row_json.proofs.Shown.Rows.{objects_same, objects_show, rows_show}

-- ---- members before others

same_fronts : (a b s t : List Named) → length s ≡ length t → a ++ s ≡ b ++ t → (a ≡ b) × (s ≡ t)
same_fronts [] [] s t n e = (refl, e)
same_fronts [] (y ∷ b) s t n e = absurd (omega (arith, ap length e, length-append b t))
same_fronts (x ∷ a) [] s t n e = absurd (omega (arith, ap length e, length-append a s))
same_fronts (x ∷ a) (y ∷ b) s t n e =
    let rest : a ++ s ≡ b ++ t = cc (e) in
    let first : x ≡ y = cc (e) in
    let w = same_fronts a b s t n rest in
    (ap (λ (l : Named). l ∷ a) first ∙ ap (λ (l : List Named). y ∷ l) w.0, w.1)

-- the last member of a pair without diffs is `after`
not_last : (a b : List Named) (x y z u d : Json) → a ++ (codes "before", x) ∷ (codes "after", y) ∷ [] ≡ b ++ (codes "before", z) ∷ (codes "after", u) ∷ (codes "diffs", d) ∷ [] → ⊥
not_last a b x y z u d e =
    let left : (a ++ (codes "before", x) ∷ []) ++ (codes "after", y) ∷ [] ≡ a ++ (codes "before", x) ∷ (codes "after", y) ∷ [] = append_assoc a _ _ in
    let right : (b ++ (codes "before", z) ∷ (codes "after", u) ∷ []) ++ (codes "diffs", d) ∷ [] ≡ b ++ (codes "before", z) ∷ (codes "after", u) ∷ (codes "diffs", d) ∷ [] = append_assoc b _ _ in
    let last : (codes "after", y) ∷ [] ≡ (codes "diffs", d) ∷ [] =
    (same_fronts (a ++ (codes "before", x) ∷ []) (b ++ (codes "before", z) ∷ (codes "after", u) ∷ []) ((codes "after", y) ∷ []) ((codes "diffs", d) ∷ []) refl (left ∙ (e ∙ sym right))).1 in
    let name : codes "after" ≡ codes "diffs" = ap (λ (l : List Named). name_of l) last in
    omega (arith, ap length name, ap (λ (l : List ℕ). get_or l 0 0) name)
  where
    name_of : List Named → List ℕ
    name_of [] = []
    name_of (m ∷ ms) = m.0

-- ---- what the members are

-- one member `diffs`, or none
data Ends (ds : List Named) : Type 0 where
  without : ds ≡ [] → Ends ds
  with : (j : Json) → ds ≡ (codes "diffs", j) ∷ [] → Ends ds

ends : (b : Bool) (Is : Json → Type 0) (ds : List Named) → MatchBool b ((j : Json) × Is j × (ds ≡ (codes "diffs", j) ∷ [])) (ds ≡ []) → Ends ds
ends true Is ds h = with h.0 h.2
ends false Is ds h = without h

record SameMembers (a b : List Named) (x y z u : Json) (c d : List Named) : Type 0 where
  own : a ≡ b
  before : x ≡ z
  after : y ≡ u
  diffs : c ≡ d

same_ends : (a b : List Named) (x y z u : Json) (c d : List Named) → length c ≡ length d → a ++ (codes "before", x) ∷ (codes "after", y) ∷ c ≡ b ++ (codes "before", z) ∷ (codes "after", u) ∷ d → SameMembers a b x y z u c d
same_ends a b x y z u c d n e =
    let w = same_fronts a b ((codes "before", x) ∷ (codes "after", y) ∷ c) ((codes "before", z) ∷ (codes "after", u) ∷ d) (omega (arith, n)) e in
    let first : (codes "before", x) ≡ (codes "before", z) = cc (w.1) in
    let second : (codes "after", y) ≡ (codes "after", u) = cc (w.1) in
    let rest : c ≡ d = cc (w.1) in
    record { own = w.0; before = ap (λ (m : Named). m.1) first; after = ap (λ (m : Named). m.1) second; diffs = rest }

same_members : (a b : List Named) (x y z u : Json) (c d : List Named) → Ends c → Ends d → a ++ (codes "before", x) ∷ (codes "after", y) ∷ c ≡ b ++ (codes "before", z) ∷ (codes "after", u) ∷ d → SameMembers a b x y z u c d
same_members a b x y z u c d (without p) (without q) e = same_ends a b x y z u c d (ap length (p ∙ sym q)) e
same_members a b x y z u c d (with j p) (with k q) e = same_ends a b x y z u c d (ap length p ∙ sym (ap length q)) e
same_members a b x y z u c d (without p) (with k q) e =
    absurd (not_last a b x y z u k (ap (λ (l : List Named). a ++ (codes "before", x) ∷ (codes "after", y) ∷ l) (sym p) ∙ (e ∙ ap (λ (l : List Named). b ++ (codes "before", z) ∷ (codes "after", u) ∷ l) q)))
same_members a b x y z u c d (with j p) (without q) e =
    absurd (not_last b a z u x y j (ap (λ (l : List Named). b ++ (codes "before", z) ∷ (codes "after", u) ∷ l) (sym q) ∙ (sym e ∙ ap (λ (l : List Named). a ++ (codes "before", x) ∷ (codes "after", y) ∷ l) p)))

record SameObjects (a b : List Named) (o q : List ℕ) (x y z u : Json) (c d : List Named) : Type 0 where
  operation : o ≡ q
  members : SameMembers a b x y z u c d

pairs_same : (bs cs : List Column) (d e : RowsEvent) (a b : List Named) (x y : Pair) (j : Json) (p : IsPairJson bs d a x j) (q : IsPairJson cs e b y j) → SameObjects a b (operation_of x) (operation_of y) p.before p.after q.before q.after p.diffs q.diffs
pairs_same bs cs d e a b x y j p q =
    let all : (codes "op", string (operation_of x)) ∷ (a ++ (codes "before", p.before) ∷ (codes "after", p.after) ∷ p.diffs) ≡ (codes "op", string (operation_of y)) ∷ (b ++ (codes "before", q.before) ∷ (codes "after", q.after) ∷ q.diffs) =
    objects_same ((codes "op", string (operation_of x)) ∷ (a ++ (codes "before", p.before) ∷ (codes "after", p.after) ∷ p.diffs)) ((codes "op", string (operation_of y)) ∷ (b ++ (codes "before", q.before) ∷ (codes "after", q.after) ∷ q.diffs)) (sym p.is ∙ q.is) in
    let first : (codes "op", string (operation_of x)) ≡ (codes "op", string (operation_of y)) = cc (all) in
    let op : string (operation_of x) ≡ string (operation_of y) = ap (λ (m : Named). m.1) first in
    let rest : a ++ (codes "before", p.before) ∷ (codes "after", p.after) ∷ p.diffs ≡ b ++ (codes "before", q.before) ∷ (codes "after", q.after) ∷ q.diffs = cc (all) in record {
      operation = cc (op);
      members = same_members a b p.before p.after q.before q.after p.diffs q.diffs (ends (has_diffs x.1) (IsDiffsOf bs (after_in d) x.1) p.diffs p.are_diffs) (ends (has_diffs y.1) (IsDiffsOf cs (after_in e) y.1) q.diffs q.are_diffs) rest;
    }

-- ---- images

not_null : (ms : List Named) (j : Json) → j ≡ null → j ≡ object (members_of ms) → ⊥
not_null ms j a b = cc

images_show : (cs : List Column) (present : List Bool) (x y : Option BinlogRow) (j : Json) → AreImagesOfOneTable cs present x y → IsImageJson cs present x j → IsImageJson cs present y j → EachCellOfImages ShowTheSame cs present x y
images_show cs present None None j are a b = tt
images_show cs present None (Some y) j are a b = absurd (not_null b.0 j a b.2)
images_show cs present (Some x) None j are a b = absurd (not_null a.0 j b a.2)
images_show cs present (Some x) (Some y) j are a b = rows_show cs present x y j are a b

-- nothing is shown of cells that aren't diffs
not_diffs : (c : Column) (x y : Option Cell) → is_diffs x ≡ false → ShowTheSameDiffs c x y
not_diffs c (Some (DiffsCell x)) (Some (DiffsCell y)) e = absurd (cc (e))
not_diffs c _ _ e = tt

none_at : (values : List (Option Cell)) (k : ℕ) (b : Bool) → list_any is_diffs values ≡ false → is_diffs (value_at values k) ≡ b → b ≡ false
none_at values k false none is = refl
none_at values k true none is = absurd (false≢true (sym none ∙ any_at values k is))

rows_diffs : (p q : Bool) (cs : List Column) (present : List Bool) (x y : BinlogRow) (ds : List Named) → AreRowsOfOneTable cs present x y → list_any is_diffs x.values ≡ p →
    MatchBool p ((j : Json) × IsDiffsOf cs present (Some x) j × (ds ≡ (codes "diffs", j) ∷ [])) (ds ≡ []) → MatchBool q ((j : Json) × IsDiffsOf cs present (Some y) j × (ds ≡ (codes "diffs", j) ∷ [])) (ds ≡ []) → EachCell ShowTheSameDiffs cs present x y
rows_diffs true true cs present x y ds are is a b =
    let first : (codes "diffs", a.0) ≡ (codes "diffs", b.0) = let e = sym a.2 ∙ b.2 in cc (e) in
    let same : a.0 ≡ b.0 = ap (λ (m : Named). m.1) first in
    objects_show part.Diffs cs present x y a.0 are a.1 (subst (IsDiffsOf cs present (Some y)) (sym same) b.1)
rows_diffs true false cs present x y ds are is a b = absurd (let e = sym a.2 ∙ b in cc (e))
rows_diffs false q cs present x y ds are is a b = λ k c get.
    not_diffs c (value_at x.values k) (value_at y.values k) (none_at x.values k (is_diffs (value_at x.values k)) is refl)

diffs_show : (cs : List Column) (present : List Bool) (x y : Option BinlogRow) (ds : List Named) → AreImagesOfOneTable cs present x y → EachCellOfImages ShowTheSame cs present x y → AreDiffs cs present x ds → AreDiffs cs present y ds →
    EachCellOfImages ShowTheSameDiffs cs present x y
diffs_show cs present None None ds are shown a b = tt
diffs_show cs present None (Some y) ds are shown a b = absurd shown
diffs_show cs present (Some x) None ds are shown a b = absurd shown
diffs_show cs present (Some x) (Some y) ds are shown a b = rows_diffs (list_any is_diffs x.values) (list_any is_diffs y.values) cs present x y ds are refl a b

-- ---- pairs

pub pairs_show : (cs : List Column) (d e : RowsEvent) (a b : List Named) (x y : Pair) (j : Json) → ArePairsOfOneTable cs d e x y → IsPairJson cs d a x j → IsPairJson cs e b y j → PairsShowTheSame cs d x y
pairs_show cs d e a b x y j are p q =
    let w = pairs_same cs cs d e a b x y j p q in
    let m = w.members in
    let first : IsImageJson cs (before_in d) y.0 p.before = subst (λ (bits : List Bool). IsImageJson cs bits y.0 p.before) (sym are.same_before) (subst (IsImageJson cs (before_in e) y.0) (sym m.before) q.is_before) in
    let second : IsImageJson cs (after_in d) y.1 p.after = subst (λ (bits : List Bool). IsImageJson cs bits y.1 p.after) (sym are.same_after) (subst (IsImageJson cs (after_in e) y.1) (sym m.after) q.is_after) in
    let third : AreDiffs cs (after_in d) y.1 p.diffs = subst (λ (bits : List Bool). AreDiffs cs bits y.1 p.diffs) (sym are.same_after) (subst (AreDiffs cs (after_in e) y.1) (sym m.diffs) q.are_diffs) in
    let after = images_show cs (after_in d) x.1 y.1 p.after are.after p.is_after second in record {
      operation = w.operation;
      before = images_show cs (before_in d) x.0 y.0 p.before are.before p.is_before first;
      after = after;
      diffs = diffs_show cs (after_in d) x.1 y.1 p.diffs are.after after p.are_diffs third;
    }

-- ---- lines

-- lines with the same text have the same JSON
line_values : (bs cs : List Column) (d e : RowsEvent) (a b : List Named) (x y : Pair) (line : List ℕ) (p : IsLine bs d a x line) (q : IsLine cs e b y line) → p.value ≡ q.value
line_values bs cs d e a b x y line p q =
    let text : print (json_tokens p.value) ≡ print (json_tokens q.value) = append_cancel_right _ _ (codes "\n") (sym p.text ∙ q.text) in
    let read : Some p.value ≡ Some q.value = sym p.reads_back ∙ (ap document text ∙ q.reads_back) in
    cc (read)

pub lines_show : (cs : List Column) (d e : RowsEvent) (a b : List Named) (x y : Pair) (line : List ℕ) → ArePairsOfOneTable cs d e x y → IsLine cs d a x line → IsLine cs e b y line → PairsShowTheSame cs d x y
lines_show cs d e a b x y line are p q =
    pairs_show cs d e a b x y p.value are p.is (subst (IsPairJson cs e b y) (sym (line_values cs cs d e a b x y line p q)) q.is)

pub lines_tell : (bs cs : List Column) (d e : RowsEvent) (a b : List Named) (x y : Pair) (line : List ℕ) → IsLine bs d a x line → IsLine cs e b y line → (operation_of x ≡ operation_of y) × (a ≡ b)
lines_tell bs cs d e a b x y line p q =
    let w = pairs_same bs cs d e a b x y p.value p.is (subst (IsPairJson cs e b y) (sym (line_values bs cs d e a b x y line p q)) q.is) in
    (w.operation, w.members.own)
