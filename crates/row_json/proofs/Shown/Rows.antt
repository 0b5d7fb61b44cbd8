-- Rows with the same JSON show the same of each cell.
use Rattle.std.proofs.Common.{◌≡◌, ℕ, zero, suc, ◌+◌, Bool, true, false, List, [], ◌∷◌, ◌++◌, refl, sym, ap, ◌∙◌, subst, arith}
use Rattle.std.specs.Prelude.{Option, Some, None, slice_get, ⊤}
use Rattle.binlog_base.specs.Values.{value_at}
use Rattle.binlog_values.specs.JsonbValues.{JsonbValue}
use Rattle.binlog_cells.specs.Cells.{Cell, PlainCell, JsonCell, DiffsCell}
use Rattle.mysql_binlog_rows.specs.Images.{BinlogRow}
use Rattle.json.specs.Json.{Json, null, object, document}
use Rattle.json.specs.Print.{print}
use Rattle.json.specs.Tree.{json_tokens, HasNumbers, MembersHaveNumbers}
use Rattle.json.proofs.Printed.Trees.{document-print}
use Rattle.row_json.specs.declared.row.Part.{Part}
use Rattle.row_json.specs.declared.row.Part.TheVariants as part
use Rattle.row_json.specs.Columns.{Column, columns_in}
use Rattle.row_json.specs.Documents.{IsDocumentJson, IsDiffsJson}
use Rattle.row_json.specs.Rows.{IsMember, IsMemberOf, AreMembers, IsObjectOf, IsRowJson}
use Rattle.row_json.specs.Values.{with_sign, IsValueJson}
use Rattle.row_json.specs.Wrote.{Named, members_of}
use Rattle.row_json.specs.Shown.{shown, IsInRange}
use Rattle.row_json.specs.ShownRows.{AreCellsOfOneColumn, ShowTheSame, ShowTheSameDiffs, EachCell, AreRowsOfOneTable, DocumentsHaveNumbers}
use Rattle.row_json.proofs.Depths.{object_fits}
use Rattle.row_json.proofs.Shown.Values.{json_shows, signed_text}
use Rattle.row_json.proofs.Shown.Texts.{plain_numbers}

-- ---- cells

-- what is shown of two cells in a part of their rows
abbrev pub Shows : Part → Column → Option Cell → Option Cell → Type 0
Shows part.Row = ShowTheSame
Shows part.Diffs = ShowTheSameDiffs

-- two members of the same name, before the same members
one : (n : List ℕ) (j k : Json) (f g r s : List Named) → f ≡ (n, j) ∷ [] → g ≡ (n, k) ∷ [] → f ++ r ≡ g ++ s → (j ≡ k) × (r ≡ s)
one n j k f g r s a b e =
    let same : (n, j) ∷ r ≡ (n, k) ∷ s = ap (λ (l : List Named). l ++ r) (sym a) ∙ (e ∙ ap (λ (l : List Named). l ++ s) b) in
    let first : (n, j) ≡ (n, k) = cc (same) in
    let value : j ≡ k = ap (λ (m : Named). m.1) first in
    let more : r ≡ s = cc (same) in
    (value, more)

none : (f g r s : List Named) → f ≡ [] → g ≡ [] → f ++ r ≡ g ++ s → r ≡ s
none f g r s a b e = ap (λ (l : List Named). l ++ r) (sym a) ∙ (e ∙ ap (λ (l : List Named). l ++ s) b)

-- one member of each, whose JSON is the same
both : (Is Be : Json → Type 0) (Shown : Type 0) (n : List ℕ) (j k : Json) (f g r s : List Named) → ((l : Json) → Is l → Be l → Shown) → Is j → Be k → f ≡ (n, j) ∷ [] → g ≡ (n, k) ∷ [] → f ++ r ≡ g ++ s → Shown × (r ≡ s)
both Is Be Shown n j k f g r s shows is be a b e =
    let w = one n j k f g r s a b e in
    (shows k (subst Is w.0 is) be, w.1)

-- of each cell its members, and then the same members of both rows
cell_shows : (p : Part) (c : Column) (x y : Option Cell) (f g r s : List Named) → AreCellsOfOneColumn c x y → IsMemberOf p c x f → IsMemberOf p c y g → f ++ r ≡ g ++ s → Shows p c x y × (r ≡ s)
cell_shows part.Row c (Some (PlainCell v)) (Some (PlainCell w)) f g r s are a b e =
    both (IsValueJson c v) (IsValueJson c w) (shown c v ≡ shown c w) c.name a.0 b.0 f g r s (λ l is be. (json_shows c v w l are is).0 be) a.1 b.1 a.2 b.2 e
cell_shows part.Row c (Some (PlainCell v)) (Some (JsonCell y)) f g r s are a b e =
    both (IsValueJson c v) (IsDocumentJson y) ((j : Json) × IsValueJson c v j × IsDocumentJson y j) c.name a.0 b.0 f g r s (λ l is be. (l, is, be)) a.1 b.1 a.2 b.2 e
cell_shows part.Row c (Some (JsonCell x)) (Some (PlainCell w)) f g r s are a b e =
    both (IsDocumentJson x) (IsValueJson c w) ((j : Json) × IsDocumentJson x j × IsValueJson c w j) c.name a.0 b.0 f g r s (λ l is be. (l, is, be)) a.1 b.1 a.2 b.2 e
cell_shows part.Row c (Some (JsonCell x)) (Some (JsonCell y)) f g r s are a b e =
    both (IsDocumentJson x) (IsDocumentJson y) ((j : Json) × IsDocumentJson x j × IsDocumentJson y j) c.name a.0 b.0 f g r s (λ l is be. (l, is, be)) a.1 b.1 a.2 b.2 e
cell_shows part.Row c (Some (DiffsCell x)) (Some (DiffsCell y)) f g r s are a b e = (tt, none f g r s a b e)
cell_shows part.Diffs c (Some (PlainCell v)) (Some (PlainCell w)) f g r s are a b e = (tt, none f g r s a b e)
cell_shows part.Diffs c (Some (PlainCell v)) (Some (JsonCell y)) f g r s are a b e = (tt, none f g r s a b e)
cell_shows part.Diffs c (Some (JsonCell x)) (Some (PlainCell w)) f g r s are a b e = (tt, none f g r s a b e)
cell_shows part.Diffs c (Some (JsonCell x)) (Some (JsonCell y)) f g r s are a b e = (tt, none f g r s a b e)
cell_shows part.Diffs c (Some (DiffsCell x)) (Some (DiffsCell y)) f g r s are a b e =
    both (IsDiffsJson x) (IsDiffsJson y) ((j : Json) × IsDiffsJson x j × IsDiffsJson y j) c.name a.0 b.0 f g r s (λ l is be. (l, is, be)) a.1 b.1 a.2 b.2 e
cell_shows _ c x y f g r s are a b e = absurd are

-- ---- rows

-- what holds of the cells from a place on
EachFrom : (Column → Option Cell → Option Cell → Type 0) → List Column → List Bool → ℕ → List (Option Cell) → List (Option Cell) → Type 0
EachFrom Holds cs present place v w =
    (k i : ℕ) (c : Column) → i ≡ place + k → slice_get (columns_in cs present) k ≡ Some c → Holds c (value_at v i) (value_at w i)

members_show : (p : Part) (cs : List Column) (present : List Bool) (place : ℕ) (v w : List (Option Cell)) (ms ns : List Named) → EachFrom AreCellsOfOneColumn cs present place v w → AreMembers p cs present place v ms →
    AreMembers p cs present place w ns → ms ≡ ns → EachFrom (Shows p) cs present place v w
unfolding EachFrom
members_show p [] present place v w ms ns are a b e k i c at get = absurd (cc (get))
members_show p (c₁ ∷ cs) [] place v w ms ns are a b e k i c at get = absurd (cc (get))
members_show p (c₁ ∷ cs) (false ∷ present) place v w ms ns are a b e k i c at get = members_show p cs present place v w ms ns are a b e k i c at get
members_show p (c₁ ∷ cs) (true ∷ present) place v w ms ns are a b e zero i c at get =
    let here : AreCellsOfOneColumn c₁ (value_at v place) (value_at w place) = are 0 place c₁ (omega arith) refl in
    let shows = (cell_shows p c₁ (value_at v place) (value_at w place) a.0 b.0 a.1 b.1 here a.2 b.2 (sym a.4 ∙ (e ∙ b.4))).0 in
    let same : place ≡ i = omega arith in
    let column : c₁ ≡ c = cc (get) in
    subst (λ (n : ℕ). Shows p c (value_at v n) (value_at w n)) same (subst (λ (d : Column). Shows p d (value_at v place) (value_at w place)) column shows)
members_show p (c₁ ∷ cs) (true ∷ present) place v w ms ns are a b e (suc k) i c at get =
    let here : AreCellsOfOneColumn c₁ (value_at v place) (value_at w place) = are 0 place c₁ (omega arith) refl in
    let more = (cell_shows p c₁ (value_at v place) (value_at w place) a.0 b.0 a.1 b.1 here a.2 b.2 (sym a.4 ∙ (e ∙ b.4))).1 in
    members_show p cs present (suc place) v w a.1 b.1 (λ m l d at₁ get₁. are (suc m) l d (omega arith) get₁) a.3 b.3 more k i c (omega arith) get

named : (m n : Named) → m.0 ≡ n.0 → m.1 ≡ n.1 → m ≡ n
named m n name value =
    let first : m ≡ (n.0, m.1) = ap (λ (s : List ℕ). (s, m.1)) name in
    let second : (n.0, m.1) ≡ n = ap (λ (j : Json). (n.0, j)) value in
    first ∙ second

pub members_same : (ms ns : List Named) → members_of ms ≡ members_of ns → ms ≡ ns
members_same [] [] e = refl
members_same [] (n ∷ ns) e = absurd (cc (e))
members_same (m ∷ ms) [] e = absurd (cc (e))
members_same (m ∷ ms) (n ∷ ns) e =
    let name : m.0 ≡ n.0 = cc (e) in
    let value : m.1 ≡ n.1 = cc (e) in
    let more : members_of ms ≡ members_of ns = cc (e) in
    let later : ms ≡ ns = members_same ms ns more in
    rw (named m n name value, later) refl

pub objects_same : (ms ns : List Named) → object (members_of ms) ≡ object (members_of ns) → ms ≡ ns
objects_same ms ns e = members_same ms ns (cc (e))

pub objects_show : (p : Part) (cs : List Column) (present : List Bool) (x y : BinlogRow) (j : Json) → AreRowsOfOneTable cs present x y → IsObjectOf p cs present x j → IsObjectOf p cs present y j → EachCell (Shows p) cs present x y
unfolding EachFrom
objects_show p cs present x y j are a b k c get =
    let same : a.0 ≡ b.0 = objects_same a.0 b.0 (sym a.2 ∙ b.2) in
    members_show p cs present 0 x.values y.values a.0 b.0
    (λ l i d at has. subst (λ (n : ℕ). AreCellsOfOneColumn d (value_at x.values n) (value_at y.values n)) (let e : l ≡ i = omega arith in e) (are l d has))
    a.1 b.1 same k k c (omega arith) get

pub rows_show : (cs : List Column) (present : List Bool) (x y : BinlogRow) (j : Json) → AreRowsOfOneTable cs present x y → IsRowJson cs present x j → IsRowJson cs present y j → EachCell ShowTheSame cs present x y
rows_show cs present x y j are a b = objects_show part.Row cs present x y j are a b

-- ---- numbers

-- a value has numbers in its ranges
InRange : Option Cell → Type 0
InRange (Some (PlainCell v)) = IsInRange v
InRange _ = ⊤

first_range : (c : Column) (x y : Option Cell) → AreCellsOfOneColumn c x y → InRange x
unfolding InRange
first_range c (Some (PlainCell v)) (Some (PlainCell w)) are = are.first.in_range
first_range c (Some (PlainCell v)) (Some (JsonCell y)) are = subst IsInRange (sym are) tt
first_range c (Some (JsonCell x)) y are = tt
first_range c (Some (DiffsCell x)) y are = tt
first_range c _ _ are = absurd are

second_range : (c : Column) (x y : Option Cell) → AreCellsOfOneColumn c x y → InRange y
unfolding InRange
second_range c (Some (PlainCell v)) (Some (PlainCell w)) are = are.second.in_range
second_range c (Some (JsonCell x)) (Some (PlainCell w)) are = subst IsInRange (sym are) tt
second_range c x (Some (JsonCell y)) are = tt
second_range c x (Some (DiffsCell y)) are = tt
second_range c _ _ are = absurd are

joined_numbers : (f r : List Named) → MembersHaveNumbers (members_of f) → MembersHaveNumbers (members_of r) → MembersHaveNumbers (members_of (f ++ r))
joined_numbers [] r a b = b
joined_numbers (m ∷ ms) r a b = (a.0, joined_numbers ms r a.1 b)

one_number : (n : List ℕ) (j : Json) (f : List Named) → f ≡ (n, j) ∷ [] → HasNumbers j → MembersHaveNumbers (members_of f)
one_number n j f e has = subst (λ (l : List Named). MembersHaveNumbers (members_of l)) (sym e) (has, tt)

cell_numbers : (c : Column) (x : Option Cell) (f : List Named) → InRange x → ((d : JsonbValue) (j : Json) → x ≡ Some (JsonCell d) → IsDocumentJson d j → HasNumbers j) → IsMember c x f → MembersHaveNumbers (members_of f)
unfolding InRange
cell_numbers c None f range docs a = one_number c.name null f a tt
cell_numbers c (Some (PlainCell v)) f range docs a = one_number c.name a.0 f a.2 (plain_numbers c (with_sign c.kind v) a.0 (signed_text c.kind v range) a.1)
cell_numbers c (Some (JsonCell d)) f range docs a = one_number c.name a.0 f a.2 (docs d a.0 refl a.1)
cell_numbers c (Some (DiffsCell d)) f range docs a = subst (λ (l : List Named). MembersHaveNumbers (members_of l)) (sym a) tt

members_numbers : (cs : List Column) (present : List Bool) (place : ℕ) (v : List (Option Cell)) (ms : List Named) → ((k i : ℕ) (c : Column) → i ≡ place + k → slice_get (columns_in cs present) k ≡ Some c → InRange (value_at v i)) →
    ((k : ℕ) (d : JsonbValue) (j : Json) → value_at v k ≡ Some (JsonCell d) → IsDocumentJson d j → HasNumbers j) → AreMembers part.Row cs present place v ms → MembersHaveNumbers (members_of ms)
members_numbers [] present place v ms ranges docs a = subst (λ (l : List Named). MembersHaveNumbers (members_of l)) (sym a) tt
members_numbers (c ∷ cs) [] place v ms ranges docs a = subst (λ (l : List Named). MembersHaveNumbers (members_of l)) (sym a) tt
members_numbers (c ∷ cs) (false ∷ present) place v ms ranges docs a = members_numbers cs present place v ms ranges docs a
members_numbers (c ∷ cs) (true ∷ present) place v ms ranges docs a =
    let first = cell_numbers c (value_at v place) a.0 (ranges 0 place c (omega arith) refl) (docs place) a.2 in
    let more = members_numbers cs present (suc place) v a.1 (λ k i d at get. ranges (suc k) i d (omega arith) get) docs a.3 in
    subst (λ (l : List Named). MembersHaveNumbers (members_of l)) (sym a.4) (joined_numbers a.0 a.1 first more)

row_numbers : (cs : List Column) (present : List Bool) (x : BinlogRow) (j : Json) → ((k : ℕ) (c : Column) → slice_get (columns_in cs present) k ≡ Some c → InRange (value_at x.values k)) → DocumentsHaveNumbers x → IsRowJson cs present x j → HasNumbers j
row_numbers cs present x j ranges docs a =
    let all = members_numbers cs present 0 x.values a.0 (λ k i c at get. let e : k ≡ i = omega arith in subst (λ (n : ℕ). InRange (value_at x.values n)) e (ranges k c get)) docs a.1 in
    subst HasNumbers (sym a.2) all

pub row_texts_show : (cs : List Column) (present : List Bool) (x y : BinlogRow) (j k : Json) → AreRowsOfOneTable cs present x y → DocumentsHaveNumbers x → DocumentsHaveNumbers y → IsRowJson cs present x j → IsRowJson cs present y k →
    print (json_tokens j) ≡ print (json_tokens k) → EachCell ShowTheSame cs present x y
row_texts_show cs present x y j k are m n a b e =
    let p = row_numbers cs present x j (λ i c get. first_range c (value_at x.values i) (value_at y.values i) (are i c get)) m a in
    let q = row_numbers cs present y k (λ i c get. second_range c (value_at x.values i) (value_at y.values i) (are i c get)) n b in
    let first : document (print (json_tokens j)) ≡ Some j = document-print j p (omega (arith, object_fits part.Row cs present x j a)) in
    let second : document (print (json_tokens k)) ≡ Some k = document-print k q (omega (arith, object_fits part.Row cs present y k b)) in
    let read : Some j ≡ Some k = sym first ∙ (ap document e ∙ second) in
    let same : j ≡ k = cc (read) in
    rows_show cs present x y j are a (subst (IsRowJson cs present y) (sym same) b)
