-- The lines of a table are found in a file.
use Rattle.std.proofs.Common.{◌≡◌, ◌≢◌, ℕ, zero, suc, ◌+◌, ◌<◌, ◌≤◌, Bool, true, false, ◌&&◌, List, [], ◌∷◌, ◌++◌, length, drop, get_or, Option, Some, None, Result, Ok, Err, refl, sym, ap, subst, ◌∙◌, arith, if◌then◌else◌}
use Rattle.std.specs.Prelude.{codes}
use Rattle.std.specs.List.{flat_map}
use Rattle.std.specs.Cmp.{IsTotalOrder}
use Rattle.std.specs.Cmp.Lexicographic.{slice_cmp}
use Rattle.std.specs.Ordering.{nat_cmp, ordering_then, ordering_reverse, is_eq, is_gt}
use Rattle.std.specs.declared.cmp.Ordering.{Ordering}
use Rattle.std.specs.declared.cmp.Ordering.TheVariants as order
use Rattle.std.specs.Bool.{Decides}
use Rattle.std.specs.Str.{bytes_eq, is_utf8}
use Rattle.std.proofs.lemmas.Bool.{false≢true}
use Rattle.std.proofs.lemmas.Cmp.{nat_list_cmp_total, on_total, then_total}
use Rattle.std.proofs.lemmas.Map.Text.{is_eq-slice_cmp}
use Rattle.std.proofs.lemmas.Slice.Eq.{bytes_eq-Decides}
use Rattle.binlog_base.specs.Format.{◌>>=◌}
use Rattle.binlog_base.specs.Lemmas.Format.{bind_ok, ok_is}
use Rattle.table_schema.specs.declared.fault.SchemaFault.{SchemaFault}
use Rattle.table_schema.specs.declared.fault.SchemaFault.TheVariants as fault
use Rattle.table_schema.specs.declared.line.Line.{Line}
use Rattle.table_schema.specs.declared.line.Line.TheVariants as line
use Rattle.table_schema.specs.Texts.{pieces}
use Rattle.table_schema.specs.Lines.{Names, Target, Head, ColumnLine, KeyLine, number, is_nullable, names_order, head_by, is_head, head_of, column_fields, typed, key_fields, end_fields, column_of}
use Rattle.table_schema.specs.Files.{File, fields_of, first_line, line_of, column_follows, key_follows, follows, in_order, line_behind, at, end_at, then_lines, lines_from, file_in, file_of, is_of, column_in, columns_in, part_in, parts_in}
use Rattle.table_schema.specs.Search.{rank_of, names_of, order_by, order_of, IsPlace, lines_while, column_or, column_taken, key_or, key_taken}

-- ---- tables in order

names_total : IsTotalOrder names_order
names_total = then_total (on_total (λ (n : Names). n.database) nat_list_cmp_total) (on_total (λ (n : Names). n.table) nat_list_cmp_total)

-- what comes before a later table comes before it too
comes_before : (a b c : Names) (o : Ordering) → names_order a b ≡ o → is_gt o ≡ false → names_order b c ≡ order.Less → names_order a c ≡ order.Less
comes_before a b c order.Less h g l = names_total.trans a b c h l
comes_before a b c order.Equal h g l = names_total.congr a b c h ∙ l
comes_before a b c order.Greater h g l = absurd (false≢true (sym g))

greater_back : (a b : Names) → names_order a b ≡ order.Greater → names_order b a ≡ order.Less
greater_back a b h = names_total.antisymm b a ∙ ap ordering_reverse h

comes_behind : (a b c : Names) (o : Ordering) → names_order a b ≡ o → is_gt o ≡ false → names_order a c ≡ order.Greater → names_order b c ≡ order.Greater
comes_behind a b c order.Less h g l = names_total.antisymm b c ∙ ap ordering_reverse (names_total.trans c a b (greater_back a c l) h)
comes_behind a b c order.Equal h g l = sym (names_total.congr a b c h) ∙ l
comes_behind a b c order.Greater h g l = absurd (false≢true (sym g))

eq_then : (x y : Ordering) → is_eq (ordering_then x y) ≡ (is_eq x && is_eq y)
eq_then order.Less y = refl
eq_then order.Equal y = refl
eq_then order.Greater y = refl

is_of_order : (names n : Names) → is_eq (names_order n names) ≡ is_of names n
is_of_order names n =
    eq_then (slice_cmp nat_cmp n.database names.database) (slice_cmp nat_cmp n.table names.table)
    ∙ ap (λ b. b && is_eq (slice_cmp nat_cmp n.table names.table)) (is_eq-slice_cmp n.database names.database)
    ∙ ap (λ b. bytes_eq n.database names.database && b) (is_eq-slice_cmp n.table names.table)

-- ---- lines in order

-- the columns of a table, or the columns of its unique indexes
pub target_by : Bool → Names → Target
target_by false names = record { rank = 1; names = names }
target_by true names = record { rank = 2; names = names }

order_to : Bool → Names → Line → Ordering
order_to false names (line.Column c) = names_order c.names names
order_to false names _ = order.Greater
order_to true names (line.Column c) = order.Less
order_to true names (line.Key k) = names_order k.names names
order_to true names (line.End t) = order.Greater

less_greater : order.Less ≡ order.Greater → ⊥
less_greater h = cc

greater_less : order.Greater ≡ order.Less → ⊥
greater_less h = cc

column_not_gt : (o : Ordering) (a c : ColumnLine) → column_follows o a c ≡ true → is_gt o ≡ false
column_not_gt order.Less a c h = refl
column_not_gt order.Equal a c h = refl
column_not_gt order.Greater a c h = absurd (false≢true h)

key_not_gt : (o : Ordering) (a k : KeyLine) → key_follows o a k ≡ true → is_gt o ≡ false
key_not_gt order.Less a k h = refl
key_not_gt order.Equal a k h = refl
key_not_gt order.Greater a k h = absurd (false≢true h)

-- a line behind one that doesn't come before those that are looked for doesn't either
later_not_less : (kind : Bool) (names : Names) (a l : Line) → follows (Some a) l ≡ true → order_to kind names l ≡ order.Less → order_to kind names a ≡ order.Less
unfolding order_to
later_not_less false names (line.Column a) (line.Column c) h e = comes_before a.names c.names names (names_order a.names c.names) refl (column_not_gt (names_order a.names c.names) a c h) e
later_not_less true names (line.Column a) (line.Column c) h e = refl
later_not_less false names (line.Column a) (line.Key k) h e = absurd (greater_less e)
later_not_less true names (line.Column a) (line.Key k) h e = refl
later_not_less false names (line.Column a) (line.End t) h e = absurd (greater_less e)
later_not_less true names (line.Column a) (line.End t) h e = refl
later_not_less kind names (line.Key a) (line.Column c) h e = absurd (false≢true h)
later_not_less false names (line.Key a) (line.Key k) h e = absurd (greater_less e)
later_not_less true names (line.Key a) (line.Key k) h e = comes_before a.names k.names names (names_order a.names k.names) refl (key_not_gt (names_order a.names k.names) a k h) e
later_not_less false names (line.Key a) (line.End t) h e = absurd (greater_less e)
later_not_less true names (line.Key a) (line.End t) h e = absurd (greater_less e)
later_not_less kind names (line.End t) l h e = absurd (false≢true h)

-- a line behind one that comes behind those that are looked for comes behind them too
later_greater : (kind : Bool) (names : Names) (a l : Line) → follows (Some a) l ≡ true → order_to kind names a ≡ order.Greater → order_to kind names l ≡ order.Greater
unfolding order_to
later_greater false names (line.Column a) (line.Column c) h e = comes_behind a.names c.names names (names_order a.names c.names) refl (column_not_gt (names_order a.names c.names) a c h) e
later_greater true names (line.Column a) (line.Column c) h e = absurd (less_greater e)
later_greater false names (line.Column a) (line.Key k) h e = refl
later_greater true names (line.Column a) (line.Key k) h e = absurd (less_greater e)
later_greater false names (line.Column a) (line.End t) h e = refl
later_greater true names (line.Column a) (line.End t) h e = refl
later_greater kind names (line.Key a) (line.Column c) h e = absurd (false≢true h)
later_greater false names (line.Key a) (line.Key k) h e = refl
later_greater true names (line.Key a) (line.Key k) h e = comes_behind a.names k.names names (names_order a.names k.names) refl (key_not_gt (names_order a.names k.names) a k h) e
later_greater false names (line.Key a) (line.End t) h e = refl
later_greater true names (line.Key a) (line.End t) h e = refl
later_greater kind names (line.End t) l h e = absurd (false≢true h)

-- ---- what is read of a line

guarded : {A E : Type 0} (b : Bool) (x y : A) (e : E) → (if b then Ok x else Err e) ≡ Ok y → (b ≡ true) × (x ≡ y)
guarded true x y e h = (refl, ok_is x y h)
guarded false x y e h = absurd cc

fields_are : (bytes : List ℕ) (fs : List (List ℕ)) → fields_of bytes ≡ Ok fs → pieces 9 bytes ≡ fs
fields_are bytes fs h = both (is_utf8 bytes) _ h where
  both : (a b : Bool) → (if a then (if b then Ok (pieces 9 bytes) else Err fault.Escape) else Err fault.NotUtf8) ≡ Ok fs → pieces 9 bytes ≡ fs
  both true true k = ok_is (pieces 9 bytes) fs k
  both true false k = absurd cc
  both false b k = absurd cc

column_names : (rest : List (List ℕ)) (c : ColumnLine) → column_fields rest ≡ Ok c → names_of rest ≡ c.names
column_names (d ∷ t ∷ o ∷ n ∷ y ∷ ch ∷ l ∷ u ∷ e ∷ []) c h =
    let a = bind_ok (number o) _ c h in
    let b = bind_ok (number l) _ c a.2 in
    let g = bind_ok (is_nullable u) _ c b.2 in
    ap (λ (x : ColumnLine). x.names) (ok_is _ c g.2)
column_names _ c h = absurd cc

key_names : (rest : List (List ℕ)) (k : KeyLine) → key_fields rest ≡ Ok k → names_of rest ≡ k.names
key_names (d ∷ t ∷ i ∷ s ∷ c ∷ p ∷ []) k h =
    let a = bind_ok (number s) _ k h in
    let b = bind_ok (number p) _ k a.2 in
    ap (λ (x : KeyLine). x.names) (ok_is _ k b.2)
key_names _ k h = absurd cc

-- a line is read as it should be, by its fields
record IsLine (fs : List (List ℕ)) (l : Line) : Type 0 where
  order : (kind : Bool) (names : Names) → order_by (target_by kind names) fs ≡ order_to kind names l
  column : (c : ColumnLine) → l ≡ line.Column c → column_taken fs ≡ column_of c ∷ []
  key : (k : KeyLine) → l ≡ line.Key k → key_taken fs ≡ k ∷ []

column_line : (word : List ℕ) (rest : List (List ℕ)) (c : ColumnLine) → rank_of word ≡ 1 → column_fields rest ≡ Ok c → IsLine (word ∷ rest) (line.Column c)
unfolding target_by order_to
column_line word rest c r h = record { order = go; column = λ d e. ap column_or h ∙ same d e; key = λ k e. absurd cc } where
  go : (kind : Bool) (names : Names) → order_by (target_by kind names) (word ∷ rest) ≡ order_to kind names (line.Column c)
  go false names = ap (λ n. ordering_then (nat_cmp n 1) (names_order (names_of rest) names)) r ∙ ap (λ n. names_order n names) (column_names rest c h)
  go true names = ap (λ n. ordering_then (nat_cmp n 2) (names_order (names_of rest) names)) r

  same : (d : ColumnLine) → line.Column c ≡ line.Column d → column_of c ∷ [] ≡ column_of d ∷ []
  same d e = let x : c ≡ d = cc in ap (λ y. column_of y ∷ []) x

key_line : (word : List ℕ) (rest : List (List ℕ)) (k : KeyLine) → rank_of word ≡ 2 → key_fields rest ≡ Ok k → IsLine (word ∷ rest) (line.Key k)
unfolding target_by order_to
key_line word rest k r h = record { order = go; column = λ d e. absurd cc; key = λ j e. ap key_or h ∙ same j e } where
  go : (kind : Bool) (names : Names) → order_by (target_by kind names) (word ∷ rest) ≡ order_to kind names (line.Key k)
  go false names = ap (λ n. ordering_then (nat_cmp n 1) (names_order (names_of rest) names)) r
  go true names = ap (λ n. ordering_then (nat_cmp n 2) (names_order (names_of rest) names)) r ∙ ap (λ n. names_order n names) (key_names rest k h)

  same : (j : KeyLine) → line.Key k ≡ line.Key j → k ∷ [] ≡ j ∷ []
  same j e = let x : k ≡ j = cc in ap (λ y. y ∷ []) x

end_line : (word : List ℕ) (rest : List (List ℕ)) (t : ℕ) → rank_of word ≡ 3 → IsLine (word ∷ rest) (line.End t)
unfolding target_by order_to
end_line word rest t r = record { order = go; column = λ d e. absurd cc; key = λ j e. absurd cc } where
  go : (kind : Bool) (names : Names) → order_by (target_by kind names) (word ∷ rest) ≡ order_to kind names (line.End t)
  go false names = ap (λ n. ordering_then (nat_cmp n 1) (names_order (names_of rest) names)) r
  go true names = ap (λ n. ordering_then (nat_cmp n 2) (names_order (names_of rest) names)) r

typed_same : (c d : ColumnLine) → typed c ≡ Ok d → c ≡ d
typed_same c d h = (guarded _ c d fault.Values h).1

by_word : (a b d : Bool) (word : List ℕ) (rest : List (List ℕ)) (l : Line) → bytes_eq word (codes "column") ≡ a → bytes_eq word (codes "key") ≡ b → bytes_eq word (codes "end") ≡ d →
    (if a then (column_fields rest >>= typed >>= λ c. Ok (line.Column c)) else if b then (key_fields rest >>= λ k. Ok (line.Key k)) else if d then (end_fields rest >>= λ t. Ok (line.End t)) else Err fault.Word) ≡ Ok l → IsLine (word ∷ rest) l
by_word true b d word rest l x y z h =
    let p = bind_ok (column_fields rest >>= typed) (λ c. Ok (line.Column c)) l h in
    let q = bind_ok (column_fields rest) typed p.0 p.1 in
    subst (IsLine (word ∷ rest)) (ok_is (line.Column p.0) l p.2)
    (column_line word rest p.0 (ap (λ t. if t then 1 else if bytes_eq word (codes "key") then 2 else if bytes_eq word (codes "end") then 3 else 0) x) (q.1 ∙ ap (λ (c : ColumnLine). Ok c) (typed_same q.0 p.0 q.2)))
by_word false true d word rest l x y z h =
    let p = bind_ok (key_fields rest) (λ k. Ok (line.Key k)) l h in
    subst (IsLine (word ∷ rest)) (ok_is (line.Key p.0) l p.2)
    (key_line word rest p.0 (ap (λ t. if t then 1 else if bytes_eq word (codes "key") then 2 else if bytes_eq word (codes "end") then 3 else 0) x ∙ ap (λ t. if t then 2 else if bytes_eq word (codes "end") then 3 else 0) y) p.1)
by_word false false true word rest l x y z h =
    let p = bind_ok (end_fields rest) (λ t. Ok (line.End t)) l h in
    subst (IsLine (word ∷ rest)) (ok_is (line.End p.0) l p.2)
    (end_line word rest p.0 (ap (λ t. if t then 1 else if bytes_eq word (codes "key") then 2 else if bytes_eq word (codes "end") then 3 else 0) x ∙ ap (λ t. if t then 2 else if bytes_eq word (codes "end") then 3 else 0) y ∙ ap (λ t. if t then 3 else 0) z))
by_word false false false word rest l x y z h = absurd cc

is_line : (fs : List (List ℕ)) (l : Line) → line_of fs ≡ Ok l → IsLine fs l
is_line [] l h = absurd cc
is_line (word ∷ rest) l h = by_word (bytes_eq word (codes "column")) (bytes_eq word (codes "key")) (bytes_eq word (codes "end")) word rest l refl refl refl h

record IsRead (before : Option Line) (bytes : List ℕ) (l : Line) : Type 0 where
  line : IsLine (pieces 9 bytes) l
  follows : follows before l ≡ true

is_read : (before : Option Line) (bytes : List ℕ) (l : Line) → line_behind before bytes ≡ Ok l → IsRead before bytes l
is_read before bytes l h =
    let p = bind_ok (fields_of bytes >>= line_of) (in_order before) l h in
    let q = bind_ok (fields_of bytes) line_of p.0 p.1 in
    let g = guarded (follows before p.0) p.0 l fault.Order p.2 in
    subst (IsRead before bytes) g.1 (record {
      line = is_line (pieces 9 bytes) p.0 (ap line_of (fields_are bytes q.0 q.1) ∙ q.2);
      follows = g.0;
    })

-- ---- a line, and those behind it

at_ok : {A : Type 0} (n : ℕ) (r : Result A SchemaFault) (a : A) → at n r ≡ Ok a → r ≡ Ok a
at_ok n (Ok x) a h = let e : x ≡ a = ok_is x a h in ap (λ y. Ok y) e
at_ok n (Err e) a h = absurd cc

-- the last line, behind which nothing but its line feed stands
record IsLast (more : List (List ℕ)) (es : List Line) : Type 0 where
  end : more ≡ [] ∷ []
  none : es ≡ []

last_is : (n time : ℕ) (more : List (List ℕ)) (r : List Line × ℕ) → end_at n time more ≡ Ok r → IsLast more r.0
last_is n time [] r h = absurd cc
last_is n time ([] ∷ []) r h = record { end = refl; none = sym (ap (λ (x : List Line × ℕ). x.0) (ok_is ([], time) r h)) }
last_is n time ((b ∷ bs) ∷ []) r h = absurd cc
last_is n time (x ∷ y ∷ more) r h = absurd cc

-- what stands behind a line: nothing behind the last one
Rest : ℕ → Line → List (List ℕ) → List Line → Type 0
Rest n (line.End t) more es = IsLast more es
Rest n l more es = (r : List Line × ℕ) × (lines_from n (Some l) more ≡ Ok r) × (es ≡ l ∷ r.0)

more_lines : (n : ℕ) (l : Line) (more : List (List ℕ)) (r : List Line × ℕ) → (lines_from n (Some l) more >>= λ x. Ok (l ∷ x.0, x.1)) ≡ Ok r → (x : List Line × ℕ) × (lines_from n (Some l) more ≡ Ok x) × (r.0 ≡ l ∷ x.0)
more_lines n l more r h =
    let p = bind_ok (lines_from n (Some l) more) (λ x. Ok (l ∷ x.0, x.1)) r h in
    (p.0, p.1, sym (ap (λ (x : List Line × ℕ). x.0) (ok_is (l ∷ p.0.0, p.0.1) r p.2)))

rest_of : (n : ℕ) (l : Line) (more : List (List ℕ)) (r : List Line × ℕ) → then_lines n more (λ m. lines_from n m more) l ≡ Ok r → Rest n l more r.0
unfolding Rest
rest_of n (line.End t) more r h = last_is n t more r h
rest_of n (line.Column c) more r h = more_lines n (line.Column c) more r h
rest_of n (line.Key k) more r h = more_lines n (line.Key k) more r h

-- the first line of some, and what is behind it
record First (n : ℕ) (before : Option Line) (bytes : List ℕ) (more : List (List ℕ)) (es : List Line) : Type 0 where
  l : Line
  read : IsRead before bytes l
  rest : Rest (n + 1) l more es

first_of : (n : ℕ) (before : Option Line) (bytes next : List ℕ) (more : List (List ℕ)) (r : List Line × ℕ) → lines_from n before (bytes ∷ next ∷ more) ≡ Ok r → First n before bytes (next ∷ more) r.0
first_of n before bytes next more r h =
    let p = bind_ok (at n (line_behind before bytes)) _ r h in
    record {
      l = p.0;
      read = is_read before bytes p.0 (at_ok n (line_behind before bytes) p.0 p.1);
      rest = rest_of (n + 1) p.0 (next ∷ more) r p.2;
    }

-- ---- what is taken

-- what is taken of a line that is looked for, by its fields, is what its line tells; of others nothing is told
record Takes {X : Type 0} (kind : Bool) (names : Names) (taken : List (List ℕ) → List X) (pick : Line → List X) : Type 0 where
  equal : (fs : List (List ℕ)) (l : Line) → IsLine fs l → order_to kind names l ≡ order.Equal → taken fs ≡ pick l
  other : (l : Line) → is_eq (order_to kind names l) ≡ false → pick l ≡ []

module _ {X : Type 0} (kind : Bool) (names : Names) (taken : List (List ℕ) → List X) (pick : Line → List X) (takes : Takes kind names taken pick) where
  line_order : (before : Option Line) (bytes : List ℕ) (l : Line) → IsRead before bytes l → order_of (target_by kind names) bytes ≡ order_to kind names l
  line_order before bytes l r = r.line.order kind names

  end_greater : (t : ℕ) → order_to kind names (line.End t) ≡ order.Greater
  unfolding order_to
  end_greater t = go kind where
    go : (k : Bool) → order_to k names (line.End t) ≡ order.Greater
    go false = refl
    go true = refl

  -- none of the lines behind one that doesn't come before those that are looked for does
  NotLess : List (List ℕ) → Type 0
  NotLess ps = (i : ℕ) → i + 1 < length ps → order_of (target_by kind names) (get_or ps i []) ≢ order.Less

  above_step : (n : ℕ) (a : Line) (b next : List ℕ) (more : List (List ℕ)) (es : List Line) → order_to kind names a ≢ order.Less → ((l : Line) (x : List Line × ℕ) → lines_from (n + 1) (Some l) (next ∷ more) ≡ Ok x → order_to kind names l ≢ order.Less → NotLess (next ∷ more)) → (l : Line) → IsRead (Some a) b l → Rest (n + 1) l (next ∷ more) es → NotLess (b ∷ next ∷ more)
  unfolding Rest NotLess
  above_step n a b next more es o go l read rest zero lt e = o (later_not_less kind names a l read.follows (sym (line_order (Some a) b l read) ∙ e))
  above_step n a b next more es o go (line.End t) read rest (suc i) lt e = absurd (omega (arith, lt, ap length rest.end))
  above_step n a b next more es o go (line.Column c) read rest (suc i) lt e = go (line.Column c) rest.0 rest.1 (λ x. o (later_not_less kind names a (line.Column c) read.follows x)) i (omega (arith, lt)) e
  above_step n a b next more es o go (line.Key k) read rest (suc i) lt e = go (line.Key k) rest.0 rest.1 (λ x. o (later_not_less kind names a (line.Key k) read.follows x)) i (omega (arith, lt)) e

  above : (n : ℕ) (a : Line) (ps : List (List ℕ)) (r : List Line × ℕ) → lines_from n (Some a) ps ≡ Ok r → order_to kind names a ≢ order.Less → NotLess ps
  unfolding NotLess
  above n a [] r h o i lt e = absurd (omega (arith, lt))
  above n a (b ∷ []) r h o i lt e = absurd (omega (arith, lt))
  above n a (b ∷ next ∷ more) r h o i lt e =
      let f = first_of n (Some a) b next more r h in
      above_step n a b next more r.0 o (λ l x lines p. above (n + 1) l (next ∷ more) x lines p) f.l f.read f.rest i lt e

  greater_none : (l : Line) → order_to kind names l ≡ order.Greater → pick l ≡ []
  greater_none l h = takes.other l (ap is_eq h)

  picked : (l : Line) (es rest : List Line) → es ≡ l ∷ rest → pick l ≡ [] → flat_map pick rest ≡ [] → flat_map pick es ≡ []
  picked l es rest h p q = ap (flat_map pick) h ∙ ap (λ x. x ++ flat_map pick rest) p ∙ q

  -- none of the lines behind one that comes behind those that are looked for is one of them
  none_step : (n : ℕ) (a : Line) (b next : List ℕ) (more : List (List ℕ)) (es : List Line) → order_to kind names a ≡ order.Greater → ((l : Line) (x : List Line × ℕ) → lines_from (n + 1) (Some l) (next ∷ more) ≡ Ok x → order_to kind names l ≡ order.Greater → flat_map pick x.0 ≡ []) → (l : Line) → IsRead (Some a) b l → Rest (n + 1) l (next ∷ more) es → flat_map pick es ≡ []
  unfolding Rest
  none_step n a b next more es o go (line.End t) read rest = ap (flat_map pick) rest.none
  none_step n a b next more es o go (line.Column c) read rest = let g = later_greater kind names a (line.Column c) read.follows o in picked (line.Column c) es rest.0.0 rest.2 (greater_none (line.Column c) g) (go (line.Column c) rest.0 rest.1 g)
  none_step n a b next more es o go (line.Key k) read rest = let g = later_greater kind names a (line.Key k) read.follows o in picked (line.Key k) es rest.0.0 rest.2 (greater_none (line.Key k) g) (go (line.Key k) rest.0 rest.1 g)

  none_behind : (n : ℕ) (a : Line) (ps : List (List ℕ)) (r : List Line × ℕ) → lines_from n (Some a) ps ≡ Ok r → order_to kind names a ≡ order.Greater → flat_map pick r.0 ≡ []
  none_behind n a [] r h o = absurd cc
  none_behind n a (b ∷ []) r h o = absurd cc
  none_behind n a (b ∷ next ∷ more) r h o =
      let f = first_of n (Some a) b next more r h in
      none_step n a b next more r.0 o (λ l x lines g. none_behind (n + 1) l (next ∷ more) x lines g) f.l f.read f.rest

  -- where the lines that are looked for stand, and what is taken of them
  record Found (ps : List (List ℕ)) (es : List Line) : Type 0 where
    p : ℕ
    place : IsPlace (target_by kind names) ps p
    is_taken : lines_while taken (target_by kind names) (drop p ps) ≡ flat_map pick es

  -- a line before them
  found_less : (b next : List ℕ) (more : List (List ℕ)) (l : Line) (es rest : List Line) → order_of (target_by kind names) b ≡ order.Less → pick l ≡ [] → es ≡ l ∷ rest → Found (next ∷ more) rest → Found (b ∷ next ∷ more) es
  found_less b next more l es rest less none is f = record {
    p = suc f.p;
    place = record {
      within = omega (arith, f.place.within);
      below = below_next;
      above = above_next;
    };
    is_taken = f.is_taken ∙ sym (ap (flat_map pick) is ∙ ap (λ x. x ++ flat_map pick rest) none);
  } where
    below_next : (i : ℕ) → i < suc f.p → order_of (target_by kind names) (get_or (b ∷ next ∷ more) i []) ≡ order.Less
    below_next zero lt = less
    below_next (suc i) lt = f.place.below i (omega (arith, lt))

    above_next : (i : ℕ) → suc f.p ≤ i → i + 1 < length (b ∷ next ∷ more) → order_of (target_by kind names) (get_or (b ∷ next ∷ more) i []) ≢ order.Less
    above_next zero le lt = absurd (omega (arith, le))
    above_next (suc i) le lt = f.place.above i (omega (arith, le)) (omega (arith, lt))

  -- none is before them
  found_here : (b next : List ℕ) (more : List (List ℕ)) (es : List Line) → NotLess (b ∷ next ∷ more) → lines_while taken (target_by kind names) (b ∷ next ∷ more) ≡ flat_map pick es → Found (b ∷ next ∷ more) es
  unfolding NotLess
  found_here b next more es not_less is = record {
    p = 0;
    place = record { within = omega arith; below = λ i lt. absurd (omega (arith, lt)); above = λ i le lt. not_less i lt };
    is_taken = is;
  }

  -- if none is before them, the first is where they begin
  at_once : (ps : List (List ℕ)) (es : List Line) → Found ps es → NotLess ps → lines_while taken (target_by kind names) ps ≡ flat_map pick es
  unfolding NotLess
  at_once ps es f not_less = go f.p f.place f.is_taken where
    go : (p : ℕ) → IsPlace (target_by kind names) ps p → lines_while taken (target_by kind names) (drop p ps) ≡ flat_map pick es → lines_while taken (target_by kind names) ps ≡ flat_map pick es
    go zero place is = is
    go (suc p) place is = absurd (not_less 0 (omega (arith, place.within)) (place.below 0 (omega arith)))

  more_of : (b next : List ℕ) (more : List (List ℕ)) (o : Ordering) → order_of (target_by kind names) b ≡ o → lines_while taken (target_by kind names) (b ∷ next ∷ more) ≡ (if is_eq o then taken (pieces 9 b) ++ lines_while taken (target_by kind names) (next ∷ more) else [])
  more_of b next more o h = ap (λ x. if is_eq x then taken (pieces 9 b) ++ lines_while taken (target_by kind names) (next ∷ more) else []) h

  -- a line that isn't the last one, and the lines behind it
  found_by : (before : Option Line) (b next : List ℕ) (more : List (List ℕ)) (l : Line) (r : List Line × ℕ) (n : ℕ) (es : List Line) (o : Ordering) → IsRead before b l → lines_from n (Some l) (next ∷ more) ≡ Ok r → es ≡ l ∷ r.0 → Found (next ∷ more) r.0 → order_to kind names l ≡ o → Found (b ∷ next ∷ more) es
  unfolding NotLess
  found_by before b next more l r n es order.Less read lines is f h = found_less b next more l es r.0 (line_order before b l read ∙ h) (takes.other l (ap is_eq h)) is f
  found_by before b next more l r n es order.Equal read lines is f h =
      found_here b next more es not_less
      (more_of b next more order.Equal (line_order before b l read ∙ h)
      ∙ ap (λ x. x ++ lines_while taken (target_by kind names) (next ∷ more)) (takes.equal (pieces 9 b) l read.line h)
      ∙ ap (λ x. pick l ++ x) (at_once (next ∷ more) r.0 f later)
      ∙ sym (ap (flat_map pick) is))
    where
      o : order_to kind names l ≢ order.Less
      o e = let x : order.Equal ≡ order.Less = sym h ∙ e in absurd cc

      later : NotLess (next ∷ more)
      later = above n l (next ∷ more) r lines o

      not_less : NotLess (b ∷ next ∷ more)
      not_less zero lt e = o (sym (line_order before b l read) ∙ e)
      not_less (suc i) lt e = later i (omega (arith, lt)) e
  found_by before b next more l r n es order.Greater read lines is f h =
      found_here b next more es not_less
      (more_of b next more order.Greater (line_order before b l read ∙ h)
      ∙ sym (picked l es r.0 is (greater_none l h) (none_behind n l (next ∷ more) r lines h)))
    where
      o : order_to kind names l ≢ order.Less
      o e = let x : order.Greater ≡ order.Less = sym h ∙ e in absurd cc

      not_less : NotLess (b ∷ next ∷ more)
      not_less zero lt e = o (sym (line_order before b l read) ∙ e)
      not_less (suc i) lt e = above n l (next ∷ more) r lines o i (omega (arith, lt)) e

  end_not_less : (before : Option Line) (b next : List ℕ) (more : List (List ℕ)) (t : ℕ) → IsRead before b (line.End t) → next ∷ more ≡ [] ∷ [] → NotLess (b ∷ next ∷ more)
  unfolding NotLess
  end_not_less before b next more t read end zero lt e = greater_less (sym (line_order before b (line.End t) read ∙ end_greater t) ∙ e)
  end_not_less before b next more t read end (suc i) lt e = absurd (omega (arith, lt, ap length end))

  found_step : (n : ℕ) (before : Option Line) (b next : List ℕ) (more : List (List ℕ)) (es : List Line) → ((l : Line) (x : List Line × ℕ) → lines_from (n + 1) (Some l) (next ∷ more) ≡ Ok x → Found (next ∷ more) x.0) → (l : Line) → IsRead before b l → Rest (n + 1) l (next ∷ more) es → Found (b ∷ next ∷ more) es
  unfolding Rest
  found_step n before b next more es go (line.End t) read rest = found_here b next more es (end_not_less before b next more t read rest.end) (more_of b next more order.Greater (line_order before b (line.End t) read ∙ end_greater t) ∙ sym (ap (flat_map pick) rest.none))
  found_step n before b next more es go (line.Column c) read rest = found_by before b next more (line.Column c) rest.0 (n + 1) es (order_to kind names (line.Column c)) read rest.1 rest.2 (go (line.Column c) rest.0 rest.1) refl
  found_step n before b next more es go (line.Key k) read rest = found_by before b next more (line.Key k) rest.0 (n + 1) es (order_to kind names (line.Key k)) read rest.1 rest.2 (go (line.Key k) rest.0 rest.1) refl

  found : (n : ℕ) (before : Option Line) (ps : List (List ℕ)) (r : List Line × ℕ) → lines_from n before ps ≡ Ok r → Found ps r.0
  found n before [] r h = absurd cc
  found n before (b ∷ []) r h = absurd cc
  found n before (b ∷ next ∷ more) r h =
      let f = first_of n before b next more r h in
      found_step n before b next more r.0 (λ l x lines. found (n + 1) (Some l) (next ∷ more) x lines) f.l f.read f.rest

  -- ---- the whole file

  equal_by : (xs ys : List ℕ) (b : Bool) → bytes_eq xs ys ≡ b → b ≡ true → xs ≡ ys
  equal_by xs ys b h e = let d : Decides true (xs ≡ ys) = subst (λ (c : Bool). Decides c (xs ≡ ys)) (h ∙ e) (bytes_eq-Decides xs ys) in d.0 refl

  head_rank : (fs : List (List ℕ)) (h : Head) → head_of fs ≡ Ok h → order_by (target_by kind names) fs ≡ order.Less
  unfolding target_by
  head_rank (word ∷ form ∷ version ∷ id ∷ time ∷ sample ∷ []) h is = go kind where
    tested : (t : Bool) → (if t then head_by id time else Err fault.NotASchema) ≡ Ok h → t ≡ true
    tested true k = refl
    tested false k = absurd cc

    first : (a b : Bool) → (a && b) ≡ true → a ≡ true
    first true b k = refl
    first false b k = absurd (false≢true k)

    word_is : word ≡ codes "schema"
    word_is = equal_by word (codes "schema") (bytes_eq word (codes "schema")) refl (first (bytes_eq word (codes "schema")) _ (tested (is_head word form sample) is))

    go : (k : Bool) → order_by (target_by k names) (word ∷ form ∷ version ∷ id ∷ time ∷ sample ∷ []) ≡ order.Less
    go false = ap (λ w. ordering_then (nat_cmp (rank_of w) 1) (names_order (names_of (form ∷ version ∷ id ∷ time ∷ sample ∷ [])) names)) word_is
    go true = ap (λ w. ordering_then (nat_cmp (rank_of w) 2) (names_order (names_of (form ∷ version ∷ id ∷ time ∷ sample ∷ [])) names)) word_is
  head_rank _ h is = absurd cc

  -- what is taken of the lines of a table is what the file tells of it
  record Told (ps : List (List ℕ)) (f : File) : Type 0 where
    p : ℕ
    place : IsPlace (target_by kind names) ps p
    is_taken : lines_while taken (target_by kind names) (drop p ps) ≡ flat_map pick f.lines

  told_behind : (b next : List ℕ) (more : List (List ℕ)) (f : File) → order_of (target_by kind names) b ≡ order.Less → Found (next ∷ more) f.lines → Told (b ∷ next ∷ more) f
  told_behind b next more f less g = record {
    p = suc g.p;
    place = record { within = omega (arith, g.place.within); below = below_next; above = above_next };
    is_taken = g.is_taken;
  } where
    below_next : (i : ℕ) → i < suc g.p → order_of (target_by kind names) (get_or (b ∷ next ∷ more) i []) ≡ order.Less
    below_next zero lt = less
    below_next (suc i) lt = g.place.below i (omega (arith, lt))

    above_next : (i : ℕ) → suc g.p ≤ i → i + 1 < length (b ∷ next ∷ more) → order_of (target_by kind names) (get_or (b ∷ next ∷ more) i []) ≢ order.Less
    above_next zero le lt = absurd (omega (arith, le))
    above_next (suc i) le lt = g.place.above i (omega (arith, le)) (omega (arith, lt))

  told : (ps : List (List ℕ)) (f : File) → file_in ps ≡ Ok f → Told ps f
  told [] f h = absurd cc
  told (b ∷ []) f h = absurd cc
  told (b ∷ next ∷ more) f h =
      let p = bind_ok (at 1 (first_line b)) _ f h in
      let q = bind_ok (lines_from 2 None (next ∷ more)) _ f p.2 in
      let g = bind_ok (fields_of b) head_of p.0 (at_ok 1 (first_line b) p.0 p.1) in
      let lines : q.0.0 ≡ f.lines = ap (λ (x : File). x.lines) (ok_is _ f q.2) in
      told_behind b next more f (head_rank (pieces 9 b) p.0 (ap head_of (fields_are b g.0 g.1) ∙ g.2)) (subst (Found (next ∷ more)) lines (found 2 None (next ∷ more) q.0 q.1))

-- ---- columns, and keys

chosen : {X : Type 0} (names n : Names) (xs : List X) (o : Ordering) → names_order n names ≡ o → (if is_of names n then xs else []) ≡ (if is_eq o then xs else [])
chosen names n xs o h = ap (λ b. if b then xs else []) (sym (is_of_order names n) ∙ ap is_eq h)

column_takes : (names : Names) → Takes false names column_taken (column_in names)
unfolding order_to
column_takes names = record { equal = equal; other = other } where
  equal : (fs : List (List ℕ)) (l : Line) → IsLine fs l → order_to false names l ≡ order.Equal → column_taken fs ≡ column_in names l
  equal fs (line.Column c) is h = is.column c refl ∙ sym (chosen names c.names (column_of c ∷ []) order.Equal h)
  equal fs (line.Key k) is h = absurd cc
  equal fs (line.End t) is h = absurd cc

  other : (l : Line) → is_eq (order_to false names l) ≡ false → column_in names l ≡ []
  other (line.Column c) h = ap (λ b. if b then column_of c ∷ [] else []) (sym (is_of_order names c.names) ∙ h)
  other (line.Key k) h = refl
  other (line.End t) h = refl

key_takes : (names : Names) → Takes true names key_taken (part_in names)
unfolding order_to
key_takes names = record { equal = equal; other = other } where
  equal : (fs : List (List ℕ)) (l : Line) → IsLine fs l → order_to true names l ≡ order.Equal → key_taken fs ≡ part_in names l
  equal fs (line.Column c) is h = absurd cc
  equal fs (line.Key k) is h = is.key k refl ∙ sym (chosen names k.names (k ∷ []) order.Equal h)
  equal fs (line.End t) is h = absurd cc

  other : (l : Line) → is_eq (order_to true names l) ≡ false → part_in names l ≡ []
  other (line.Column c) h = refl
  other (line.Key k) h = ap (λ b. if b then k ∷ [] else []) (sym (is_of_order names k.names) ∙ h)
  other (line.End t) h = refl

-- the columns of a table, as the lines that are found have them
pub columns_told : (names : Names) (text : List ℕ) (f : File) (low : ℕ) → file_of text ≡ Ok f →
    ((p : ℕ) → IsPlace (record { rank = 1; names = names }) (pieces 10 text) p → pieces 10 (drop low text) ≡ drop p (pieces 10 text)) →
    lines_while column_taken (record { rank = 1; names = names }) (pieces 10 (drop low text)) ≡ columns_in names f.lines
unfolding target_by
columns_told names text f low h at =
    let t = told false names column_taken (column_in names) (column_takes names) (pieces 10 text) f h in
    ap (lines_while column_taken (record { rank = 1; names = names })) (at t.p t.place) ∙ t.is_taken

-- the columns of its unique indexes, likewise
pub keys_told : (names : Names) (text : List ℕ) (f : File) (low : ℕ) → file_of text ≡ Ok f →
    ((p : ℕ) → IsPlace (record { rank = 2; names = names }) (pieces 10 text) p → pieces 10 (drop low text) ≡ drop p (pieces 10 text)) →
    lines_while key_taken (record { rank = 2; names = names }) (pieces 10 (drop low text)) ≡ parts_in names f.lines
unfolding target_by
keys_told names text f low h at =
    let t = told true names key_taken (part_in names) (key_takes names) (pieces 10 text) f h in
    ap (lines_while key_taken (record { rank = 2; names = names })) (at t.p t.place) ∙ t.is_taken
