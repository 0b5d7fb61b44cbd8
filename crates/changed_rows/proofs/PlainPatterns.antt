-- Patterns without `*`, `?` and `\`.
use Rattle.std.proofs.Common.{◌≡◌, ◌<◌, ◌+◌, inl, inr, ℕ, zero, suc, Bool, true, false, List, [], ◌∷◌, ◌++◌, length, take, drop, get_or, Some, None, refl, sym, ap, ◌∙◌, arith, add-one}
use Rattle.std.specs.Prelude.{◌||◌, ◌&&◌, ◌==◌, not, if◌then◌else◌, bytes_eq}
use Rattle.std.specs.List.{list_any, range_with_len}
use Rattle.std.specs.Option.{option_map_or}
use Rattle.std.proofs.lemmas.Bool.{eqb-true, eq-eqb}
use Rattle.std.proofs.Math.Dec.{eqb-suc-zero}
use Rattle.std.proofs.Math.Seq.{split_at, get_or-append_seam, take-append_seam, drop-append-add}
use Rattle.std.proofs.lemmas.List.{length-append}
use Rattle.changed_rows.specs.declared.pattern.Case.TheVariants as case
use Rattle.changed_rows.specs.declared.pattern.Part.{Part}
use Rattle.changed_rows.specs.Names.{full_name}
use Rattle.changed_rows.specs.Patterns.{byte_part, parts_of, matches_parts, matches, takes_next, is_point, divides, matches_table, is_special, IsPlain}
use Rattle.changed_rows.proofs.Patterns.{or_true, same_truth, and_true, one_is}

-- ---- tests

or_left_false : (x y : Bool) → (x || y) ≡ false → x ≡ false
or_left_false true y h = h
or_left_false false y h = refl

or_right_false : (x y : Bool) → (x || y) ≡ false → y ≡ false
or_right_false true y h = cc
or_right_false false y h = h

and_left_true : (x y : Bool) → (x && y) ≡ true → x ≡ true
and_left_true true y h = refl
and_left_true false y h = h

and_right_true : (x y : Bool) → (x && y) ≡ true → y ≡ true
and_right_true true y h = h
and_right_true false y h = cc

-- ---- the parts of a plain pattern

part_plain : (b : ℕ) (bs : List ℕ) → is_special b ≡ false → parts_of (b ∷ bs) ≡ byte_part b ∷ parts_of bs
part_plain b bs h =
    let star : (b == 42) ≡ false = or_left_false (b == 42) (b == 63 || b == 92) h in
    let others = or_right_false (b == 42) (b == 63 || b == 92) h in
    let mark : (b == 63) ≡ false = or_left_false (b == 63) (b == 92) others in
    let escape : (b == 92) ≡ false = or_right_false (b == 63) (b == 92) others in
    rw (escape, star, mark) refl

one_byte : (p : List ℕ → Bool) (t : Bool) (xs : List ℕ) → option_map_or p (if t then Some xs else None) false ≡ (t && p xs)
one_byte p true xs = refl
one_byte p false xs = refl

byte_first : (b : ℕ) (ps : List Part) (c : ℕ) (cs : List ℕ) → matches_parts case.Exact (byte_part b ∷ ps) (c ∷ cs) ≡ (b == c && matches_parts case.Exact ps cs)
unfolding matches_parts
byte_first b ps c cs = one_byte (λ r. matches_parts case.Exact ps r) (b == c) cs

byte_none : (b : ℕ) (ps : List Part) → matches_parts case.Exact (byte_part b ∷ ps) [] ≡ false
unfolding matches_parts
byte_none b ps = refl

no_parts : (name : List ℕ) → matches_parts case.Exact [] name ≡ bytes_eq [] name
unfolding matches_parts
no_parts [] = refl
no_parts (c ∷ cs) = eqb-suc-zero (length cs)

pub plain_name : (pattern name : List ℕ) → IsPlain pattern → matches case.Exact pattern name ≡ bytes_eq pattern name
plain_name [] name h = no_parts name
plain_name (b ∷ bs) [] h =
    ap (λ (ps : List Part). matches_parts case.Exact ps []) (part_plain b bs (or_left_false (is_special b) (list_any is_special bs) h)) ∙ byte_none b (parts_of bs)
plain_name (b ∷ bs) (c ∷ cs) h =
    ap (λ (ps : List Part). matches_parts case.Exact ps (c ∷ cs)) (part_plain b bs (or_left_false (is_special b) (list_any is_special bs) h))
    ∙ byte_first b (parts_of bs) c cs
    ∙ ap (λ x. b == c && x) (plain_name bs cs (or_right_false (is_special b) (list_any is_special bs) h))

-- ---- the points of a plain pattern

plain_take : (i : ℕ) (p : List ℕ) → IsPlain p → IsPlain (take i p)
plain_take zero p h = refl
plain_take (suc i) [] h = refl
plain_take (suc i) (b ∷ bs) h =
    rw (or_left_false (is_special b) (list_any is_special bs) h) (plain_take i bs (or_right_false (is_special b) (list_any is_special bs) h))

plain_drop : (i : ℕ) (p : List ℕ) → IsPlain p → IsPlain (drop i p)
plain_drop zero p h = h
plain_drop (suc i) [] h = refl
plain_drop (suc i) (b ∷ bs) h = plain_drop i bs (or_right_false (is_special b) (list_any is_special bs) h)

plain_takes : (p : List ℕ) → IsPlain p → takes_next p ≡ false
plain_takes [] h = refl
plain_takes (b ∷ bs) h =
    let special = or_left_false (is_special b) (list_any is_special bs) h in
    let escape : (b == 92) ≡ false = or_right_false (b == 63) (b == 92) (or_right_false (b == 42) (b == 63 || b == 92) special) in
    rw escape (plain_takes bs (or_right_false (is_special b) (list_any is_special bs) h))

-- ---- tables

one_of_range : (p : ℕ → Bool) (a n : ℕ) → list_any p (range_with_len a n) ≡ true → (i : ℕ) × ((i < a + n) × (p i ≡ true))
one_of_range p a zero h = cc
one_of_range p a (suc n) h = elim (or_true (p a) (list_any p (range_with_len (a + 1) n)) h) [
  | inl here ↦ (a, (omega arith, here))
  | inr later ↦ let w = one_of_range p (a + 1) n later in (w.0, (omega (arith, w.1.0), w.1.1))
]

same_byte : (x : ℕ) → (x == x) ≡ true
same_byte x = eq-eqb x x refl

bytes_self : (xs : List ℕ) → bytes_eq xs xs ≡ true
bytes_self [] = refl
bytes_self (x ∷ xs) = and_true (x == x) (bytes_eq xs xs) (same_byte x) (bytes_self xs)

bytes_same : (xs ys : List ℕ) → bytes_eq xs ys ≡ true → xs ≡ ys
bytes_same [] [] h = refl
bytes_same [] (y ∷ ys) h = cc
bytes_same (x ∷ xs) [] h = cc
bytes_same (x ∷ xs) (y ∷ ys) h =
    let first : x ≡ y = eqb-true x y (and_left_true (x == y) (bytes_eq xs ys) h) in
    let rest = bytes_same xs ys (and_right_true (x == y) (bytes_eq xs ys) h) in
    cc

-- a table whose full name is the pattern
full_matches : (database table : List ℕ) → IsPlain (database ++ 46 ∷ table) → matches_table case.Exact (database ++ 46 ∷ table) database table ≡ true
unfolding matches_table
full_matches database table h =
    let p = database ++ 46 ∷ table in
    let i = length database in
    let within : i < length p = omega (arith, length-append database (46 ∷ table)) in
    let front : take i p ≡ database = take-append_seam database (46 ∷ table) in
    let back : drop (i + 1) p ≡ table = drop-append-add database (46 ∷ table) 1 in
    let point : is_point p i ≡ true =
    and_true (get_or p i 0 == 46) (not (takes_next (take i p))) (ap (λ (x : ℕ). x == 46) (get_or-append_seam database 46 table 0)) (ap not (plain_takes (take i p) (plain_take i p h))) in
    let named : matches case.Exact (take i p) database ≡ true =
    plain_name (take i p) database (plain_take i p h) ∙ ap (λ (x : List ℕ). bytes_eq x database) front ∙ bytes_self database in
    let tabled : matches case.Exact (drop (i + 1) p) table ≡ true =
    plain_name (drop (i + 1) p) table (plain_drop (i + 1) p h) ∙ ap (λ (x : List ℕ). bytes_eq x table) back ∙ bytes_self table in
    let divided = and_true (matches case.Exact (take i p) database) (matches case.Exact (drop (i + 1) p) table) named tabled in
    one_is (λ n. is_point p n && divides case.Exact p database table n) (length p) i within (and_true (is_point p i) (divides case.Exact p database table i) point divided)

-- a table that matches has the pattern as its full name
match_is_full : (pattern database table : List ℕ) → IsPlain pattern → matches_table case.Exact pattern database table ≡ true → pattern ≡ database ++ 46 ∷ table
unfolding matches_table
match_is_full pattern database table h is =
    let w = one_of_range (λ n. is_point pattern n && divides case.Exact pattern database table n) 0 (length pattern) is in
    let i = w.0 in
    let within : i < length pattern = omega (arith, w.1.0) in
    let point = and_left_true (is_point pattern i) (divides case.Exact pattern database table i) w.1.1 in
    let divided = and_right_true (is_point pattern i) (divides case.Exact pattern database table i) w.1.1 in
    let named = and_left_true (matches case.Exact (take i pattern) database) (matches case.Exact (drop (i + 1) pattern) table) divided in
    let tabled = and_right_true (matches case.Exact (take i pattern) database) (matches case.Exact (drop (i + 1) pattern) table) divided in
    let byte : get_or pattern i 0 ≡ 46 = eqb-true (get_or pattern i 0) 46 (and_left_true (get_or pattern i 0 == 46) (not (takes_next (take i pattern))) point) in
    let front : take i pattern ≡ database = bytes_same (take i pattern) database (sym (plain_name (take i pattern) database (plain_take i pattern h)) ∙ named) in
    let back : drop (i + 1) pattern ≡ table = bytes_same (drop (i + 1) pattern) table (sym (plain_name (drop (i + 1) pattern) table (plain_drop (i + 1) pattern h)) ∙ tabled) in
    let next : drop (suc i) pattern ≡ table = ap (λ (n : ℕ). drop n pattern) (sym (add-one i)) ∙ back in
    let split = split_at pattern i 0 within in
    cc

pub plain_table : (pattern database table : List ℕ) → IsPlain pattern → matches_table case.Exact pattern database table ≡ bytes_eq pattern (full_name database table)
plain_table pattern database table h =
    same_truth (matches_table case.Exact pattern database table) (bytes_eq pattern (full_name database table))
    (λ is. ap (λ (x : List ℕ). bytes_eq x (full_name database table)) (match_is_full pattern database table h is) ∙ bytes_self (full_name database table))
    (λ is.
    let e : pattern ≡ database ++ 46 ∷ table = bytes_same pattern (full_name database table) is in
    ap (λ (x : List ℕ). matches_table case.Exact x database table) e ∙ full_matches database table (ap (λ (x : List ℕ). list_any is_special x) (sym e) ∙ h))
