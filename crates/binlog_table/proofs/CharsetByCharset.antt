-- Ordinals taken in turn.
use Rattle.std.proofs.Common.{◌≡◌, ◌≢◌, ℕ, zero, suc, ◌+◌, ◌-◌, ◌<◌, ◌≤◌, Bool, true, false, cond, eqb, ltb, List, [], ◌∷◌, ◌++◌, length, Option, Some, None, Result, Ok, Err, refl, sym, ap, subst, ◌∙◌, arith, inl, inr, add-one}
use Rattle.std.proofs.lemmas.Bool.{ltb-false, ltb-true, lt-ltb, le-ltb, eqb-false, eq-eqb, ne_eqb, cases_Bool}
use Rattle.std.proofs.lemmas.List.{append_cancel_left, map-append}
use Rattle.std.proofs.Math.Dec.{eqb-suc-suc, eqb-zero-suc}
use Rattle.binlog_base.specs.declared.fault.Fault.{Fault}
use Rattle.binlog_base.specs.Items.{before_fault}
use Rattle.binlog_table.specs.Workings.KeysLeft.{Agree}
use Rattle.binlog_table.specs.Keys.{IsIncreasing, increasing_from, increasing_prefix}
use Rattle.binlog_table.proofs.KeyByKey.{prefix_is_longest}
use Rattle.binlog_table.specs.Charsets.{columns_of, IsLongestInOrder, pairs_from, above_from, charset_in, charset_above, charset_at, charset_then, charsets, charset_items, zero_without}
use Rattle.binlog_table.specs.Workings.CharsetsLeft.{CharsetsLeft, charset_from, charsets_left, charset_of, charsets_of, row_charset}

-- ---- what is left tells what the definition tells

pub above_all : (low : ℕ) (ps : List (ℕ × ℕ)) → low ≤ above_from low (pairs_from low ps)
above_all low [] = omega arith
above_all low (p ∷ ps) = elim (cases_Bool (ltb p.0 low)) [
  | inl under ↦ rw under (omega arith)
  | inr over ↦ let le : low ≤ p.0 = ltb-false p.0 low over in rw over (omega (arith, le, above_all (suc p.0) ps))
]

none_below : (low : ℕ) (ps : List (ℕ × ℕ)) (i : ℕ) → i < low → charset_in i (pairs_from low ps) ≡ None
none_below low [] i lt = refl
none_below low (p ∷ ps) i lt = elim (cases_Bool (ltb p.0 low)) [
  | inl under ↦ rw under refl
  | inr over ↦
      let le : low ≤ p.0 = ltb-false p.0 low over in
      rw (over, ne_eqb i p.0 (λ h. omega (arith, h, lt, le))) (none_below (suc p.0) ps i (omega (arith, lt, le)))
]

either_way : (b : Bool) (x : Result (Option ℕ) Fault) → x ≡ cond b x x
either_way true x = refl
either_way false x = refl

charset_law_from : (low : ℕ) (default : Option ℕ) (pairs : List (Result (ℕ × ℕ) Fault)) (list : List (Result ℕ Fault)) (i : ℕ) → low ≤ i →
    charset_from low default pairs list i ≡ charset_above low default pairs list i
charset_law_from low default [] list i le = rw (le-ltb i low le) refl
charset_law_from low default (Err e ∷ pairs) list i le = rw (le-ltb i low le) refl
charset_law_from low default (Ok p ∷ pairs) list i le = elim (cases_Bool (ltb p.0 low)) [
  | inl under ↦ rw (under, eqb-zero-suc (length (before_fault pairs))) refl
  | inr over ↦ elim (cases_Bool (eqb i p.0)) [
    | inl same ↦ rw (over, same) refl
    | inr other ↦ elim (cases_Bool (ltb i p.0)) [
      | inl before ↦
          let lt : i < p.0 = ltb-true i p.0 before in
          let above = above_all (suc p.0) (before_fault pairs) in
          let least : ltb i (above_from (suc p.0) (pairs_from (suc p.0) (before_fault pairs))) ≡ true = lt-ltb _ _ (omega (arith, lt, above)) in
          rw (over, other, before, none_below (suc p.0) (before_fault pairs) i (omega (arith, lt)), least) (either_way _ (Ok default))
      | inr after_it ↦
          let least : p.0 ≤ i = ltb-false i p.0 after_it in
          let not_same = eqb-false i p.0 other in
          rw (over, other, after_it, eqb-suc-suc (length (pairs_from (suc p.0) (before_fault pairs))) (length (before_fault pairs)))
          (charset_law_from (suc p.0) default pairs list i (omega (arith, least, not_same)))
    ]
  ]
]

-- ---- one ordinal after another

same_charsets : (f g : ℕ → Result (Option ℕ) Fault) (n low : ℕ) → Agree low f g → charsets f n low ≡ charsets g n low
same_charsets f g zero low h = refl
same_charsets f g (suc n) low h = rw (h low (omega arith), same_charsets f g n (suc low) (λ i le. h i (omega (arith, le)))) refl

pub charsets_new : (limit : ℕ) (default : Option ℕ) (pairs : List (Result (ℕ × ℕ) Fault)) (list : List (Result ℕ Fault)) →
    charsets_left limit 0 default pairs list ≡ charset_items limit default pairs list
unfolding charsets_left charset_items charset_at
charsets_new limit default pairs list =
    let all : limit - 0 ≡ limit = omega arith in
    rw all (same_charsets (charset_from 0 default pairs list) (charset_above 0 default pairs list) limit 0 (λ i le. charset_law_from 0 default pairs list i le))

-- the turn of an ordinal, by what it is given and what is left
turn : (limit low : ℕ) (default : Option ℕ) (pairs : List (Result (ℕ × ℕ) Fault)) (list : List (Result ℕ Fault)) (r : Result (Option ℕ) Fault) →
    low < limit → charset_from low default pairs list low ≡ r →
    charsets_left limit low default pairs list ≡ charset_then r (charsets (charset_from low default pairs list) (limit - (low + 1)) (low + 1))
unfolding charsets_left
turn limit low default pairs list r lt h =
    let n : limit - low ≡ suc (limit - suc low) = omega (arith, lt) in
    rw (n, add-one low, h) refl

pub turn_some : (limit : ℕ) (c d : CharsetsLeft) (x : ℕ) → c.ordinal < limit → charset_of c c.ordinal ≡ Ok (Some x) → d.ordinal ≡ c.ordinal + 1 →
    Agree (c.ordinal + 1) (charset_of c) (charset_of d) → charsets_of limit c ≡ Ok x ∷ charsets_of limit d
unfolding charsets_left
turn_some limit c d x lt h e agree =
    turn limit c.ordinal c.default c.pairs c.list (Ok (Some x)) lt h ∙
    ap (λ (more : List (Result ℕ Fault)). Ok x ∷ more) (same_charsets (charset_of c) (charset_of d) (limit - (c.ordinal + 1)) (c.ordinal + 1) agree ∙
    ap (λ (n : ℕ). charsets (charset_of d) (limit - n) n) (sym e))

pub charsets_end : (limit low : ℕ) (default : Option ℕ) (pairs : List (Result (ℕ × ℕ) Fault)) (list : List (Result ℕ Fault)) → low ≡ limit → charsets_left limit low default pairs list ≡ []
unfolding charsets_left
charsets_end limit low default pairs list h = let none : limit - low ≡ zero = omega (arith, h) in rw none refl

-- a fault, and an ordinal without a charset, are the end
pub charsets_fault : (limit low : ℕ) (default : Option ℕ) (pairs : List (Result (ℕ × ℕ) Fault)) (list : List (Result ℕ Fault)) (e : Fault) → low < limit →
    charset_from low default pairs list low ≡ Err e → charsets_left limit low default pairs list ≡ Err e ∷ []
charsets_fault limit low default pairs list e lt h = turn limit low default pairs list (Err e) lt h

pub charsets_none : (limit low : ℕ) (default : Option ℕ) (pairs : List (Result (ℕ × ℕ) Fault)) (list : List (Result ℕ Fault)) → low < limit →
    charset_from low default pairs list low ≡ Ok None → charsets_left limit low default pairs list ≡ []
charsets_none limit low default pairs list lt h = turn limit low default pairs list (Ok None) lt h

-- ---- the turn of an ordinal

-- a head that isn't the ordinal
pub passed_now : (low : ℕ) (default : Option ℕ) (p : ℕ × ℕ) (pairs : List (Result (ℕ × ℕ) Fault)) (list : List (Result ℕ Fault)) → p.0 ≢ low →
    charset_from low default (Ok p ∷ pairs) list low ≡ Ok default
passed_now low default p pairs list h = elim (cases_Bool (ltb p.0 low)) [
  | inl under ↦ rw under refl
  | inr over ↦
      let le : low ≤ p.0 = ltb-false p.0 low over in
      rw (over, ne_eqb low p.0 (λ e. h (sym e)), lt-ltb low p.0 (omega (arith, le, h))) refl
]

pub passed_later : (low : ℕ) (default : Option ℕ) (p : ℕ × ℕ) (pairs : List (Result (ℕ × ℕ) Fault)) (list : List (Result ℕ Fault)) → p.0 ≢ low →
    Agree (low + 1) (charset_from low default (Ok p ∷ pairs) list) (charset_from (low + 1) default (Ok p ∷ pairs) list)
passed_later low default p pairs list h i le = elim (cases_Bool (ltb p.0 low)) [
  | inl under ↦
      let lt : p.0 < low = ltb-true p.0 low under in
      rw (under, lt-ltb p.0 (low + 1) (omega (arith, lt))) refl
  | inr over ↦
      let least : low ≤ p.0 = ltb-false p.0 low over in
      rw (over, le-ltb p.0 (low + 1) (omega (arith, least, h))) refl
]

-- the ordinal's own pair
pub taken_now : (low : ℕ) (default : Option ℕ) (p : ℕ × ℕ) (pairs : List (Result (ℕ × ℕ) Fault)) (list : List (Result ℕ Fault)) → p.0 ≡ low →
    charset_from low default (Ok p ∷ pairs) list low ≡ Ok (Some p.1)
taken_now low default p pairs list h =
    let not_under : ltb p.0 low ≡ false = le-ltb p.0 low (omega (arith, h)) in
    rw (not_under, eq-eqb low p.0 (sym h)) refl

pub taken_later : (low : ℕ) (default : Option ℕ) (p : ℕ × ℕ) (pairs : List (Result (ℕ × ℕ) Fault)) (list : List (Result ℕ Fault)) → p.0 ≡ low →
    Agree (low + 1) (charset_from low default (Ok p ∷ pairs) list) (charset_from (low + 1) default pairs list)
taken_later low default p pairs list h i le =
    let not_under : ltb p.0 low ≡ false = le-ltb p.0 low (omega (arith, h)) in
    let not_before : ltb i p.0 ≡ false = le-ltb i p.0 (omega (arith, h, le)) in
    rw (not_under, ne_eqb i p.0 (λ e. omega (arith, e, h, le)), not_before, h, add-one low) refl

-- no pair is left
pub pair_fault : (low : ℕ) (default : Option ℕ) (e : Fault) (pairs : List (Result (ℕ × ℕ) Fault)) (list : List (Result ℕ Fault)) → charset_from low default (Err e ∷ pairs) list low ≡ Err e
pair_fault low default e pairs list = let first : low - low ≡ zero = omega arith in rw first refl

pub list_fault : (low : ℕ) (default : Option ℕ) (e : Fault) (list : List (Result ℕ Fault)) → charset_from low default [] (Err e ∷ list) low ≡ Err e
list_fault low default e list = let first : low - low ≡ zero = omega arith in rw first refl

pub listed_now : (low : ℕ) (default : Option ℕ) (x : ℕ) (list : List (Result ℕ Fault)) → charset_from low default [] (Ok x ∷ list) low ≡ Ok (Some x)
listed_now low default x list = let first : low - low ≡ zero = omega arith in rw first refl

pub listed_later : (low : ℕ) (default : Option ℕ) (x : ℕ) (list : List (Result ℕ Fault)) → Agree (low + 1) (charset_from low default [] (Ok x ∷ list)) (charset_from (low + 1) default [] list)
listed_later low default x list i le = let k : i - low ≡ suc (i - (low + 1)) = omega (arith, le) in rw k refl

-- ---- in a row

pub row_now : (c : CharsetsLeft) → row_charset c 0 ≡ zero_without (charset_of c c.ordinal)
row_now c = let at : c.ordinal + 0 ≡ c.ordinal = omega arith in ap (λ (i : ℕ). zero_without (charset_of c i)) at

pub row_later : (c d : CharsetsLeft) → d.ordinal ≡ c.ordinal + 1 → Agree (c.ordinal + 1) (charset_of c) (charset_of d) → (k : ℕ) → row_charset d k ≡ row_charset c (suc k)
row_later c d e h k =
    let at : d.ordinal + k ≡ c.ordinal + suc k = omega (arith, e) in
    ap (λ (i : ℕ). zero_without (charset_of d i)) at ∙ ap zero_without (sym (h (c.ordinal + suc k) (omega arith)))

pub charsets_of_table : (c : CharsetsLeft) → c.ordinal ≡ 0 → (k : ℕ) → row_charset c k ≡ zero_without (charset_at c.default c.pairs c.list k)
unfolding charset_at
charsets_of_table c z k =
    let at : c.ordinal + k ≡ k = omega (arith, z) in
    ap (λ (i : ℕ). zero_without (charset_of c i)) at ∙ rw z (ap zero_without (charset_law_from 0 c.default c.pairs c.list k (omega arith)))

-- ---- the pairs that count are the longest prefix in order

columns_same : (low : ℕ) (ps : List (ℕ × ℕ)) → columns_of (pairs_from low ps) ≡ increasing_from low (columns_of ps)
columns_same low [] = refl
columns_same low (p ∷ ps) = elim (cases_Bool (ltb p.0 low)) [
  | inl under ↦ rw under refl
  | inr over ↦ rw over (ap (λ (l : List ℕ). p.0 ∷ l) (columns_same (suc p.0) ps))
]

pairs_first : (low : ℕ) (ps : List (ℕ × ℕ)) → (rest : List (ℕ × ℕ)) × (ps ≡ pairs_from low ps ++ rest)
pairs_first low [] = ([], refl)
pairs_first low (p ∷ ps) = elim (cases_Bool (ltb p.0 low)) [
  | inl under ↦ rw under (p ∷ ps, refl)
  | inr over ↦ let later = pairs_first (suc p.0) ps in rw over (later.0, ap (λ (l : List (ℕ × ℕ)). p ∷ l) later.1)
]

pub pairs_are_longest : (ps : List (ℕ × ℕ)) → IsLongestInOrder ps (pairs_from 0 ps)
pairs_are_longest ps =
    let prefix = pairs_from 0 ps in
    let same = columns_same 0 ps in
    let front = pairs_first 0 ps in
    let longest = prefix_is_longest (columns_of ps) in
    let split : increasing_prefix (columns_of ps) ++ columns_of front.0 ≡ increasing_prefix (columns_of ps) ++ longest.0 =
    ap (λ (l : List ℕ). l ++ columns_of front.0) (sym same) ∙ sym (map-append (λ p. p.0) prefix front.0) ∙ ap columns_of (sym front.1) ∙ longest.1 in
    let rests = append_cancel_left (increasing_prefix (columns_of ps)) (columns_of front.0) longest.0 split in (
      front.0,
      front.1,
      subst (IsIncreasing 0) (sym same) longest.2,
      λ p more h inc. longest.3 p.0 (columns_of more) (sym rests ∙ ap columns_of h) (subst (IsIncreasing 0) (map-append (λ q. q.0) prefix (p ∷ []) ∙ ap (λ (l : List ℕ). l ++ p.0 ∷ []) same) inc),
    )
