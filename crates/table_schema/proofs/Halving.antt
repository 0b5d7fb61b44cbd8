-- Lines are found by halving.
use Rattle.std.proofs.Common.{◌≡◌, ◌≢◌, ℕ, zero, suc, ◌+◌, ◌-◌, ◌<◌, ◌≤◌, Bool, true, false, ◌==◌, if◌then◌else◌, List, [], ◌∷◌, length, drop, get_or, refl, sym, ap, subst, ◌∙◌, arith, inl, inr, ◌⊎◌}
use Rattle.std.specs.declared.cmp.Ordering.TheVariants as order
use Rattle.std.proofs.lemmas.List.{drop-drop}
use Rattle.std.proofs.lemmas.Bool.{cases_lt, eq-eqb, false≢true}
use Rattle.table_schema.specs.Texts.{pieces, onto_first}
use Rattle.table_schema.specs.Lines.{Target}
use Rattle.table_schema.specs.Search.{order_of, IsPlace}

length_onto : (b : ℕ) (ps : List (List ℕ)) → 0 < length ps → length (onto_first b ps) ≡ length ps
length_onto b [] h = absurd (omega (arith, h))
length_onto b (p ∷ ps) h = refl

some_by : (t : Bool) (b : ℕ) (ps : List (List ℕ)) → 0 < length ps → 0 < length (if t then [] ∷ ps else onto_first b ps)
some_by true b ps h = omega arith
some_by false b ps h = omega (arith, length_onto b ps h, h)

pub some_pieces : (end : ℕ) (text : List ℕ) → 0 < length (pieces end text)
some_pieces end [] = omega arith
some_pieces end (b ∷ bs) = some_by (b == end) b (pieces end bs) (some_pieces end bs)

fewer_by : (t : Bool) (b : ℕ) (ps : List (List ℕ)) → 0 < length ps → length ps ≤ length (if t then [] ∷ ps else onto_first b ps)
fewer_by true b ps h = omega arith
fewer_by false b ps h = omega (arith, length_onto b ps h)

-- a shorter text has no more pieces
fewer_pieces : (end n : ℕ) (text : List ℕ) → length (pieces end (drop n text)) ≤ length (pieces end text)
fewer_pieces end zero text = omega arith
fewer_pieces end (suc n) [] = omega arith
fewer_pieces end (suc n) (b ∷ bs) = omega (arith, fewer_pieces end n bs, fewer_by (b == end) b (pieces end bs) (some_pieces end bs))

length_dropped : {A : Type 0} (n : ℕ) (xs : List A) → n ≤ length xs → length (drop n xs) + n ≡ length xs
length_dropped zero xs h = omega arith
length_dropped (suc n) [] h = absurd (omega (arith, h))
length_dropped (suc n) (x ∷ xs) h = omega (arith, length_dropped n xs (omega (arith, h)))

-- ---- where a line begins

-- behind so many pieces the rest of the text begins
record Begun (ps : List (List ℕ)) (rest : List (List ℕ)) : Type 0 where
  count : ℕ
  is : rest ≡ drop (suc count) ps
  within : suc count < length ps

begun_by : (t : Bool) (b : ℕ) (ps rest : List (List ℕ)) → Begun ps rest → Begun (if t then [] ∷ ps else onto_first b ps) rest
begun_by true b ps rest h = record { count = suc h.count; is = h.is; within = omega (arith, h.within) }
begun_by false b [] rest h = absurd (omega (arith, h.within))
begun_by false b (p ∷ ps) rest h = record { count = h.count; is = h.is; within = h.within }

begun_here : (t : Bool) (b : ℕ) (ps : List (List ℕ)) → 0 < length ps → t ≡ true → Begun (if t then [] ∷ ps else onto_first b ps) ps
begun_here true b ps h e = record { count = 0; is = refl; within = omega (arith, h) }
begun_here false b ps h e = absurd (false≢true e)

behind_end : (end : ℕ) (text : List ℕ) (k : ℕ) → k < length text → get_or text k 0 ≡ end → Begun (pieces end text) (pieces end (drop (suc k) text))
behind_end end [] k h e = absurd (omega (arith, h))
behind_end end (b ∷ bs) zero h e = begun_here (b == end) b (pieces end bs) (some_pieces end bs) (eq-eqb b end e)
behind_end end (b ∷ bs) (suc k) h e = begun_by (b == end) b (pieces end bs) (pieces end (drop (suc k) bs)) (behind_end end bs k (omega (arith, h)) e)

-- the rest of a text from a byte on is its lines from a number on
pub record At (text : List ℕ) (place n : ℕ) : Type 0 where
  pub is : pieces 10 (drop place text) ≡ drop n (pieces 10 text)
  pub within : n < length (pieces 10 text)

pub at_zero : (text : List ℕ) → At text 0 0
at_zero text = record { is = refl; within = some_pieces 10 text }

pub record Placed (text : List ℕ) (place : ℕ) : Type 0 where
  pub n : ℕ
  pub at : At text place n

placed_behind : (text : List ℕ) (place : ℕ) → 0 < place → place ≤ length text → get_or text (place - 1) 0 ≡ 10 → Placed text place
placed_behind text zero p h e = absurd (omega (arith, p))
placed_behind text (suc k) p h e =
    let one : suc k - 1 ≡ k = omega arith in
    let b = behind_end 10 text k (omega (arith, h)) (sym (ap (λ j. get_or text j 0) one) ∙ e) in
    record { n = suc b.count; at = record { is = b.is; within = b.within } }

-- ---- halves

-- the lines before a place come before those that are looked for
pub record Low (target : Target) (text : List ℕ) (low : ℕ) : Type 0 where
  pub n : ℕ
  pub at : At text low n
  pub before : (p : ℕ) → IsPlace target (pieces 10 text) p → n ≤ p

-- the lines from a place on don't
pub record High (target : Target) (text : List ℕ) (high : ℕ) : Type 0 where
  pub n : ℕ
  pub length : length (pieces 10 (drop high text)) + n ≡ length (pieces 10 text)
  pub behind : (p : ℕ) → IsPlace target (pieces 10 text) p → p ≤ n

pub low_first : (target : Target) (text : List ℕ) → Low target text 0
low_first target text = record { n = 0; at = at_zero text; before = λ p h. omega arith }

pub high_last : (target : Target) (text : List ℕ) → High target text (length text)
high_last target text =
    let none : drop (length text) text ≡ [] = drop_all text in
    let one : length (pieces 10 (drop (length text) text)) ≡ 1 = ap (λ t. length (pieces 10 t)) none in
    record { n = length (pieces 10 text) - 1; length = omega (arith, one, some_pieces 10 text); behind = λ p h. omega (arith, h.within) }
  where
    drop_all : (xs : List ℕ) → drop (length xs) xs ≡ []
    drop_all [] = refl
    drop_all (x ∷ xs) = drop_all xs

-- the place of a line
pub placed : (target : Target) (text : List ℕ) (low start : ℕ) → Low target text low → low ≤ start → start ≤ length text → (start ≡ low) ⊎ ((0 < start) × (get_or text (start - 1) 0 ≡ 10)) → Placed text start
placed target text low start l h k (inl same) = subst (Placed text) (sym same) (record { n = l.n; at = l.at })
placed target text low start l h k (inr after) = placed_behind text start after.0 k after.1

get_drop : (ps : List (List ℕ)) (n : ℕ) (x : List ℕ) (more : List (List ℕ)) → drop n ps ≡ x ∷ more → (get_or ps n [] ≡ x) × (drop (suc n) ps ≡ more) × (n < length ps)
get_drop [] zero x more h = absurd cc
get_drop [] (suc n) x more h = absurd cc
get_drop (p ∷ ps) zero x more h = (cc, cc, omega arith)
get_drop (p ∷ ps) (suc n) x more h = let r = get_drop ps n x more h in (r.0, r.1, omega (arith, r.2))

-- a line that comes before those that are looked for
pub to_low : (target : Target) (text : List ℕ) (start end : ℕ) (line : List ℕ) → Placed text start → pieces 10 (drop start text) ≡ line ∷ pieces 10 (drop end (drop start text)) → order_of target line ≡ order.Less → Low target text (start + end)
to_low target text start end line at is less =
    let ps = pieces 10 text in
    let m = at.n in
    let g = get_drop ps m line (pieces 10 (drop end (drop start text))) (sym at.at.is ∙ is) in
    let rest : pieces 10 (drop (start + end) text) ≡ drop (suc m) ps = ap (pieces 10) (sym (drop-drop end start text)) ∙ sym g.1 in
    let some : 0 < length (drop (suc m) ps) = omega (arith, ap length g.1, some_pieces 10 (drop end (drop start text))) in
    let in' : suc m < length ps = omega (arith, some, length_dropped (suc m) ps (omega (arith, g.2))) in
    record {
      n = suc m;
      at = record { is = rest; within = in' };
      before = λ p h. elim (cases_lt m p) [
        | inl lt ↦ omega (arith, lt)
        | inr le ↦ absurd (h.above m le (omega (arith, in')) (ap (order_of target) g.0 ∙ less))
      ];
    }

two_more : (ps : List (List ℕ)) (n : ℕ) → suc n < length ps → (x y : List ℕ) × (more : List (List ℕ)) × (drop n ps ≡ x ∷ y ∷ more)
two_more [] n h = absurd (omega (arith, h))
two_more (x ∷ []) n h = absurd (omega (arith, h))
two_more (x ∷ y ∷ ps) zero h = (x, y, ps, refl)
two_more (x ∷ y ∷ ps) (suc n) h = two_more (y ∷ ps) n (omega (arith, h))

-- another line
pub to_high : (target : Target) (text : List ℕ) (start : ℕ) → Placed text start → ((line next : List ℕ) (more : List (List ℕ)) → pieces 10 (drop start text) ≡ line ∷ next ∷ more → order_of target line ≢ order.Less) → High target text start
to_high target text start at other =
    let ps = pieces 10 text in
    let m = at.n in
    record {
      n = m;
      length = ap (λ l. length l + m) at.at.is ∙ length_dropped m ps (omega (arith, at.at.within));
      behind = λ p h. elim (cases_lt m p) [
        | inl lt ↦
            let t = two_more ps m (omega (arith, lt, h.within)) in
            let g = get_drop ps m t.0 (t.1 ∷ t.2) t.3 in
            absurd (other t.0 t.1 t.2 (at.at.is ∙ t.3) (sym (ap (order_of target) g.0) ∙ h.below m lt))
        | inr le ↦ le
      ];
    }

-- the same, by the rest of the text
pub low_of : (target : Target) (text : List ℕ) (start end : ℕ) (rest : List ℕ) → rest ≡ drop start text → Placed text start → (line : List ℕ) × (pieces 10 rest ≡ line ∷ pieces 10 (drop end rest)) × (order_of target line ≡ order.Less) → Low target text (start + end)
low_of target text start end rest e at l =
    let m = subst (λ (r : List ℕ). (line : List ℕ) × (pieces 10 r ≡ line ∷ pieces 10 (drop end r)) × (order_of target line ≡ order.Less)) e l in
    to_low target text start end m.0 at m.1 m.2

pub high_of : (target : Target) (text : List ℕ) (start : ℕ) (rest : List ℕ) → rest ≡ drop start text → Placed text start → ((line next : List ℕ) (more : List (List ℕ)) → pieces 10 rest ≡ line ∷ next ∷ more → order_of target line ≢ order.Less) → High target text start
high_of target text start rest e at other = to_high target text start at (λ line next more h. other line next more (ap (pieces 10) e ∙ h))

-- where both halves meet
pub met : (target : Target) (text : List ℕ) (low high p : ℕ) → Low target text low → High target text high → high ≤ low → IsPlace target (pieces 10 text) p → pieces 10 (drop low text) ≡ drop p (pieces 10 text)
met target text low high p l h le place =
    let few = fewer_pieces 10 (low - high) (drop high text) in
    let same : drop (low - high) (drop high text) ≡ drop low text = drop-drop (low - high) high text ∙ (let e : high + (low - high) ≡ low = omega (arith, le) in ap (λ k. drop k text) e) in
    let lows : length (pieces 10 (drop low text)) + l.n ≡ length (pieces 10 text) = ap (λ x. length x + l.n) l.at.is ∙ length_dropped l.n (pieces 10 text) (omega (arith, l.at.within)) in
    let lens : length (pieces 10 (drop low text)) ≤ length (pieces 10 (drop high text)) = subst (λ t. length (pieces 10 t) ≤ length (pieces 10 (drop high text))) same few in
    let e : l.n ≡ p = omega (arith, lows, h.length, lens, l.before p place, h.behind p place) in
    l.at.is ∙ ap (λ k. drop k (pieces 10 text)) e
