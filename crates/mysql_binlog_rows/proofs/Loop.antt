-- The loop over the columns of an image: the cells read so far, and those that are left.
use Rattle.std.proofs.Common.{◌≡◌, ℕ, ◌+◌, ◌<◌, ◌≤◌, Bool, false, List, [], ◌∷◌, ◌++◌, length, get_or, drop, Option, Some, None, Result, Ok, Err, refl, sym, ap, ◌∙◌, append_assoc, suc, add-one, drop-cons}
use Rattle.std.proofs.lemmas.List.{drop_all, append-nil}
use Rattle.binlog_base.specs.declared.fault.Fault.{Fault}
use Rattle.binlog_base.specs.Format.{◌>>=◌}
use Rattle.binlog_base.specs.Lemmas.Format.{ok_is, err_is}
use Rattle.binlog_cells.specs.Cells.{Cell, one_more}
use Rattle.mysql_binlog_rows.specs.Workings.Plans.{Slot, ends, slot_cell, slot_cells}

abbrev pub Read : Type 0
Read = Result (List (Option Cell) × List ℕ) Fault

abbrev pub with_front : List (Option Cell) → Read → Read
with_front front read = read >>= λ x. Ok (front ++ x.0, x.1)

pub with_front-twice : (a b : List (Option Cell)) (r : Read) → with_front a (with_front b r) ≡ with_front (a ++ b) r
with_front-twice a b (Ok x) = ap (λ (t : List (Option Cell)). Ok (t, x.1)) (sym (append_assoc a b x.0))
with_front-twice a b (Err e) = refl

value_next : (bs : List Bool) (s : Slot) (ss : List Slot) (end : Option Fault) (nulls : List Bool) (x y : List ℕ) (v : Cell)
    → (slot_cell (get_or nulls 0 false) bs s).parse x ≡ Ok (v, y)
    → (slot_cells bs (s ∷ ss) end nulls).parse x ≡ with_front (Some v ∷ []) ((slot_cells bs ss end (drop 1 nulls)).parse y)
unfolding slot_cells slot_cell
value_next bs s ss end nulls x y v e = rw e refl

fault_next : (bs : List Bool) (s : Slot) (ss : List Slot) (end : Option Fault) (nulls : List Bool) (x : List ℕ) (e : Fault)
    → (slot_cell (get_or nulls 0 false) bs s).parse x ≡ Err e
    → (slot_cells bs (s ∷ ss) end nulls).parse x ≡ Err e
unfolding slot_cells slot_cell
fault_next bs s ss end nulls x e f = rw f refl

-- the column at i is the first of those that are left
slot_here : (ss : List Slot) (i : ℕ) (s : Slot) → i < length ss → s ≡ get_or ss i s → drop i ss ≡ s ∷ drop (i + 1) ss
slot_here ss i s lt is = rw (add-one, drop-cons ss i s) (ap (λ (t : Slot). t ∷ drop (suc i) ss) (sym is))

pub goes_on : (bs : List Bool) (front : List (Option Cell)) (ss : List Slot) (end : Option Fault) (nulls : List Bool) (i : ℕ) (x y : List ℕ) (s : Slot) (v : Cell) (total : Read)
    → i < length ss → s ≡ get_or ss i s → (slot_cell (get_or nulls 0 false) bs s).parse x ≡ Ok (v, y)
    → with_front front ((slot_cells bs (drop i ss) end nulls).parse x) ≡ total
    → with_front (front ++ Some v ∷ []) ((slot_cells bs (drop (i + 1) ss) end (drop 1 nulls)).parse y) ≡ total
goes_on bs front ss end nulls i x y s v total lt is e so_far =
    let here = ap (λ (ts : List Slot). (slot_cells bs ts end nulls).parse x) (slot_here ss i s lt is) in
    let one = value_next bs s (drop (i + 1) ss) end nulls x y v e in
    sym (with_front-twice front (Some v ∷ []) ((slot_cells bs (drop (i + 1) ss) end (drop 1 nulls)).parse y)) ∙ ap (with_front front) (sym (here ∙ one)) ∙ so_far

pub stops : (bs : List Bool) (front : List (Option Cell)) (ss : List Slot) (end : Option Fault) (nulls : List Bool) (i : ℕ) (x : List ℕ) (s : Slot) (e : Fault) (total : Read)
    → i < length ss → s ≡ get_or ss i s → (slot_cell (get_or nulls 0 false) bs s).parse x ≡ Err e
    → with_front front ((slot_cells bs (drop i ss) end nulls).parse x) ≡ total
    → total ≡ Err e
stops bs front ss end nulls i x s e total lt is f so_far =
    let here = ap (λ (ts : List Slot). (slot_cells bs ts end nulls).parse x) (slot_here ss i s lt is) in
    let one = fault_next bs s (drop (i + 1) ss) end nulls x e f in
    sym so_far ∙ ap (with_front front) (here ∙ one)

pub all_read : (bs : List Bool) (front : List (Option Cell)) (ss : List Slot) (end : Option Fault) (nulls : List Bool) (i : ℕ) (x : List ℕ) (total : Read)
    → length ss ≤ i → with_front front ((slot_cells bs (drop i ss) end nulls).parse x) ≡ total → with_front front ((ends end).parse x) ≡ total
unfolding slot_cells
all_read bs front ss end nulls i x total le so_far =
    ap (λ (ts : List Slot). with_front front ((slot_cells bs ts end nulls).parse x)) (sym (drop_all i ss le)) ∙ so_far

pub all_well : (bs : List Bool) (front : List (Option Cell)) (ss : List Slot) (end : Option Fault) (nulls : List Bool) (i : ℕ) (x : List ℕ) (total : Read)
    → length ss ≤ i → end ≡ None → with_front front ((slot_cells bs (drop i ss) end nulls).parse x) ≡ total → total ≡ Ok (front, x)
all_well bs front ss end nulls i x total le none so_far =
    sym (all_read bs front ss end nulls i x total le so_far) ∙ ap (λ (o : Option Fault). with_front front ((ends o).parse x)) none ∙ ap (λ (t : List (Option Cell)). Ok (t, x)) (append-nil front)

pub all_ill : (bs : List Bool) (front : List (Option Cell)) (ss : List Slot) (end : Option Fault) (nulls : List Bool) (i : ℕ) (x : List ℕ) (e : Fault) (total : Read)
    → length ss ≤ i → end ≡ Some e → with_front front ((slot_cells bs (drop i ss) end nulls).parse x) ≡ total → total ≡ Err e
all_ill bs front ss end nulls i x e total le some so_far =
    sym (all_read bs front ss end nulls i x total le so_far) ∙ ap (λ (o : Option Fault). with_front front ((ends o).parse x)) some

-- ---- a cell that is put at the end of others

abbrev then_put : List (Option Cell) → Result (Cell × List ℕ) Fault → Read
then_put front r = r >>= λ p. Ok (front ++ Some p.0 ∷ [], p.1)

abbrev cell_read : Cell → List ℕ → Result (Cell × List ℕ) Fault
cell_read v x = Ok (v, x)

put_front : (front more : List (Option Cell)) (r : Result (Cell × List ℕ) Fault) (y : List ℕ) → then_put front r ≡ Ok (more, y) → (v : Cell) × (r ≡ cell_read v y) × (more ≡ front ++ Some v ∷ [])
put_front front more (Ok p) y h =
    let same = ok_is (front ++ Some p.0 ∷ [], p.1) (more, y) h in
    (p.0, ap (cell_read p.0) (ap (λ (q : List (Option Cell) × List ℕ). q.1) same), sym (ap (λ (q : List (Option Cell) × List ℕ). q.0) same))
put_front front more (Err e) y h = absurd cc

abbrev no_cell : Fault → Result (Cell × List ℕ) Fault
no_cell e = Err e

not_put : (front : List (Option Cell)) (r : Result (Cell × List ℕ) Fault) (e : Fault) → then_put front r ≡ Err e → r ≡ Err e
not_put front (Ok p) e h = absurd cc
not_put front (Err f) e h = ap no_cell (err_is f e h)

pub puts_on : (bs : List Bool) (front more : List (Option Cell)) (ss : List Slot) (end : Option Fault) (nulls : List Bool) (i : ℕ) (x y : List ℕ) (s : Slot) (total : Read)
    → i < length ss → s ≡ get_or ss i s → (one_more front (slot_cell (get_or nulls 0 false) bs s)).parse x ≡ Ok (more, y)
    → with_front front ((slot_cells bs (drop i ss) end nulls).parse x) ≡ total
    → with_front more ((slot_cells bs (drop (i + 1) ss) end (drop 1 nulls)).parse y) ≡ total
unfolding one_more
puts_on bs front more ss end nulls i x y s total lt is h so_far =
    let put = put_front front more ((slot_cell (get_or nulls 0 false) bs s).parse x) y h in
    ap (λ (t : List (Option Cell)). with_front t ((slot_cells bs (drop (i + 1) ss) end (drop 1 nulls)).parse y)) put.2
    ∙ goes_on bs front ss end nulls i x y s put.0 total lt is put.1 so_far

pub put_stops : (bs : List Bool) (front : List (Option Cell)) (ss : List Slot) (end : Option Fault) (nulls : List Bool) (i : ℕ) (x : List ℕ) (s : Slot) (e : Fault) (total : Read)
    → i < length ss → s ≡ get_or ss i s → (one_more front (slot_cell (get_or nulls 0 false) bs s)).parse x ≡ Err e
    → with_front front ((slot_cells bs (drop i ss) end nulls).parse x) ≡ total
    → total ≡ Err e
unfolding one_more
put_stops bs front ss end nulls i x s e total lt is h so_far =
    stops bs front ss end nulls i x s e total lt is (not_put front ((slot_cell (get_or nulls 0 false) bs s).parse x) e h) so_far
