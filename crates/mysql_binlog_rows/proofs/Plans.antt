-- The loop that makes a plan: the columns so far, and those that are left.
use Rattle.std.proofs.Common.{◌≡◌, ℕ, ◌+◌, ◌<◌, ◌≤◌, List, [], ◌∷◌, ◌++◌, map, Bool, false, length, drop, get_or, Some, None, Result, Ok, Err, refl, ap, sym, subst, ◌∙◌, suc, arith, add-one, drop-cons}
use Rattle.std.proofs.lemmas.List.{drop_all, append-nil}
use Rattle.binlog_base.specs.declared.fault.Fault.{Fault}
use Rattle.binlog_base.specs.Values.{ColumnView}
use Rattle.binlog_table.specs.TableMap.{TableMap}
use Rattle.binlog_table.specs.TableColumns.{Column, PassesOver, FaultFirst, PassesMany}
use Rattle.mysql_binlog_rows.specs.Workings.Plans.{Slot, Planned, nothing_then, column_then, planned_from, first_column, after_first}

abbrev pub after_planned : List Slot → List ColumnView → ℕ → Planned → Planned
after_planned slots columns walked others = record { slots = slots ++ others.slots; columns = columns ++ others.columns; walked = walked + others.walked; fault = others.fault }

flag_here : (ps : List Bool) (i : ℕ) → i < length ps → drop i ps ≡ get_or ps i false ∷ drop (i + 1) ps
flag_here ps i lt = rw (add-one, drop-cons ps i false) refl

one_more : (m n : ℕ) → m + 1 + n ≡ m + suc n
one_more m n = omega arith

no_more : (m : ℕ) → m + 0 ≡ m
no_more m = omega arith

pub plan_stops : (t : TableMap) (slots : List Slot) (columns : List ColumnView) (walked : ℕ) (walk : List (Result Column Fault)) (ps : List Bool) (i : ℕ) (e : Fault) (total : Planned)
    → i < length ps → first_column walk ≡ Err e
    → after_planned slots columns walked (planned_from t i walk (drop i ps)) ≡ total
    → total ≡ record { slots = slots; columns = columns; walked = walked; fault = Some e }
plan_stops t slots columns walked walk ps i e total lt h so_far =
    let here : planned_from t i walk (drop i ps) ≡ nothing_then (Some e) = rw (flag_here ps i lt, h) refl in
    sym so_far ∙ ap (after_planned slots columns walked) here ∙ (λ k. record { slots = append-nil slots k; columns = append-nil columns k; walked = no_more walked k; fault = Some e })

pub plan_ends : (t : TableMap) (slots : List Slot) (columns : List ColumnView) (walked : ℕ) (walk : List (Result Column Fault)) (ps : List Bool) (i : ℕ) (total : Planned)
    → length ps ≤ i → after_planned slots columns walked (planned_from t i walk (drop i ps)) ≡ total
    → total ≡ record { slots = slots; columns = columns; walked = walked; fault = None }
plan_ends t slots columns walked walk ps i total le so_far =
    sym so_far ∙ ap (λ (qs : List Bool). after_planned slots columns walked (planned_from t i walk qs)) (drop_all i ps le) ∙ (λ k. record { slots = append-nil slots k; columns = append-nil columns k; walked = no_more walked k; fault = None })

-- a column that is passed over
passes : (t : TableMap) (slots : List Slot) (columns : List ColumnView) (walked : ℕ) (walk : List (Result Column Fault)) (ps : List Bool) (i : ℕ) (c : Column) (total : Planned)
    → i < length ps → get_or ps i false ≡ false → first_column walk ≡ Ok c
    → after_planned slots columns walked (planned_from t i walk (drop i ps)) ≡ total
    → after_planned slots columns (walked + 1) (planned_from t (i + 1) (after_first walk) (drop (i + 1) ps)) ≡ total
passes t slots columns walked walk ps i c total lt absent e so_far =
    let others = planned_from t (i + 1) (after_first walk) (drop (i + 1) ps) in
    let here : planned_from t i walk (drop i ps) ≡ column_then t i c false others = rw (flag_here ps i lt, e, absent, add-one) refl in
    (λ k. record {
      slots = slots ++ others.slots;
      columns = columns ++ others.columns;
      walked = one_more walked others.walked k;
      fault = others.fault;
    }) ∙ ap (after_planned slots columns walked) (sym here) ∙ so_far

-- columns that are passed over
passes_all : (t : TableMap) (slots : List Slot) (columns : List ColumnView) (walked : ℕ) (front : List Column) (walk rest : List (Result Column Fault)) (ps : List Bool) (i : ℕ) (total : Planned)
    → walk ≡ map Ok front ++ rest → i + length front ≤ length ps → ((k : ℕ) → i ≤ k → k < i + length front → get_or ps k false ≡ false)
    → after_planned slots columns walked (planned_from t i walk (drop i ps)) ≡ total
    → after_planned slots columns (walked + length front) (planned_from t (i + length front) rest (drop (i + length front) ps)) ≡ total
passes_all t slots columns walked [] walk rest ps i total is le absent so_far = rw (no_more walked, no_more i) (subst (λ (w : List (Result Column Fault)). after_planned slots columns walked (planned_from t i w (drop i ps)) ≡ total) is so_far)
passes_all t slots columns walked (c ∷ front) walk rest ps i total is le absent so_far =
    let first : first_column walk ≡ Ok c = rw is refl in
    let after : after_first walk ≡ map Ok front ++ rest = rw is refl in
    let one = passes t slots columns walked walk ps i c total (omega (arith, le)) (absent i (omega arith) (omega arith)) first so_far in
    let others = passes_all t slots columns (walked + 1) front (after_first walk) rest ps (i + 1) total after (omega (arith, le)) (λ k low high. absent k (omega (arith, low)) (omega (arith, high))) one in
    let count : walked + 1 + length front ≡ walked + suc (length front) = omega arith in
    let at : i + 1 + length front ≡ i + suc (length front) = omega arith in
    subst (λ (n : ℕ). after_planned slots columns (walked + suc (length front)) (planned_from t n rest (drop n ps)) ≡ total) at
    (subst (λ (n : ℕ). after_planned slots columns n (planned_from t (i + 1 + length front) rest (drop (i + 1 + length front) ps)) ≡ total) count others)

pub plan_passes : (t : TableMap) (slots : List Slot) (columns : List ColumnView) (walk rest : List (Result Column Fault)) (ps : List Bool) (i count n : ℕ) (total : Planned)
    → PassesOver n walk rest → n ≤ count → i + count ≤ length ps → ((k : ℕ) → i ≤ k → k < i + count → get_or ps k false ≡ false)
    → after_planned slots columns i (planned_from t i walk (drop i ps)) ≡ total
    → after_planned slots columns (i + n) (planned_from t (i + n) rest (drop (i + n) ps)) ≡ total
plan_passes t slots columns walk rest ps i count n total h most le absent so_far =
    let all = passes_all t slots columns i h.0 walk rest ps i total h.2 (omega (arith, le, most, h.1)) (λ k low high. absent k low (omega (arith, high, most, h.1))) so_far in
    subst (λ (m : ℕ). after_planned slots columns (i + m) (planned_from t (i + m) rest (drop (i + m) ps)) ≡ total) h.1 all

fault_first : (e : Fault) (walk new : List (Result Column Fault)) → FaultFirst e walk new → first_column walk ≡ Err e
fault_first e [] new h = ap Err (sym h.0)
fault_first e (c ∷ others) new h = h.0

-- and the fault of the column after them
pub plan_stops_after : (t : TableMap) (slots : List Slot) (columns : List ColumnView) (walk new : List (Result Column Fault)) (ps : List Bool) (i count n : ℕ) (e : Fault) (total : Planned)
    → PassesMany count walk (Err (n, e)) new → i + count ≤ length ps → ((k : ℕ) → i ≤ k → k < i + count → get_or ps k false ≡ false)
    → after_planned slots columns i (planned_from t i walk (drop i ps)) ≡ total
    → total ≡ record { slots = slots; columns = columns; walked = i + n; fault = Some e }
plan_stops_after t slots columns walk new ps i count n e total h le absent so_far =
    let passes = plan_passes t slots columns walk h.1.0 ps i count n total h.1.1 (omega (arith, h.0)) le absent so_far in
    plan_stops t slots columns (i + n) h.1.0 ps (i + n) e total (omega (arith, h.0, le)) (fault_first e h.1.0 new h.1.2) passes
