-- What the result of reading a document says of the document.
use Rattle.std.proofs.Common.{◌≡◌, ◌≢◌, ℕ, ◌+◌, ◌/◌, ◌≤◌, ◌<◌, length, Some, Result, Ok, Err, refl, sym, ap, subst, ◌∙◌, arith}
use Rattle.std.specs.Prelude.{IfOk, OnOk, IfErr, IsOk, true, Any, ⊤}
use Rattle.std.specs.Result.{result_err}
use Rattle.binlog_base.specs.declared.fault.Fault.{Fault}
use Rattle.binlog_base.specs.declared.fault.Fault.TheVariants as faults
use Rattle.binlog_values.specs.declared.jsonb.dom.JsonDom.{JsonDom}
use Rattle.binlog_values.specs.JsonbValues.{Frame, Scalar, JsonbValue, scalar, nested}
use Rattle.binlog_values.specs.JsonbTrees.{tree_scalar, Tree, Denotes}
use Rattle.binlog_values.specs.JsonbDocuments.{weight, depth, positions, first_fault, limit_of}
use Rattle.binlog_values.specs.Workings.JsonbVisits.{visit}
use Rattle.binlog_values.specs.JsonbHeaders.{headers, AreDisjoint, IsWhole, IsWholeValue}
use Rattle.binlog_values.specs.JsonbContainers.{IsScalar}
use Rattle.binlog_values.specs.JsonbDoms.{Meets, IsTree, IsGiven, IsChecked}
use Rattle.binlog_values.specs.JsonbParsed.{document, IsDenoted, IsWithinLimits, HasFault, is_simple, is_decimal, Parsed, Checked}
use Rattle.binlog_values.proofs.JsonbUnfolding.{document_is}
use Rattle.binlog_values.proofs.JsonbWalk.{checked_scalar}
use Rattle.binlog_values.proofs.JsonbFirstFault.{same_number, visit-number, walk_first}
use Rattle.binlog_values.proofs.JsonbDenoting.{tree-given, tree-found}
use Rattle.binlog_values.proofs.JsonbCounting.{three_bytes_each}
use Rattle.binlog_values.proofs.JsonbLimits.{nesting_is_deep, values_are_many, other_is_own}

-- what reading gives of a value, within its limits
abbrev IsRead : JsonbValue → Result JsonDom Fault → ℕ → Type 0
IsRead v r n = Meets IsTree r n (visit (limit_of v) 100 0 (document v))

tree : (v : JsonbValue) (r : Result JsonDom Fault) (n : ℕ) → IsRead v r n → IfOk r (IsDenoted v)
tree v (Ok d) n h = (h.0, (tree-found 100 (limit_of v) 0 (Ok v) h.0 n h.2).0, h.1)
tree v (Err f) n h = tt

limits : (v : JsonbValue) (r : Result JsonDom Fault) (n : ℕ) → n ≤ limit_of v + 1 → IsRead v r n → OnOk r (n ≤ limit_of v) → OnOk r (IsWithinLimits v)
limits v (Ok d) n bound h kept =
    let number = visit-number (document v) (limit_of v) 100 0 h.0 n h.2 in
    ((tree-found 100 (limit_of v) 0 (Ok v) h.0 n h.2).1, omega (arith, number, kept))
limits v (Err f) n bound h kept = tt

count : (v : JsonbValue) (r : Result JsonDom Fault) (n : ℕ) → IsRead v r n → OnOk r (n ≡ weight (document v))
count v (Ok d) n h = omega (arith, visit-number (document v) (limit_of v) 100 0 h.0 n h.2)
count v (Err f) n h = tt

only_memory : (f : Fault) → (f ≢ faults.Memory → ⊥) → f ≡ faults.Memory
only_memory faults.Memory h = refl
only_memory _ h = absurd (h (λ e. cc))

err_not_ok : (f : Fault) (n m : ℕ) (t : Tree) (r : Result (Tree × ℕ) (Fault × ℕ)) → r ≡ Ok (t, m) → r ≡ Err (f, n) → ⊥
err_not_ok f n m t r e h = cc

given : (v : JsonbValue) (r : Result JsonDom Fault) (n : ℕ) → IsRead v r n → (t : Tree) → Denotes t (Ok v) → IsWithinLimits v → IsGiven r t
given v (Ok d) n h t denoted within =
    let g = tree-given t (Ok v) (limit_of v) 100 0 denoted within.0 (omega (arith, within.1)) in
    subst (λ (u : Tree). IsTree d u) (same_number h.0 t n (0 + weight (document v)) (sym h.2 ∙ g)).0 h.1
given v (Err f) n h t denoted within =
    let g = tree-given t (Ok v) (limit_of v) 100 0 denoted within.0 (omega (arith, within.1)) in
    only_memory f (λ not. err_not_ok f n (0 + weight (document v)) t (visit (limit_of v) 100 0 (document v)) g (h not))

few : (v : JsonbValue) → IsWholeValue v → AreDisjoint (headers 0 (document v)) → weight (document v) ≤ limit_of v
few (scalar s) w h = rw (document_is (Ok (scalar s))) (omega arith)
few (nested c) w h = omega (arith, three_bytes_each c w h)

fault : (v : JsonbValue) (r : Result JsonDom Fault) (n : ℕ) → IsRead v r n → IfErr r (λ f. f ≢ faults.Memory → first_fault (limit_of v) 0 (positions (document v)) ≡ Some (f, n))
fault v (Ok d) n h = tt
fault v (Err f) n h = λ not. sym (walk_first (limit_of v) (document v)) ∙ ap result_err (h not)

abbrev failed : Fault → Result JsonDom Fault
failed f = Err f

failed_is : (f g : Fault) → failed f ≡ failed g → f ≡ g
failed_is f g e = cc

nesting : (v : JsonbValue) (r : Result JsonDom Fault) (n : ℕ) → IsRead v r n → r ≡ Err faults.NestingTooDeep → 100 < depth (document v)
nesting v (Ok d) n h e = absurd cc
nesting v (Err f) n h e =
    let is = failed_is f faults.NestingTooDeep e in
    let first = fault v (Err f) n h (λ m. cc) in
    nesting_is_deep (limit_of v) v n (first ∙ ap (λ (g : Fault). Some (g, n)) is)

values : (v : JsonbValue) (r : Result JsonDom Fault) (n : ℕ) → IsRead v r n → r ≡ Err faults.TooManyValues → limit_of v < weight (document v)
values v (Ok d) n h e = absurd cc
values v (Err f) n h e =
    let is = failed_is f faults.TooManyValues e in
    let first = fault v (Err f) n h (λ m. cc) in
    values_are_many (limit_of v) v n (first ∙ ap (λ (g : Fault). Some (g, n)) is)

other : (v : JsonbValue) (r : Result JsonDom Fault) (n : ℕ) → IsRead v r n → IfErr r (λ f. f ≢ faults.Memory → f ≢ faults.NestingTooDeep → f ≢ faults.TooManyValues → Any (HasFault f) (positions (document v)))
other v (Ok d) n h = tt
other v (Err f) n h = λ not deep many. other_is_own (limit_of v) v f n (fault v (Err f) n h not) deep many

-- what was read meets all that `parse` promises
pub parsed : (v : JsonbValue) (r : Result JsonDom Fault) (n : ℕ) → IsWholeValue v → n ≤ limit_of v + 1 → (IsScalar v → n ≡ 0) → OnOk r (n ≤ limit_of v) → (is_simple v ≡ true → IsOk r) → IsRead v r n → Parsed v r n
parsed v r n whole bound unread kept simple h = record {
  tree = tree v r n h;
  limits = limits v r n bound h kept;
  count = count v r n h;
  given = given v r n h;
  disjoint = λ t denoted deep apart. given v r n h t denoted (deep, few v whole apart);
  fault = fault v r n h;
  nesting = nesting v r n h;
  values = values v r n h;
  other = other v r n h;
  bound = bound;
  unread = unread;
  simple = simple;
}

pub parsed_container : (v : JsonbValue) (c : Frame) (limit n : ℕ) (r : Result JsonDom Fault) → v ≡ nested c → limit ≡ length c.bytes / 3 → IsWhole c → n ≤ limit + 1 → OnOk r (n ≤ limit) → Meets IsTree r n (visit limit 100 0 (document (nested c))) → Parsed v r n
parsed_container v c limit n r is l whole bound kept h =
    let m = limit_of (nested c) in
    let bound' : n ≤ m + 1 = subst (λ (k : ℕ). n ≤ k + 1) l bound in
    let kept' : OnOk r (n ≤ m) = subst (λ (k : ℕ). OnOk r (n ≤ k)) l kept in
    let h' : IsRead (nested c) r n = subst (λ (k : ℕ). Meets IsTree r n (visit k 100 0 (document (nested c)))) l h in
    subst (λ (u : JsonbValue). Parsed u r n) (sym is) (parsed (nested c) r n whole bound' (λ no. absurd no) kept' (λ e. absurd cc) h')

whole_scalar : (v : JsonbValue) → IsScalar v → IsWholeValue v
whole_scalar (scalar s) h = tt
whole_scalar (nested c) h = absurd h

least : (r : Result JsonDom Fault) (m : ℕ) → OnOk r (0 ≤ m)
least (Ok d) m = omega arith
least (Err f) m = tt

pub parsed_scalar : (v : JsonbValue) (r : Result JsonDom Fault) → IsScalar v → (is_simple v ≡ true → IsOk r) → Meets IsTree r 0 (visit (limit_of v) 100 0 (document v)) → Parsed v r 0
parsed_scalar v r h simple read = parsed v r 0 (whole_scalar v h) (omega arith) (λ is. refl) (least r (limit_of v)) simple read

-- ---- what `check` promises

-- what reading gives of a value, within its limits, of which nothing is made
abbrev WasRead : JsonbValue → Result (Unit {0}) Fault → ℕ → ℕ → Type 0
WasRead v r n limit = Meets (λ u t. ⊤) r n (visit limit 100 0 (document v))

checked : (v : JsonbValue) (r : Result (Unit {0}) Fault) (n : ℕ) → OnOk r (n ≤ limit_of v) → (IsScalar v → r ≡ Err faults.Memory → is_decimal v ≡ true) → WasRead v r n (limit_of v) → Checked v r n
checked v (Ok u) n kept memory h =
    let found = tree-found 100 (limit_of v) 0 (Ok v) h.0 n h.2 in
    let number = visit-number (document v) (limit_of v) 100 0 h.0 n h.2 in
    record { tree = (h.0, found.0); limits = (found.1, omega (arith, number, kept)); given = λ t denoted within. tt; fault = tt; memory = memory }
checked v (Err f) n kept memory h = record {
  tree = tt;
  limits = tt;
  given = λ t denoted within.
      let g = tree-given t (Ok v) (limit_of v) 100 0 denoted within.0 (omega (arith, within.1)) in
      only_memory f (λ not. err_not_ok f n (0 + weight (document v)) t (visit (limit_of v) 100 0 (document v)) g (h not));
  fault = λ not. sym (walk_first (limit_of v) (document v)) ∙ ap result_err (h not);
  memory = memory;
}

pub checked_container : (v : JsonbValue) (c : Frame) (limit n : ℕ) (r : Result (Unit {0}) Fault) → v ≡ nested c → limit ≡ length c.bytes / 3 → OnOk r (n ≤ limit) → WasRead (nested c) r n limit → Checked v r n
checked_container v c limit n r is l kept h =
    let kept' : OnOk r (n ≤ limit_of (nested c)) = subst (λ (k : ℕ). OnOk r (n ≤ k)) l kept in
    let h' : WasRead (nested c) r n (limit_of (nested c)) = subst (λ (k : ℕ). WasRead (nested c) r n k) l h in
    subst (λ (u : JsonbValue). Checked u r n) (sym is) (checked (nested c) r n kept' (λ no e. absurd no) h')

none_read : (r : Result (Unit {0}) Fault) (m : ℕ) → OnOk r (0 ≤ m)
none_read (Ok u) m = omega arith
none_read (Err f) m = tt

pub checked_single : (v : JsonbValue) (s : Scalar) (r : Result (Unit {0}) Fault) → scalar s ≡ v → IsChecked r (tree_scalar s) → (r ≡ Err faults.Memory → is_decimal (scalar s) ≡ true) → Checked v r 0
checked_single v s r is ok memory = subst (λ (u : JsonbValue). Checked u r 0) is (checked (scalar s) r 0 (none_read r (limit_of (scalar s))) (λ h. memory) (checked_scalar (limit_of (scalar s)) 100 0 s r ok))
