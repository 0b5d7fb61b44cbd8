-- The steps of the loop over a stack.
use Rattle.std.proofs.Common.{◌≡◌, ◌≢◌, ℕ, suc, ◌+◌, ◌-◌, ◌<◌, ◌≤◌, List, [], ◌∷◌, ◌++◌, length, Ok, Err, Vec, BTreeMap, Global, String, string_bytes, string_cmp, refl, sym, ap, ◌∙◌, arith}
use Rattle.std.specs.BTreeMap.{insert_entry}
use Rattle.std.specs.Str.Lossy.{utf8_lossy}
use Rattle.std.proofs.lemmas.List.{length-append}
use Rattle.binlog_base.specs.declared.fault.Fault.{Fault}
use Rattle.binlog_base.specs.declared.fault.Fault.TheVariants.{Memory, NestingTooDeep}
use Rattle.binlog_values.specs.declared.jsonb.dom.JsonDom.{JsonDom}
use Rattle.binlog_values.specs.declared.jsonb.stack.Open.{Open}
use Rattle.binlog_values.specs.declared.jsonb.stack.Waiting.{Waiting}
use Rattle.binlog_values.specs.declared.jsonb.stack.Collected.TheVariants.{Items, Members}
use Rattle.binlog_values.specs.JsonbValues.{Frame, JsonbValue, nested, element_at}
use Rattle.binlog_values.specs.JsonbTrees.{entry_key, Tree, node, Branches, no_branches, branch, no_members}
use Rattle.binlog_values.specs.JsonbDocuments.{found, entries_from, document_of}
use Rattle.binlog_values.specs.Workings.JsonbVisits.{Numbered, visit, visits, append, with_front}
use Rattle.binlog_values.specs.JsonbContainers.{frame}
use Rattle.binlog_values.specs.JsonbDoms.{IsTree, items_view, members_view}
use Rattle.binlog_values.specs.Workings.JsonbStack.{Wait, finish, open_rest, accept, resume, IsCollected, IsOpen, IsWait, AreWaits}
use Rattle.binlog_values.proofs.JsonbWalk.{items_view-push, members_view-insert, merged_into-append, starts, goes_on, refused, refused_inside, is_done, visit-deep, visit-container}

-- A new container on top of the stack is what the one below it waits for.
pub resume-push : (limit levels : ℕ) (ws : List Wait) (w : Wait) (r : Numbered Tree) → resume limit levels (ws ++ w ∷ []) r ≡ resume limit levels ws (finish w.of (accept limit (levels - length ws) w r))
resume-push limit levels [] w r =
    let k : levels - 0 ≡ levels = omega arith in
    rw k refl
resume-push limit levels (v ∷ ws) w r =
    let k : levels - 1 - length ws ≡ levels - suc (length ws) = omega arith in
    ap (λ (x : Numbered Tree). finish v.of (accept limit levels v x)) (resume-push limit (levels - 1) ws w r ∙ ap (λ (m : ℕ). resume limit (levels - 1) ws (finish w.of (accept limit m w r))) k)

pub resume-err : (limit levels : ℕ) (ws : List Wait) (f : Fault) (n : ℕ) → resume limit levels ws (Err (f, n)) ≡ Err (f, n)
resume-err limit levels [] f n = refl
resume-err limit levels (w ∷ ws) f n = rw (resume-err limit (levels - 1) ws f n) refl

-- the entry at pos is found: the container waits for its value
pub waits : (limit levels n after : ℕ) (c : Frame) (i : ℕ) (front : Branches) (k : List ℕ) → i < c.count → after ≡ n + 1
    → found limit after (entry_key c i) (document_of (element_at c i)) ≡ Ok k
    → open_rest limit levels n c i front ≡ finish c (accept limit levels (record { of = c; pos = i; key = k; front = front }) (visit limit levels after (document_of (element_at c i))))
waits limit levels n after c i front k lt next e = ap (finish c) (cases (visit limit levels after (document_of (element_at c i))) refl)
  where
    cases : (r : Numbered Tree) → visit limit levels after (document_of (element_at c i)) ≡ r
        → with_front front (visits limit levels n (entries_from c i (c.count - i))) ≡ accept limit levels (record { of = c; pos = i; key = k; front = front }) r
    cases (Ok t) h = goes_on limit levels n after c i front k t.0 t.1 lt next e h
    cases (Err f) h = refused_inside limit levels n after c i front k f.0 f.1 lt next e h

-- all entries are read
pub closes : (limit levels n : ℕ) (c : Frame) (i : ℕ) (front : Branches) → c.count ≤ i → open_rest limit levels n c i front ≡ Ok (node c.is_array front, n)
closes limit levels n c i front le = ap (finish c) (is_done limit levels n c i front le)

-- a container's document is what is read of it from its first entry on
pub opens : (limit levels n : ℕ) (c : Frame) → 0 < levels → visit limit levels n (document_of (Ok (nested c))) ≡ open_rest limit (levels - 1) n c 0 no_branches
opens limit levels n c lt = visit-container limit levels n c lt ∙ ap (finish c) (starts limit (levels - 1) n c)

-- ---- what is collected

pub collected-item : (v new : Vec JsonDom Global) (d : JsonDom) (c : Frame) (front : Branches) (k : List ℕ) (t : Tree) → IsCollected (Items v) c front → IsTree d t → new.items ≡ v.items ++ d ∷ [] → IsCollected (Items new) c (append front (branch k t no_branches))
collected-item v new d c front k t h is e = (h.0, ap items_view e ∙ items_view-push v.items front d k t h.1 is)

pub collected-member : (m new : BTreeMap (String Global) JsonDom) (name : String Global) (d : JsonDom) (c : Frame) (front : Branches) (k : List ℕ) (t : Tree) → IsCollected (Members m) c front → IsTree d t → string_bytes name ≡ utf8_lossy k → new.entries ≡ insert_entry string_cmp m.entries name d → IsCollected (Members new) c (append front (branch k t no_branches))
collected-member m new name d c front k t h is text_is e =
    (h.0, ap members_view e ∙ members_view-insert m.entries name d ∙ rw (text_is, is, h.1, merged_into-append no_members front k t) refl)

-- ---- the stack in the code

pub AreWaits-push : {C : Type 0} {IsOf : C → Frame → Branches → Type 0} (xs : List (Waiting C)) (ws : List Wait) (x : Waiting C) (w : Wait) → AreWaits IsOf xs ws → IsWait IsOf x w → AreWaits IsOf (xs ++ x ∷ []) (ws ++ w ∷ [])
AreWaits-push [] [] x w h k = (k, tt)
AreWaits-push [] (v ∷ ws) x w h k = absurd h
AreWaits-push (y ∷ xs) [] x w h k = absurd h
AreWaits-push (y ∷ xs) (v ∷ ws) x w h k = (h.0, AreWaits-push xs ws x w h.1 k)

pub AreWaits-length : {C : Type 0} (IsOf : C → Frame → Branches → Type 0) (xs : List (Waiting C)) (ws : List Wait) → AreWaits IsOf xs ws → length xs ≡ length ws
AreWaits-length IsOf [] [] h = refl
AreWaits-length IsOf [] (v ∷ ws) h = absurd h
AreWaits-length IsOf (y ∷ xs) [] h = absurd h
AreWaits-length IsOf (y ∷ xs) (v ∷ ws) h = ap suc (AreWaits-length IsOf xs ws h.1)

pub AreWaits-none : {C : Type 0} (IsOf : C → Frame → Branches → Type 0) (ws : List Wait) → AreWaits IsOf [] ws → ws ≡ []
AreWaits-none IsOf [] h = refl
AreWaits-none IsOf (w ∷ ws) h = absurd h

pub AreWaits-pop : {C : Type 0} {IsOf : C → Frame → Branches → Type 0} (xs : List (Waiting C)) (x : Waiting C) (ws : List Wait) → AreWaits IsOf (xs ++ x ∷ []) ws → (us : List Wait) × (w : Wait) × (ws ≡ us ++ w ∷ []) × AreWaits IsOf xs us × IsWait IsOf x w
AreWaits-pop [] x [] h = absurd h
AreWaits-pop [] x (w ∷ []) h = ([], w, refl, tt, h.0)
AreWaits-pop [] x (w ∷ (v ∷ ws)) h = absurd h.1
AreWaits-pop (y ∷ xs) x [] h = absurd h
AreWaits-pop (y ∷ xs) x (v ∷ ws) h =
    let p = AreWaits-pop xs x ws h.1 in
    (v ∷ p.0, p.1, ap (λ (us : List Wait). v ∷ us) p.2, (h.0, p.3), p.4)

-- ---- the turns of the loop

-- what has been read, and what is still to be read
pub record Turn {C : Type 0} (IsOf : C → Frame → Branches → Type 0) (limit n : ℕ) (xs : List (Waiting C)) (ws : List Wait) (c : Frame) (i : ℕ) (front : Branches) (total : Numbered Tree) : Type 0 where
  pub waits : AreWaits IsOf xs ws
  pub rest : total ≡ resume limit 99 ws (open_rest limit (99 - length ws) n c i front)

pub turn-start : {C : Type 0} {IsOf : C → Frame → Branches → Type 0} (limit n : ℕ) (c : Frame) → Turn IsOf limit n [] [] c 0 no_branches (visit limit 100 n (document_of (Ok (nested c))))
turn-start limit n c = record { waits = tt; rest = opens limit 100 n c (omega arith) }

pub turn-fault : {C : Type 0} {IsOf : C → Frame → Branches → Type 0} (limit n after : ℕ) (xs : List (Waiting C)) (ws : List Wait) (c : Frame) (i : ℕ) (front : Branches) (total : Numbered Tree) (f : Fault) → Turn IsOf limit n xs ws c i front total → i < c.count → after ≡ n + 1
    → Err f ≡ found limit after (entry_key c i) (document_of (element_at c i)) → total ≡ Err (f, after)
turn-fault limit n after xs ws c i front total f h lt next e =
    h.rest ∙ ap (λ (r : Numbered Branches). resume limit 99 ws (finish c r)) (refused limit (99 - length ws) n after c i front f lt next (sym e)) ∙ resume-err limit 99 ws f after

pub turn-fault-inside : {C : Type 0} {IsOf : C → Frame → Branches → Type 0} (limit n after : ℕ) (xs : List (Waiting C)) (ws : List Wait) (c : Frame) (i : ℕ) (front : Branches) (total : Numbered Tree) (k : List ℕ) (f : Fault) → Turn IsOf limit n xs ws c i front total → i < c.count → after ≡ n + 1
    → Ok k ≡ found limit after (entry_key c i) (document_of (element_at c i)) → visit limit (99 - length ws) after (document_of (element_at c i)) ≡ Err (f, after) → total ≡ Err (f, after)
turn-fault-inside limit n after xs ws c i front total k f h lt next e v =
    h.rest ∙ ap (λ (r : Numbered Branches). resume limit 99 ws (finish c r)) (refused_inside limit (99 - length ws) n after c i front k f after lt next (sym e) v) ∙ resume-err limit 99 ws f after

pub turn-scalar : {C : Type 0} {IsOf : C → Frame → Branches → Type 0} (limit n after : ℕ) (xs : List (Waiting C)) (ws : List Wait) (c : Frame) (i : ℕ) (front : Branches) (total : Numbered Tree) (k : List ℕ) (t : Tree) → Turn IsOf limit n xs ws c i front total → i < c.count → after ≡ n + 1
    → Ok k ≡ found limit after (entry_key c i) (document_of (element_at c i)) → visit limit (99 - length ws) after (document_of (element_at c i)) ≡ Ok (t, after) → Turn IsOf limit after xs ws c (i + 1) (append front (branch k t no_branches)) total
turn-scalar limit n after xs ws c i front total k t h lt next e v =
    record { waits = h.waits; rest = h.rest ∙ ap (λ (r : Numbered Branches). resume limit 99 ws (finish c r)) (goes_on limit (99 - length ws) n after c i front k t after lt next (sym e) v) }

pub turn-push : {C : Type 0} {IsOf : C → Frame → Branches → Type 0} (limit n after : ℕ) (xs : List (Waiting C)) (ws : List Wait) (c : Frame) (i : ℕ) (front : Branches) (total : Numbered Tree) (k : List ℕ) (child : Frame) (x : Waiting C) → Turn IsOf limit n xs ws c i front total → i < c.count → after ≡ n + 1
    → Ok k ≡ found limit after (entry_key c i) (document_of (element_at c i)) → element_at c i ≡ Ok (nested child) → length ws < 99 → IsWait IsOf x (record { of = c; pos = i; key = k; front = front })
    → Turn IsOf limit after (xs ++ x ∷ []) (ws ++ (record { of = c; pos = i; key = k; front = front }) ∷ []) child 0 no_branches total
turn-push limit n after xs ws c i front total k child x h lt next e is room wait =
    let w : Wait = record { of = c; pos = i; key = k; front = front } in
    let inner : visit limit (99 - length ws) after (document_of (element_at c i)) ≡ open_rest limit (99 - length ws - 1) after child 0 no_branches = rw is (opens limit (99 - length ws) after child (omega arith)) in
    let long : 99 - length ws - 1 ≡ 99 - length (ws ++ w ∷ []) = omega (arith, length-append ws (w ∷ [])) in
    record {
      waits = AreWaits-push xs ws x w h.waits wait;
      rest = h.rest ∙ ap (resume limit 99 ws) (waits limit (99 - length ws) n after c i front k lt next (sym e) ∙ ap (λ (r : Numbered Tree). finish c (accept limit (99 - length ws) w r)) (inner ∙ ap (λ (v : ℕ). open_rest limit v after child 0 no_branches) long))
          ∙ sym (resume-push limit 99 ws w (open_rest limit (99 - length (ws ++ w ∷ [])) after child 0 no_branches));
    }

pub turn-pop : {C : Type 0} {IsOf : C → Frame → Branches → Type 0} (limit n : ℕ) (xs : List (Waiting C)) (x : Waiting C) (ws : List Wait) (c : Frame) (i : ℕ) (front : Branches) (total : Numbered Tree) → Turn IsOf limit n (xs ++ x ∷ []) ws c i front total → c.count ≤ i
    → (us : List Wait) × (w : Wait) × IsWait IsOf x w × Turn IsOf limit n xs us w.of (w.pos + 1) (append w.front (branch w.key (node c.is_array front) no_branches)) total
turn-pop limit n xs x ws c i front total h le =
    let p = AreWaits-pop xs x ws h.waits in
    let t = node c.is_array front in (
      p.0,
      p.1,
      p.4,
      record {
        waits = p.3;
        rest = h.rest ∙ ap (resume limit 99 ws) (closes limit (99 - length ws) n c i front le) ∙ ap (λ (us : List Wait). resume limit 99 us (Ok (t, n))) p.2 ∙ resume-push limit 99 p.0 p.1 (Ok (t, n));
      },
    )

pub turn-end : {C : Type 0} {IsOf : C → Frame → Branches → Type 0} (limit n : ℕ) (ws : List Wait) (c : Frame) (i : ℕ) (front : Branches) (total : Numbered Tree) → Turn IsOf limit n [] ws c i front total → c.count ≤ i → total ≡ Ok (node c.is_array front, n)
turn-end {C} {IsOf} limit n ws c i front total h le =
    h.rest ∙ ap (resume limit 99 ws) (closes limit (99 - length ws) n c i front le) ∙ ap (λ (us : List Wait). resume limit 99 us (Ok (node c.is_array front, n))) (AreWaits-none IsOf ws h.waits)

-- ---- the same, of the code's values

pub settle : {C : Type 0} {IsOf : C → Frame → Branches → Type 0} (limit n : ℕ) (xs : List (Waiting C)) (ws : List Wait) (c : Frame) (i : ℕ) (front : Branches) (total : Numbered Tree) (o : Open C) → Turn IsOf limit n xs ws c i front total → IsOpen IsOf o c i front
    → Turn IsOf limit n xs ws (frame o.container) o.pos front total × IsOf o.collected (frame o.container) front
settle limit n xs ws c i front total o t h = rw (h.container, h.place) (t, h.collected)

pub here : {C : Type 0} {IsOf : C → Frame → Branches → Type 0} (o : Open C) (front : Branches) → IsOf o.collected (frame o.container) front → IsOpen IsOf o (frame o.container) o.pos front
here o front h = record { container = refl; place = refl; collected = h }

pub turn-start-at : {C : Type 0} {IsOf : C → Frame → Branches → Type 0} (limit n : ℕ) (xs : List (Waiting C)) (c : Frame) → xs ≡ [] → Turn IsOf limit n xs [] c 0 no_branches (visit limit 100 n (document_of (Ok (nested c))))
turn-start-at limit n xs c e = rw e (turn-start limit n c)

pub turn-end-at : {C : Type 0} {IsOf : C → Frame → Branches → Type 0} (limit n : ℕ) (xs : List (Waiting C)) (ws : List Wait) (c : Frame) (i : ℕ) (front : Branches) (total : Numbered Tree) → xs ≡ [] → Turn IsOf limit n xs ws c i front total → c.count ≤ i → total ≡ Ok (node c.is_array front, n)
turn-end-at limit n xs ws c i front total e h le = turn-end limit n ws c i front total (rw e at h) le

pub wait-room : {C : Type 0} {IsOf : C → Frame → Branches → Type 0} (x : Waiting C) (w : Wait) → IsWait IsOf x w → x.outer.pos < (frame x.outer.container).count
wait-room x w h = rw (h.open_at.container, h.open_at.place) h.room

pub turn-deep : {C : Type 0} {IsOf : C → Frame → Branches → Type 0} (limit n after : ℕ) (xs : List (Waiting C)) (ws : List Wait) (c : Frame) (i : ℕ) (front : Branches) (total : Numbered Tree) (k : List ℕ) (child : Frame) → Turn IsOf limit n xs ws c i front total → i < c.count → after ≡ n + 1
    → Ok k ≡ found limit after (entry_key c i) (document_of (element_at c i)) → element_at c i ≡ Ok (nested child) → 99 ≤ length xs → total ≡ Err (NestingTooDeep, after)
turn-deep limit n after xs ws c i front total k child h lt next e is full =
    let none : 99 - length ws ≡ 0 = omega (arith, AreWaits-length _ xs ws h.waits) in
    let deep : visit limit (99 - length ws) after (document_of (element_at c i)) ≡ Err (NestingTooDeep, after) = rw (is, none) (visit-deep limit after child) in
    turn-fault-inside limit n after xs ws c i front total k NestingTooDeep h lt next e deep

pub turn-fault-meets : {C : Type 0} {IsOf : C → Frame → Branches → Type 0} (limit n after : ℕ) (xs : List (Waiting C)) (ws : List Wait) (c : Frame) (i : ℕ) (front : Branches) (total : Numbered Tree) (f : Fault) → Turn IsOf limit n xs ws c i front total → i < c.count → after ≡ n + 1
    → Err f ≡ found limit after (entry_key c i) (document_of (element_at c i)) → f ≢ Memory → total ≡ Err (f, after)
turn-fault-meets limit n after xs ws c i front total f h lt next e = λ not. turn-fault limit n after xs ws c i front total f h lt next e

pub turn-scalar-meets : {C : Type 0} {IsOf : C → Frame → Branches → Type 0} (limit n after : ℕ) (xs : List (Waiting C)) (ws : List Wait) (c : Frame) (i : ℕ) (front : Branches) (total : Numbered Tree) (k : List ℕ) (r : JsonbValue) (f : Fault) → Turn IsOf limit n xs ws c i front total → i < c.count → after ≡ n + 1
    → Ok k ≡ found limit after (entry_key c i) (document_of (element_at c i)) → element_at c i ≡ Ok r → (f ≢ Memory → visit limit (99 - length ws) after (document_of (Ok r)) ≡ Err (f, after)) → f ≢ Memory → total ≡ Err (f, after)
turn-scalar-meets limit n after xs ws c i front total k r f h lt next e is m =
    λ not. turn-fault-inside limit n after xs ws c i front total k f h lt next e (rw is (m not))
