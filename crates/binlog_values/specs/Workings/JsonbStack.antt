-- What is still to be read, with a stack of containers that wait for the value of an entry.
use Rattle.std.specs.Prelude.{◌≡◌, ℕ, ◌+◌, ◌-◌, ◌<◌, true, false, List, [], ◌∷◌, Ok, ⊤}
use Rattle.binlog_values.specs.declared.jsonb.stack.Collected.{Collected}
use Rattle.binlog_values.specs.declared.jsonb.stack.Collected.TheVariants.{Items, Members}
use Rattle.binlog_values.specs.declared.jsonb.stack.Open.{Open}
use Rattle.binlog_values.specs.declared.jsonb.stack.Waiting.{Waiting}
use Rattle.binlog_values.specs.JsonbValues.{Frame}
use Rattle.binlog_values.specs.JsonbTrees.{Tree, node, Branches, no_branches, branch, no_members, merged_items, merged_into}
use Rattle.binlog_values.specs.JsonbDocuments.{entries_from}
use Rattle.binlog_values.specs.Workings.JsonbVisits.{Numbered, ◌>>-◌, visits, append, with_front}
use Rattle.binlog_values.specs.JsonbContainers.{frame}
use Rattle.binlog_values.specs.JsonbDoms.{items_view, members_view}

-- a container whose entry pos is being read: its key, and the entries before it
pub record Wait : Type 0 where
  pub of : Frame
  pub pos : ℕ
  pub key : List ℕ
  pub front : Branches

-- the tree of a container whose entries were read, or the fault
abbrev pub finish : Frame → Numbered Branches → Numbered Tree
finish c r = r >>- λ bs. Ok (node c.is_array bs.0, bs.1)

-- the entries from pos on, after those in front
abbrev pub open_rest : ℕ → ℕ → ℕ → Frame → ℕ → Branches → Numbered Tree
open_rest limit levels n c pos front = finish c (with_front front (visits limit levels n (entries_from c pos (c.count - pos))))

-- the entries of a waiting container, once the value that it waits for is read
abbrev pub accept : ℕ → ℕ → Wait → Numbered Tree → Numbered Branches
accept limit levels w r = r >>- λ t. with_front (append w.front (branch w.key t.0 no_branches)) (visits limit levels t.1 (entries_from w.of (w.pos + 1) (w.of.count - (w.pos + 1))))

-- the tree of the outermost container, which is first in the list, once what the innermost one
-- waits for is read as r
abbrev pub resume : ℕ → ℕ → List Wait → Numbered Tree → Numbered Tree
resume limit levels [] r = r
resume limit levels (w ∷ ws) r = finish w.of (accept limit levels w (resume limit (levels - 1) ws r))

-- what was collected of a container are these entries
abbrev pub IsCollected : Collected → Frame → Branches → Type 0
IsCollected (Items v) c front = (c.is_array ≡ true) × (items_view v.items ≡ merged_items front)
IsCollected (Members m) c front = (c.is_array ≡ false) × (members_view m.entries ≡ merged_into no_members front)

-- the open container of the code is c, read up to pos, and what it collected is of the entries before
-- pos
pub record IsOpen {C : Type 0} (IsOf : C → Frame → Branches → Type 0) (o : Open C) (c : Frame) (pos : ℕ) (front : Branches) : Type 0 where
  pub container : frame o.container ≡ c
  pub place : o.pos ≡ pos
  pub collected : IsOf o.collected c front

-- the waiting container of the code is this one
pub record IsWait {C : Type 0} (IsOf : C → Frame → Branches → Type 0) (x : Waiting C) (w : Wait) : Type 0 where
  pub open_at : IsOpen IsOf x.outer w.of w.pos w.front
  pub key : x.key.now ≡ w.key
  pub room : w.pos < w.of.count

-- the waiting containers of the code are these
abbrev pub AreWaits : {C : Type 0} → (C → Frame → Branches → Type 0) → List (Waiting C) → List Wait → Type 0
AreWaits IsOf [] [] = ⊤
AreWaits IsOf [] (w ∷ ws) = ⊥
AreWaits IsOf (x ∷ xs) [] = ⊥
AreWaits IsOf (x ∷ xs) (w ∷ ws) = IsWait IsOf x w × AreWaits IsOf xs ws
