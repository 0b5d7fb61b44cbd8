-- Walking over the columns of two images finds those that changed.
use Rattle.std.proofs.Common.{◌≡◌, ℕ, zero, suc, ◌+◌, ◌-◌, ◌<◌, ◌≤◌, min, Bool, true, false, cond, List, [], ◌∷◌, length, take, Option, Some, None, refl, sym, ap, ◌∙◌, ◌⊎◌, inl, inr, arith}
use Rattle.std.specs.Prelude.{filter}
use Rattle.std.specs.List.{range_with_len}
use Rattle.std.specs.Option.{option_map}
use Rattle.std.proofs.lemmas.List.{get_or_past}
use Rattle.binlog_base.specs.declared.bits.BitOrder.TheVariants.{LeastSignificantFirst}
use Rattle.binlog_base.specs.Bits.{count_set}
use Rattle.binlog_base.proofs.BitLists.{length_bits}
use Rattle.binlog_base.specs.Values.{value_at}
use Rattle.binlog_cells.specs.Cells.{Cell}
use Rattle.mysql_binlog_rows.specs.RowsEvent.{image_columns}
use Rattle.mysql_binlog_rows.specs.declared.rows_event.changed.Image.{Image as Walked}
use Rattle.mysql_binlog_rows.specs.Changed.{Image, image_with, present_in, value_of, differ, is_changed}

-- ---- columns past the end of an image

no_value : (image : Image) (i : ℕ) → length image.present ≤ i → value_of image i ≡ None
no_value image i h =
    let value = value_at image.values (count_set (take i image.present)) in
    ap (λ (b : Bool). cond b value None) (get_or_past image.present i false h)

differ_none : (x : Option Cell) → differ x None ≡ false
differ_none None = refl
differ_none (Some x) = refl

not_changed_before : (before after : Image) (i : ℕ) → length before.present ≤ i → is_changed before after i ≡ false
not_changed_before before after i h = ap (λ (x : Option Cell). differ x (value_of after i)) (no_value before i h)

not_changed_after : (before after : Image) (i : ℕ) → length after.present ≤ i → is_changed before after i ≡ false
not_changed_after before after i h = ap (differ (value_of before i)) (no_value after i h) ∙ differ_none (value_of before i)

-- ---- the columns that a walk has not come to

range_next : (i end : ℕ) → i < end → range_with_len i (end - i) ≡ i ∷ range_with_len (i + 1) (end - (i + 1))
range_next i end h =
    let n : end - i ≡ suc (end - (i + 1)) = omega arith in
    ap (range_with_len i) n

range_end : (i end : ℕ) → end ≤ i → range_with_len i (end - i) ≡ []
range_end i end h =
    let n : end - i ≡ 0 = omega arith in
    ap (range_with_len i) n

filter_none : (test : ℕ → Bool) (i n : ℕ) → ((k : ℕ) → i ≤ k → test k ≡ false) → filter test (range_with_len i n) ≡ []
filter_none test i zero h = refl
filter_none test i (suc n) h = ap (λ (b : Bool). cond b (i ∷ filter test (range_with_len (i + 1) n)) (filter test (range_with_len (i + 1) n))) (h i (omega arith)) ∙ filter_none test (i + 1) n (λ k le. h k (omega arith))

filter_stops : (test : ℕ → Bool) (i m n : ℕ) → m ≤ n → ((k : ℕ) → i + m ≤ k → test k ≡ false) → filter test (range_with_len i m) ≡ filter test (range_with_len i n)
filter_stops test i zero n le h = sym (filter_none test i n (λ k at. h k (omega arith)))
filter_stops test i (suc m) zero le h = absurd (omega arith)
filter_stops test i (suc m) (suc n) le h = ap (λ (t : List ℕ). cond (test i) (i ∷ t) t) (filter_stops test (i + 1) m n (omega arith) (λ k at. h k (omega arith)))

-- ---- one step of the walk

abbrev pub image_of : Walked → Image
image_of w = image_with w.present (option_map (λ r. r.now) w.row)

-- the changed columns from column i on
abbrev pub left_from : Walked → Walked → ℕ → ℕ → List ℕ
left_from before after i end = filter (is_changed (image_of before) (image_of after)) (range_with_len i (end - i))

pub placed : (old new : Walked) (next : ℕ) → new ≡ record old { place = count_set (take next old.present) } → new.place ≡ count_set (take next new.present)
placed old new next e = ap (λ (w : Walked). w.place) e ∙ ap (λ (bits : List Bool). count_set (take next bits)) (sym (ap (λ (w : Walked). w.present) e))

pub found : (before after new other : Walked) (i end m n : ℕ) → new ≡ record before { place = m } → other ≡ record after { place = n } → i < end → is_changed (image_of before) (image_of after) i ≡ true
    → left_from before after i end ≡ i ∷ left_from new other (i + 1) end
found before after new other i end m n d e lt is =
    let first : image_of before ≡ image_of new = sym (ap image_of d) in
    let second : image_of after ≡ image_of other = sym (ap image_of e) in
    let test = is_changed (image_of before) (image_of after) in
    let rest = filter test (range_with_len (i + 1) (end - (i + 1))) in
    ap (filter test) (range_next i end lt) ∙ ap (λ (b : Bool). cond b (i ∷ rest) rest) is
    ∙ (λ k. i ∷ filter (is_changed (first k) (second k)) (range_with_len (i + 1) (end - (i + 1))))

pub passed : (before after new other : Walked) (i end m n : ℕ) → new ≡ record before { place = m } → other ≡ record after { place = n } → i < end → is_changed (image_of before) (image_of after) i ≡ false
    → left_from before after i end ≡ left_from new other (i + 1) end
passed before after new other i end m n d e lt is =
    let first : image_of before ≡ image_of new = sym (ap image_of d) in
    let second : image_of after ≡ image_of other = sym (ap image_of e) in
    let test = is_changed (image_of before) (image_of after) in
    let rest = filter test (range_with_len (i + 1) (end - (i + 1))) in
    ap (filter test) (range_next i end lt) ∙ ap (λ (b : Bool). cond b (i ∷ rest) rest) is
    ∙ (λ k. filter (is_changed (first k) (second k)) (range_with_len (i + 1) (end - (i + 1))))

pub none_left : (before after : Walked) (i end : ℕ) → end ≤ i → left_from before after i end ≡ []
none_left before after i end le = ap (filter (is_changed (image_of before) (image_of after))) (range_end i end le)

-- ---- the walk over all columns

pub length_present : (count : ℕ) (bitmap : Option (List ℕ)) → length (present_in (image_columns count bitmap)) ≤ count
length_present count None = omega arith
length_present count (Some bytes) = omega (arith, length_bits LeastSignificantFirst bytes 0 count)

one_is_past : (m n k : ℕ) → min m n ≤ k → (m ≤ k) ⊎ (n ≤ k)
one_is_past zero n k h = inl (omega arith)
one_is_past (suc m) zero k h = inr (omega arith)
one_is_past (suc m) (suc n) zero h = absurd (omega arith)
one_is_past (suc m) (suc n) (suc k) h = elim (one_is_past m n k (omega arith)) [ inl x ↦ inl (omega arith) | inr x ↦ inr (omega arith) ]

past_end : (before after : Image) (k : ℕ) → min (length before.present) (length after.present) ≤ k → is_changed before after k ≡ false
past_end before after k h = elim (one_is_past (length before.present) (length after.present) k h) [
  | inl x ↦ not_changed_before before after k x
  | inr x ↦ not_changed_after before after k x
]

all_columns : (before after : Image) (count end : ℕ) → end ≡ min (length before.present) (length after.present) → length before.present ≤ count → filter (is_changed before after) (range_with_len 0 end) ≡ filter (is_changed before after) (range_with_len 0 count)
all_columns before after count end e le = filter_stops (is_changed before after) 0 end count (omega arith) (λ k at. past_end before after k (omega arith))

pub whole : (before after : Walked) (count end : ℕ) (b a : Image) → image_of before ≡ b → image_of after ≡ a → end ≡ min (length before.present) (length after.present) → length before.present ≤ count
    → left_from before after 0 end ≡ filter (is_changed b a) (range_with_len 0 count)
whole before after count end b a eb ea e le =
    let zero : end - 0 ≡ end = omega arith in
    ap (λ (n : ℕ). filter (is_changed (image_of before) (image_of after)) (range_with_len 0 n)) zero ∙ all_columns (image_of before) (image_of after) count end e le
    ∙ (λ i. filter (is_changed (eb i) (ea i)) (range_with_len 0 count))
