-- The formats of the columns' chunks are exact, and the function that gives a column's chunk agrees
-- with the layout.
use Rattle.std.proofs.Common.{◌≡◌, ℕ, zero, suc, List, [], ◌∷◌, ◌++◌, length, take, Result, Ok, Err, Some, refl, sym, ap, subst, ◌∙◌, append_assoc, append-nil, arith}
use Rattle.binlog_base.specs.declared.below.columns.column_type.ColumnType.{ColumnType}
use Rattle.binlog_base.specs.declared.below.columns.column_type.ColumnType.TheVariants as column
use Rattle.binlog_base.specs.declared.fault.Fault.{Fault}
use Rattle.binlog_base.specs.declared.fault.Fault.TheVariants.{Unhandled}
use Rattle.binlog_base.specs.Faults.{IsOfBytes}
use Rattle.binlog_base.specs.Format.{IsExact}
use Rattle.binlog_base.specs.Lemmas.Format.{exact_take_bytes, exact_refusal, exact_sequence, exact_map_value}
use Rattle.binlog_base.specs.Numbers.{little_endian}
use Rattle.binlog_base.specs.Lemmas.Numbers.{exact_little_endian}
use Rattle.binlog_base.specs.ColumnTypes.{column_type_of}
use Rattle.binlog_base.specs.Lemmas.ColumnTypes.{column_type_refused}
use Rattle.binlog_table.specs.Chunks.{metadata_len, inner_metadata, array_metadata, array_chunk, type_chunk, chunk_of_type, chunk, chunks, HasChunk, chunk_at, first_chunk, after_chunk}

exact_inner : (type : ColumnType) → IsExact (inner_metadata type)
exact_inner column.MYSQL_TYPE_VARCHAR = exact_take_bytes 3
exact_inner column.MYSQL_TYPE_TYPED_ARRAY = exact_refusal Unhandled refl
exact_inner type = exact_take_bytes (metadata_len type)

exact_array_metadata : (r : Result ColumnType Fault) → ((e : Fault) → r ≡ Err e → IsOfBytes e) → IsExact (array_metadata r)
exact_array_metadata (Ok type) of_bytes = exact_inner type
exact_array_metadata (Err e) of_bytes = exact_refusal e (of_bytes e refl)

exact_array_chunk : IsExact array_chunk
exact_array_chunk =
    exact_sequence (little_endian 1) _ (exact_little_endian 1) (λ inner.
    exact_map_value (array_metadata (column_type_of inner)) _ (exact_array_metadata (column_type_of inner) (column_type_refused inner)))

exact_type_chunk : (type : ColumnType) → IsExact (type_chunk type)
exact_type_chunk column.MYSQL_TYPE_TYPED_ARRAY = exact_array_chunk
exact_type_chunk type = exact_take_bytes (metadata_len type)

exact_chunk_of_type : (r : Result ColumnType Fault) → ((e : Fault) → r ≡ Err e → IsOfBytes e) → IsExact (chunk_of_type r)
exact_chunk_of_type (Ok type) of_bytes = exact_type_chunk type
exact_chunk_of_type (Err e) of_bytes = exact_refusal e (of_bytes e refl)

pub exact_chunk : (raw_type : ℕ) → IsExact (chunk raw_type)
unfolding chunk
exact_chunk raw_type = exact_chunk_of_type (column_type_of raw_type) (column_type_refused raw_type)

-- ---- the function and the layout agree

abbrev no_chunks : List (List ℕ)
no_chunks = []

some_is : {A : Type 0} (a b : A) → Some a ≡ Some b → a ≡ b
some_is a b h = cc

-- the function gives the first column's chunk by the layout
first_has : (t : ℕ) (types metadata : List ℕ) (c : List ℕ) (r : Result (List ℕ × List ℕ) Fault) → (chunk t).parse metadata ≡ r → first_chunk r ≡ Some c → HasChunk (t ∷ types) metadata zero c
first_has t types metadata c (Err e) read h = absurd cc
first_has t types metadata c (Ok r) read h =
    let found = (exact_chunk t).sound metadata r.0 r.1 read in
    let same : r.0 ≡ c = some_is r.0 c h in
    record {
      front = found.0;
      after = r.1;
      whole = found.1;
      before = [];
      count = refl;
      spelled = (r.0, found.0, [], sym (append-nil found.0), found.2, (no_chunks, [], [], refl, (refl, refl), (refl, ap (λ (x : List ℕ). x ∷ no_chunks) (sym same))));
    }

-- a later column's chunk is one of the columns after the first
later_has : (t : ℕ) (types metadata : List ℕ) (i : ℕ) (c : List ℕ) → ((left : List ℕ) → chunk_at types left i ≡ Some c → HasChunk types left i c)
    → (r : Result (List ℕ × List ℕ) Fault) → (chunk t).parse metadata ≡ r → after_chunk r (λ left. chunk_at types left i) ≡ Some c → HasChunk (t ∷ types) metadata (suc i) c
later_has t types metadata i c others (Err e) read h = absurd cc
later_has t types metadata i c others (Ok r) read h =
    let found = (exact_chunk t).sound metadata r.0 r.1 read in
    let more = others r.1 h in
    record {
      front = found.0 ++ more.front;
      after = more.after;
      whole = found.1 ∙ ap (λ (x : List ℕ). found.0 ++ x) more.whole ∙ sym (append_assoc found.0 more.front more.after);
      before = r.0 ∷ more.before;
      count = ap suc more.count;
      spelled = (r.0, found.0, more.front, refl, found.2, (more.before ++ c ∷ [], more.front, [], sym (append-nil more.front), more.spelled, (refl, refl)));
    }

pub HasChunk-from_function : (types metadata : List ℕ) (i : ℕ) (c : List ℕ) → chunk_at types metadata i ≡ Some c → HasChunk types metadata i c
HasChunk-from_function [] metadata i c h = absurd cc
HasChunk-from_function (t ∷ types) metadata zero c h = first_has t types metadata c ((chunk t).parse metadata) refl h
HasChunk-from_function (t ∷ types) metadata (suc i) c h = later_has t types metadata i c (λ left. HasChunk-from_function types left i c) ((chunk t).parse metadata) refl h

only_chunk : (before : List (List ℕ)) (c first : List ℕ) (others : List (List ℕ)) → length before ≡ 0 → before ++ c ∷ [] ≡ first ∷ others → first ≡ c
only_chunk [] c first others none e = cc
only_chunk (b ∷ before) c first others none e = absurd (omega arith)

later_chunks : (before : List (List ℕ)) (i : ℕ) (c first : List ℕ) (others : List (List ℕ)) → length before ≡ suc i → before ++ c ∷ [] ≡ first ∷ others → (left : List (List ℕ)) × (length left ≡ i) × (others ≡ left ++ c ∷ [])
later_chunks [] i c first others some e = absurd (omega arith)
later_chunks (b ∷ before) i c first others some e = (before, omega arith, cc)

no_columns : (before : List (List ℕ)) (c : List ℕ) → before ++ c ∷ [] ≡ no_chunks → ⊥
no_columns [] c e = cc
no_columns (b ∷ before) c e = cc

-- the first column's chunk is read at the start of the metadata
read_first : (t : ℕ) (metadata front after y z c : List ℕ) → metadata ≡ front ++ after → front ≡ y ++ z → (chunk t).spells y c → (chunk t).parse metadata ≡ Ok (c, z ++ after)
read_first t metadata front after y z c whole parts spelled =
    ap (chunk t).parse (whole ∙ ap (λ (x : List ℕ). x ++ after) parts ∙ append_assoc y z after) ∙ (exact_chunk t).complete y (z ++ after) c spelled

pub chunk_at-from_HasChunk : (types metadata : List ℕ) (i : ℕ) (c : List ℕ) → HasChunk types metadata i c → chunk_at types metadata i ≡ Some c
chunk_at-from_HasChunk [] metadata i c h = absurd (no_columns h.before c h.spelled.1)
chunk_at-from_HasChunk (t ∷ types) metadata zero c h =
    let s = h.spelled in
    let read = read_first t metadata h.front h.after s.1 s.2 s.0 h.whole s.3 s.4 in
    let same = only_chunk h.before c s.0 s.5.0 h.count s.5.5.1 in
    rw (read, same) refl
chunk_at-from_HasChunk (t ∷ types) metadata (suc i) c h =
    let s = h.spelled in
    let read = read_first t metadata h.front h.after s.1 s.2 s.0 h.whole s.3 s.4 in
    let left = later_chunks h.before i c s.0 s.5.0 h.count s.5.5.1 in
    let all_of : s.2 ≡ s.5.1 = s.5.3 ∙ ap (λ (x : List ℕ). s.5.1 ++ x) s.5.5.0 ∙ append-nil s.5.1 in
    let later = chunk_at-from_HasChunk types (s.2 ++ h.after) i c
    record { front = s.2; after = h.after; whole = refl; before = left.0; count = left.1; spelled = subst (λ (x : List ℕ). (chunks (take (suc i) types)).spells x (left.0 ++ c ∷ [])) (sym all_of) (subst (λ (v : List (List ℕ)). (chunks (take (suc i) types)).spells s.5.1 v) left.2 s.5.4) } in
    rw read later
