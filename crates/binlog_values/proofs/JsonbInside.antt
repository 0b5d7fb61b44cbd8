-- A container that is read is among the bytes that it is read from, and its header among its own.
use Rattle.std.proofs.Common.{◌≡◌, ℕ, ◌+◌, ◌<◌, ◌≤◌, Bool, true, false, ◌||◌, List, [], ◌++◌, length, take, drop, Result, Ok, Err, refl, sym, ap, subst, ◌∙◌, inl, inr, ◌⊎◌, arith}
use Rattle.std.specs.Prelude.{nat_lt, if◌then◌else◌, slice_index, ⊤}
use Rattle.std.proofs.lemmas.Bool.{ltb-false}
use Rattle.std.proofs.lemmas.List.{append_assoc, take-append-drop, length-append, length-take, length-drop}
use Rattle.binlog_base.specs.declared.fault.Fault.{Fault}
use Rattle.binlog_base.specs.declared.fault.Fault.TheVariants.{Jsonb}
use Rattle.binlog_base.specs.declared.fault.JsonbError.TheVariants.{InvalidValueOffsetPointer}
use Rattle.binlog_base.specs.Format.{Format, ◌>>=◌, check, sequence, map_value, within}
use Rattle.binlog_base.specs.Numbers.{little_endian, signed_little_endian}
use Rattle.binlog_base.specs.Strings.{varlen_string}
use Rattle.binlog_base.specs.ColumnTypes.{column_type_of}
use Rattle.binlog_base.specs.Lemmas.Format.{bind_ok, ok_is}
use Rattle.binlog_values.specs.declared.jsonb.types.JsonbType.{JsonbType}
use Rattle.binlog_values.specs.declared.jsonb.types.JsonbType.TheVariants as type
use Rattle.binlog_values.specs.JsonbTypes.{jsonb_type_of, literal_type_of, is_inlined}
use Rattle.binlog_values.specs.JsonbLayout.{number_at, offset_size, header_len, value_entry}
use Rattle.binlog_values.specs.JsonbValues.{Frame, frame, container, Scalar, I16, U16, I32, U32, I64, U64, F64, Text, Opaque, scalar_of, a_scalar, literal_value, opaque_value, value, JsonbValue, scalar, nested, Typed, bytes_of, typed_at, element, element_at}
use Rattle.binlog_values.specs.JsonbHeaders.{offset_of, IsWhole}
use Rattle.binlog_values.specs.JsonbContainers.{IsScalar}
use Rattle.binlog_values.specs.JsonbLaws.{AreAt}
use Rattle.binlog_values.specs.Lemmas.JsonbValues.{exact_container}

-- ---- what is read of each type

-- a container that the bytes begin with, whose header is among its own
abbrev pub Fits : List ℕ → JsonbValue → Type 0
Fits x (scalar s) = ⊤
Fits x (nested c) = (rest : List ℕ) × (x ≡ c.bytes ++ rest) × IsWhole c

abbrev GivesScalars : Format JsonbValue → Type 0
GivesScalars f = (x : List ℕ) (v : JsonbValue) (left : List ℕ) → f.parse x ≡ Ok (v, left) → IsScalar v

mapped : {A : Type 0} (f : Format A) (g : A → JsonbValue) (x : List ℕ) (v : JsonbValue) (left : List ℕ) → (map_value f g).parse x ≡ Ok (v, left) → (a : A) × (f.parse x ≡ Ok (a, left)) × (g a ≡ v)
mapped f g x v left h =
    let b = bind_ok (f.parse x) (λ r. Ok (g r.0, r.1)) (v, left) h in
    let same = ok_is (g b.0.0, b.0.1) (v, left) b.2 in
    let rest : b.0.1 ≡ left = ap (λ (p : JsonbValue × List ℕ). p.1) same in
    (b.0.0, subst (λ (l : List ℕ). f.parse x ≡ Ok (b.0.0, l)) rest b.1, ap (λ (p : JsonbValue × List ℕ). p.0) same)

scalars : {A : Type 0} (f : Format A) (g : A → Scalar) → GivesScalars (a_scalar f g)
scalars f g x v left h =
    let m = mapped f (λ a. scalar (g a)) x v left h in
    subst IsScalar m.2 tt

after : {A : Type 0} (f : Format A) (g : A → Format JsonbValue) → ((a : A) → GivesScalars (g a)) → GivesScalars (sequence f g)
after f g each x v left h =
    let b = bind_ok (f.parse x) (λ r. (g r.0).parse r.1) (v, left) h in
    each b.0.0 b.0.1 v left b.2

literals : GivesScalars literal_value
literals = after (little_endian 1) (λ n. a_scalar (check (literal_type_of n)) scalar_of) (λ n. scalars (check (literal_type_of n)) scalar_of)

opaques : GivesScalars opaque_value
opaques =
    after (little_endian 1) (λ n. sequence (check (column_type_of n)) (λ type. a_scalar varlen_string (Opaque type))) (λ n.
    after (check (column_type_of n)) (λ type. a_scalar varlen_string (Opaque type)) (λ type. scalars varlen_string (Opaque type)))

scalar_fits : (x : List ℕ) (v : JsonbValue) → IsScalar v → Fits x v
scalar_fits x (scalar s) h = tt
scalar_fits x (nested c) h = absurd h

container_fits : (a l : Bool) (x : List ℕ) (v : JsonbValue) (left : List ℕ) → (map_value (container a l) nested).parse x ≡ Ok (v, left) → Fits x v
unfolding container
container_fits a l x v left h =
    let m = mapped (container a l) nested x v left h in
    let s = (exact_container a l).sound x m.0 left m.1 in
    let whole : Fits x (nested (frame a l s.0)) = (left, s.1, subst (λ (c : Frame). header_len a l c.count ≤ length s.0) s.2.0 s.2.2) in
    subst (Fits x) m.2 (subst (λ (c : Frame). Fits x (nested c)) (sym s.2.0) whole)

-- the types of containers
abbrev pub is_container : JsonbType → Bool
is_container type.JSONB_TYPE_SMALL_OBJECT = true
is_container type.JSONB_TYPE_LARGE_OBJECT = true
is_container type.JSONB_TYPE_SMALL_ARRAY = true
is_container type.JSONB_TYPE_LARGE_ARRAY = true
is_container _ = false

-- a value of any other type is a scalar
pub value_is_scalar : (t : JsonbType) (x : List ℕ) (v : JsonbValue) (left : List ℕ) → is_container t ≡ false → (value t).parse x ≡ Ok (v, left) → IsScalar v
unfolding value
value_is_scalar type.JSONB_TYPE_SMALL_OBJECT x v left e h = absurd cc
value_is_scalar type.JSONB_TYPE_LARGE_OBJECT x v left e h = absurd cc
value_is_scalar type.JSONB_TYPE_SMALL_ARRAY x v left e h = absurd cc
value_is_scalar type.JSONB_TYPE_LARGE_ARRAY x v left e h = absurd cc
value_is_scalar type.JSONB_TYPE_LITERAL x v left e h = literals x v left h
value_is_scalar type.JSONB_TYPE_INT16 x v left e h = scalars (signed_little_endian 2) I16 x v left h
value_is_scalar type.JSONB_TYPE_UINT16 x v left e h = scalars (little_endian 2) U16 x v left h
value_is_scalar type.JSONB_TYPE_INT32 x v left e h = scalars (signed_little_endian 4) I32 x v left h
value_is_scalar type.JSONB_TYPE_UINT32 x v left e h = scalars (little_endian 4) U32 x v left h
value_is_scalar type.JSONB_TYPE_INT64 x v left e h = scalars (signed_little_endian 8) I64 x v left h
value_is_scalar type.JSONB_TYPE_UINT64 x v left e h = scalars (little_endian 8) U64 x v left h
value_is_scalar type.JSONB_TYPE_DOUBLE x v left e h = scalars (little_endian 8) F64 x v left h
value_is_scalar type.JSONB_TYPE_STRING x v left e h = scalars varlen_string Text x v left h
value_is_scalar type.JSONB_TYPE_OPAQUE x v left e h = opaques x v left h

pub value_fits : (t : JsonbType) (x : List ℕ) (v : JsonbValue) (left : List ℕ) → (value t).parse x ≡ Ok (v, left) → Fits x v
unfolding value
value_fits type.JSONB_TYPE_SMALL_OBJECT x v left h = container_fits false false x v left h
value_fits type.JSONB_TYPE_LARGE_OBJECT x v left h = container_fits false true x v left h
value_fits type.JSONB_TYPE_SMALL_ARRAY x v left h = container_fits true false x v left h
value_fits type.JSONB_TYPE_LARGE_ARRAY x v left h = container_fits true true x v left h
value_fits type.JSONB_TYPE_LITERAL x v left h = scalar_fits x v (value_is_scalar type.JSONB_TYPE_LITERAL x v left refl h)
value_fits type.JSONB_TYPE_INT16 x v left h = scalar_fits x v (value_is_scalar type.JSONB_TYPE_INT16 x v left refl h)
value_fits type.JSONB_TYPE_UINT16 x v left h = scalar_fits x v (value_is_scalar type.JSONB_TYPE_UINT16 x v left refl h)
value_fits type.JSONB_TYPE_INT32 x v left h = scalar_fits x v (value_is_scalar type.JSONB_TYPE_INT32 x v left refl h)
value_fits type.JSONB_TYPE_UINT32 x v left h = scalar_fits x v (value_is_scalar type.JSONB_TYPE_UINT32 x v left refl h)
value_fits type.JSONB_TYPE_INT64 x v left h = scalar_fits x v (value_is_scalar type.JSONB_TYPE_INT64 x v left refl h)
value_fits type.JSONB_TYPE_UINT64 x v left h = scalar_fits x v (value_is_scalar type.JSONB_TYPE_UINT64 x v left refl h)
value_fits type.JSONB_TYPE_DOUBLE x v left h = scalar_fits x v (value_is_scalar type.JSONB_TYPE_DOUBLE x v left refl h)
value_fits type.JSONB_TYPE_STRING x v left h = scalar_fits x v (value_is_scalar type.JSONB_TYPE_STRING x v left refl h)
value_fits type.JSONB_TYPE_OPAQUE x v left h = scalar_fits x v (value_is_scalar type.JSONB_TYPE_OPAQUE x v left refl h)

-- no container is in its entry itself
inlined_type : (l : Bool) (t : JsonbType) → is_inlined l t ≡ true → is_container t ≡ false
inlined_type l type.JSONB_TYPE_SMALL_OBJECT h = absurd cc
inlined_type l type.JSONB_TYPE_LARGE_OBJECT h = absurd cc
inlined_type l type.JSONB_TYPE_SMALL_ARRAY h = absurd cc
inlined_type l type.JSONB_TYPE_LARGE_ARRAY h = absurd cc
inlined_type l type.JSONB_TYPE_LITERAL h = refl
inlined_type l type.JSONB_TYPE_INT16 h = refl
inlined_type l type.JSONB_TYPE_UINT16 h = refl
inlined_type l type.JSONB_TYPE_INT32 h = refl
inlined_type l type.JSONB_TYPE_UINT32 h = refl
inlined_type l type.JSONB_TYPE_INT64 h = refl
inlined_type l type.JSONB_TYPE_UINT64 h = refl
inlined_type l type.JSONB_TYPE_DOUBLE h = refl
inlined_type l type.JSONB_TYPE_STRING h = refl
inlined_type l type.JSONB_TYPE_OPAQUE h = refl

-- ---- the container of an entry

-- it begins after its entry, it is among its parent's bytes, and its header is among its own
pub record IsInside (c : Frame) (i : ℕ) (d : Frame) : Type 0 where
  pub later : value_entry c.is_array c.is_large c.count i < offset_of c i
  pub part : AreAt (offset_of c i) d.bytes c.bytes
  pub within : offset_of c i + length d.bytes ≤ length c.bytes
  pub whole : IsWhole d

split_ok : (b : Bool) (x y : Result Typed Fault) (t : Typed) → (if b then x else y) ≡ Ok t → ((b ≡ true) × (x ≡ Ok t)) ⊎ ((b ≡ false) × (y ≡ Ok t))
split_ok true x y t e = inl (refl, e)
split_ok false x y t e = inr (refl, e)

past : (b : Bool) (f : Fault) (x : Typed) (t : Typed) → (if b then Err f else Ok x) ≡ Ok t → (b ≡ false) × (x ≡ t)
past true f x t e = absurd cc
past false f x t e = (refl, ok_is x t e)

neither : (p q : Bool) → p || q ≡ false → (p ≡ false) × (q ≡ false)
neither true q h = absurd cc
neither false q h = (refl, h)

inside_by : (c : Frame) (i : ℕ) (d : Frame) (n : JsonbType) (t : Typed) (left : List ℕ) → bytes_of c (value_entry c.is_array c.is_large c.count i) n ≡ Ok t → (value t.type).parse t.bytes ≡ Ok (nested d, left) → IsInside c i d
inside_by c i d n t left e h =
    let at = value_entry c.is_array c.is_large c.count i in
    let width = offset_size c.is_large in
    let offset = number_at width (at + 1) c.bytes in
    let here : Typed = record { type = n; bytes = take width (drop (at + 1) c.bytes) } in
    let there : Typed = record { type = n; bytes = drop offset c.bytes } in
    let bad = nat_lt offset (at + 1 + width) || nat_lt (length c.bytes) offset in
    elim (split_ok (is_inlined c.is_large n) (Ok here) (if bad then Err (Jsonb InvalidValueOffsetPointer) else Ok there) t e) [
      | inl p ↦
          let is : here ≡ t = ok_is here t p.1 in
          absurd (value_is_scalar n here.bytes (nested d) left (inlined_type c.is_large n p.0) (subst (λ (u : Typed). (value u.type).parse u.bytes ≡ Ok (nested d, left)) (sym is) h))
      | inr p ↦
          let g = past bad (Jsonb InvalidValueOffsetPointer) there t p.1 in
          let tests = neither (nat_lt offset (at + 1 + width)) (nat_lt (length c.bytes) offset) g.0 in
          let low = ltb-false offset (at + 1 + width) tests.0 in
          let room = ltb-false (length c.bytes) offset tests.1 in
          let f = value_fits n there.bytes (nested d) left (subst (λ (u : Typed). (value u.type).parse u.bytes ≡ Ok (nested d, left)) (sym g.1) h) in
          let split : c.bytes ≡ take offset c.bytes ++ d.bytes ++ f.0 = sym (take-append-drop offset c.bytes) ∙ ap (λ (r : List ℕ). take offset c.bytes ++ r) f.1 ∙ sym (append_assoc (take offset c.bytes) d.bytes f.0) in
          let before : length (take offset c.bytes) ≡ offset = omega (arith, length-take offset c.bytes, room) in
          let long : length (drop offset c.bytes) ≡ length d.bytes + length f.0 = ap length f.1 ∙ length-append d.bytes f.0 in
          record {
            later = omega (arith, low);
            part = (take offset c.bytes, f.0, split, before);
            within = omega (arith, long, room, length-drop offset c.bytes);
            whole = f.2;
          }
    ]

element_is : (c : Frame) (i : ℕ) (v : JsonbValue) → element_at c i ≡ Ok v → (t : Typed) × (left : List ℕ) × (typed_at c i ≡ Ok t) × ((value t.type).parse t.bytes ≡ Ok (v, left))
unfolding element
element_is c i v h =
    let a = bind_ok ((element c i).parse []) (λ r. Ok r.0) v h in
    let b = bind_ok (typed_at c i >>= λ t. Ok (t, [])) (λ r. (within r.0.bytes (value r.0.type)).parse r.1) a.0 a.1 in
    let t = bind_ok (typed_at c i) (λ t. Ok (t, [])) b.0 b.1 in
    let is : (t.0, []) ≡ b.0 = ok_is (t.0, []) b.0 t.2 in
    let typed : t.0 ≡ b.0.0 = ap (λ (p : Typed × List ℕ). p.0) is in
    let w = bind_ok ((value b.0.0.type).parse b.0.0.bytes) (λ r. Ok (r.0, b.0.1)) a.0 b.2 in
    let read : (w.0.0, b.0.1) ≡ a.0 = ok_is (w.0.0, b.0.1) a.0 w.2 in
    let v-is : w.0.0 ≡ v = ap (λ (p : JsonbValue × List ℕ). p.0) read ∙ ok_is a.0.0 v a.2 in
    (b.0.0, w.0.1, subst (λ (u : Typed). typed_at c i ≡ Ok u) typed t.1, subst (λ (u : JsonbValue). (value b.0.0.type).parse b.0.0.bytes ≡ Ok (u, w.0.1)) v-is w.1)

pub element_inside : (c : Frame) (i : ℕ) (d : Frame) → element_at c i ≡ Ok (nested d) → IsInside c i d
unfolding typed_at
element_inside c i d h =
    let at = value_entry c.is_array c.is_large c.count i in
    let e = element_is c i (nested d) h in
    let b = bind_ok (jsonb_type_of (slice_index c.bytes at)) (bytes_of c at) e.0 e.2 in
    inside_by c i d b.0 e.0 e.1 b.2 e.3
