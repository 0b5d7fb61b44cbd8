-- Reading containers, values and elements of binary JSON is exact.
use Rattle.std.specs.Prelude.{◌≡◌, ℕ, zero, suc, ◌+◌, ◌*◌, ◌<◌, ◌≤◌, nat_lt, ◌||◌, if◌then◌else◌, Bool, true, false, List, [], ◌∷◌, ◌++◌, length, take, drop, slice_index, Result, Ok, Err, ◌⊎◌}
use Rattle.std.proofs.Common.{refl, sym, ap, subst, ◌∙◌, inl, inr, arith}
use Rattle.std.proofs.lemmas.List.{take-append-drop, length-take, length-append, get_or-drop}
use Rattle.std.proofs.Math.ListN.{get_or-append}
use Rattle.std.proofs.Math.Seq.{take-append_seam, drop-append_seam}
use Rattle.std.proofs.lemmas.Bool.{ltb-false, ltb-true, lt-ltb, le-ltb}
use Rattle.byteorder.specs.Endian.{little_from}
use Rattle.binlog_base.specs.declared.fault.Fault.{Fault}
use Rattle.binlog_base.specs.declared.fault.Fault.TheVariants.{UnexpectedEof, Jsonb, UnknownColumnType, UnknownJsonbType, UnknownLiteralType}
use Rattle.binlog_base.specs.declared.fault.JsonbError.TheVariants.{InvalidKeyOffsetPointer, InvalidValueOffsetPointer, SizeOverflow}
use Rattle.binlog_base.specs.Faults.{IsOfBytes, OfBytes}
use Rattle.binlog_base.specs.Format.{Format, IsExact, IsExactToEnd, check, ◌>>=◌}
use Rattle.binlog_base.specs.Strings.{varlen_string}
use Rattle.binlog_base.specs.ColumnTypes.{column_types, column_type_of}
use Rattle.binlog_base.specs.Lemmas.Format.{ok_is, err_is, ok_or_err, exact_check, exact_within, exact_sequence, exact_map_value, exact_map_all_left, to_end_both}
use Rattle.binlog_base.specs.Lemmas.Faults.{fault_of_bytes, bind_of_bytes, cond_of_bytes, table_of_bytes}
use Rattle.binlog_base.specs.Lemmas.Numbers.{exact_little_endian, exact_signed_little_endian}
use Rattle.binlog_base.specs.Lemmas.Strings.{exact_varlen_string}
use Rattle.binlog_values.specs.declared.jsonb.types.JsonbType.{JsonbType}
use Rattle.binlog_values.specs.declared.jsonb.types.JsonbType.TheVariants as type
use Rattle.binlog_values.specs.JsonbTypes.{jsonb_types, jsonb_type_of, literal_types, literal_type_of, is_inlined}
use Rattle.binlog_values.specs.JsonbLayout.{number_at, offset_size, header_len, key_entry, value_entry}
use Rattle.binlog_values.specs.JsonbValues.{Frame, frame, size_in, size_is_bad, container, Scalar, I16, U16, I32, U32, I64, U64, F64, Text, Opaque, scalar_of, a_scalar, literal_value, opaque_value, value, scalar, Null, typed_value, empty_or, json, JsonbValue, Typed, bytes_of, typed_at, element, element_at, key_at}

-- ---- a number in a prefix is that number

same_from : (i w : ℕ) (xs ys : List ℕ) → ((k : ℕ) → k < i + w → slice_index xs k ≡ slice_index ys k) → little_from i w xs ≡ little_from i w ys
same_from i zero xs ys h = refl
same_from i (suc w) xs ys h =
    rw (h i (omega arith), same_from (suc i) w xs ys (λ k lt. h k (omega (arith, lt)))) refl

pub number_in_prefix : (w at : ℕ) (y left : List ℕ) → at + w ≤ length y → number_at w at (y ++ left) ≡ number_at w at y
number_in_prefix w at y left le =
    same_from 0 w (drop at (y ++ left)) (drop at y) (λ k lt.
    get_or-drop at (y ++ left) k 0 ∙ get_or-append y left 0 (at + k) (omega (arith, le, lt)) ∙ sym (get_or-drop at y k 0))

pub header_has_room : (is_array is_large : Bool) (count : ℕ) → 2 * offset_size is_large ≤ header_len is_array is_large count
header_has_room true true count = omega arith
header_has_room true false count = omega arith
header_has_room false true count = omega arith
header_has_room false false count = omega arith

-- ---- containers

past : {A : Type 0} (b : Bool) (d : Fault) (r : Result A Fault) (y : A) → (if b then Err d else r) ≡ Ok y → (b ≡ false) × (r ≡ Ok y)
past true d r y h = absurd cc
past false d r y h = (refl, h)

stopped : {A : Type 0} (b : Bool) (d e : Fault) (r : Result A Fault) → (if b then Err d else r) ≡ Err e → ((b ≡ true) × (d ≡ e)) ⊎ ((b ≡ false) × (r ≡ Err e))
stopped {A} true d e r h = inl (refl, err_is {A = A} d e h)
stopped false d e r h = inr (refl, h)

neither : (p q : Bool) → p || q ≡ false → (p ≡ false) × (q ≡ false)
neither true q h = absurd cc
neither false q h = (refl, h)

both_false : (p q : Bool) → p ≡ false → q ≡ false → p || q ≡ false
both_false p q hp hq = rw (hp, hq) refl

abbrev Read : Type 0
Read = Result (Frame × List ℕ) Fault

abbrev whole_at : Bool → Bool → List ℕ → Read
whole_at a l x = Ok (frame a l (take (size_in l x) x), drop (size_in l x) x)

abbrev sized_at : Bool → Bool → List ℕ → Read
sized_at a l x = if size_is_bad a l x then Err (Jsonb SizeOverflow) else whole_at a l x

container_sound : (a l : Bool) (x : List ℕ) (c : Frame) (left : List ℕ) → (container a l).parse x ≡ Ok (c, left) → (y : List ℕ) × (x ≡ y ++ left) × (container a l).spells y c
unfolding container
container_sound a l x c left h =
    let w = offset_size l in
    let s = size_in l x in
    let y = take s x in
    let one = past (nat_lt (length x) (2 * w)) UnexpectedEof (sized_at a l x) (c, left) h in
    let two = past (size_is_bad a l x) (Jsonb SizeOverflow) (whole_at a l x) (c, left) one.1 in
    let good = neither (nat_lt s (header_len a l (number_at w 0 x))) (nat_lt (length x) s) two.0 in
    let fits = ltb-false (length x) s good.1 in
    let header = ltb-false s (header_len a l (number_at w 0 x)) good.0 in
    let room = header_has_room a l (number_at w 0 x) in
    let same = ok_is (frame a l y, drop s x) (c, left) two.1 in
    let c-is : frame a l y ≡ c = ap (λ (r : Frame × List ℕ). r.0) same in
    let left-is : drop s x ≡ left = ap (λ (r : Frame × List ℕ). r.1) same in
    let x-is : x ≡ y ++ drop s x = sym (take-append-drop s x) in
    let long : length y ≡ s = omega (arith, length-take s x, fits) in
    let count : number_at w 0 x ≡ number_at w 0 y = ap (number_at w 0) x-is ∙ number_in_prefix w 0 y (drop s x) (omega (arith, long, header, room)) in
    let size : s ≡ size_in l y = ap (number_at w w) x-is ∙ number_in_prefix w w y (drop s x) (omega (arith, long, header, room)) in
    let enough : header_len a l (number_at w 0 y) ≤ length y = subst (λ (n : ℕ). header_len a l n ≤ length y) count (omega (arith, header, long)) in
    (y, x-is ∙ ap (λ (r : List ℕ). y ++ r) left-is, subst (λ (d : Frame). (d ≡ frame a l y) × (size_in l y ≡ length y) × (header_len a l d.count ≤ length y)) c-is (refl, sym size ∙ sym long, enough))

container_complete : (a l : Bool) (y left : List ℕ) (c : Frame) → (container a l).spells y c → (container a l).parse (y ++ left) ≡ Ok (c, left)
unfolding container
container_complete a l y left c h =
    let w = offset_size l in
    let header : header_len a l (number_at w 0 y) ≤ length y = subst (λ (d : Frame). header_len a l d.count ≤ length y) h.0 h.2 in
    let room = header_has_room a l (number_at w 0 y) in
    let lengths = length-append y left in
    let count : number_at w 0 (y ++ left) ≡ number_at w 0 y = number_in_prefix w 0 y left (omega (arith, header, room)) in
    let size : size_in l (y ++ left) ≡ length y = number_in_prefix w w y left (omega (arith, header, room)) ∙ h.1 in
    let there : nat_lt (length (y ++ left)) (2 * w) ≡ false = le-ltb (length (y ++ left)) (2 * w) (omega (arith, header, room, lengths)) in
    let enough : nat_lt (size_in l (y ++ left)) (header_len a l (number_at w 0 (y ++ left))) ≡ false = rw (size, count) (le-ltb (length y) (header_len a l (number_at w 0 y)) header) in
    let fits : nat_lt (length (y ++ left)) (size_in l (y ++ left)) ≡ false = rw size (le-ltb (length (y ++ left)) (length y) (omega (arith, lengths))) in
    let good : size_is_bad a l (y ++ left) ≡ false = both_false _ _ enough fits in
    rw (there, good, size, take-append_seam y left, drop-append_seam y left, h.0) refl

container_refused : (a l : Bool) (x : List ℕ) (e : Fault) → (container a l).parse x ≡ Err e → (container a l).refuses x e
unfolding container
container_refused a l x e h =
    let w = offset_size l in
    elim (stopped (nat_lt (length x) (2 * w)) UnexpectedEof e (sized_at a l x) h) [
      | inl short ↦ inl (ltb-true (length x) (2 * w) short.0, sym short.1)
      | inr long ↦ elim (stopped (size_is_bad a l x) (Jsonb SizeOverflow) e (whole_at a l x) long.1) [
        | inl bad ↦ inr (ltb-false (length x) (2 * w) long.0, bad.0, sym bad.1)
        | inr good ↦ absurd cc
      ]
    ]

container_refuses : (a l : Bool) (x : List ℕ) (e : Fault) → (container a l).refuses x e → (container a l).parse x ≡ Err e
unfolding container
container_refuses a l x e h =
    let w = offset_size l in
    elim h [
      | inl short ↦ let b = lt-ltb (length x) (2 * w) short.0 in rw (b, short.1) refl
      | inr bad ↦ let b = le-ltb (length x) (2 * w) bad.0 in rw (b, bad.1, bad.2) refl
    ]

container_of_bytes : (a l : Bool) (x : List ℕ) (e : Fault) → (container a l).refuses x e → IsOfBytes e
unfolding container
container_of_bytes a l x e h =
    elim h [
      | inl short ↦ subst IsOfBytes (sym short.1) refl
      | inr bad ↦ subst IsOfBytes (sym bad.2) refl
    ]

pub exact_container : (is_array is_large : Bool) → IsExact (container is_array is_large)
exact_container a l = record {
  sound = container_sound a l;
  complete = container_complete a l;
  refused_sound = container_refused a l;
  refused_complete = container_refuses a l;
  of_bytes = container_of_bytes a l;
}

-- ---- values and elements

checked : {A : Type 0} (r : Result A Fault) → OfBytes r → IsExact (check r)
checked r s = exact_check r (λ e h. fault_of_bytes r e s h)

exact_scalar : {A : Type 0} (f : Format A) (g : A → Scalar) → IsExact f → IsExact (a_scalar f g)
exact_scalar f g h = exact_map_value f _ h

exact_opaque : IsExact opaque_value
exact_opaque = exact_sequence _ _ (exact_little_endian 1) (λ n. exact_sequence _ _ (checked (column_type_of n) (table_of_bytes column_types UnknownColumnType n refl)) (λ type. exact_scalar varlen_string (Opaque type) exact_varlen_string))

exact_literal : IsExact literal_value
exact_literal = exact_sequence _ _ (exact_little_endian 1) (λ n. exact_scalar (check (literal_type_of n)) scalar_of (checked (literal_type_of n) (table_of_bytes literal_types UnknownLiteralType n refl)))

pub exact_value : (t : JsonbType) → IsExact (value t)
unfolding value
exact_value type.JSONB_TYPE_SMALL_OBJECT = exact_map_value _ _ (exact_container false false)
exact_value type.JSONB_TYPE_LARGE_OBJECT = exact_map_value _ _ (exact_container false true)
exact_value type.JSONB_TYPE_SMALL_ARRAY = exact_map_value _ _ (exact_container true false)
exact_value type.JSONB_TYPE_LARGE_ARRAY = exact_map_value _ _ (exact_container true true)
exact_value type.JSONB_TYPE_LITERAL = exact_literal
exact_value type.JSONB_TYPE_INT16 = exact_scalar _ I16 (exact_signed_little_endian 2)
exact_value type.JSONB_TYPE_UINT16 = exact_scalar _ U16 (exact_little_endian 2)
exact_value type.JSONB_TYPE_INT32 = exact_scalar _ I32 (exact_signed_little_endian 4)
exact_value type.JSONB_TYPE_UINT32 = exact_scalar _ U32 (exact_little_endian 4)
exact_value type.JSONB_TYPE_INT64 = exact_scalar _ I64 (exact_signed_little_endian 8)
exact_value type.JSONB_TYPE_UINT64 = exact_scalar _ U64 (exact_little_endian 8)
exact_value type.JSONB_TYPE_DOUBLE = exact_scalar _ F64 (exact_little_endian 8)
exact_value type.JSONB_TYPE_STRING = exact_scalar _ Text exact_varlen_string
exact_value type.JSONB_TYPE_OPAQUE = exact_opaque

type_of_bytes : (n : ℕ) → OfBytes (jsonb_type_of n)
type_of_bytes n = table_of_bytes jsonb_types UnknownJsonbType n refl

exact_typed_value : IsExactToEnd typed_value
unfolding typed_value
exact_typed_value =
    to_end_both _ _ (exact_little_endian 1) (λ n.
    to_end_both _ _ (checked (jsonb_type_of n) (type_of_bytes n)) (λ t.
    to_end_both _ _ (exact_value t) (λ v. exact_map_all_left (λ later. v))))

-- bytes are there, or none are
some_there : (x : List ℕ) (b : Bool) → nat_lt 0 (length x) ≡ b → ((b ≡ true) × (0 < length x)) ⊎ ((b ≡ false) × (x ≡ []))
some_there [] true h = absurd cc
some_there [] false h = inr (refl, refl)
some_there (n ∷ x) true h = inl (refl, omega arith)
some_there (n ∷ x) false h = absurd (omega (arith, ltb-false 0 (suc (length x)) h))

exact_empty_or : {A : Type 0} (a : A) (f : Format A) → IsExactToEnd f → IsExactToEnd (empty_or a f)
exact_empty_or {A} a f exact = record {
  sound = λ x v left h. elim (some_there x (nat_lt 0 (length x)) refl) [
    | inl some ↦ let r = exact.sound x v left (subst (λ (b : Bool). (if b then f.parse x else Ok (a, x)) ≡ Ok (v, left)) some.0 h) in (r.0, inr (some.1, r.1))
    | inr none ↦
        let same = ok_is (a, x) (v, left) (subst (λ (b : Bool). (if b then f.parse x else Ok (a, x)) ≡ Ok (v, left)) none.0 h) in
        (sym (ap (λ (p : A × List ℕ). p.1) same) ∙ none.1, inl (none.1, sym (ap (λ (p : A × List ℕ). p.0) same)))
  ];
  complete = λ x v h. elim h [
    | inl none ↦ rw (none.0, none.1) refl
    | inr some ↦ let b = lt-ltb 0 (length x) some.0 in rw b (exact.complete x v some.1)
  ];
  refused_sound = λ x e h. elim (some_there x (nat_lt 0 (length x)) refl) [
    | inl some ↦ (some.1, exact.refused_sound x e (subst (λ (b : Bool). (if b then f.parse x else Ok (a, x)) ≡ Err e) some.0 h))
    | inr none ↦ absurd (ok_or_err (if nat_lt 0 (length x) then f.parse x else Ok (a, x)) (a, x) e (subst (λ (b : Bool). (if b then f.parse x else Ok (a, x)) ≡ Ok (a, x)) (sym none.0) refl) h)
  ];
  refused_complete = λ x e h. let b = lt-ltb 0 (length x) h.0 in rw b (exact.refused_complete x e h.1);
  of_bytes = λ x e h. exact.of_bytes x e h.1;
}

pub exact_json : IsExactToEnd json
unfolding json
exact_json = exact_empty_or (scalar Null) typed_value exact_typed_value

-- ---- elements and keys

offset_of_bytes : (c : Frame) (at : ℕ) (t : JsonbType) → OfBytes (bytes_of c at t)
offset_of_bytes c at t =
    let width = offset_size c.is_large in
    let offset = number_at width (at + 1) c.bytes in
    let bad = nat_lt offset (at + 1 + width) || nat_lt (length c.bytes) offset in
    let there : Result Typed Fault = Ok (record { type = t; bytes = drop offset c.bytes }) in
    let inlined : Result Typed Fault = Ok (record { type = t; bytes = take width (drop (at + 1) c.bytes) }) in
    let range : Result Typed Fault = Err (Jsonb InvalidValueOffsetPointer) in
    cond_of_bytes (is_inlined c.is_large t) inlined (if bad then range else there) tt
    (cond_of_bytes bad range there refl tt)

typed_of_bytes : (c : Frame) (i : ℕ) → OfBytes (typed_at c i)
unfolding typed_at
typed_of_bytes c i =
    let at = value_entry c.is_array c.is_large c.count i in
    bind_of_bytes (jsonb_type_of (slice_index c.bytes at)) (bytes_of c at) (type_of_bytes (slice_index c.bytes at)) (offset_of_bytes c at)

pub exact_element : (c : Frame) (i : ℕ) → IsExact (element c i)
unfolding element
exact_element c i =
    exact_sequence (check (typed_at c i)) _ (checked (typed_at c i) (typed_of_bytes c i)) (λ t.
    exact_within t.bytes (value t.type) (exact_value t.type))

parsed_of_bytes : (f : Format JsonbValue) → IsExact f → (r : Result (JsonbValue × List ℕ) Fault) → f.parse [] ≡ r → OfBytes (r >>= λ p. Ok p.0)
parsed_of_bytes f exact (Ok p) h = tt
parsed_of_bytes f exact (Err e) h = exact.of_bytes [] e (exact.refused_sound [] e h)

-- what is read of an element or a key is a value, or a fault that bytes can have
pub element_of_bytes : (c : Frame) (i : ℕ) → OfBytes (element_at c i)
element_of_bytes c i = parsed_of_bytes (element c i) (exact_element c i) _ refl

pub key_of_bytes : (c : Frame) (i : ℕ) → OfBytes (key_at c i)
unfolding key_at
key_of_bytes c i =
    let width = offset_size c.is_large in
    let at = key_entry c.is_large i in
    let offset = number_at width at c.bytes in
    let len = number_at 2 (at + width) c.bytes in
    let range : Result (List ℕ) Fault = Err (Jsonb InvalidKeyOffsetPointer) in
    cond_of_bytes (nat_lt offset (header_len c.is_array c.is_large c.count) || nat_lt (length c.bytes) (offset + len)) range (Ok (take len (drop offset c.bytes))) refl tt
