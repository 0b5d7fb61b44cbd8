-- Equality of values and diffs is an equivalence, and two equal values are one.
use Rattle.std.specs.Prelude.{◌≡◌, ℕ, zero, suc, pos, ◌==◌, ◌&&◌, Bool, true, false, List, [], ◌∷◌, unsigned_abs, Result, Ok, Err}
use Rattle.std.specs.Ordering.{int_eq}
use Rattle.std.specs.Bool.{Decides}
use Rattle.std.specs.Cmp.{IsEquivalence, decided, and_equiv, on_equiv, nat_eq_equiv, int_eq_equiv}
use Rattle.std.specs.Cmp.Lexicographic.{pointwise, options_equiv, nat_list_eq_equiv, bytes_decides}
use Rattle.std.proofs.Common.{refl, sym, ap, subst, ◌∙◌, cond}
use Rattle.std.proofs.lemmas.Bool.{and_parts, and_from}
use Rattle.std.proofs.lemmas.Bool.Decides.{Decides-eqb, Decides-int_eq}
use Rattle.binlog_base.specs.declared.fault.Fault.{Fault}
use Rattle.binlog_base.specs.declared.below.columns.column_type.ColumnType.{ColumnType}
use Rattle.binlog_base.specs.ColumnTypes.{column_type_of}
use Rattle.binlog_base.specs.Lemmas.ColumnTypes.{column_number_reads_back}
use Rattle.binlog_values.specs.JsonbValues.{Scalar, JsonbValue, scalar, nested, Null, Boolean, I16, U16, I32, U32, I64, U64, F64, Text, Opaque}
use Rattle.binlog_values.specs.JsonEquality.{Parts, container_type, parts, parts_of, same_parts, same_json, operation_number, same_diff}

-- ---- the value of some parts

abbrev literal_of : ℕ → Scalar
literal_of zero = Null
literal_of (suc zero) = Boolean true
literal_of (suc (suc n)) = Boolean false

abbrev opaque_of : Result ColumnType Fault → List ℕ → Scalar
opaque_of (Ok type) bytes = Opaque type bytes
opaque_of (Err e) bytes = Null

abbrev frame_of : Bool → Bool → Parts → JsonbValue
frame_of is_array is_large p = nested (record { is_array = is_array; is_large = is_large; count = unsigned_abs p.number; bytes = p.bytes })

abbrev by_types : List (ℕ × (Parts → JsonbValue))
by_types =
    (0, frame_of false false)
    ∷ (1, frame_of false true)
    ∷ (2, frame_of true false)
    ∷ (3, frame_of true true)
    ∷ (4, λ p. scalar (literal_of (unsigned_abs p.number)))
    ∷ (5, λ p. scalar (I16 p.number))
    ∷ (6, λ p. scalar (U16 (unsigned_abs p.number)))
    ∷ (7, λ p. scalar (I32 p.number))
    ∷ (8, λ p. scalar (U32 (unsigned_abs p.number)))
    ∷ (9, λ p. scalar (I64 p.number))
    ∷ (10, λ p. scalar (U64 (unsigned_abs p.number)))
    ∷ (11, λ p. scalar (F64 (unsigned_abs p.number)))
    ∷ (12, λ p. scalar (Text p.bytes))
    ∷ (15, λ p. scalar (opaque_of (column_type_of (unsigned_abs p.number)) p.bytes))
    ∷ []

abbrev value_by : List (ℕ × (Parts → JsonbValue)) → Parts → JsonbValue
value_by [] p = scalar Null
value_by (row ∷ rows) p = cond (p.type == row.0) (row.1 p) (value_by rows p)

abbrev value_of : Parts → JsonbValue
value_of p = value_by by_types p

frame_back : (is_array is_large : Bool) (n : ℕ) (x : List ℕ) → value_of (parts (container_type is_array is_large) (pos n) x) ≡ frame_of is_array is_large (parts 0 (pos n) x)
frame_back false false n x = refl
frame_back false true n x = refl
frame_back true false n x = refl
frame_back true true n x = refl

parts_back : (v : JsonbValue) → value_of (parts_of v) ≡ v
parts_back (nested c) = frame_back c.is_array c.is_large c.count c.bytes
parts_back (scalar Null) = refl
parts_back (scalar (Boolean true)) = refl
parts_back (scalar (Boolean false)) = refl
parts_back (scalar (I16 n)) = refl
parts_back (scalar (U16 n)) = refl
parts_back (scalar (I32 n)) = refl
parts_back (scalar (U32 n)) = refl
parts_back (scalar (I64 n)) = refl
parts_back (scalar (U64 n)) = refl
parts_back (scalar (F64 bits)) = refl
parts_back (scalar (Text bytes)) = refl
parts_back (scalar (Opaque type bytes)) = ap (λ (r : Result ColumnType Fault). scalar (opaque_of r bytes)) (column_number_reads_back type)

-- ---- equal values are one

parts_alike : (p q : Parts) → same_parts p q ≡ true → p ≡ q
parts_alike p q h =
    let all = and_parts (p.type == q.type && int_eq p.number q.number) (pointwise ◌==◌ p.bytes q.bytes) h in
    let two = and_parts (p.type == q.type) (int_eq p.number q.number) all.0 in
    let type = (Decides-eqb p.type q.type).0 two.0 in
    let number = (Decides-int_eq p.number q.number).0 two.1 in
    let bytes = (bytes_decides p.bytes q.bytes).0 all.1 in
    (λ i. record { type = type i; number = number i; bytes = bytes i })

parts_same : (p : Parts) → same_parts p p ≡ true
parts_same p =
    and_from (p.type == p.type && int_eq p.number p.number) (pointwise ◌==◌ p.bytes p.bytes)
    (and_from (p.type == p.type) (int_eq p.number p.number) (nat_eq_equiv.refl p.type) (int_eq_equiv.refl p.number))
    (nat_list_eq_equiv.refl p.bytes)

-- `same_json` is equality
pub same_json_is_equality : (v w : JsonbValue) → Decides (same_json v w) (v ≡ w)
same_json_is_equality v w = (
  λ h. sym (parts_back v) ∙ ap value_of (parts_alike (parts_of v) (parts_of w) h) ∙ parts_back w,
  λ e. subst (λ (u : JsonbValue). same_json v u ≡ true) e (parts_same (parts_of v)),
)

pub same_json_is_equivalence : IsEquivalence same_json
same_json_is_equivalence = decided same_json same_json_is_equality

pub same_diff_is_equivalence : IsEquivalence same_diff
same_diff_is_equivalence =
    and_equiv
    (and_equiv (on_equiv (λ d. operation_number d.operation) nat_eq_equiv) (on_equiv (λ d. d.path) nat_list_eq_equiv))
    (on_equiv (λ d. d.value) (options_equiv same_json_is_equivalence))
