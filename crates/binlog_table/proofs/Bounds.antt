-- How many items the fields that are kept can hold.
use Rattle.std.specs.Prelude.{filter, if◌then◌else◌}
use Rattle.std.proofs.Common.{◌≡◌, ℕ, ◌+◌, ◌≤◌, Bool, true, false, List, [], ◌∷◌, length, map, Option, Some, None, Result, Ok, Err, refl, sym, ap, subst, arith}
use Rattle.std.proofs.lemmas.List.{length-append}
use Rattle.std.specs.Option.{option_or}
use Rattle.binlog_base.specs.declared.fault.Fault.{Fault}
use Rattle.binlog_base.specs.Format.{◌>>=◌, take_bytes}
use Rattle.binlog_base.specs.Lemmas.Format.{bind_ok, ok_is, exact_take_bytes}
use Rattle.binlog_base.specs.Numbers.{little_endian, lenenc}
use Rattle.binlog_base.specs.Strings.{lenenc_string}
use Rattle.binlog_base.specs.Items.{items, weigh, before_fault}
use Rattle.binlog_base.specs.Lemmas.Items.{items_weigh, eats_little, eats_lenenc}
use Rattle.binlog_consts.specs.declared.consts.optional_metadata.OptionalMetadataFieldType.{OptionalMetadataFieldType}
use Rattle.binlog_consts.specs.declared.consts.optional_metadata.OptionalMetadataFieldType.TheVariants as kind
use Rattle.binlog_table.specs.declared.table_map.optional.fields.OptionalMetadataField.{OptionalMetadataField}
use Rattle.binlog_table.specs.declared.table_map.optional.fields.OptionalMetadataField.TheVariants as field
use Rattle.binlog_table.specs.Lists.{DefaultCharset, default_charset, RawField, raw_field, low_bits, FieldsLeft}
use Rattle.binlog_table.specs.Lemmas.Lists.{eats_low_bits}
use Rattle.binlog_table.specs.Fields.{bits_for, default_charset_in, value_of, field_of, is_item, fields, last_of, default_in, charsets_in, names_in, simple_in, prefixed_in, enum_default_in, enum_charsets_in, kept}
use Rattle.binlog_table.specs.Extracted.{list_or, pair_bytes, kept_bytes}

-- the bytes of a field's list
abbrev field_bytes : OptionalMetadataField → ℕ
field_bytes (field.DefaultCharset d) = length d.pairs
field_bytes (field.ColumnCharset x) = length x
field_bytes (field.ColumnName x) = length x
field_bytes (field.SimplePrimaryKey x) = length x
field_bytes (field.PrimaryKeyWithPrefix x) = length x
field_bytes (field.EnumAndSetDefaultCharset d) = length d.pairs
field_bytes (field.EnumAndSetColumnCharset x) = length x
field_bytes _ = 0

default_bytes : (v : List ℕ) (d : DefaultCharset) → default_charset_in v ≡ Ok d → length d.pairs ≤ length v
unfolding default_charset
default_bytes v d h =
    let w = bind_ok (default_charset.parse v) (λ r. Ok r.0) d h in
    let o = bind_ok ((low_bits 16).parse v) _ w.0 w.1 in
    let read = ap (λ (r : DefaultCharset × List ℕ). length r.0.pairs) (sym (ok_is _ w.0 o.2)) in
    let same = ap (λ (e : DefaultCharset). length e.pairs) (sym (ok_is _ d w.2)) in
    omega (arith, read, same, eats_low_bits 16 v o.0.0 o.0.1 o.1)

value_bytes : (n c : ℕ) (k : OptionalMetadataFieldType) (v : List ℕ) (f : OptionalMetadataField) → value_of n c k v ≡ Ok f → field_bytes f ≤ length v
value_bytes n c kind.SIGNEDNESS v f h = let o = bind_ok (bits_for n v) _ f h in subst (λ (g : OptionalMetadataField). field_bytes g ≤ length v) (ok_is (field.Signedness o.0) f o.2) (omega arith)
value_bytes n c kind.DEFAULT_CHARSET v f h = let o = bind_ok (default_charset_in v) _ f h in subst (λ (g : OptionalMetadataField). field_bytes g ≤ length v) (ok_is (field.DefaultCharset o.0) f o.2) (default_bytes v o.0 o.1)
value_bytes n c kind.COLUMN_CHARSET v f h = subst (λ (g : OptionalMetadataField). field_bytes g ≤ length v) (ok_is (field.ColumnCharset v) f h) (omega arith)
value_bytes n c kind.COLUMN_NAME v f h = subst (λ (g : OptionalMetadataField). field_bytes g ≤ length v) (ok_is (field.ColumnName v) f h) (omega arith)
value_bytes n c kind.SET_STR_VALUE v f h = subst (λ (g : OptionalMetadataField). field_bytes g ≤ length v) (ok_is (field.SetStrValue v) f h) (omega arith)
value_bytes n c kind.ENUM_STR_VALUE v f h = subst (λ (g : OptionalMetadataField). field_bytes g ≤ length v) (ok_is (field.EnumStrValue v) f h) (omega arith)
value_bytes n c kind.GEOMETRY_TYPE v f h = subst (λ (g : OptionalMetadataField). field_bytes g ≤ length v) (ok_is (field.GeometryType v) f h) (omega arith)
value_bytes n c kind.SIMPLE_PRIMARY_KEY v f h = subst (λ (g : OptionalMetadataField). field_bytes g ≤ length v) (ok_is (field.SimplePrimaryKey v) f h) (omega arith)
value_bytes n c kind.PRIMARY_KEY_WITH_PREFIX v f h = subst (λ (g : OptionalMetadataField). field_bytes g ≤ length v) (ok_is (field.PrimaryKeyWithPrefix v) f h) (omega arith)
value_bytes n c kind.ENUM_AND_SET_DEFAULT_CHARSET v f h = let o = bind_ok (default_charset_in v) _ f h in subst (λ (g : OptionalMetadataField). field_bytes g ≤ length v) (ok_is (field.EnumAndSetDefaultCharset o.0) f o.2) (default_bytes v o.0 o.1)
value_bytes n c kind.ENUM_AND_SET_COLUMN_CHARSET v f h = subst (λ (g : OptionalMetadataField). field_bytes g ≤ length v) (ok_is (field.EnumAndSetColumnCharset v) f h) (omega arith)
value_bytes n c kind.COLUMN_VISIBILITY v f h = let o = bind_ok (bits_for c v) _ f h in subst (λ (g : OptionalMetadataField). field_bytes g ≤ length v) (ok_is (field.ColumnVisibility o.0) f o.2) (omega arith)
value_bytes n c kind.VECTOR_DIMENSIONALITY v f h = subst (λ (g : OptionalMetadataField). field_bytes g ≤ length v) (ok_is (field.Dimensionality v) f h) (omega arith)

of_bytes : (n c : ℕ) (r : RawField) (f : OptionalMetadataField) → field_of n c r ≡ Ok f → field_bytes f ≤ length r.value
unfolding field_of
of_bytes n c r f h = let o = bind_ok _ (λ k. value_of n c k r.value) f h in value_bytes n c o.0 r.value f o.2

-- a field takes a byte and those of its value
raw_bytes : (x : List ℕ) (r : RawField) (left : List ℕ) → raw_field.parse x ≡ Ok (r, left) → 1 + length r.value + length left ≤ length x
unfolding raw_field lenenc_string
raw_bytes x r left h =
    let o = bind_ok ((little_endian 1).parse x) _ (r, left) h in
    let q = bind_ok (lenenc_string.parse o.0.1) _ (r, left) o.2 in
    let n = bind_ok (lenenc.parse o.0.1) (λ p. (take_bytes p.0).parse p.1) q.0 q.1 in
    let s = (exact_take_bytes n.0.0).sound n.0.1 q.0.0 q.0.1 n.2 in
    let same = ok_is _ (r, left) q.2 in
    let value : length q.0.0 ≡ length r.value = ap (λ (p : RawField × List ℕ). length p.0.value) same in
    let rest : length q.0.1 ≡ length left = ap (λ (p : RawField × List ℕ). length p.1) same in
    omega (arith, value, rest, eats_little 0 x o.0.0 o.0.1 o.1, eats_lenenc o.0.1 n.0.0 n.0.1 n.1, ap length s.1, length-append s.0 q.0.1, ap length s.2.0)

one_field : (r : Result OptionalMetadataField Fault) (more : List (Result OptionalMetadataField Fault)) (v b : ℕ) → ((f : OptionalMetadataField) → r ≡ Ok f → field_bytes f ≤ v) → weigh field_bytes more ≤ b → weigh field_bytes (r ∷ more) ≤ 1 + v + b
one_field (Ok f) more v b h le = omega (arith, h f refl, le)
one_field (Err e) more v b h le = omega (arith, le)

all_fields : (n c : ℕ) (raw : List (Result RawField Fault)) → weigh field_bytes (map (λ r. r >>= field_of n c) raw) ≤ weigh (λ r. length r.value) raw
all_fields n c [] = omega arith
all_fields n c (Err e ∷ raw) = omega (arith, all_fields n c raw)
all_fields n c (Ok r ∷ raw) = one_field (field_of n c r) _ (length r.value) _ (of_bytes n c r) (all_fields n c raw)

-- fewer items weigh no more
fewer : {A : Type 0} (w : A → ℕ) (b : Bool) (x : Result A Fault) (kept xs : List (Result A Fault)) → weigh w kept ≤ weigh w xs → weigh w (if b then x ∷ kept else kept) ≤ weigh w (x ∷ xs)
fewer w true (Ok a) kept xs le = omega (arith, le)
fewer w true (Err e) kept xs le = omega (arith, le)
fewer w false (Ok a) kept xs le = omega (arith, le)
fewer w false (Err e) kept xs le = omega (arith, le)

filter_weigh : {A : Type 0} (w : A → ℕ) (test : Result A Fault → Bool) (xs : List (Result A Fault)) → weigh w (filter test xs) ≤ weigh w xs
filter_weigh w test [] = omega arith
filter_weigh w test (x ∷ xs) = fewer w (test x) x (filter test xs) xs (filter_weigh w test xs)

or_list : (a b : Option (List ℕ)) → length (list_or (option_or a b)) ≤ length (list_or a) + length (list_or b)
or_list None b = omega arith
or_list (Some x) b = omega arith

or_pairs : (a b : Option DefaultCharset) → length (pair_bytes (option_or a b)) ≤ length (pair_bytes a) + length (pair_bytes b)
or_pairs None b = omega arith
or_pairs (Some x) b = omega arith

in_bytes : (f : OptionalMetadataField) → length (list_or (names_in f)) + length (list_or (simple_in f)) + length (list_or (prefixed_in f)) + length (pair_bytes (default_in f)) + length (list_or (charsets_in f)) + length (pair_bytes (enum_default_in f)) + length (list_or (enum_charsets_in f)) ≤ field_bytes f
in_bytes (field.Signedness x) = omega arith
in_bytes (field.DefaultCharset x) = omega arith
in_bytes (field.ColumnCharset x) = omega arith
in_bytes (field.ColumnName x) = omega arith
in_bytes (field.SetStrValue x) = omega arith
in_bytes (field.EnumStrValue x) = omega arith
in_bytes (field.GeometryType x) = omega arith
in_bytes (field.SimplePrimaryKey x) = omega arith
in_bytes (field.PrimaryKeyWithPrefix x) = omega arith
in_bytes (field.EnumAndSetDefaultCharset x) = omega arith
in_bytes (field.EnumAndSetColumnCharset x) = omega arith
in_bytes (field.ColumnVisibility x) = omega arith
in_bytes (field.Dimensionality x) = omega arith

kept_one : (f : OptionalMetadataField) (gs : List OptionalMetadataField) → kept_bytes (kept (f ∷ gs)) ≤ field_bytes f + kept_bytes (kept gs)
kept_one f gs =
    omega (
      arith,
      in_bytes f,
      or_list (last_of names_in gs) (names_in f),
      or_list (last_of simple_in gs) (simple_in f),
      or_list (last_of prefixed_in gs) (prefixed_in f),
      or_pairs (last_of default_in gs) (default_in f),
      or_list (last_of charsets_in gs) (charsets_in f),
      or_pairs (last_of enum_default_in gs) (enum_default_in f),
      or_list (last_of enum_charsets_in gs) (enum_charsets_in f),
    )

kept_all : (fs : List (Result OptionalMetadataField Fault)) → length fs + kept_bytes (kept (before_fault fs)) ≤ weigh field_bytes fs
kept_all [] = omega arith
kept_all (Err e ∷ fs) = omega (arith, kept_all fs)
kept_all (Ok f ∷ fs) = omega (arith, kept_all fs, kept_one f (before_fault fs))

pub fields_bound : (f : FieldsLeft) → length (fields f) + kept_bytes (kept (before_fault (fields f))) ≤ length f.left.bytes
fields_bound f =
    let raw = items raw_field f.left.bytes in
    omega (arith, kept_all (fields f), all_fields f.numeric f.columns (filter is_item raw), filter_weigh (λ r. length r.value) is_item raw, items_weigh raw_field (λ r. length r.value) raw_bytes f.left.bytes)
