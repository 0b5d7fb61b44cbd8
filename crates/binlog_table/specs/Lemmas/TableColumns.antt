-- The faults of columns and of optional metadata are those that bytes can have; and a table has no
-- column after its last one.
use Rattle.std.specs.Prelude.{ℕ, zero, suc, ◌-◌, ◌≤◌, ◌==◌, nat_lt, Bool, true, false, List, [], ◌∷◌, ◌++◌, length, map, filter, Option, Some, None, Result, Ok, Err, ⊤, if◌then◌else◌}
use Rattle.std.proofs.Common.{◌≡◌, refl, sym, subst}
use Rattle.std.proofs.lemmas.Option.{slice_get_past}
use Rattle.binlog_base.specs.declared.bits.BitOrder.TheVariants.{MostSignificantFirst}
use Rattle.binlog_base.specs.declared.fault.Fault.{Fault}
use Rattle.binlog_base.specs.declared.fault.Fault.TheVariants.{NoColumnType, UnknownOptionalField}
use Rattle.binlog_base.specs.declared.below.columns.column_type.ColumnType.{ColumnType}
use Rattle.binlog_base.specs.Faults.{IsOfBytes, OfBytes}
use Rattle.binlog_base.specs.Format.{Format, IsExact}
use Rattle.binlog_base.specs.Tables.{from_table}
use Rattle.binlog_base.specs.declared.below.columns.server.Server.{Server}
use Rattle.binlog_base.specs.Servers.{character_group, enum_or_set_group}
use Rattle.binlog_base.specs.Numbers.{lenenc}
use Rattle.binlog_base.specs.Strings.{lenenc_string}
use Rattle.binlog_base.specs.Items.{AreItems, Eats, items, before_fault, first_fault, result_map}
use Rattle.binlog_base.specs.Lemmas.Faults.{fault_of_bytes, bind_of_bytes, cond_of_bytes, table_of_bytes}
use Rattle.binlog_base.specs.Lemmas.Items.{items_are, eats_lenenc, eats_lenenc_string}
use Rattle.binlog_base.specs.Lemmas.Numbers.{exact_lenenc}
use Rattle.binlog_base.specs.Lemmas.Strings.{exact_lenenc_string}
use Rattle.binlog_base.specs.Lemmas.Bits.{exact_bit_list}
use Rattle.binlog_consts.specs.OptionalMetadata.{optional_metadata_field_types}
use Rattle.binlog_consts.specs.declared.consts.optional_metadata.OptionalMetadataFieldType.{OptionalMetadataFieldType}
use Rattle.binlog_consts.specs.declared.consts.optional_metadata.OptionalMetadataFieldType.TheVariants as kind
use Rattle.binlog_table.specs.declared.table_map.bad_column_type.BadColumnType.{BadColumnType}
use Rattle.binlog_table.specs.declared.table_map.bad_column_type.BadColumnType.TheVariants as bad
use Rattle.binlog_table.specs.TableMap.{TableMap}
use Rattle.binlog_table.specs.ColumnTypes.{column_type_at}
use Rattle.binlog_table.specs.Lists.{DefaultCharset, RawField, raw_field, default_charset, low_bits, pair_with}
use Rattle.binlog_table.specs.Lemmas.Lists.{exact_low_bits, eats_low_bits, exact_pair_with, eats_pair_with, exact_raw_field, eats_raw_field, exact_default_charset}
use Rattle.binlog_table.specs.Fields.{in_group, whole, bits_for, default_charset_in, value_of, field_of, is_item}
use Rattle.binlog_table.specs.Keys.{unless, key_items, key_at as key_in}
use Rattle.binlog_table.specs.Charsets.{pairs_from, above_from, charset_in as pair_at, listed, after, or_else, charset_above, charset_at as charset_in, zero_without}
use Rattle.binlog_table.specs.Extracted.{list_or, pairs_or, kept_of, field_fault}
use Rattle.binlog_table.specs.TableColumns.{typed, named, ordinal_of, charset_by, charset_of_group, type_at, charset_at, name_at, key_at, column_at}

-- ---- results and lists whose faults are of bytes

abbrev AllOfBytes : {A : Type 0} → List (Result A Fault) → Type 0
AllOfBytes [] = ⊤
AllOfBytes (r ∷ rs) = OfBytes r × AllOfBytes rs

abbrev NoneOr : Option Fault → Type 0
NoneOr None = ⊤
NoneOr (Some e) = IsOfBytes e

none_or : (o : Option Fault) (e : Fault) → NoneOr o → o ≡ Some e → IsOfBytes e
none_or o e s h = subst NoneOr h s

parsed_sound : {A : Type 0} (f : Format A) → IsExact f → (x : List ℕ) (r : Result (A × List ℕ) Fault) → f.parse x ≡ r → OfBytes r
parsed_sound f exact x (Ok a) h = tt
parsed_sound f exact x (Err e) h = exact.of_bytes x e (exact.refused_sound x e h)

are_sound : {A : Type 0} (f : Format A) → IsExact f → (x : List ℕ) (rs : List (Result A Fault)) → AreItems f x rs → AllOfBytes rs
are_sound f exact x [] h = tt
are_sound f exact x (Ok a ∷ more) h = (tt, are_sound f exact h.1 more h.4)
are_sound {A} f exact x (Err e ∷ more) h = (exact.of_bytes x e h.1, subst (λ (rs : List (Result A Fault)). AllOfBytes rs) (sym h.2) tt)

items_sound : {A : Type 0} (f : Format A) → IsExact f → Eats f → (x : List ℕ) → AllOfBytes (items f x)
items_sound f exact eats x = are_sound f exact x (items f x) (items_are f exact eats x)

append_sound : {A : Type 0} (xs ys : List (Result A Fault)) → AllOfBytes xs → AllOfBytes ys → AllOfBytes (xs ++ ys)
append_sound [] ys hx hy = hy
append_sound (x ∷ xs) ys hx hy = (hx.0, append_sound xs ys hx.1 hy)

map_sound : {A B : Type 0} (g : Result A Fault → Result B Fault) (xs : List (Result A Fault)) → ((r : Result A Fault) → OfBytes r → OfBytes (g r)) → AllOfBytes xs → AllOfBytes (map g xs)
map_sound g [] h s = tt
map_sound g (x ∷ xs) h s = (h x s.0, map_sound g xs h s.1)

cons_sound : {A : Type 0} (b : Bool) (x : Result A Fault) (kept : List (Result A Fault)) → OfBytes x → AllOfBytes kept → AllOfBytes (if b then x ∷ kept else kept)
cons_sound true x kept h s = (h, s)
cons_sound false x kept h s = s

filter_sound : {A : Type 0} (test : Result A Fault → Bool) (xs : List (Result A Fault)) → AllOfBytes xs → AllOfBytes (filter test xs)
filter_sound test [] s = tt
filter_sound test (x ∷ xs) s = cons_sound (test x) x (filter test xs) s.0 (filter_sound test xs s.1)

result_sound : {A B : Type 0} (g : A → B) (r : Result A Fault) → OfBytes r → OfBytes (result_map g r)
result_sound g (Ok a) s = tt
result_sound g (Err e) s = s

first_sound : {A : Type 0} (xs : List (Result A Fault)) → AllOfBytes xs → NoneOr (first_fault xs)
first_sound [] s = tt
first_sound (Ok x ∷ xs) s = first_sound xs s.1
first_sound (Err e ∷ xs) s = s.0

-- ---- types, names and keys

bad_sound : (b : BadColumnType) → OfBytes (typed (Err b))
bad_sound (bad.Unknown e) = refl
bad_sound (bad.Unexpected n) = refl

type_sound : (r : Result (Option ColumnType) BadColumnType) → OfBytes (typed r)
type_sound (Ok None) = refl
type_sound (Ok (Some type)) = tt
type_sound (Err b) = bad_sound b

named_sound : (xs : List (Result (List ℕ) Fault)) (i : ℕ) → AllOfBytes xs → OfBytes (named xs i)
named_sound [] i s = tt
named_sound (x ∷ xs) zero s = result_sound Some x s.0
named_sound (x ∷ xs) (suc i) s = named_sound xs i s.1

unless_sound : {A : Type 0} (o : Option Fault) (x : A) → NoneOr o → OfBytes (unless o x)
unless_sound None x s = tt
unless_sound (Some e) x s = s

fault_if : (b : Bool) (o : Option Fault) → NoneOr o → NoneOr (if b then o else None)
fault_if true o s = s
fault_if false o s = tt

key_sound : (keys : List (Result ℕ Fault)) (i : ℕ) → AllOfBytes keys → OfBytes (key_in keys i)
unfolding key_in
key_sound keys i s = unless_sound _ _ (fault_if _ (first_fault keys) (first_sound keys s))

-- ---- character sets

listed_sound : (default : Option ℕ) (list : List (Result ℕ Fault)) (k : ℕ) → AllOfBytes list → OfBytes (listed default list k)
listed_sound default [] k s = tt
listed_sound default (Ok x ∷ xs) zero s = tt
listed_sound default (Err e ∷ xs) zero s = s.0
listed_sound default (Ok x ∷ xs) (suc k) s = listed_sound default xs k s.1
listed_sound default (Err e ∷ xs) (suc k) s = listed_sound default xs k s.1

after_sound : (fault : Option Fault) (default : Option ℕ) (list : List (Result ℕ Fault)) (k : ℕ) → NoneOr fault → AllOfBytes list → OfBytes (after fault default list k)
after_sound None default list k f s = listed_sound default list k s
after_sound (Some e) default list zero f s = f
after_sound (Some e) default list (suc k) f s = tt

or_sound : (o : Option ℕ) (r : Result (Option ℕ) Fault) → OfBytes r → OfBytes (or_else o r)
or_sound None r s = s
or_sound (Some x) r s = tt

zero_sound : (r : Result (Option ℕ) Fault) → OfBytes r → OfBytes (zero_without r)
zero_sound (Ok None) s = tt
zero_sound (Ok (Some x)) s = tt
zero_sound (Err e) s = s

pairs_sound : (d : Option DefaultCharset) → AllOfBytes (pairs_or d)
pairs_sound None = tt
pairs_sound (Some d) = items_sound (pair_with (low_bits 16)) (exact_pair_with (low_bits 16) (exact_low_bits 16)) (eats_pair_with (low_bits 16) (exact_low_bits 16)) d.pairs

above_sound : (low : ℕ) (default : Option ℕ) (pairs : List (Result (ℕ × ℕ) Fault)) (list : List (Result ℕ Fault)) (i : ℕ) → AllOfBytes pairs → AllOfBytes list → OfBytes (charset_above low default pairs list i)
above_sound low default pairs list i p l =
    let prefix = pairs_from low (before_fault pairs) in
    let later = after (first_fault pairs) default list (i - above_from low prefix) in
    let is_below = nat_lt i (above_from low prefix) in
    let sound = after_sound (first_fault pairs) default list (i - above_from low prefix) (first_sound pairs p) l in
    or_sound (pair_at i prefix) _ (cond_of_bytes (length prefix == length (before_fault pairs)) (if is_below then Ok default else later) (Ok default) (cond_of_bytes is_below (Ok default) later tt sound) tt)

charset_sound : (default : Option ℕ) (pairs : List (Result (ℕ × ℕ) Fault)) (list : List (Result ℕ Fault)) (k : ℕ) → AllOfBytes pairs → AllOfBytes list → OfBytes (charset_in default pairs list k)
unfolding charset_in
charset_sound default pairs list k p l = above_sound 0 default pairs list k p l

group_sound : (d : Option DefaultCharset) (list : Option (List ℕ)) (k : ℕ) → OfBytes (charset_of_group d list k)
group_sound d list k = zero_sound _ (charset_sound _ (pairs_or d) (items (low_bits 16) (list_or list)) k (pairs_sound d) (items_sound (low_bits 16) (exact_low_bits 16) (eats_low_bits 16) (list_or list)))

by_sound : (server : Server) (f g : ℕ → Result ℕ Fault) (type : ℕ → Result ColumnType Fault) (i : ℕ) → ((k : ℕ) → OfBytes (f k)) → ((k : ℕ) → OfBytes (g k)) → OfBytes (charset_by server f g type i)
by_sound server f g type i hf hg =
    let character = f (ordinal_of (character_group server) type i) in
    let enum = g (ordinal_of (enum_or_set_group server) type i) in
    let no_charset : Result ℕ Fault = Ok 0 in
    let is_enum = in_group (enum_or_set_group server) (type i) in
    cond_of_bytes (in_group (character_group server) (type i)) character (if is_enum then enum else no_charset) (hf _) (cond_of_bytes is_enum enum no_charset (hg _) tt)

-- ---- columns

keys_sound : (simple prefixed : List ℕ) → AllOfBytes (key_items (items lenenc simple) (items (pair_with lenenc) prefixed))
keys_sound simple prefixed =
    append_sound (items lenenc simple) _ (items_sound lenenc exact_lenenc eats_lenenc simple)
    (map_sound _ (items (pair_with lenenc) prefixed) (result_sound (λ k. k.0)) (items_sound (pair_with lenenc) (exact_pair_with lenenc exact_lenenc) (eats_pair_with lenenc exact_lenenc) prefixed))

column_sound : (t : TableMap) (i : ℕ) → OfBytes (column_at t i)
unfolding column_at
column_sound t i =
    let k = kept_of t in
    bind_of_bytes (type_at t i) _ (type_sound (column_type_at t.types t.metadata i)) (λ type.
    bind_of_bytes (charset_at t i) _ (by_sound t.server (charset_of_group k.default k.charsets) (charset_of_group k.enum_default k.enum_charsets) (type_at t) i (group_sound k.default k.charsets) (group_sound k.enum_default k.enum_charsets)) (λ charset.
    bind_of_bytes (name_at t i) _ (named_sound _ i (items_sound lenenc_string exact_lenenc_string eats_lenenc_string (list_or k.names))) (λ name.
    bind_of_bytes (key_at t i) _ (key_sound _ i (keys_sound (list_or k.simple) (list_or k.prefixed))) (λ is_key. tt))))

-- the fault of a column is one that bytes can have
pub column_fault_of_bytes : (t : TableMap) (i : ℕ) (e : Fault) → column_at t i ≡ Err e → IsOfBytes e
column_fault_of_bytes t i e h = fault_of_bytes (column_at t i) e (column_sound t i) h

-- a table has no column after its last one
pub no_column : (t : TableMap) (i : ℕ) → length t.types ≤ i → column_at t i ≡ Err NoColumnType
unfolding column_at
no_column t i past = rw (slice_get_past t.types i past) refl

-- ---- fields

whole_sound : {A : Type 0} (r : Result (A × List ℕ) Fault) → OfBytes r → OfBytes (whole r)
whole_sound (Ok (a, [])) s = tt
whole_sound (Ok (a, b ∷ left)) s = refl
whole_sound (Err e) s = s

bits_sound : (count : ℕ) (value : List ℕ) → OfBytes (bits_for count value)
bits_sound count value = whole_sound _ (parsed_sound _ (exact_bit_list MostSignificantFirst count) value _ refl)

default_parsed : (value : List ℕ) (r : Result (DefaultCharset × List ℕ) Fault) → default_charset.parse value ≡ r → OfBytes r
default_parsed value (Ok a) h = tt
default_parsed value (Err e) h = exact_default_charset.of_bytes value e (exact_default_charset.refused_sound value e h)

default_sound : (value : List ℕ) → OfBytes (default_charset_in value)
default_sound value = bind_of_bytes (default_charset.parse value) _ (default_parsed value _ refl) (λ r. tt)

value_sound : (n c : ℕ) (k : OptionalMetadataFieldType) (value : List ℕ) → OfBytes (value_of n c k value)
value_sound n c kind.SIGNEDNESS value = bind_of_bytes (bits_for n value) _ (bits_sound n value) (λ b. tt)
value_sound n c kind.DEFAULT_CHARSET value = bind_of_bytes (default_charset_in value) _ (default_sound value) (λ d. tt)
value_sound n c kind.COLUMN_CHARSET value = tt
value_sound n c kind.COLUMN_NAME value = tt
value_sound n c kind.SET_STR_VALUE value = tt
value_sound n c kind.ENUM_STR_VALUE value = tt
value_sound n c kind.GEOMETRY_TYPE value = tt
value_sound n c kind.SIMPLE_PRIMARY_KEY value = tt
value_sound n c kind.PRIMARY_KEY_WITH_PREFIX value = tt
value_sound n c kind.ENUM_AND_SET_DEFAULT_CHARSET value = bind_of_bytes (default_charset_in value) _ (default_sound value) (λ d. tt)
value_sound n c kind.ENUM_AND_SET_COLUMN_CHARSET value = tt
value_sound n c kind.COLUMN_VISIBILITY value = bind_of_bytes (bits_for c value) _ (bits_sound c value) (λ b. tt)
value_sound n c kind.VECTOR_DIMENSIONALITY value = tt

field_sound : (n c : ℕ) (raw : RawField) → OfBytes (field_of n c raw)
unfolding field_of
field_sound n c raw = bind_of_bytes (from_table optional_metadata_field_types UnknownOptionalField raw.kind) _ (table_of_bytes optional_metadata_field_types UnknownOptionalField raw.kind refl) (λ k. value_sound n c k raw.value)

-- the fault of a field is one that bytes can have
pub field_fault_of_bytes : (t : TableMap) (e : Fault) → field_fault t ≡ Some e → IsOfBytes e
field_fault_of_bytes t e h = none_or (field_fault t) e (first_sound _ (map_sound _ (filter is_item (items raw_field t.optional_metadata)) (λ r s. bind_of_bytes r _ s (λ raw. field_sound _ _ raw)) (filter_sound is_item (items raw_field t.optional_metadata) (items_sound raw_field exact_raw_field eats_raw_field t.optional_metadata)))) h
