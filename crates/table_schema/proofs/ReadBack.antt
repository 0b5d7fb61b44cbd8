-- What is written of a table is read back, field by field.
use Rattle.std.proofs.Common.{◌≡◌, ℕ, ◌<◌, ◌^◌, Bool, true, false, ◌||◌, List, [], ◌∷◌, ◌++◌, map, length, Result, Ok, Err, refl, sym, ap, subst, ◌∙◌, append_assoc, append-nil, inl, inr, if◌then◌else◌}
use Rattle.std.specs.Prelude.{filter}
use Rattle.std.specs.List.{list_any}
use Rattle.std.proofs.lemmas.Bool.{cases_Bool, false≢true}
use Rattle.binlog_base.specs.declared.fault.Fault.{Fault}
use Rattle.binlog_base.specs.Format.{Format, ◌>>=◌}
use Rattle.binlog_base.specs.Items.{items, AreItems}
use Rattle.binlog_base.specs.Strings.{lenenc_string_bytes}
use Rattle.binlog_base.specs.Lemmas.Items.{items_only, items_are}
use Rattle.binlog_base.specs.Lemmas.NumbersWritten.{byte_written}
use Rattle.binlog_base.specs.Lemmas.Strings.{lenenc_string_written}
use Rattle.binlog_table.specs.declared.table_map.optional.fields.OptionalMetadataField.{OptionalMetadataField}
use Rattle.binlog_table.specs.Lists.{RawField, raw_field, FieldsLeft}
use Rattle.binlog_table.specs.Lemmas.Lists.{exact_raw_field, eats_raw_field}
use Rattle.binlog_table.specs.Fields.{field_of, is_item, is_known_kind, fields}
use Rattle.table_schema.specs.Completed.{field_bytes, made}
use Rattle.table_schema.specs.Has.{is_fault}

-- items, and then others
pub items_join : {A : Type 0} (f : Format A) (x y : List ℕ) (xs : List A) (ys : List (Result A Fault)) → AreItems f x (map Ok xs) → AreItems f y ys → AreItems f (x ++ y) (map Ok xs ++ ys)
items_join f x y [] ys h k = subst (λ q. AreItems f (q ++ y) ys) (sym h) k
items_join f x y (a ∷ xs) ys h k = (h.0, h.1 ++ y, ap (λ q. q ++ y) h.2 ∙ append_assoc h.0 h.1 y, h.3, items_join f h.1 y xs ys h.4 k)

-- ---- fields before their values are read

-- these bytes are these fields
abbrev pub AreRaw : List ℕ → List RawField → Type 0
AreRaw bytes raws = AreItems raw_field bytes (map Ok raws)

raw_spelled : (kind : ℕ) (value : List ℕ) → kind < 256 → length value < 256 ^ 8 → raw_field.spells (kind ∷ lenenc_string_bytes value) (record { kind = kind; value = value })
unfolding raw_field
raw_spelled kind value k v = (
  kind,
  kind ∷ [],
  lenenc_string_bytes value,
  refl,
  byte_written kind k,
  (value, lenenc_string_bytes value, [], sym (append-nil (lenenc_string_bytes value)), lenenc_string_written value v, (refl, refl)),
)

abbrev pub raws_of : ℕ → List ℕ → List RawField
raws_of kind [] = []
raws_of kind (b ∷ bs) = record { kind = kind; value = b ∷ bs } ∷ []

pub raw_one : (kind : ℕ) (value : List ℕ) → kind < 256 → length value < 256 ^ 8 → AreRaw (field_bytes kind value) (raws_of kind value)
raw_one kind [] k v = refl
raw_one kind (b ∷ bs) k v = (kind ∷ lenenc_string_bytes (b ∷ bs), [], sym (append-nil (kind ∷ lenenc_string_bytes (b ∷ bs))), raw_spelled kind (b ∷ bs) k v, refl)

pub map_join : {A B : Type 0} (f : A → B) (xs ys : List A) → map f (xs ++ ys) ≡ map f xs ++ map f ys
map_join f [] ys = refl
map_join f (x ∷ xs) ys = ap (λ l. f x ∷ l) (map_join f xs ys)

pub raw_join : (x y : List ℕ) (xs ys : List RawField) → AreRaw x xs → AreRaw y ys → AreRaw (x ++ y) (xs ++ ys)
raw_join x y xs ys h k = subst (λ q. AreItems raw_field (x ++ y) q) (sym (map_join Ok xs ys)) (items_join raw_field x y xs (map Ok ys) h k)

-- ---- the fields of an event without a fault

abbrev read : ℕ → ℕ → Result RawField Fault → Result OptionalMetadataField Fault
read n c r = r >>= field_of n c

-- what is read of whole fields
abbrev pub found_of : ℕ → ℕ → List RawField → List (Result OptionalMetadataField Fault)
found_of n c raws = map (λ r. r >>= field_of n c) (filter is_item (map Ok raws))

-- the fields are whole
record AreWhole (rs : List (Result RawField Fault)) : Type 0 where
  raws : List RawField
  is : rs ≡ map Ok raws

whole_more : (raw : RawField) (rs : List (Result RawField Fault)) → AreWhole rs → AreWhole (Ok raw ∷ rs)
whole_more raw rs w = record { raws = raw ∷ w.raws; is = ap (λ l. Ok raw ∷ l) w.is }

or_left : (a b : Bool) → (a || b) ≡ false → a ≡ false
or_left false b h = refl
or_left true b h = h

or_right : (a b : Bool) → (a || b) ≡ false → b ≡ false
or_right false b h = h
or_right true b h = absurd (false≢true (sym h))

kept_right : (n c : ℕ) (t : Bool) (raw : RawField) (rs : List (Result RawField Fault)) → list_any is_fault (map (λ r. r >>= field_of n c) (if t then Ok raw ∷ rs else rs)) ≡ false → list_any is_fault (map (λ r. r >>= field_of n c) rs) ≡ false
kept_right n c true raw rs h = or_right (is_fault (field_of n c raw)) _ h
kept_right n c false raw rs h = h

are_whole : (n c : ℕ) (rs : List (Result RawField Fault)) → list_any is_fault (map (λ r. r >>= field_of n c) (filter is_item rs)) ≡ false → AreWhole rs
are_whole n c [] h = record { raws = []; is = refl }
are_whole n c (Ok raw ∷ rs) h = whole_more raw rs (are_whole n c rs (kept_right n c (is_known_kind raw.kind) raw (filter is_item rs) h))
are_whole n c (Err e ∷ rs) h = absurd (false≢true (sym h))

filter_join : {A : Type 0} (p : A → Bool) (xs ys : List A) → filter p (xs ++ ys) ≡ filter p xs ++ filter p ys
filter_join p [] ys = refl
filter_join p (x ∷ xs) ys = elim (cases_Bool (p x)) [
  | inl t ↦ rw t (ap (λ l. x ∷ l) (filter_join p xs ys))
  | inr f ↦ rw f (filter_join p xs ys)
]

-- ---- fields that are added

-- the fields of bytes without a fault, and then those that are added
pub fields_added : (f : FieldsLeft) (added : List ℕ) (raws : List RawField) → list_any is_fault (fields f) ≡ false → AreRaw added raws →
    fields (record f { left = record { bytes = f.left.bytes ++ added; taken = 0 } }) ≡ fields f ++ found_of f.numeric f.columns raws
fields_added f added raws h k =
    let old = items raw_field f.left.bytes in
    let w = are_whole f.numeric f.columns old h in
    let first : AreRaw f.left.bytes w.raws = subst (λ l. AreItems raw_field f.left.bytes l) w.is (items_are raw_field exact_raw_field eats_raw_field f.left.bytes) in
    let all : old ++ map Ok raws ≡ items raw_field (f.left.bytes ++ added) =
    ap (λ l. l ++ map Ok raws) w.is
    ∙ items_only raw_field exact_raw_field eats_raw_field (f.left.bytes ++ added) (map Ok w.raws ++ map Ok raws) (items_join raw_field f.left.bytes added w.raws (map Ok raws) first k) in
    ap (λ l. map (λ r. r >>= field_of f.numeric f.columns) (filter is_item l)) (sym all)
    ∙ ap (λ l. map (λ r. r >>= field_of f.numeric f.columns) l) (filter_join is_item old (map Ok raws))
    ∙ map_join (λ r. r >>= field_of f.numeric f.columns) (filter is_item old) (filter is_item (map Ok raws))

-- one after another
pub found_join : (n c : ℕ) (xs ys : List RawField) → found_of n c (xs ++ ys) ≡ found_of n c xs ++ found_of n c ys
found_join n c xs ys =
    ap (λ l. map (λ r. r >>= field_of n c) (filter is_item l)) (map_join Ok xs ys)
    ∙ ap (λ l. map (λ r. r >>= field_of n c) l) (filter_join is_item (map Ok xs) (map Ok ys))
    ∙ map_join (λ r. r >>= field_of n c) (filter is_item (map Ok xs)) (filter is_item (map Ok ys))

-- a field of a kind that is known, if its value is read
pub found_one : (n c kind : ℕ) (value : List ℕ) (make : List ℕ → OptionalMetadataField) → is_known_kind kind ≡ true → field_of n c (record { kind = kind; value = value }) ≡ Ok (make value) → found_of n c (raws_of kind value) ≡ map Ok (made make value)
found_one n c kind [] make known is = refl
found_one n c kind (b ∷ bs) make known is = rw known (ap (λ r. r ∷ []) is)
