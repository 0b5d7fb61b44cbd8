-- The fields that are added to an event are those that it lacks.
use Rattle.std.proofs.Common.{◌≡◌, ℕ, ◌<◌, ◌^◌, Bool, true, false, List, [], ◌∷◌, ◌++◌, map, length, Ok, refl, sym, ap, ◌∙◌, append-nil, arith}
use Rattle.binlog_base.specs.declared.below.columns.column_type.ColumnType.{ColumnType}
use Rattle.binlog_base.specs.declared.below.columns.server.Server.{Server}
use Rattle.binlog_base.specs.Format.{◌>>=◌}
use Rattle.binlog_base.specs.Numbers.{lenenc_bytes}
use Rattle.binlog_base.specs.Servers.{numeric_group, character_group}
use Rattle.binlog_base.specs.Lemmas.NumbersWritten.{lenenc_written}
use Rattle.binlog_table.specs.declared.table_map.optional.fields.OptionalMetadataField.{OptionalMetadataField}
use Rattle.binlog_table.specs.declared.table_map.optional.fields.OptionalMetadataField.TheVariants as field
use Rattle.binlog_table.specs.Lists.{RawField, default_charset, low_bits}
use Rattle.binlog_table.specs.Lemmas.Lists.{exact_default_charset}
use Rattle.binlog_table.specs.Fields.{field_of, is_known_kind, default_charset_in}
use Rattle.table_schema.specs.declared.complete.Has.{Has}
use Rattle.table_schema.specs.Schemas.{Column, Table}
use Rattle.table_schema.specs.Completed.{field_bytes, told_unless, told_values, told, signs_of, packed, signs_value, charsets_value, names_value, values_value, key_value, is_set, is_enum, unless, lacking_values, lacking, HeldFields}
use Rattle.table_schema.proofs.ReadBack.{AreRaw, raws_of, raw_one, raw_join, found_of, found_join, found_one, map_join}
use Rattle.table_schema.proofs.Unpacked.{bits_read}

-- ---- before their values are read

unless_raw : Bool → List RawField → List RawField
unless_raw true raws = []
unless_raw false raws = raws

values_raw : List Column → List ColumnType → List RawField
values_raw cs types = raws_of 5 (values_value is_set types cs) ++ (raws_of 6 (values_value is_enum types cs) ++ raws_of 10 (lenenc_bytes 45))

names_raw : Table → Has → List ColumnType → List RawField
names_raw s has types = raws_of 4 (names_value s.columns) ++ (unless_raw has.values (values_raw s.columns types) ++ unless_raw has.key (raws_of 9 (key_value s.key)))

pub lacking_raw : Table → Server → Has → List ColumnType → List RawField
lacking_raw s server has types =
    unless_raw has.signs (raws_of 1 (signs_value (numeric_group server) types s.columns))
    ++ (unless_raw has.charsets (raws_of 3 (charsets_value (character_group server) types s.columns))
    ++ names_raw s has types)

raw_unless : (b : Bool) (x : List ℕ) (xs : List RawField) → AreRaw x xs → AreRaw (unless b x) (unless_raw b xs)
unfolding unless_raw
raw_unless true x xs h = refl
raw_unless false x xs h = h

lenenc_short : length (lenenc_bytes 45) < 256 ^ 8
unfolding lenenc_bytes
lenenc_short = omega arith

raw_values : (cs : List Column) (types : List ColumnType) → length (values_value is_set types cs) < 256 ^ 8 → length (values_value is_enum types cs) < 256 ^ 8 → AreRaw (lacking_values cs types) (values_raw cs types)
unfolding values_raw
raw_values cs types sets enums =
    raw_join (field_bytes 5 (values_value is_set types cs)) _ _ _ (raw_one 5 (values_value is_set types cs) (omega arith) sets)
    (raw_join (field_bytes 6 (values_value is_enum types cs)) _ _ _ (raw_one 6 (values_value is_enum types cs) (omega arith) enums)
    (raw_one 10 (lenenc_bytes 45) (omega arith) lenenc_short))

pub raw_lacking : (s : Table) (server : Server) (has : Has) (types : List ColumnType) → HeldFields s server types → AreRaw (lacking s server has types) (lacking_raw s server has types)
unfolding lacking_raw names_raw
raw_lacking s server has types h =
    raw_join (unless has.signs (field_bytes 1 (signs_value (numeric_group server) types s.columns))) _ _ _ (raw_unless has.signs _ _ (raw_one 1 (signs_value (numeric_group server) types s.columns) (omega arith) h.signs))
    (raw_join (unless has.charsets (field_bytes 3 (charsets_value (character_group server) types s.columns))) _ _ _ (raw_unless has.charsets _ _ (raw_one 3 (charsets_value (character_group server) types s.columns) (omega arith) h.charsets))
    (raw_join (field_bytes 4 (names_value s.columns)) _ _ _ (raw_one 4 (names_value s.columns) (omega arith) h.names)
    (raw_join (unless has.values (lacking_values s.columns types)) _ _ _ (raw_unless has.values _ _ (raw_values s.columns types h.sets h.enums))
    (raw_unless has.key _ _ (raw_one 9 (key_value s.key) (omega arith) h.key)))))

-- ---- what is read of them

known : is_known_kind 1 ≡ true
unfolding is_known_kind
known = refl

known_3 : is_known_kind 3 ≡ true
unfolding is_known_kind
known_3 = refl

known_4 : is_known_kind 4 ≡ true
unfolding is_known_kind
known_4 = refl

known_5 : is_known_kind 5 ≡ true
unfolding is_known_kind
known_5 = refl

known_6 : is_known_kind 6 ≡ true
unfolding is_known_kind
known_6 = refl

known_9 : is_known_kind 9 ≡ true
unfolding is_known_kind
known_9 = refl

known_10 : is_known_kind 10 ≡ true
unfolding is_known_kind
known_10 = refl

signs_field : (n c : ℕ) (bits : List Bool) → n ≡ length bits → field_of n c (record { kind = 1; value = packed bits }) ≡ Ok (field.Signedness bits)
unfolding field_of
signs_field n c bits h = rw (h, bits_read bits) refl

charsets_field : (n c : ℕ) (v : List ℕ) → field_of n c (record { kind = 3; value = v }) ≡ Ok (field.ColumnCharset v)
unfolding field_of
charsets_field n c v = refl

names_field : (n c : ℕ) (v : List ℕ) → field_of n c (record { kind = 4; value = v }) ≡ Ok (field.ColumnName v)
unfolding field_of
names_field n c v = refl

sets_field : (n c : ℕ) (v : List ℕ) → field_of n c (record { kind = 5; value = v }) ≡ Ok (field.SetStrValue v)
unfolding field_of
sets_field n c v = refl

enums_field : (n c : ℕ) (v : List ℕ) → field_of n c (record { kind = 6; value = v }) ≡ Ok (field.EnumStrValue v)
unfolding field_of
enums_field n c v = refl

key_field : (n c : ℕ) (v : List ℕ) → field_of n c (record { kind = 9; value = v }) ≡ Ok (field.PrimaryKeyWithPrefix v)
unfolding field_of
key_field n c v = refl

default_spelled : default_charset.spells (lenenc_bytes 45) (record { default = 45; pairs = [] })
unfolding default_charset low_bits
default_spelled =
    (45, lenenc_bytes 45, [], sym (append-nil (lenenc_bytes 45)), (45, lenenc_bytes 45, [], sym (append-nil (lenenc_bytes 45)), lenenc_written 45 (omega arith), (refl, refl)), ([], [], [], refl, refl, (refl, refl)))

default_read : default_charset_in (lenenc_bytes 45) ≡ Ok (record { default = 45; pairs = [] })
default_read = ap (λ r. r >>= λ x. Ok x.0) (exact_default_charset.complete (lenenc_bytes 45) (record { default = 45; pairs = [] }) default_spelled)

default_field : (n c : ℕ) → field_of n c (record { kind = 10; value = lenenc_bytes 45 }) ≡ Ok (field.EnumAndSetDefaultCharset (record { default = 45; pairs = [] }))
unfolding field_of
default_field n c = ap (λ r. r >>= λ d. Ok (field.EnumAndSetDefaultCharset d)) default_read

default_found : (n c : ℕ) → found_of n c (raws_of 10 (lenenc_bytes 45)) ≡ Ok (field.EnumAndSetDefaultCharset (record { default = 45; pairs = [] })) ∷ []
unfolding lenenc_bytes
default_found n c = found_one n c 10 (lenenc_bytes 45) (λ v. field.EnumAndSetDefaultCharset (record { default = 45; pairs = [] })) known_10 (default_field n c)

found_unless : (n c : ℕ) (b : Bool) (raws : List RawField) (fs : List OptionalMetadataField) → found_of n c raws ≡ map Ok fs → found_of n c (unless_raw b raws) ≡ map Ok (told_unless b fs)
unfolding unless_raw
found_unless n c true raws fs h = refl
found_unless n c false raws fs h = h

both : (n c : ℕ) (xs ys : List RawField) (fs gs : List OptionalMetadataField) → found_of n c xs ≡ map Ok fs → found_of n c ys ≡ map Ok gs → found_of n c (xs ++ ys) ≡ map Ok (fs ++ gs)
both n c xs ys fs gs h k = found_join n c xs ys ∙ ap (λ l. l ++ found_of n c ys) h ∙ ap (λ l. map Ok fs ++ l) k ∙ sym (map_join Ok fs gs)

values_found : (n c : ℕ) (cs : List Column) (types : List ColumnType) → found_of n c (values_raw cs types) ≡ map Ok (told_values cs types)
unfolding values_raw
values_found n c cs types =
    both n c (raws_of 5 (values_value is_set types cs)) _ _ _ (found_one n c 5 (values_value is_set types cs) field.SetStrValue known_5 (sets_field n c _))
    (both n c (raws_of 6 (values_value is_enum types cs)) _ _ _ (found_one n c 6 (values_value is_enum types cs) field.EnumStrValue known_6 (enums_field n c _))
    (default_found n c))

pub found_lacking : (n c : ℕ) (s : Table) (server : Server) (has : Has) (types : List ColumnType) → n ≡ length (signs_of (numeric_group server) types s.columns) → found_of n c (lacking_raw s server has types) ≡ map Ok (told s server has types)
unfolding lacking_raw names_raw
found_lacking n c s server has types h =
    both n c (unless_raw has.signs (raws_of 1 (signs_value (numeric_group server) types s.columns))) _ _ _
    (found_unless n c has.signs _ _ (found_one n c 1 (signs_value (numeric_group server) types s.columns) (λ _. field.Signedness (signs_of (numeric_group server) types s.columns)) known (signs_field n c (signs_of (numeric_group server) types s.columns) h)))
    (both n c (unless_raw has.charsets (raws_of 3 (charsets_value (character_group server) types s.columns))) _ _ _
    (found_unless n c has.charsets _ _ (found_one n c 3 (charsets_value (character_group server) types s.columns) field.ColumnCharset known_3 (charsets_field n c _)))
    (both n c (raws_of 4 (names_value s.columns)) _ _ _ (found_one n c 4 (names_value s.columns) field.ColumnName known_4 (names_field n c _))
    (both n c (unless_raw has.values (values_raw s.columns types)) _ _ _ (found_unless n c has.values _ _ (values_found n c s.columns types))
    (found_unless n c has.key _ _ (found_one n c 9 (key_value s.key) field.PrimaryKeyWithPrefix known_9 (key_field n c _))))))
