-- What is told of the columns of a completed event.
use Rattle.std.proofs.Common.{◌≡◌, ℕ, zero, suc, Bool, true, false, ◌||◌, ◌&&◌, List, [], ◌∷◌, ◌++◌, map, length, Option, Some, None, Result, Ok, Err, refl, sym, ap, ◌∙◌, if◌then◌else◌, inl, inr}
use Rattle.std.specs.Prelude.{slice_get}
use Rattle.std.specs.List.{list_any, AllByRecursion}
use Rattle.std.specs.Option.{option_or}
use Rattle.std.proofs.lemmas.Bool.{cases_Bool, false≢true}
use Rattle.binlog_base.specs.declared.fault.Fault.{Fault}
use Rattle.binlog_base.specs.declared.below.columns.column_type.ColumnType.{ColumnType}
use Rattle.binlog_base.specs.declared.below.columns.server.Server.{Server}
use Rattle.binlog_base.specs.Items.{items, AreItems, before_fault}
use Rattle.binlog_base.specs.Lemmas.Items.{items_only, eats_lenenc_string}
use Rattle.binlog_base.specs.Lemmas.Strings.{exact_lenenc_string, lenenc_string_written}
use Rattle.binlog_base.specs.Strings.{lenenc_string, lenenc_string_bytes}
use Rattle.binlog_base.specs.Servers.{numeric_group, character_group}
use Rattle.binlog_table.specs.declared.table_map.optional.fields.OptionalMetadataField.{OptionalMetadataField}
use Rattle.binlog_table.specs.declared.table_map.optional.fields.OptionalMetadataField.TheVariants as field
use Rattle.binlog_table.specs.TableMap.{TableMap}
use Rattle.binlog_table.specs.Lists.{DefaultCharset}
use Rattle.binlog_table.specs.Fields.{fields, last_of, names_in, numeric_count}
use Rattle.binlog_table.specs.Extracted.{fields_of, kept_of, list_or}
use Rattle.binlog_table.specs.TableColumns.{name_at, named}
use Rattle.table_schema.specs.Schemas.{Column, Table}
use Rattle.table_schema.specs.declared.complete.Has.{Has}
use Rattle.table_schema.specs.Has.{is_fault, has_of, is_field_of, tells_names}
use Rattle.table_schema.specs.Fits.{fits}
use Rattle.table_schema.specs.Completed.{made, told_unless, told_values, told, signs_of, among, signs_value, charsets_value, names_value, values_value, key_value, is_set, is_enum, lacking, is_asked, types_of, completed_by, HeldColumn, IsCompletedBy}
use Rattle.table_schema.proofs.ReadBack.{fields_added}
use Rattle.table_schema.proofs.Told.{lacking_raw, raw_lacking, found_lacking}
use Rattle.table_schema.proofs.Fitting.{not_either, all_before, Fitting, fitting, reals_of, types_are, are_types, numbers_count, among_count}

-- ---- the fields of a completed event

pub length_map : {A B : Type 0} (f : A → B) (xs : List A) → length (map f xs) ≡ length xs
length_map f [] = refl
length_map f (x ∷ xs) = ap suc (length_map f xs)

pub completed_is : (s : Table) (t : TableMap) → is_asked t ≡ true → fits s t ≡ true → completed_by s t ≡ record t { optional_metadata = t.optional_metadata ++ lacking s t.server (has_of t) (types_of t) }
completed_is s t a f = ap (λ b. if b && fits s t then record t { optional_metadata = t.optional_metadata ++ lacking s t.server (has_of t) (types_of t) } else t) a
    ∙ ap (λ b. if b then record t { optional_metadata = t.optional_metadata ++ lacking s t.server (has_of t) (types_of t) } else t) f

numeric_are : (s : Table) (t : TableMap) (f : Fitting s t) → numeric_count t.server t.types ≡ length (signs_of (numeric_group t.server) (types_of t) s.columns)
numeric_are s t f =
    numbers_count t.server t.types (reals_of f.cols) (are_types s t f)
    ∙ sym (among_count (numeric_group t.server) (reals_of f.cols) s.columns (length_map (λ c. c.column_type) f.cols ∙ f.count))
    ∙ ap (λ ts. length (among (numeric_group t.server) ts s.columns)) (sym (types_are s t f))
    ∙ sym (length_map (λ c. c.unsigned) (among (numeric_group t.server) (types_of t) s.columns))

-- the fields of the event itself, which has no fault
pub whole : (t : TableMap) → is_asked t ≡ true → list_any is_fault (fields (fields_of t)) ≡ false
whole t h = (not_either (has_of t).names (has_of t).fault h).1

found_whole : (found : List (Result OptionalMetadataField Fault)) → list_any is_fault found ≡ false → found ≡ map Ok (before_fault found)
found_whole [] h = refl
found_whole (Ok f ∷ found) h = ap (λ l. Ok f ∷ l) (found_whole found h)
found_whole (Err e ∷ found) h = absurd (false≢true (sym h))

-- the fields before a fault: those of the event, and then those that it lacks
pub all_fields : (s : Table) (t : TableMap) → IsCompletedBy s t → before_fault (fields (fields_of (completed_by s t))) ≡ before_fault (fields (fields_of t)) ++ told s t.server (has_of t) (types_of t)
all_fields s t h =
    let f = fitting s t (whole t h.asked) h.fits in
    let old = fields (fields_of t) in
    let new = told s t.server (has_of t) (types_of t) in
    ap (λ x. before_fault (fields (fields_of x))) (completed_is s t h.asked h.fits)
    ∙ ap before_fault (fields_added (fields_of t) (lacking s t.server (has_of t) (types_of t)) (lacking_raw s t.server (has_of t) (types_of t)) (whole t h.asked) (raw_lacking s t.server (has_of t) (types_of t) h.fields))
    ∙ ap (λ l. before_fault (old ++ l)) (found_lacking (numeric_count t.server t.types) t.columns_count s t.server (has_of t) (types_of t) (numeric_are s t f))
    ∙ ap (λ l. before_fault (l ++ map Ok new)) (found_whole old (whole t h.asked))
    ∙ all_before (before_fault old) new

-- ---- the last field of a kind

or_assoc : {A : Type 0} (x y z : Option A) → option_or (option_or x y) z ≡ option_or x (option_or y z)
or_assoc None y z = refl
or_assoc (Some x) y z = refl

pub or_none : {A : Type 0} (x : Option A) → option_or x None ≡ x
or_none None = refl
or_none (Some x) = refl

module _ {A : Type 0} (of : OptionalMetadataField → Option A) where
  pub last_join : (xs ys : List OptionalMetadataField) → last_of of (xs ++ ys) ≡ option_or (last_of of ys) (last_of of xs)
  last_join [] ys = sym (or_none (last_of of ys))
  last_join (x ∷ xs) ys = ap (λ o. option_or o (of x)) (last_join xs ys) ∙ or_assoc (last_of of ys) (last_of of xs) (of x)

  pub skip_left : (xs ys : List OptionalMetadataField) → last_of of xs ≡ None → last_of of (xs ++ ys) ≡ last_of of ys
  skip_left xs ys h = last_join xs ys ∙ ap (option_or (last_of of ys)) h ∙ or_none (last_of of ys)

  pub skip_right : (xs ys : List OptionalMetadataField) → last_of of ys ≡ None → last_of of (xs ++ ys) ≡ last_of of xs
  skip_right xs ys h = last_join xs ys ∙ ap (λ o. option_or o (last_of of xs)) h

  pub none_join : (xs ys : List OptionalMetadataField) → last_of of xs ≡ None → last_of of ys ≡ None → last_of of (xs ++ ys) ≡ None
  none_join xs ys h k = skip_left xs ys h ∙ k

  pub none_made : (make : List ℕ → OptionalMetadataField) (v : List ℕ) → ((x : List ℕ) → of (make x) ≡ None) → last_of of (made make v) ≡ None
  none_made make [] h = refl
  none_made make (b ∷ bs) h = h (b ∷ bs)

  pub none_unless : (b : Bool) (xs : List OptionalMetadataField) → last_of of xs ≡ None → last_of of (told_unless b xs) ≡ None
  none_unless true xs h = refl
  none_unless false xs h = h

  -- the event has none
  pub event_none : (tells : OptionalMetadataField → Bool) → ((f : OptionalMetadataField) → tells f ≡ false → of f ≡ None) → (found : List (Result OptionalMetadataField Fault)) → list_any (is_field_of tells) found ≡ false → last_of of (before_fault found) ≡ None
  event_none tells no' [] h = refl
  event_none tells no' (Err e ∷ found) h = refl
  event_none tells no' (Ok f ∷ found) h = elim (cases_Bool (tells f)) [
    | inl y ↦ absurd (false≢true (sym (ap (λ b. b || list_any (is_field_of tells) found) (sym y) ∙ h)))
    | inr n ↦ ap (λ o. option_or o (of f)) (event_none tells no' found (ap (λ b. b || list_any (is_field_of tells) found) (sym n) ∙ h)) ∙ no' f n
  ]

-- ---- the parts of what is told

unfoldable pub signs_part : Table → Server → Has → List ColumnType → List OptionalMetadataField
signs_part s server has types = told_unless has.signs (made (λ _. field.Signedness (signs_of (numeric_group server) types s.columns)) (signs_value (numeric_group server) types s.columns))

unfoldable pub charsets_part : Table → Server → Has → List ColumnType → List OptionalMetadataField
charsets_part s server has types = told_unless has.charsets (made field.ColumnCharset (charsets_value (character_group server) types s.columns))

unfoldable pub names_part : Table → List OptionalMetadataField
names_part s = made field.ColumnName (names_value s.columns)

unfoldable pub values_part : Table → Has → List ColumnType → List OptionalMetadataField
values_part s has types = told_unless has.values (told_values s.columns types)

unfoldable pub key_part : Table → Has → List OptionalMetadataField
key_part s has = told_unless has.key (made field.PrimaryKeyWithPrefix (key_value s.key))

told_parts : (s : Table) (server : Server) (has : Has) (types : List ColumnType) → told s server has types ≡ signs_part s server has types ++ (charsets_part s server has types ++ (names_part s ++ (values_part s has types ++ key_part s has)))
unfolding signs_part charsets_part names_part values_part key_part
told_parts s server has types = refl

-- a kind of fields that some parts haven't got
module _ {A : Type 0} (of : OptionalMetadataField → Option A) (s : Table) (server : Server) (has : Has) (types : List ColumnType) where
  pub no_signs : ((x : List Bool) → of (field.Signedness x) ≡ None) → last_of of (signs_part s server has types) ≡ None
  unfolding signs_part
  no_signs h = none_unless of has.signs _ (none_made of (λ _. field.Signedness (signs_of (numeric_group server) types s.columns)) (signs_value (numeric_group server) types s.columns) (λ x. h _))

  pub no_charsets : ((x : List ℕ) → of (field.ColumnCharset x) ≡ None) → last_of of (charsets_part s server has types) ≡ None
  unfolding charsets_part
  no_charsets h = none_unless of has.charsets _ (none_made of field.ColumnCharset (charsets_value (character_group server) types s.columns) h)

  pub no_names : ((x : List ℕ) → of (field.ColumnName x) ≡ None) → last_of of (names_part s) ≡ None
  unfolding names_part
  no_names h = none_made of field.ColumnName (names_value s.columns) h

  pub no_values : ((x : List ℕ) → of (field.SetStrValue x) ≡ None) → ((x : List ℕ) → of (field.EnumStrValue x) ≡ None) → ((x : DefaultCharset) → of (field.EnumAndSetDefaultCharset x) ≡ None) → last_of of (values_part s has types) ≡ None
  unfolding values_part
  no_values h k l = none_unless of has.values _
      (none_join of (made field.SetStrValue (values_value is_set types s.columns)) _ (none_made of field.SetStrValue _ h)
      (none_join of (made field.EnumStrValue (values_value is_enum types s.columns)) _ (none_made of field.EnumStrValue _ k) (l _)))

  pub no_key : ((x : List ℕ) → of (field.PrimaryKeyWithPrefix x) ≡ None) → last_of of (key_part s has) ≡ None
  unfolding key_part
  no_key h = none_unless of has.key _ (none_made of field.PrimaryKeyWithPrefix (key_value s.key) h)

  -- each part alone has fields of the kind
  pub only_signs : last_of of (charsets_part s server has types) ≡ None → last_of of (names_part s) ≡ None → last_of of (values_part s has types) ≡ None → last_of of (key_part s has) ≡ None → last_of of (told s server has types) ≡ last_of of (signs_part s server has types)
  only_signs c n v k = ap (last_of of) (told_parts s server has types) ∙ skip_right of (signs_part s server has types) _ (none_join of (charsets_part s server has types) _ c (none_join of (names_part s) _ n (none_join of (values_part s has types) _ v k)))

  pub only_charsets : last_of of (signs_part s server has types) ≡ None → last_of of (names_part s) ≡ None → last_of of (values_part s has types) ≡ None → last_of of (key_part s has) ≡ None → last_of of (told s server has types) ≡ last_of of (charsets_part s server has types)
  only_charsets a n v k = ap (last_of of) (told_parts s server has types) ∙ skip_left of (signs_part s server has types) _ a ∙ skip_right of (charsets_part s server has types) _ (none_join of (names_part s) _ n (none_join of (values_part s has types) _ v k))

  pub only_names : last_of of (signs_part s server has types) ≡ None → last_of of (charsets_part s server has types) ≡ None → last_of of (values_part s has types) ≡ None → last_of of (key_part s has) ≡ None → last_of of (told s server has types) ≡ last_of of (names_part s)
  only_names a c v k = ap (last_of of) (told_parts s server has types) ∙ skip_left of (signs_part s server has types) _ a ∙ skip_left of (charsets_part s server has types) _ c ∙ skip_right of (names_part s) _ (none_join of (values_part s has types) _ v k)

  pub only_values : last_of of (signs_part s server has types) ≡ None → last_of of (charsets_part s server has types) ≡ None → last_of of (names_part s) ≡ None → last_of of (key_part s has) ≡ None → last_of of (told s server has types) ≡ last_of of (values_part s has types)
  only_values a c n k = ap (last_of of) (told_parts s server has types) ∙ skip_left of (signs_part s server has types) _ a ∙ skip_left of (charsets_part s server has types) _ c ∙ skip_left of (names_part s) _ n ∙ skip_right of (values_part s has types) _ k

-- the last field of a kind, of a completed event
pub kept_by : {A : Type 0} (of : OptionalMetadataField → Option A) (s : Table) (t : TableMap) → IsCompletedBy s t → last_of of (before_fault (fields (fields_of (completed_by s t)))) ≡ option_or (last_of of (told s t.server (has_of t) (types_of t))) (last_of of (before_fault (fields (fields_of t))))
kept_by of s t h = ap (last_of of) (all_fields s t h) ∙ last_join of (before_fault (fields (fields_of t))) (told s t.server (has_of t) (types_of t))

-- ---- names

names_no : (f : OptionalMetadataField) → tells_names f ≡ false → names_in f ≡ None
names_no (field.ColumnName x) h = absurd (false≢true (sym h))
names_no _ h = refl

made_names : (v : List ℕ) → list_or (last_of names_in (made field.ColumnName v)) ≡ v
made_names [] = refl
made_names (b ∷ bs) = refl

names_told : (s : Table) (server : Server) (has : Has) (types : List ColumnType) → list_or (last_of names_in (told s server has types)) ≡ names_value s.columns
unfolding names_part
names_told s server has types =
    ap list_or (only_names names_in s server has types (no_signs names_in s server has types (λ x. refl)) (no_charsets names_in s server has types (λ x. refl)) (no_values names_in s server has types (λ x. refl) (λ x. refl) (λ x. refl)) (no_key names_in s server has types (λ x. refl)))
    ∙ made_names (names_value s.columns)

names_kept : (s : Table) (t : TableMap) → IsCompletedBy s t → list_or (kept_of (completed_by s t)).names ≡ names_value s.columns
names_kept s t h =
    ap list_or (kept_by names_in s t h
    ∙ ap (option_or (last_of names_in (told s t.server (has_of t) (types_of t)))) (event_none names_in tells_names names_no (fields (fields_of t)) (not_either (has_of t).names (has_of t).fault h.asked).0)
    ∙ or_none (last_of names_in (told s t.server (has_of t) (types_of t))))
    ∙ names_told s t.server (has_of t) (types_of t)

are_names : (cs : List Column) → AllByRecursion HeldColumn cs → AreItems lenenc_string (names_value cs) (map (λ c. Ok c.name) cs)
are_names [] h = refl
are_names (c ∷ cs) h = (lenenc_string_bytes c.name, names_value cs, refl, lenenc_string_written c.name h.0.name, are_names cs h.1)

named_at : (cs : List Column) (i : ℕ) (c : Column) → slice_get cs i ≡ Some c → named (map (λ c. Ok c.name) cs) i ≡ Ok (Some c.name)
named_at [] i c h = absurd cc
named_at (x ∷ cs) zero c h = cc
named_at (x ∷ cs) (suc i) c h = named_at cs i c h

pub name_known : (s : Table) (t : TableMap) (i : ℕ) (c : Column) → IsCompletedBy s t → slice_get s.columns i ≡ Some c → name_at (completed_by s t) i ≡ Ok (Some c.name)
name_known s t i c h at =
    ap (λ v. named (items lenenc_string v) i) (names_kept s t h)
    ∙ ap (λ l. named l i) (sym (items_only lenenc_string exact_lenenc_string eats_lenenc_string (names_value s.columns) (map (λ c. Ok c.name) s.columns) (are_names s.columns h.columns)))
    ∙ named_at s.columns i c at
