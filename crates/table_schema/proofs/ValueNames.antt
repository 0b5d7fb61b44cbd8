-- The names of the values of the ENUM and SET columns of a completed event.
use Rattle.std.proofs.Common.{◌≡◌, ℕ, zero, suc, ◌+◌, ◌<◌, ◌^◌, Bool, true, false, List, [], ◌∷◌, ◌++◌, map, length, take, Option, Some, None, Result, Ok, refl, sym, ap, subst, ◌∙◌, arith, append-nil}
use Rattle.std.specs.Prelude.{slice_get, count_by}
use Rattle.std.specs.List.{flat_map, AllByRecursion}
use Rattle.std.specs.Option.{option_or}
use Rattle.std.proofs.lemmas.Bool.{false≢true}
use Rattle.binlog_base.specs.declared.fault.Fault.{Fault}
use Rattle.binlog_base.specs.declared.below.columns.column_type.ColumnType.{ColumnType}
use Rattle.binlog_base.specs.declared.below.columns.server.Server.{Server}
use Rattle.binlog_base.specs.Items.{items, AreItems, before_fault}
use Rattle.binlog_base.specs.Lemmas.Items.{items_only}
use Rattle.binlog_base.specs.Lemmas.Strings.{lenenc_string_written}
use Rattle.binlog_base.specs.Lemmas.NumbersWritten.{lenenc_written}
use Rattle.binlog_base.specs.Numbers.{lenenc_bytes}
use Rattle.binlog_base.specs.Strings.{lenenc_string, lenenc_string_bytes}
use Rattle.binlog_table.specs.declared.table_map.optional.fields.OptionalMetadataField.{OptionalMetadataField}
use Rattle.binlog_table.specs.declared.table_map.optional.fields.OptionalMetadataField.TheVariants as field
use Rattle.binlog_table.specs.TableMap.{TableMap}
use Rattle.binlog_table.specs.Fields.{fields, last_of}
use Rattle.binlog_table.specs.Extracted.{fields_of, list_or}
use Rattle.binlog_table.specs.TableColumns.{type_at}
use Rattle.table_schema.specs.Schemas.{Column, Table}
use Rattle.table_schema.specs.declared.complete.Has.{Has}
use Rattle.table_schema.specs.Has.{has_of, tells_values}
use Rattle.table_schema.specs.Completed.{made, told_unless, told_values, told, among, values_value, values_bytes, is_set, is_enum, types_of, completed_by, HeldColumn, IsCompletedBy}
use Rattle.table_schema.proofs.Fitting.{fitting, types_are, among_at}
use Rattle.table_schema.proofs.CompletedColumns.{whole, skip_left, skip_right, none_join, none_made, event_none, or_none, values_part, no_signs, no_charsets, no_names, no_key, only_values, kept_by}
use Rattle.table_schema.specs.Completed.{sets_in, enums_in, values_in}
use Rattle.table_schema.proofs.Signs.{real_of}
use Rattle.table_schema.proofs.CharacterSets.{among_held}
use Rattle.binlog_base.specs.Items.{times}
use Rattle.binlog_table.specs.Variants.{variants}
use Rattle.binlog_table.specs.Lemmas.Variants.{exact_variants, eats_variants}
use Rattle.std.proofs.Common.{append_assoc}

-- ---- names, one after another

times_more : (n : ℕ) (x y : List ℕ) (xs : List (List ℕ)) (v : List ℕ) → (times n lenenc_string).spells x xs → lenenc_string.spells y v → (times (suc n) lenenc_string).spells (x ++ y) (xs ++ v ∷ [])
times_more n x y xs v h k = (xs, x, y, refl, h, (v, y, [], sym (append-nil y), k, (refl, refl)))

times_all : (vs : List (List ℕ)) (n k : ℕ) (x : List ℕ) (xs : List (List ℕ)) → k ≡ n + length vs → AllByRecursion (λ v. length v < 256 ^ 8) vs → (times n lenenc_string).spells x xs → (times k lenenc_string).spells (x ++ flat_map lenenc_string_bytes vs) (xs ++ vs)
times_all [] n k x xs e held h =
    let m : n ≡ k = omega (arith, e) in
    subst (λ ys. (times k lenenc_string).spells (x ++ []) ys) (sym (append-nil xs)) (subst (λ z. (times k lenenc_string).spells z xs) (sym (append-nil x)) (subst (λ j. (times j lenenc_string).spells x xs) m h))
times_all (v ∷ vs) n k x xs e held h =
    let more = times_all vs (suc n) k (x ++ lenenc_string_bytes v) (xs ++ v ∷ []) (omega (arith, e)) held.1 (times_more n x (lenenc_string_bytes v) xs v h (lenenc_string_written v held.0)) in
    subst (λ ys. (times k lenenc_string).spells (x ++ flat_map lenenc_string_bytes (v ∷ vs)) ys) (append_assoc xs (v ∷ []) vs)
    (subst (λ z. (times k lenenc_string).spells z ((xs ++ v ∷ []) ++ vs)) (append_assoc x (lenenc_string_bytes v) (flat_map lenenc_string_bytes vs)) more)

values_spelled : (c : Column) → HeldColumn c → variants.spells (values_bytes c) c.values
unfolding variants
values_spelled c h = (length c.values, lenenc_bytes (length c.values), flat_map lenenc_string_bytes c.values, refl, lenenc_written (length c.values) h.count, times_all c.values 0 (length c.values) [] [] (omega arith) h.values (refl, refl))

are_values : (cs : List Column) → AllByRecursion HeldColumn cs → AreItems variants (flat_map values_bytes cs) (map (λ c. Ok c.values) cs)
are_values [] h = refl
are_values (c ∷ cs) h = (values_bytes c, flat_map values_bytes cs, refl, values_spelled c h.0, are_values cs h.1)

values_at : (cs : List Column) (k : ℕ) (c : Column) → slice_get cs k ≡ Some c → slice_get {X = Result (List (List ℕ)) Fault} (map (λ c. Ok c.values) cs) k ≡ Some (Ok c.values)
values_at [] k c h = absurd cc
values_at (x ∷ cs) zero c h = cc
values_at (x ∷ cs) (suc k) c h = values_at cs k c h

-- ---- the fields

sets_no : (f : OptionalMetadataField) → tells_values f ≡ false → sets_in f ≡ None
sets_no (field.SetStrValue x) h = absurd (false≢true (sym h))
sets_no _ h = refl

enums_no : (f : OptionalMetadataField) → tells_values f ≡ false → enums_in f ≡ None
enums_no (field.EnumStrValue x) h = absurd (false≢true (sym h))
enums_no _ h = refl

made_sets : (v : List ℕ) → list_or (last_of sets_in (made field.SetStrValue v)) ≡ v
made_sets [] = refl
made_sets (b ∷ bs) = refl

made_enums : (v : List ℕ) → list_or (last_of enums_in (made field.EnumStrValue v)) ≡ v
made_enums [] = refl
made_enums (b ∷ bs) = refl

told_sets : (s : Table) (server : Server) (has : Has) (types : List ColumnType) → has.values ≡ false → list_or (last_of sets_in (told s server has types)) ≡ values_value is_set types s.columns
unfolding values_part
told_sets s server has types h =
    ap list_or (only_values sets_in s server has types (no_signs sets_in s server has types (λ x. refl)) (no_charsets sets_in s server has types (λ x. refl)) (no_names sets_in s server has types (λ x. refl)) (no_key sets_in s server has types (λ x. refl))
    ∙ ap (λ b. last_of sets_in (told_unless b (told_values s.columns types))) h
    ∙ skip_right sets_in (made field.SetStrValue (values_value is_set types s.columns)) _ (none_join sets_in (made field.EnumStrValue (values_value is_enum types s.columns)) _ (none_made sets_in field.EnumStrValue (values_value is_enum types s.columns) (λ x. refl)) refl))
    ∙ made_sets (values_value is_set types s.columns)

told_enums : (s : Table) (server : Server) (has : Has) (types : List ColumnType) → has.values ≡ false → list_or (last_of enums_in (told s server has types)) ≡ values_value is_enum types s.columns
unfolding values_part
told_enums s server has types h =
    ap list_or (only_values enums_in s server has types (no_signs enums_in s server has types (λ x. refl)) (no_charsets enums_in s server has types (λ x. refl)) (no_names enums_in s server has types (λ x. refl)) (no_key enums_in s server has types (λ x. refl))
    ∙ ap (λ b. last_of enums_in (told_unless b (told_values s.columns types))) h
    ∙ skip_left enums_in (made field.SetStrValue (values_value is_set types s.columns)) _ (none_made enums_in field.SetStrValue (values_value is_set types s.columns) (λ x. refl))
    ∙ skip_right enums_in (made field.EnumStrValue (values_value is_enum types s.columns)) _ refl)
    ∙ made_enums (values_value is_enum types s.columns)

kept_values : (of : OptionalMetadataField → Option (List ℕ)) (s : Table) (t : TableMap) → IsCompletedBy s t → ((f : OptionalMetadataField) → tells_values f ≡ false → of f ≡ None) → (has_of t).values ≡ false → last_of of (before_fault (fields (fields_of (completed_by s t)))) ≡ last_of of (told s t.server (has_of t) (types_of t))
kept_values of s t h no' e = kept_by of s t h ∙ ap (option_or (last_of of (told s t.server (has_of t) (types_of t)))) (event_none of tells_values no' (fields (fields_of t)) e) ∙ or_none (last_of of (told s t.server (has_of t) (types_of t)))

-- the names of the columns of a type, from the field that has them
names_at : (is : ColumnType → Bool) (s : Table) (t : TableMap) (i : ℕ) (c : Column) (real : ColumnType) (bytes : List ℕ) → (h : IsCompletedBy s t) → slice_get s.columns i ≡ Some c → type_at t i ≡ Ok real → is real ≡ true → bytes ≡ values_value is (types_of t) s.columns → slice_get (items variants bytes) (count_by is (take i (types_of t))) ≡ Some (Ok c.values)
names_at is s t i c real bytes h at type yes' same =
    let f = fitting s t (whole t h.asked) h.fits in
    let cs = among is (types_of t) s.columns in
    let n = count_by is (take i (types_of t)) in
    ap (λ b. slice_get (items variants b) n) same
    ∙ ap (λ l. slice_get l n) (sym (items_only variants exact_variants eats_variants (values_value is (types_of t) s.columns) (map (λ x. Ok x.values) cs) (are_values cs (among_held is (types_of t) s.columns h.columns))))
    ∙ values_at cs n c (among_at is (types_of t) s.columns i real c (ap (λ ts. slice_get ts i) (types_are s t f) ∙ real_of s t f i c real at type) at yes')

pub sets_known : (s : Table) (t : TableMap) (i : ℕ) (c : Column) (real : ColumnType) → IsCompletedBy s t → (has_of t).values ≡ false → slice_get s.columns i ≡ Some c → type_at t i ≡ Ok real → is_set real ≡ true → slice_get (values_in sets_in (completed_by s t)) (count_by is_set (take i (types_of t))) ≡ Some (Ok c.values)
sets_known s t i c real h e at type yes' = names_at is_set s t i c real _ h at type yes' (ap list_or (kept_values sets_in s t h sets_no e) ∙ told_sets s t.server (has_of t) (types_of t) e)

pub enums_known : (s : Table) (t : TableMap) (i : ℕ) (c : Column) (real : ColumnType) → IsCompletedBy s t → (has_of t).values ≡ false → slice_get s.columns i ≡ Some c → type_at t i ≡ Ok real → is_enum real ≡ true → slice_get (values_in enums_in (completed_by s t)) (count_by is_enum (take i (types_of t))) ≡ Some (Ok c.values)
enums_known s t i c real h e at type yes' = names_at is_enum s t i c real _ h at type yes' (ap list_or (kept_values enums_in s t h enums_no e) ∙ told_enums s t.server (has_of t) (types_of t) e)
