-- The character sets of the columns of a completed event.
use Rattle.std.proofs.Common.{◌≡◌, ℕ, zero, suc, ◌+◌, ◌-◌, Bool, true, false, List, [], ◌∷◌, map, take, Option, Some, None, Result, Ok, refl, sym, ap, ◌∙◌, arith, append-nil, if◌then◌else◌, inl, inr}
use Rattle.std.specs.Prelude.{slice_get, count_by, nat_lt}
use Rattle.std.specs.List.{list_any, flat_map, AllByRecursion}
use Rattle.std.specs.Option.{option_or}
use Rattle.std.proofs.lemmas.Bool.{cases_Bool, false≢true}
use Rattle.std.proofs.Math.Nat.{mod-eq_of_lt}
use Rattle.binlog_base.specs.declared.fault.Fault.{Fault}
use Rattle.binlog_base.specs.declared.below.columns.column_type.ColumnType.{ColumnType}
use Rattle.binlog_base.specs.declared.below.columns.server.Server.{Server}
use Rattle.binlog_base.specs.Items.{items, AreItems, before_fault}
use Rattle.binlog_base.specs.Lemmas.Items.{items_only}
use Rattle.binlog_base.specs.Lemmas.NumbersWritten.{lenenc_written}
use Rattle.binlog_base.specs.Numbers.{lenenc_bytes}
use Rattle.binlog_base.specs.Servers.{character_group, enum_or_set_group}
use Rattle.binlog_table.specs.declared.table_map.optional.fields.OptionalMetadataField.{OptionalMetadataField}
use Rattle.binlog_table.specs.declared.table_map.optional.fields.OptionalMetadataField.TheVariants as field
use Rattle.binlog_table.specs.TableMap.{TableMap}
use Rattle.binlog_table.specs.Lists.{low_bits}
use Rattle.binlog_table.specs.Lemmas.Lists.{exact_low_bits, eats_low_bits}
use Rattle.binlog_table.specs.Fields.{fields, last_of, default_in, charsets_in, enum_default_in, enum_charsets_in, in_group}
use Rattle.binlog_table.specs.Extracted.{fields_of, kept_of, list_or}
use Rattle.binlog_table.specs.Charsets.{charset_at as charset_in_group, listed, zero_without}
use Rattle.binlog_table.specs.TableColumns.{charset_at, type_at, charset_by, charset_of_group, ordinal_of, one_more}
use Rattle.table_schema.specs.Schemas.{Column, Table}
use Rattle.table_schema.specs.declared.complete.Has.{Has}
use Rattle.table_schema.specs.Has.{has_of, is_field_of, tells_charsets, tells_values}
use Rattle.table_schema.specs.Completed.{made, told_unless, told_values, told, among, charsets_value, values_value, is_set, is_enum, types_of, completed_by, HeldColumn, IsCompletedBy, charset_told}
use Rattle.table_schema.proofs.Fitting.{fitting, reals_of, types_are, type_is, among_at, counted}
use Rattle.table_schema.proofs.CompletedColumns.{completed_is, whole, skip_left, none_made, event_none, or_none, charsets_part, values_part, no_signs, no_charsets, no_names, no_values, no_key, only_charsets, only_values, kept_by}
use Rattle.table_schema.proofs.Signs.{real_of}
use Rattle.std.proofs.lemmas.Bool.{le-ltb}
use Rattle.binlog_base.specs.Lemmas.Items.{items_end}

-- ---- places in a group

place_step : (b : Bool) (n m : ℕ) → n ≡ m → one_more b n ≡ (if b then 1 else 0) + m
place_step true n m h = omega (arith, h)
place_step false n m h = omega (arith, h)

ordinal_is : (group : ColumnType → Bool) (type : ℕ → Result ColumnType Fault) (reals : List ColumnType) (i : ℕ) (real : ColumnType) → ((j : ℕ) (x : ColumnType) → slice_get reals j ≡ Some x → type j ≡ Ok x) → slice_get reals i ≡ Some real → ordinal_of group type i ≡ count_by group (take i reals)
ordinal_is group type reals zero real h at = refl
ordinal_is group type [] (suc i) real h at = absurd cc
ordinal_is group type (r ∷ reals) (suc i) real h at =
    ap (λ x. one_more (in_group group x) (ordinal_of group (λ k. type (suc k)) i)) (h 0 r refl)
    ∙ place_step (group r) _ _ (ordinal_is group (λ k. type (suc k)) reals i real (λ j x e. h (suc j) x e) at)
    ∙ sym (counted group r (take i reals))

-- ---- lists of character sets

by_list : (default : Option ℕ) (xs : List (Result ℕ Fault)) (k : ℕ) → charset_in_group default [] xs k ≡ listed default xs k
unfolding charset_in_group
by_list default xs k =
    let e : nat_lt k 0 ≡ false = le-ltb k 0 (omega arith) in
    let d : k - 0 ≡ k = omega arith in
    ap (λ b. if b then Ok default else listed default xs (k - 0)) e ∙ ap (listed default xs) d

charset_spelled : (c : Column) → HeldColumn c → (low_bits 16).spells (lenenc_bytes c.charset) c.charset
unfolding low_bits
charset_spelled c h = (c.charset, lenenc_bytes c.charset, [], sym (append-nil (lenenc_bytes c.charset)), lenenc_written c.charset (omega (arith, h.charset)), (refl, sym (mod-eq_of_lt h.charset)))

are_charsets : (cs : List Column) → AllByRecursion HeldColumn cs → AreItems (low_bits 16) (flat_map (λ c. lenenc_bytes c.charset) cs) (map (λ c. Ok c.charset) cs)
are_charsets [] h = refl
are_charsets (c ∷ cs) h = (lenenc_bytes c.charset, flat_map (λ x. lenenc_bytes x.charset) cs, refl, charset_spelled c h.0, are_charsets cs h.1)

some_held : (b : Bool) (c : Column) (cs : List Column) → HeldColumn c → AllByRecursion HeldColumn cs → AllByRecursion HeldColumn (if b then c ∷ cs else cs)
some_held true c cs h k = (h, k)
some_held false c cs h k = k

pub among_held : (is : ColumnType → Bool) (ts : List ColumnType) (cs : List Column) → AllByRecursion HeldColumn cs → AllByRecursion HeldColumn (among is ts cs)
among_held is [] cs h = tt
among_held is (t ∷ ts) [] h = tt
among_held is (t ∷ ts) (c ∷ cs) h = some_held (is t) c (among is ts cs) h.0 (among_held is ts cs h.1)

listed_at : (cs : List Column) (k : ℕ) (c : Column) → slice_get cs k ≡ Some c → listed None (map (λ c. Ok c.charset) cs) k ≡ Ok (Some c.charset)
listed_at [] k c h = absurd cc
listed_at (x ∷ cs) zero c h = cc
listed_at (x ∷ cs) (suc k) c h = listed_at cs k c h

-- ---- the fields

charsets_no : (f : OptionalMetadataField) → tells_charsets f ≡ false → charsets_in f ≡ None
charsets_no (field.ColumnCharset x) h = absurd (false≢true (sym h))
charsets_no _ h = refl

default_no : (f : OptionalMetadataField) → tells_charsets f ≡ false → default_in f ≡ None
default_no (field.DefaultCharset x) h = absurd (false≢true (sym h))
default_no _ h = refl

enum_default_no : (f : OptionalMetadataField) → tells_values f ≡ false → enum_default_in f ≡ None
enum_default_no (field.EnumAndSetDefaultCharset x) h = absurd (false≢true (sym h))
enum_default_no _ h = refl

enum_charsets_no : (f : OptionalMetadataField) → tells_values f ≡ false → enum_charsets_in f ≡ None
enum_charsets_no (field.EnumAndSetColumnCharset x) h = absurd (false≢true (sym h))
enum_charsets_no _ h = refl

made_charsets : (v : List ℕ) → list_or (last_of charsets_in (made field.ColumnCharset v)) ≡ v
made_charsets [] = refl
made_charsets (b ∷ bs) = refl

module _ (s : Table) (server : Server) (has : Has) (types : List ColumnType) where
  told_charsets : last_of charsets_in (told s server has types) ≡ last_of charsets_in (charsets_part s server has types)
  told_charsets = only_charsets charsets_in s server has types (no_signs charsets_in s server has types (λ x. refl)) (no_names charsets_in s server has types (λ x. refl)) (no_values charsets_in s server has types (λ x. refl) (λ x. refl) (λ x. refl)) (no_key charsets_in s server has types (λ x. refl))

  told_default : last_of default_in (told s server has types) ≡ None
  told_default = only_charsets default_in s server has types (no_signs default_in s server has types (λ x. refl)) (no_names default_in s server has types (λ x. refl)) (no_values default_in s server has types (λ x. refl) (λ x. refl) (λ x. refl)) (no_key default_in s server has types (λ x. refl)) ∙ no_charsets default_in s server has types (λ x. refl)

  told_enum_charsets : last_of enum_charsets_in (told s server has types) ≡ None
  told_enum_charsets = only_charsets enum_charsets_in s server has types (no_signs enum_charsets_in s server has types (λ x. refl)) (no_names enum_charsets_in s server has types (λ x. refl)) (no_values enum_charsets_in s server has types (λ x. refl) (λ x. refl) (λ x. refl)) (no_key enum_charsets_in s server has types (λ x. refl)) ∙ no_charsets enum_charsets_in s server has types (λ x. refl)

  told_enum_default : last_of enum_default_in (told s server has types) ≡ last_of enum_default_in (values_part s has types)
  told_enum_default = only_values enum_default_in s server has types (no_signs enum_default_in s server has types (λ x. refl)) (no_charsets enum_default_in s server has types (λ x. refl)) (no_names enum_default_in s server has types (λ x. refl)) (no_key enum_default_in s server has types (λ x. refl))

  part_charsets_left : has.charsets ≡ true → last_of charsets_in (charsets_part s server has types) ≡ None
  unfolding charsets_part
  part_charsets_left h = ap (λ b. last_of charsets_in (told_unless b (made field.ColumnCharset (charsets_value (character_group server) types s.columns)))) h

  part_charsets : has.charsets ≡ false → list_or (last_of charsets_in (charsets_part s server has types)) ≡ charsets_value (character_group server) types s.columns
  unfolding charsets_part
  part_charsets h = ap (λ b. list_or (last_of charsets_in (told_unless b (made field.ColumnCharset (charsets_value (character_group server) types s.columns))))) h ∙ made_charsets (charsets_value (character_group server) types s.columns)

  part_default_left : has.values ≡ true → last_of enum_default_in (values_part s has types) ≡ None
  unfolding values_part
  part_default_left h = ap (λ b. last_of enum_default_in (told_unless b (told_values s.columns types))) h

  part_default : has.values ≡ false → last_of enum_default_in (values_part s has types) ≡ Some (record { default = 45; pairs = [] })
  unfolding values_part
  part_default h =
      ap (λ b. last_of enum_default_in (told_unless b (told_values s.columns types))) h
      ∙ skip_left enum_default_in (made field.SetStrValue (values_value is_set types s.columns)) _ (none_made enum_default_in field.SetStrValue (values_value is_set types s.columns) (λ x. refl))
      ∙ skip_left enum_default_in (made field.EnumStrValue (values_value is_enum types s.columns)) _ (none_made enum_default_in field.EnumStrValue (values_value is_enum types s.columns) (λ x. refl))

-- a field of a kind that isn't told stays as the event has it
kept_old : {A : Type 0} (of : OptionalMetadataField → Option A) (s : Table) (t : TableMap) → IsCompletedBy s t → last_of of (told s t.server (has_of t) (types_of t)) ≡ None → last_of of (before_fault (fields (fields_of (completed_by s t)))) ≡ last_of of (before_fault (fields (fields_of t)))
kept_old of s t h e = kept_by of s t h ∙ ap (λ o. option_or o (last_of of (before_fault (fields (fields_of t))))) e

-- a field of a kind that the event hasn't got is what is told
kept_new : {A : Type 0} (of : OptionalMetadataField → Option A) (tells : OptionalMetadataField → Bool) (s : Table) (t : TableMap) → IsCompletedBy s t → ((f : OptionalMetadataField) → tells f ≡ false → of f ≡ None) → list_any (is_field_of tells) (fields (fields_of t)) ≡ false → last_of of (before_fault (fields (fields_of (completed_by s t)))) ≡ last_of of (told s t.server (has_of t) (types_of t))
kept_new of tells s t h no' e = kept_by of s t h ∙ ap (option_or (last_of of (told s t.server (has_of t) (types_of t)))) (event_none of tells no' (fields (fields_of t)) e) ∙ or_none (last_of of (told s t.server (has_of t) (types_of t)))

-- ---- a column

-- the character sets of the columns of characters
characters_known : (s : Table) (t : TableMap) (k : ℕ) (c : Column) → IsCompletedBy s t → (has_of t).charsets ≡ false → slice_get (among (character_group t.server) (types_of t) s.columns) k ≡ Some c → charset_of_group (kept_of (completed_by s t)).default (kept_of (completed_by s t)).charsets k ≡ Ok c.charset
characters_known s t k c h e at =
    let server = t.server in
    let has = has_of t in
    let types = types_of t in
    let cs = among (character_group server) types s.columns in
    ap (λ d. charset_of_group d (kept_of (completed_by s t)).charsets k) (kept_new default_in tells_charsets s t h default_no e ∙ told_default s server has types)
    ∙ ap (λ l. zero_without (charset_in_group None [] (items (low_bits 16) l) k)) (ap list_or (kept_new charsets_in tells_charsets s t h charsets_no e ∙ told_charsets s server has types) ∙ part_charsets s server has types e)
    ∙ ap (λ l. zero_without (charset_in_group None [] l k)) (sym (items_only (low_bits 16) (exact_low_bits 16) (eats_low_bits 16) (flat_map (λ x. lenenc_bytes x.charset) cs) (map (λ x. Ok x.charset) cs) (are_charsets cs (among_held (character_group server) types s.columns h.columns))))
    ∙ ap zero_without (by_list None (map (λ x. Ok x.charset) cs) k ∙ listed_at cs k c at)

characters_left : (s : Table) (t : TableMap) (k : ℕ) → IsCompletedBy s t → (has_of t).charsets ≡ true → charset_of_group (kept_of (completed_by s t)).default (kept_of (completed_by s t)).charsets k ≡ charset_of_group (kept_of t).default (kept_of t).charsets k
characters_left s t k h e =
    ap (λ d. charset_of_group d (kept_of (completed_by s t)).charsets k) (kept_old default_in s t h (told_default s t.server (has_of t) (types_of t)))
    ∙ ap (λ l. charset_of_group (kept_of t).default l k) (kept_old charsets_in s t h (told_charsets s t.server (has_of t) (types_of t) ∙ part_charsets_left s t.server (has_of t) (types_of t) e))

-- those of ENUM and SET columns
names_known : (s : Table) (t : TableMap) (k : ℕ) → IsCompletedBy s t → (has_of t).values ≡ false → charset_of_group (kept_of (completed_by s t)).enum_default (kept_of (completed_by s t)).enum_charsets k ≡ Ok 45
names_known s t k h e =
    ap (λ d. charset_of_group d (kept_of (completed_by s t)).enum_charsets k) (kept_new enum_default_in tells_values s t h enum_default_no e ∙ told_enum_default s t.server (has_of t) (types_of t) ∙ part_default s t.server (has_of t) (types_of t) e)
    ∙ ap (λ l. charset_of_group (Some (record { default = 45; pairs = [] })) l k) (kept_new enum_charsets_in tells_values s t h enum_charsets_no e ∙ told_enum_charsets s t.server (has_of t) (types_of t))
    ∙ ap (λ l. zero_without (charset_in_group (Some 45) l (items (low_bits 16) []) k)) (items_end _)
    ∙ ap (λ l. zero_without (charset_in_group (Some 45) [] l k)) (items_end (low_bits 16))
    ∙ ap zero_without (by_list (Some 45) [] k)

names_left : (s : Table) (t : TableMap) (k : ℕ) → IsCompletedBy s t → (has_of t).values ≡ true → charset_of_group (kept_of (completed_by s t)).enum_default (kept_of (completed_by s t)).enum_charsets k ≡ charset_of_group (kept_of t).enum_default (kept_of t).enum_charsets k
names_left s t k h e =
    ap (λ d. charset_of_group d (kept_of (completed_by s t)).enum_charsets k) (kept_old enum_default_in s t h (told_enum_default s t.server (has_of t) (types_of t) ∙ part_default_left s t.server (has_of t) (types_of t) e))
    ∙ ap (λ l. charset_of_group (kept_of t).enum_default l k) (kept_old enum_charsets_in s t h (told_enum_charsets s t.server (has_of t) (types_of t)))

-- a column by its real type
by_type : (server : Server) (f g : ℕ → Result ℕ Fault) (type : ℕ → Result ColumnType Fault) (i : ℕ) (real : ColumnType) → type i ≡ Ok real →
    charset_by server f g type i ≡ (if character_group server real then f (ordinal_of (character_group server) type i) else (if enum_or_set_group server real then g (ordinal_of (enum_or_set_group server) type i) else Ok 0))
by_type server f g type i real h = ap (λ x. if in_group (character_group server) x then f (ordinal_of (character_group server) type i) else (if in_group (enum_or_set_group server) x then g (ordinal_of (enum_or_set_group server) type i) else Ok 0)) h

pub charset_known : (s : Table) (t : TableMap) (i : ℕ) (c : Column) (real : ColumnType) → IsCompletedBy s t → slice_get s.columns i ≡ Some c → type_at t i ≡ Ok real → charset_at (completed_by s t) i ≡ charset_told t i real c
charset_known s t i c real h at is =
    let f = fitting s t (whole t h.asked) h.fits in
    let server = t.server in
    let new = charset_of_group (kept_of (completed_by s t)).default (kept_of (completed_by s t)).charsets in
    let new_names = charset_of_group (kept_of (completed_by s t)).enum_default (kept_of (completed_by s t)).enum_charsets in
    let old = charset_of_group (kept_of t).default (kept_of t).charsets in
    let old_names = charset_of_group (kept_of t).enum_default (kept_of t).enum_charsets in
    let n = ordinal_of (character_group server) (type_at t) i in
    let m = ordinal_of (enum_or_set_group server) (type_at t) i in
    let here = real_of s t f i c real at is in
    let place : n ≡ count_by (character_group server) (take i (reals_of f.cols)) = ordinal_is (character_group server) (type_at t) (reals_of f.cols) i real (type_is s t f) here in
    let first : charset_at (completed_by s t) i ≡ charset_by server new new_names (type_at t) i = ap (λ x. charset_by x.server new new_names (type_at x) i) (completed_is s t h.asked h.fits) in
    let after = by_type server new new_names (type_at t) i real is in
    let before = by_type server old old_names (type_at t) i real is in
    first ∙ after ∙ elim (cases_Bool (character_group server real)) [
      | inl y ↦ ap (λ b. if b then new n else (if enum_or_set_group server real then new_names m else Ok 0)) y ∙ elim (cases_Bool (has_of t).charsets) [
        | inl u ↦
            characters_left s t n h u
            ∙ sym (before ∙ ap (λ b. if b then old n else (if enum_or_set_group server real then old_names m else Ok 0)) y)
            ∙ sym (ap (λ b. if b then charset_at t i else Ok c.charset) u)
            ∙ sym (ap (λ b. if b then (if (has_of t).charsets then charset_at t i else Ok c.charset) else (if enum_or_set_group server real then (if (has_of t).values then charset_at t i else Ok 45) else Ok 0)) y)
        | inr v ↦
            characters_known s t n c h v (ap (λ ts. slice_get (among (character_group server) ts s.columns) n) (types_are s t f) ∙ ap (slice_get (among (character_group server) (reals_of f.cols) s.columns)) place ∙ among_at (character_group server) (reals_of f.cols) s.columns i real c here at y)
            ∙ sym (ap (λ b. if b then charset_at t i else Ok c.charset) v)
            ∙ sym (ap (λ b. if b then (if (has_of t).charsets then charset_at t i else Ok c.charset) else (if enum_or_set_group server real then (if (has_of t).values then charset_at t i else Ok 45) else Ok 0)) y)
      ]
      | inr z ↦ ap (λ b. if b then new n else (if enum_or_set_group server real then new_names m else Ok 0)) z ∙ elim (cases_Bool (enum_or_set_group server real)) [
        | inl y ↦ ap (λ b. if b then new_names m else Ok 0) y ∙ elim (cases_Bool (has_of t).values) [
          | inl u ↦
              names_left s t m h u
              ∙ sym (before ∙ ap (λ b. if b then old n else (if enum_or_set_group server real then old_names m else Ok 0)) z ∙ ap (λ b. if b then old_names m else Ok 0) y)
              ∙ sym (ap (λ b. if b then charset_at t i else Ok 45) u)
              ∙ sym (ap (λ b. if b then (if (has_of t).values then charset_at t i else Ok 45) else Ok 0) y)
              ∙ sym (ap (λ b. if b then (if (has_of t).charsets then charset_at t i else Ok c.charset) else (if enum_or_set_group server real then (if (has_of t).values then charset_at t i else Ok 45) else Ok 0)) z)
          | inr v ↦
              names_known s t m h v
              ∙ sym (ap (λ b. if b then charset_at t i else Ok 45) v)
              ∙ sym (ap (λ b. if b then (if (has_of t).values then charset_at t i else Ok 45) else Ok 0) y)
              ∙ sym (ap (λ b. if b then (if (has_of t).charsets then charset_at t i else Ok c.charset) else (if enum_or_set_group server real then (if (has_of t).values then charset_at t i else Ok 45) else Ok 0)) z)
        ]
        | inr w ↦
            ap (λ b. if b then new_names m else Ok 0) w
            ∙ sym (ap (λ b. if b then (if (has_of t).values then charset_at t i else Ok 45) else Ok 0) w)
            ∙ sym (ap (λ b. if b then (if (has_of t).charsets then charset_at t i else Ok c.charset) else (if enum_or_set_group server real then (if (has_of t).values then charset_at t i else Ok 45) else Ok 0)) z)
      ]
    ]
