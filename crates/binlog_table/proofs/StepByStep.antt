-- Step by step: what is taken for each column adds up to what the definition tells.
use Rattle.std.proofs.Common.{◌≡◌, ℕ, zero, suc, ◌+◌, ◌-◌, ◌<◌, ◌≤◌, Bool, true, false, cond, ltb, List, [], ◌∷◌, length, Option, Some, None, Result, Ok, Err, refl, sym, ap, subst, ◌∙◌, arith, inl, inr}
use Rattle.std.proofs.lemmas.Bool.{ltb-false, le-ltb, cases_Bool}
use Rattle.binlog_base.specs.declared.fault.Fault.{Fault}
use Rattle.std.proofs.Common.{option_map, eqb, min, map, length-append}
use Rattle.std.proofs.lemmas.List.{length-map}
use Rattle.std.specs.Prelude.{slice_index_or, count_by, nat_lt}
use Rattle.std.proofs.Math.Dec.{eqb-suc-suc, eqb-zero-suc}
use Rattle.std.proofs.lemmas.List.Sums.{sum_by-cons}
use Rattle.binlog_base.specs.declared.below.columns.column_type.ColumnType.{ColumnType}
use Rattle.binlog_base.specs.ColumnTypes.{column_type_of}
use Rattle.binlog_base.specs.Strings.{lenenc_string}
use Rattle.binlog_base.specs.Items.{items}
use Rattle.binlog_base.specs.declared.below.columns.server.Server.{Server}
use Rattle.binlog_base.specs.Servers.{character_group, enum_or_set_group}
use Rattle.binlog_table.specs.declared.table_map.optional.columns.Walk.{Walk}
use Rattle.binlog_table.specs.Fields.{in_group}
use Rattle.binlog_table.specs.Lists.{ListLeft, taken_after}
use Rattle.binlog_table.specs.TableColumns.{Column, Parts, one_more, ordinal_of, charset_by, PassesOver, ToCome, steps_then, type_at, column_at, columns_by, unless_faulty, table_columns}
use Rattle.binlog_base.specs.Items.{before_fault}
use Rattle.binlog_table.specs.Lists.{DefaultCharset, low_bits}
use Rattle.binlog_table.specs.Charsets.{pairs_from, above_from}
use Rattle.binlog_base.specs.Numbers.{lenenc}
use Rattle.binlog_table.specs.TableMap.{TableMap}
use Rattle.binlog_table.specs.Lists.{pair_with}
use Rattle.binlog_table.specs.Fields.{Kept, fields}
use Rattle.binlog_table.specs.Keys.{key_items}
use Rattle.binlog_table.specs.Extracted.{IsStart, list_or, pairs_or, kept_of, fields_of, field_fault}
use Rattle.binlog_table.specs.Steps.{up_to_fault, names_read, keys_read, charsets_read, columns_read, unless_fault, steps_after, count_to, reads_name, takes_key, is_of_key}
use Rattle.binlog_table.specs.Workings.KeysLeft.{KeysLeft, keys_taken}
use Rattle.binlog_table.specs.Workings.CharsetsLeft.{CharsetsLeft, charsets_ahead, charsets_taken, row_charset}
use Rattle.binlog_table.specs.Workings.ColumnsLeft.{parts_left, columns_left, Follows, type_left, steps_of, steps_ahead, values_to, all_ahead, NoListsLeft}
use Rattle.binlog_table.proofs.KeyByKey.{key_now, keys_of_table}
use Rattle.binlog_table.proofs.CharsetByCharset.{above_all}
use Rattle.binlog_table.proofs.ColumnWalk.{ordinal_same, charset_start, parts_with, type_of_next, type_unknown, parts_of_next}

-- no column takes nothing
none_ahead : (low : ℕ) (pairs : List (Result (ℕ × ℕ) Fault)) (list : List (Result ℕ Fault)) → charsets_ahead low (low + 0) pairs list ≡ 0
none_ahead low [] list = omega arith
none_ahead low (Err e ∷ ps) list = refl
none_ahead low (Ok p ∷ ps) list = elim (cases_Bool (ltb p.0 low)) [
  | inl under ↦ rw under refl
  | inr over ↦
      let le : low ≤ p.0 = ltb-false p.0 low over in
      rw (over, le-ltb p.0 (low + 0) (omega (arith, le))) refl
]

pub none_taken : (c : CharsetsLeft) → charsets_taken c 0 ≡ c.taken
none_taken c = rw (none_ahead c.ordinal c.pairs c.list) (omega arith)

-- ---- one column

count_same : (f g : ℕ → Bool) → ((j : ℕ) → f j ≡ g j) → (n : ℕ) → count_to f n ≡ count_to g n
count_same f g h zero = refl
count_same f g h (suc n) = rw (h 0, count_same (λ j. f (suc j)) (λ j. g (suc j)) (λ j. h (suc j)) n) refl

name_same : (p q : Parts) (i j : ℕ) → q.type j ≡ p.type i → q.charset j ≡ p.charset i → reads_name q j ≡ reads_name p i
name_same p q i j type charset = rw (type, charset) refl

key_same : (p q : Parts) (i j : ℕ) → q.type j ≡ p.type i → q.charset j ≡ p.charset i → q.name j ≡ p.name i → q.key j ≡ p.key i → takes_key q j ≡ takes_key p i
key_same p q i j type charset name key = rw (type, charset, name, key) refl

-- the steps once a column is walked over, by what its parts are
abbrev pub steps_with : Walk → Parts → ℕ
steps_with v p =
    v.fields + (v.column + 1) + taken_after lenenc_string v.names (one_more (reads_name p 0) 0) + keys_taken v.keys (one_more (takes_key p 0) 0)
    + charsets_taken v.characters (one_more (in_group (character_group v.server) (p.type 0)) 0) + charsets_taken v.enums (one_more (in_group (enum_or_set_group v.server) (p.type 0)) 0)

pub step_first : (v : Walk) (raw : ℕ) (types : List ℕ) (raw_type : ColumnType) → v.types.now ≡ raw ∷ types → column_type_of raw ≡ Ok raw_type
    → steps_ahead v 1 ≡ steps_with v (parts_of_next v raw_type)
unfolding parts_left steps_ahead
step_first v raw types raw_type e known =
    let type = type_of_next v raw types raw_type e known in
    let charset = ap (λ (r : Result ColumnType Fault). charset_by v.server (row_charset v.characters) (row_charset v.enums) (λ _. r) 0) type in
    rw (
      name_same (parts_of_next v raw_type) (parts_left v) 0 0 type charset,
      key_same (parts_of_next v raw_type) (parts_left v) 0 0 type charset refl (key_now v.column v.keys.keys),
      type,
    ) refl

six_same : (a b c d e f g h i j k l : ℕ) → a ≡ b → c ≡ d → e ≡ f → g ≡ h → i ≡ j → k ≡ l → a + c + e + g + i + k ≡ b + d + f + h + j + l
six_same a b c d e f g h i j k l one two three four five six = rw (one, two, three, four, five, six) refl

-- the type of the column has a fault
pub step_type_fault : (v : Walk) (p : Parts) (e : Fault) → p.type 0 ≡ Err e
    → v.fields + (v.column + 1) + v.names.taken + v.keys.taken + v.characters.taken + v.enums.taken ≡ steps_with v p
step_type_fault v p e type = rw type (omega (arith, none_taken v.characters, none_taken v.enums))

-- its character set has
pub step_charset_fault : (v : Walk) (p : Parts) (type : ColumnType) (e : Fault) (characters enums : CharsetsLeft) → p.type 0 ≡ Ok type → p.charset 0 ≡ Err e
    → characters.taken ≡ charsets_taken v.characters (one_more (character_group v.server type) 0)
    → enums.taken ≡ charsets_taken v.enums (one_more (enum_or_set_group v.server type) 0)
    → v.fields + (v.column + 1) + v.names.taken + v.keys.taken + characters.taken + enums.taken ≡ steps_with v p
step_charset_fault v p type e characters enums is fault more_characters more_enums =
    rw (is, fault, more_characters, more_enums) (omega arith)

-- its name has
pub step_name_fault : (v : Walk) (p : Parts) (type : ColumnType) (charset : ℕ) (e : Fault) (names : ListLeft) (characters enums : CharsetsLeft)
    → p.type 0 ≡ Ok type → p.charset 0 ≡ Ok charset → p.name 0 ≡ Err e
    → ((n : ℕ) → taken_after lenenc_string names n ≡ taken_after lenenc_string v.names (suc n))
    → characters.taken ≡ charsets_taken v.characters (one_more (character_group v.server type) 0)
    → enums.taken ≡ charsets_taken v.enums (one_more (enum_or_set_group v.server type) 0)
    → v.fields + (v.column + 1) + names.taken + v.keys.taken + characters.taken + enums.taken ≡ steps_with v p
step_name_fault v p type charset e names characters enums is has fault more_names more_characters more_enums =
    rw (is, has, fault, more_characters, more_enums) (omega (arith, more_names 0))

-- no part before its key has
pub step_key : (v : Walk) (p : Parts) (type : ColumnType) (charset : ℕ) (name : Option (List ℕ)) (names : ListLeft) (keys : KeysLeft) (characters enums : CharsetsLeft)
    → p.type 0 ≡ Ok type → p.charset 0 ≡ Ok charset → p.name 0 ≡ Ok name
    → ((n : ℕ) → taken_after lenenc_string names n ≡ taken_after lenenc_string v.names (suc n))
    → ((n : ℕ) → keys_taken keys n ≡ keys_taken v.keys (one_more (is_of_key (p.key 0)) n))
    → characters.taken ≡ charsets_taken v.characters (one_more (character_group v.server type) 0)
    → enums.taken ≡ charsets_taken v.enums (one_more (enum_or_set_group v.server type) 0)
    → v.fields + (v.column + 1) + names.taken + keys.taken + characters.taken + enums.taken ≡ steps_with v p
step_key v p type charset name names keys characters enums is has named more_names more_keys more_characters more_enums =
    rw (is, has, named, more_characters, more_enums) (omega (arith, more_names 0, more_keys 0))

-- a column of no known type
pub step_unknown : (v : Walk) (raw : ℕ) (types : List ℕ) (e : Fault) → v.types.now ≡ raw ∷ types → column_type_of raw ≡ Err e
    → v.fields + (v.column + 1) + v.names.taken + v.keys.taken + v.characters.taken + v.enums.taken ≡ steps_ahead v 1
unfolding parts_left steps_ahead
step_unknown v raw types e is unknown =
    let type : type_left v 0 ≡ Err e = type_unknown v raw types e is unknown in
    rw type (omega (arith, none_taken v.characters, none_taken v.enums))

-- the parts of the first column
type_there : (v : Walk) (raw : ℕ) (types : List ℕ) (raw_type : ColumnType) → v.types.now ≡ raw ∷ types → column_type_of raw ≡ Ok raw_type → (parts_left v).type 0 ≡ (parts_of_next v raw_type).type 0
unfolding parts_left
type_there v raw types raw_type e known = type_of_next v raw types raw_type e known

name_there : (v : Walk) (raw : ℕ) (types : List ℕ) (raw_type : ColumnType) → v.types.now ≡ raw ∷ types → column_type_of raw ≡ Ok raw_type → reads_name (parts_left v) 0 ≡ reads_name (parts_of_next v raw_type) 0
unfolding parts_left
name_there v raw types raw_type e known =
    let type = type_of_next v raw types raw_type e known in
    name_same (parts_of_next v raw_type) (parts_left v) 0 0 type (ap (λ (r : Result ColumnType Fault). charset_by v.server (row_charset v.characters) (row_charset v.enums) (λ _. r) 0) type)

key_there : (v : Walk) (raw : ℕ) (types : List ℕ) (raw_type : ColumnType) → v.types.now ≡ raw ∷ types → column_type_of raw ≡ Ok raw_type → takes_key (parts_left v) 0 ≡ takes_key (parts_of_next v raw_type) 0
unfolding parts_left
key_there v raw types raw_type e known =
    let type = type_of_next v raw types raw_type e known in
    key_same (parts_of_next v raw_type) (parts_left v) 0 0 type (ap (λ (r : Result ColumnType Fault). charset_by v.server (row_charset v.characters) (row_charset v.enums) (λ _. r) 0) type) refl (key_now v.column v.keys.keys)

name_read : (p : Parts) (type : ColumnType) (charset : ℕ) → p.type 0 ≡ Ok type → p.charset 0 ≡ Ok charset → reads_name p 0 ≡ true
name_read p type charset is has = rw (is, has) refl

key_taken : (p : Parts) (type : ColumnType) (charset : ℕ) (name : Option (List ℕ)) → p.type 0 ≡ Ok type → p.charset 0 ≡ Ok charset → p.name 0 ≡ Ok name → takes_key p 0 ≡ is_of_key (p.key 0)
key_taken p type charset name is has named = rw (is, has, named) refl

-- a column without a fault, and those after it
pub step_later : (v w : Walk) (raw : ℕ) (types : List ℕ) (raw_type type : ColumnType) (charset : ℕ) (name : Option (List ℕ)) → v.types.now ≡ raw ∷ types → column_type_of raw ≡ Ok raw_type
    → (parts_of_next v raw_type).type 0 ≡ Ok type → (parts_of_next v raw_type).charset 0 ≡ Ok charset → (parts_of_next v raw_type).name 0 ≡ Ok name
    → w.server ≡ v.server → w.fields ≡ v.fields → w.column ≡ v.column + 1 → ((n : ℕ) → taken_after lenenc_string w.names n ≡ taken_after lenenc_string v.names (suc n))
    → ((n : ℕ) → keys_taken w.keys n ≡ keys_taken v.keys (one_more (is_of_key ((parts_of_next v raw_type).key 0)) n))
    → ((k : ℕ) → charsets_taken w.characters k ≡ charsets_taken v.characters (one_more (character_group v.server type) k))
    → ((k : ℕ) → charsets_taken w.enums k ≡ charsets_taken v.enums (one_more (enum_or_set_group v.server type) k))
    → Follows (parts_left v) (parts_left w) → (n : ℕ) → steps_ahead w n ≡ steps_ahead v (suc n)
unfolding steps_ahead
step_later v w raw types raw_type type charset name e known is has named server fields column names keys characters enums f n =
    let p = parts_left v in
    let q = parts_left w in
    let reads : reads_name p 0 ≡ true = name_there v raw types raw_type e known ∙ name_read (parts_of_next v raw_type) type charset is has in
    let takes : takes_key p 0 ≡ is_of_key ((parts_of_next v raw_type).key 0) = key_there v raw types raw_type e known ∙ key_taken (parts_of_next v raw_type) type charset name is has named in
    let of_type : p.type 0 ≡ Ok type = type_there v raw types raw_type e known ∙ is in
    let more_names : taken_after lenenc_string w.names (count_to (reads_name q) n) ≡ taken_after lenenc_string v.names (count_to (reads_name p) (suc n)) =
    ap (taken_after lenenc_string w.names) (count_same (reads_name q) (λ j. reads_name p (suc j)) (λ j. name_same p q (suc j) j (f.type j) (f.charset j)) n) ∙
    names (count_to (λ j. reads_name p (suc j)) n) ∙ ap (λ (b : Bool). taken_after lenenc_string v.names (one_more b (count_to (λ j. reads_name p (suc j)) n))) (sym reads) in
    let more_keys : keys_taken w.keys (count_to (takes_key q) n) ≡ keys_taken v.keys (count_to (takes_key p) (suc n)) =
    ap (keys_taken w.keys) (count_same (takes_key q) (λ j. takes_key p (suc j)) (λ j. key_same p q (suc j) j (f.type j) (f.charset j) (f.name j) (f.key j)) n) ∙
    keys (count_to (λ j. takes_key p (suc j)) n) ∙ ap (λ (b : Bool). keys_taken v.keys (one_more b (count_to (λ j. takes_key p (suc j)) n))) (sym takes) in
    let group : (g : ColumnType → Bool) → ordinal_of g q.type n ≡ ordinal_of g (λ j. p.type (suc j)) n = λ g. ordinal_same g q.type (λ j. p.type (suc j)) f.type n in
    let more_characters : charsets_taken w.characters (ordinal_of (character_group w.server) q.type n) ≡ charsets_taken v.characters (ordinal_of (character_group v.server) p.type (suc n)) =
    ap (λ (s : Server). charsets_taken w.characters (ordinal_of (character_group s) q.type n)) server ∙ ap (charsets_taken w.characters) (group (character_group v.server)) ∙
    characters (ordinal_of (character_group v.server) (λ j. p.type (suc j)) n) ∙
    ap (λ (r : Result ColumnType Fault). charsets_taken v.characters (one_more (in_group (character_group v.server) r) (ordinal_of (character_group v.server) (λ j. p.type (suc j)) n))) (sym of_type) in
    let more_enums : charsets_taken w.enums (ordinal_of (enum_or_set_group w.server) q.type n) ≡ charsets_taken v.enums (ordinal_of (enum_or_set_group v.server) p.type (suc n)) =
    ap (λ (s : Server). charsets_taken w.enums (ordinal_of (enum_or_set_group s) q.type n)) server ∙ ap (charsets_taken w.enums) (group (enum_or_set_group v.server)) ∙
    enums (ordinal_of (enum_or_set_group v.server) (λ j. p.type (suc j)) n) ∙
    ap (λ (r : Result ColumnType Fault). charsets_taken v.enums (one_more (in_group (enum_or_set_group v.server) r) (ordinal_of (enum_or_set_group v.server) (λ j. p.type (suc j)) n))) (sym of_type) in
    let columns : w.column + n ≡ v.column + suc n = omega (arith, column) in
    six_same w.fields v.fields _ _ _ _ _ _ _ _ _ _ fields columns more_names more_keys more_characters more_enums

-- no more columns, no more steps
pub ahead_none : (w : Walk) → steps_ahead w 0 ≡ steps_of w
unfolding steps_ahead
ahead_none w = omega (arith, none_taken w.characters, none_taken w.enums)

-- where no list is left, only columns are steps
pub lists_done : (w : Walk) (n : ℕ) → NoListsLeft w → steps_ahead w n ≡ steps_of w + n
unfolding steps_ahead
lists_done w n none = rw (none.names, none.keys, none.characters.pairs, none.characters.list, none.enums.pairs, none.enums.list) (omega arith)

-- ---- the steps of the columns that are left

value_at : (f : ℕ → ℕ) (n k : ℕ) → k ≤ n → slice_index_or (values_to f n) k 0 ≡ f k
value_at f zero k le = let none : k ≡ zero = omega (arith, le) in rw none refl
value_at f (suc n) zero le = refl
value_at f (suc n) (suc k) le = value_at (λ i. f (suc i)) n k (omega (arith, le))

-- what contracts see of the steps of a walk
abbrev pub then_of : Walk → ℕ → ℕ
then_of w n = slice_index_or (all_ahead w) (min n (length (columns_left w))) 0

pub then_is : (w : Walk) (n : ℕ) → then_of w n ≡ steps_ahead w (min n (length (columns_left w)))
then_is w n = value_at (steps_ahead w) (length (columns_left w)) (min n (length (columns_left w))) (omega arith)

pub then_now : (w : Walk) → steps_of w ≡ then_of w 0
then_now w = let none : min 0 (length (columns_left w)) ≡ 0 = omega arith in sym (then_is w 0 ∙ ap (steps_ahead w) none ∙ ahead_none w)

later_than : (v w : Walk) (m n : ℕ) → length (columns_left v) ≡ m + length (columns_left w) → ((k : ℕ) → steps_ahead w k ≡ steps_ahead v (m + k)) → then_of w n ≡ then_of v (m + n)
later_than v w m n longer ahead =
    let least : m + min n (length (columns_left w)) ≡ min (m + n) (length (columns_left v)) = omega (arith, longer) in
    then_is w n ∙ ahead (min n (length (columns_left w))) ∙ ap (steps_ahead v) least ∙ sym (then_is v (m + n))

-- so many columns without a fault
pub passes_steps : (v w : Walk) (m : ℕ) → PassesOver m (columns_left v) (columns_left w) → ((n : ℕ) → steps_ahead w n ≡ steps_ahead v (m + n)) → (n : ℕ) → then_of w n ≡ then_of v (m + n)
passes_steps v w m over ahead n =
    let front : length {A = Result Column Fault} (map Ok over.0) ≡ length over.0 = length-map over.0 Ok in
    let longer : length (columns_left v) ≡ m + length (columns_left w) = omega (arith, ap length over.2, length-append (map Ok over.0) (columns_left w), front, over.1) in
    later_than v w m n longer ahead

-- one column without a fault
pub next_steps : (v w : Walk) (c : Column) → columns_left v ≡ Ok c ∷ columns_left w → ((n : ℕ) → steps_ahead w n ≡ steps_ahead v (suc n)) → (n : ℕ) → then_of w n ≡ then_of v (suc n)
next_steps v w c h ahead n =
    let longer : length (columns_left v) ≡ 1 + length (columns_left w) = omega (arith, ap length h) in
    let one : 1 + n ≡ suc n = omega arith in
    later_than v w 1 n longer (λ k. let more : 1 + k ≡ suc k = omega arith in rw more (ahead k)) ∙ ap (then_of v) one

-- the column with the fault
pub fault_steps : (v w : Walk) (e : Fault) → columns_left v ≡ Err e ∷ [] → columns_left w ≡ [] → steps_of w ≡ steps_ahead v 1 → (n : ℕ) → then_of w n ≡ then_of v (suc n)
fault_steps v w e h none exact n =
    let here : min n (length (columns_left w)) ≡ 0 = omega (arith, ap length none) in
    let there : min (suc n) (length (columns_left v)) ≡ 1 = omega (arith, ap length h) in
    then_is w n ∙ ap (steps_ahead w) here ∙ ahead_none w ∙ exact ∙ sym (then_is v (suc n) ∙ ap (steps_ahead v) there)

-- no column
pub end_steps : (v : Walk) (n : ℕ) → columns_left v ≡ [] → then_of v n ≡ then_of v (suc n)
end_steps v n none =
    let here : min n (length (columns_left v)) ≡ 0 = omega (arith, ap length none) in
    let there : min (suc n) (length (columns_left v)) ≡ 0 = omega (arith, ap length none) in
    then_is v n ∙ ap (steps_ahead v) here ∙ sym (then_is v (suc n) ∙ ap (steps_ahead v) there)

-- a stretch of columns that no list tells of
pub stretch_steps : (v w : Walk) (m : ℕ) → NoListsLeft v → w.fields ≡ v.fields → w.column ≡ v.column + m → w.names ≡ v.names → w.keys ≡ v.keys → w.characters ≡ v.characters → w.enums ≡ v.enums
    → (n : ℕ) → steps_ahead w n ≡ steps_ahead v (m + n)
stretch_steps v w m none fields column names keys characters enums n =
    let still : NoListsLeft w = record {
      names = rw names none.names;
      keys = rw keys none.keys;
      characters = rw characters none.characters;
      enums = rw enums none.enums;
    } in
    rw (lists_done v (m + n) none, lists_done w n still, fields, column, names, keys, characters, enums) (omega arith)

pub no_stretch : (v : Walk) (n : ℕ) → steps_ahead v n ≡ steps_ahead v (0 + n)
no_stretch v n = let same : 0 + n ≡ n = omega arith in rw same refl

-- ---- several calls, one after the other

pub more_steps : (s t : ToCome) (v w : Walk) (passed m : ℕ) → PassesOver m (columns_left v) (columns_left w) → ((n : ℕ) → steps_ahead w n ≡ steps_ahead v (m + n))
    → ((n : ℕ) → then_of v n ≡ steps_then s n) → ((n : ℕ) → steps_then s n ≡ steps_then t (passed + n)) → (n : ℕ) → then_of w n ≡ steps_then t (passed + m + n)
more_steps s t v w passed m over ahead same before n =
    let sum : passed + (m + n) ≡ passed + m + n = omega arith in
    passes_steps v w m over ahead n ∙ same (m + n) ∙ before (m + n) ∙ ap (steps_then t) sum

-- one more column
pub one_step : (s t : ToCome) (w : Walk) (m : ℕ) → ((n : ℕ) → then_of w n ≡ steps_then t (m + n)) → ((n : ℕ) → steps_then s n ≡ then_of w (suc n)) → (n : ℕ) → steps_then s n ≡ steps_then t (m + 1 + n)
one_step s t w m before one n =
    let sum : m + suc n ≡ m + 1 + n = omega arith in
    one n ∙ before (suc n) ∙ ap (steps_then t) sum

-- where no column is left, no further one is a step
pub no_steps : (s : ToCome) (n m : ℕ) → s.columns ≡ [] → steps_then s n ≡ steps_then s m
no_steps s n m none =
    let same : min n (length s.columns) ≡ min m (length s.columns) = omega (arith, ap length none) in
    ap (λ (k : ℕ). slice_index_or s.ahead k 0) same

pub last_steps : (s t : ToCome) (m count : ℕ) → ((n : ℕ) → steps_then s n ≡ steps_then t (m + 1 + n)) → s.columns ≡ [] → m < count → (n : ℕ) → steps_then s n ≡ steps_then t (count + n)
last_steps s t m count before none lt n =
    let more : m + 1 + (count - (m + 1) + n) ≡ count + n = omega (arith, lt) in
    no_steps s n (count - (m + 1) + n) none ∙ before (count - (m + 1) + n) ∙ ap (steps_then t) more

-- ---- at the first column

-- pairs whose columns are at least `end` have none below it
none_under : (end low : ℕ) (ps : List (ℕ × ℕ)) → end ≤ low → count_by (λ p. nat_lt p.0 end) (pairs_from low ps) ≡ 0
none_under end low [] le = refl
none_under end low (p ∷ ps) le = elim (cases_Bool (ltb p.0 low)) [
  | inl under ↦ rw under refl
  | inr over ↦
      let least : low ≤ p.0 = ltb-false p.0 low over in
      let not_under : ltb p.0 end ≡ false = le-ltb p.0 end (omega (arith, le, least)) in
      let counted : count_by (λ (q : ℕ × ℕ). nat_lt q.0 end) (p ∷ pairs_from (suc p.0) ps) ≡ cond (ltb p.0 end) 1 0 + count_by (λ (q : ℕ × ℕ). nat_lt q.0 end) (pairs_from (suc p.0) ps) =
      sum_by-cons (λ (q : ℕ × ℕ). cond (nat_lt q.0 end) 1 0) p (pairs_from (suc p.0) ps) in
      rw (over, counted, not_under, none_under end (suc p.0) ps (omega (arith, le, least))) refl
]

no_list : (b : Bool) (n m : ℕ) → m ≡ 0 → cond b (min n m) 0 ≡ 0
no_list true n m h = omega (arith, h)
no_list false n m h = refl

-- what is read of a group's lists, from a column on
abbrev read_from : ℕ → ℕ → List (Result (ℕ × ℕ) Fault) → List (Result ℕ Fault) → ℕ
read_from low end pairs list =
    let prefix = pairs_from low (before_fault pairs) in
    min (length pairs) (1 + count_by (λ p. nat_lt p.0 end) prefix) + cond (eqb (length prefix) (length pairs)) (min (length list) (end - above_from low prefix)) 0

read_law : (low end : ℕ) (pairs : List (Result (ℕ × ℕ) Fault)) (list : List (Result ℕ Fault)) → min (length pairs) 1 + charsets_ahead low end pairs list ≡ read_from low end pairs list
read_law low end [] list = omega arith
read_law low end (Err e ∷ ps) list = rw (eqb-zero-suc (length ps)) (omega arith)
read_law low end (Ok p ∷ ps) list = elim (cases_Bool (ltb p.0 low)) [
  | inl under ↦ rw (under, eqb-zero-suc (length ps)) (omega arith)
  | inr over ↦
      let prefix = pairs_from (suc p.0) (before_fault ps) in
      let counted : count_by (λ (q : ℕ × ℕ). nat_lt q.0 end) (p ∷ prefix) ≡ cond (ltb p.0 end) 1 0 + count_by (λ (q : ℕ × ℕ). nat_lt q.0 end) prefix =
      sum_by-cons (λ (q : ℕ × ℕ). cond (nat_lt q.0 end) 1 0) p prefix in
      elim (cases_Bool (ltb p.0 end)) [
        | inl before ↦ rw (over, counted, before, eqb-suc-suc (length prefix) (length ps)) (omega (arith, read_law (suc p.0) end ps list))
        | inr after_it ↦
            let least : end ≤ p.0 = ltb-false p.0 end after_it in
            let past : end - above_from (suc p.0) prefix ≡ 0 = omega (arith, least, above_all (suc p.0) (before_fault ps)) in
            rw (over, counted, after_it, none_under end (suc p.0) (before_fault ps) (omega (arith, least)), no_list (eqb (suc (length prefix)) (suc (length ps))) (length list) (end - above_from (suc p.0) prefix) past) (omega arith)
      ]
]

names_start : (l : ListLeft) (bytes : List ℕ) (c d : ℕ) → l ≡ record { bytes = bytes; taken = 0 } → c ≡ d → taken_after lenenc_string l c ≡ min (length (items lenenc_string bytes)) d
names_start l bytes c d h e = rw (h, e) (omega arith)

keys_start : (l : KeysLeft) (keys : List (Result ℕ Fault)) (c d : ℕ) → l.keys ≡ keys → l.taken ≡ min (length l.keys) 1 → c ≡ d → keys_taken l c ≡ min (length keys) (1 + d)
keys_start l keys c d h t e = rw (t, h, e) (omega arith)

group_read : (l : CharsetsLeft) (d : Option DefaultCharset) (list : Option (List ℕ)) (c k : ℕ) → IsStart d list l → l.taken ≡ min (length l.pairs) 1 → c ≡ k → charsets_taken l c ≡ charsets_read (pairs_or d) (items (low_bits 16) (list_or list)) k
group_read l d list c k s t e =
    let at : 0 + k ≡ k = omega arith in
    rw (t, e, s.ordinal, at, s.pairs, s.list) (read_law 0 k (pairs_or d) (items (low_bits 16) (list_or list)))

-- what is read for the first n columns, by the kept fields
abbrev read_with : TableMap → Kept → ℕ → ℕ
read_with t k n =
    let p = parts_with t k in
    n + names_read p (items lenenc_string (list_or k.names)) n
    + keys_read p (key_items (items lenenc (list_or k.simple)) (items (pair_with lenenc) (list_or k.prefixed))) n
    + charsets_read (pairs_or k.default) (items (low_bits 16) (list_or k.charsets)) (ordinal_of (character_group t.server) p.type n)
    + charsets_read (pairs_or k.enum_default) (items (low_bits 16) (list_or k.enum_charsets)) (ordinal_of (enum_or_set_group t.server) p.type n)

regroup : (f n a b c d : ℕ) → f + n + a + b + c + d ≡ f + (n + a + b + c + d)
regroup f n a b c d = omega arith

parts_start : (w : Walk) (p : Parts) (s : Server) (l : ListLeft) (key : KeysLeft) (n f : ℕ) (names keys characters enums : ℕ → ℕ)
    → ((j : ℕ) → (parts_left w).type j ≡ p.type j) → ((j : ℕ) → (parts_left w).charset j ≡ p.charset j) → ((j : ℕ) → (parts_left w).name j ≡ p.name j) → ((j : ℕ) → (parts_left w).key j ≡ p.key j)
    → w.server ≡ s → w.fields ≡ f → w.column ≡ 0
    → ((c d : ℕ) → c ≡ d → taken_after lenenc_string w.names c ≡ names d) → ((c d : ℕ) → c ≡ d → keys_taken w.keys c ≡ keys d)
    → ((c d : ℕ) → c ≡ d → charsets_taken w.characters c ≡ characters d) → ((c d : ℕ) → c ≡ d → charsets_taken w.enums c ≡ enums d)
    → steps_ahead w n ≡ f + (n + names (count_to (reads_name p) n) + keys (count_to (takes_key p) n) + characters (ordinal_of (character_group s) p.type n) + enums (ordinal_of (enum_or_set_group s) p.type n))
unfolding steps_ahead
parts_start w p s l key n f names keys characters enums type charset name is_key server fields column hn hk hc he =
    let q = parts_left w in
    let group : (g : ColumnType → Bool) → ordinal_of g q.type n ≡ ordinal_of g p.type n = λ g. ordinal_same g q.type p.type type n in
    six_same w.fields f (w.column + n) n _ _ _ _ _ _ _ _ fields (omega (arith, column))
    (hn (count_to (reads_name q) n) (count_to (reads_name p) n) (count_same (reads_name q) (reads_name p) (λ j. name_same p q j j (type j) (charset j)) n))
    (hk (count_to (takes_key q) n) (count_to (takes_key p) n) (count_same (takes_key q) (takes_key p) (λ j. key_same p q j j (type j) (charset j) (name j) (is_key j)) n))
    (hc (ordinal_of (character_group w.server) q.type n) (ordinal_of (character_group s) p.type n) (ap (λ (x : Server). ordinal_of (character_group x) q.type n) server ∙ group (character_group s)))
    (he (ordinal_of (enum_or_set_group w.server) q.type n) (ordinal_of (enum_or_set_group s) p.type n) (ap (λ (x : Server). ordinal_of (enum_or_set_group x) q.type n) server ∙ group (enum_or_set_group s))) ∙
    regroup f n (names (count_to (reads_name p) n)) (keys (count_to (takes_key p) n)) (characters (ordinal_of (character_group s) p.type n)) (enums (ordinal_of (enum_or_set_group s) p.type n))

pub start_steps : (w : Walk) (t : TableMap) (k : Kept) (f : ℕ) → k ≡ kept_of t → w.server ≡ t.server → w.types.now ≡ t.types → option_map (λ m. m.now) w.metadata ≡ Some t.metadata
    → IsStart k.default k.charsets w.characters → w.characters.taken ≡ min (length w.characters.pairs) 1 → IsStart k.enum_default k.enum_charsets w.enums → w.enums.taken ≡ min (length w.enums.pairs) 1
    → w.names ≡ record { bytes = list_or k.names; taken = 0 } → w.keys.keys ≡ key_items (items lenenc (list_or k.simple)) (items (pair_with lenenc) (list_or k.prefixed))
    → w.keys.taken ≡ min (length w.keys.keys) 1 → w.fields ≡ f → w.column ≡ 0 → (n : ℕ) → steps_ahead w n ≡ f + columns_read t n
unfolding parts_left
start_steps w t k f is server types metadata characters some_characters enums some_enums names keys some_keys fields column n =
    let types_same : (j : ℕ) → type_left w j ≡ type_at t j = λ j. rw (types, metadata) refl in
    let all_keys = key_items (items lenenc (list_or k.simple)) (items (pair_with lenenc) (list_or k.prefixed)) in
    subst (λ (x : Kept). steps_ahead w n ≡ f + read_with t x n) is
    (parts_start w (parts_with t k) t.server w.names w.keys n f (λ d. min (length (items lenenc_string (list_or k.names))) d) (λ d. min (length all_keys) (1 + d))
    (λ d. charsets_read (pairs_or k.default) (items (low_bits 16) (list_or k.charsets)) d) (λ d. charsets_read (pairs_or k.enum_default) (items (low_bits 16) (list_or k.enum_charsets)) d)
    types_same
    (λ j. rw server (charset_start t.server w.characters w.enums k.default k.enum_default k.charsets k.enum_charsets (type_left w) (type_at t) characters enums types_same j))
    (λ j. rw names refl) (λ j. rw (column, keys) (keys_of_table _ j)) server fields column
    (λ c d e. names_start w.names (list_or k.names) c d names e) (λ c d e. keys_start w.keys all_keys c d keys some_keys e)
    (λ c d e. group_read w.characters k.default k.charsets c d characters some_characters e) (λ c d e. group_read w.enums k.enum_default k.enum_charsets c d enums some_enums e))

-- a table's steps, by the fault of its optional metadata
pub steps_whole : (w : Walk) (t : TableMap) (f n : ℕ) → columns_left w ≡ columns_by (column_at t) (length t.types) → field_fault t ≡ None → f ≡ up_to_fault (fields (fields_of t))
    → ((m : ℕ) → steps_ahead w m ≡ f + columns_read t m) → then_of w n ≡ steps_after t n
unfolding steps_after
steps_whole w t f n columns none made ahead =
    let there : table_columns t ≡ columns_by (column_at t) (length t.types) = ap (λ (x : Option Fault). unless_faulty x (columns_by (column_at t) (length t.types))) none in
    let many : min n (length (columns_left w)) ≡ min n (length (table_columns t)) = ap (λ (l : List (Result Column Fault)). min n (length l)) (columns ∙ sym there) in
    then_is w n ∙ ahead (min n (length (columns_left w))) ∙ ap (λ (m : ℕ). f + columns_read t m) many ∙ ap (λ (x : ℕ). x + columns_read t (min n (length (table_columns t)))) made ∙
    ap (λ (x : Option Fault). up_to_fault (fields (fields_of t)) + unless_fault x (columns_read t (min n (length (table_columns t))))) (sym none)

pub steps_faulty : (w : Walk) (t : TableMap) (e : Fault) (n : ℕ) → columns_left w ≡ [] → field_fault t ≡ Some e → steps_of w ≡ up_to_fault (fields (fields_of t)) → then_of w n ≡ steps_after t n
unfolding steps_after
steps_faulty w t e n columns fault made =
    let none : min n (length (columns_left w)) ≡ 0 = omega (arith, ap length columns) in
    let all : up_to_fault (fields (fields_of t)) ≡ up_to_fault (fields (fields_of t)) + 0 = omega arith in
    then_is w n ∙ ap (steps_ahead w) none ∙ ahead_none w ∙ made ∙ all ∙
    ap (λ (x : Option Fault). up_to_fault (fields (fields_of t)) + unless_fault x (columns_read t (min n (length (table_columns t))))) (sym fault)
