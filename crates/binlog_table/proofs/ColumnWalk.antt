-- Column by column: what is left of the lists tells of the columns that are left what the definitions tell.
use Rattle.std.proofs.Common.{◌≡◌, ℕ, zero, suc, ◌+◌, ◌<◌, Bool, true, false, cond, ◌&&◌, eqb, List, [], ◌∷◌, ◌++◌, map, length, take, append_assoc, length-append, Option, Some, None, Result, Ok, Err, refl, sym, ap, subst, ◌∙◌, arith, option_map, option_and_then}
use Rattle.std.specs.Prelude.{◌==◌, slice_get, slice_index_or}
use Rattle.std.proofs.lemmas.List.{map-append}
use Rattle.std.proofs.lemmas.List.Sums.{sum_by-cons}
use Rattle.binlog_base.specs.declared.fault.Fault.{Fault}
use Rattle.binlog_base.specs.declared.below.columns.column_type.ColumnType.{ColumnType}
use Rattle.binlog_base.specs.declared.fault.Fault.TheVariants as fault
use Rattle.binlog_base.specs.declared.below.columns.column_type.UnknownColumnType.{UnknownColumnType}
use Rattle.binlog_base.specs.ColumnTypes.{column_types, column_type_of}
use Rattle.binlog_base.specs.Format.{◌>>=◌}
use Rattle.binlog_base.specs.Tables.{from_table}
use Rattle.binlog_base.specs.Numbers.{lenenc}
use Rattle.binlog_base.specs.Strings.{lenenc_string}
use Rattle.binlog_base.specs.Items.{items}
use Rattle.binlog_base.specs.declared.below.columns.server.Server.{Server}
use Rattle.binlog_base.specs.declared.below.columns.column_type.ColumnType.TheVariants as column
use Rattle.binlog_base.specs.declared.below.columns.server.Server.TheVariants.{MySql, MariaDb}
use Rattle.binlog_table.specs.RawTypes.{has_charset}
use Rattle.binlog_base.specs.Servers.{character_group, enum_or_set_group, numeric_group}
use Rattle.binlog_table.specs.Lists.{DefaultCharset, count_of}
use Rattle.binlog_table.specs.declared.table_map.optional.columns.Walk.{Walk}
use Rattle.binlog_table.specs.ColumnTypes.{json_count, raw_type_of, real_type_of, some_of, real_type}
use Rattle.binlog_table.specs.Fields.{Kept, is_numeric_number, numeric_count, in_group}
use Rattle.binlog_table.specs.Charsets.{zero_without}
use Rattle.binlog_table.specs.Workings.CharsetsLeft.{CharsetsLeft, row_charset, NoCharsetsLeft}
use Rattle.binlog_table.specs.TableColumns.{Column, Parts, column_by, column_then, columns_by, named, is_numeric_at, sign_in, one_more, ordinal_of, charset_by, charset_of_group, type_at, column_at, unless_faulty, table_columns, typed, passed, PassesFirst, PassesOver, FaultFirst}
use Rattle.binlog_table.specs.Extracted.{IsStart, list_or, kept_of, field_fault}
use Rattle.binlog_table.specs.Workings.ColumnsLeft.{chunks_of, parts_left, columns_left, Follows, Advances, bits_after_first, bit_here, bits_after, sign_left, type_left, NoListsLeft}
use Rattle.binlog_table.specs.Chunks.{chunk_at, chunk_left, typed_chunk, after_typed, chunk, type_chunk, after_chunk}
use Rattle.binlog_table.specs.TableMap.{TableMap}
use Rattle.binlog_table.specs.Lists.{pair_with}
use Rattle.binlog_table.specs.Keys.{key_items, key_at as key_in}
use Rattle.binlog_table.specs.Workings.KeysLeft.{key_from}
use Rattle.binlog_table.proofs.KeyByKey.{key_later, keys_of_table, key_now}
use Rattle.binlog_table.proofs.CharsetByCharset.{charsets_of_table}

-- ---- columns by their parts

column_is : (p q : Parts) (i j : ℕ) → q.type j ≡ p.type i → q.chunk j ≡ p.chunk i → q.sign j ≡ p.sign i → q.charset j ≡ p.charset i → q.name j ≡ p.name i
    → q.key j ≡ p.key i → q.json_place j ≡ p.json_place i → column_by q j ≡ column_by p i
column_is p q i j type chunk sign charset name key json = rw (type, chunk, sign, charset, name, key, json) refl

columns_same : (f g : ℕ → Result Column Fault) (n : ℕ) → ((j : ℕ) → f j ≡ g j) → columns_by f n ≡ columns_by g n
columns_same f g zero h = refl
columns_same f g (suc n) h = rw (h 0, columns_same (λ j. f (suc j)) (λ j. g (suc j)) n (λ j. h (suc j))) refl

-- each is at its place
in_place : (r x : Result Column Fault) (more : List (Result Column Fault)) (i : ℕ) → slice_get (column_then r more) (suc i) ≡ Some x → slice_get more i ≡ Some x
in_place (Ok c) x more i h = h
in_place (Err e) x more i h = absurd cc

first_place : (r x : Result Column Fault) (more : List (Result Column Fault)) → slice_get (column_then r more) 0 ≡ Some x → x ≡ r
first_place (Ok c) x more h = cc
first_place (Err e) x more h = cc

pub column_in_place : (f : ℕ → Result Column Fault) (n i : ℕ) (x : Result Column Fault) → slice_get (columns_by f n) i ≡ Some x → x ≡ f i
column_in_place f zero i x h = absurd cc
column_in_place f (suc n) zero x h = first_place (f 0) x (columns_by (λ j. f (suc j)) n) h
column_in_place f (suc n) (suc i) x h = column_in_place (λ j. f (suc j)) n i x (in_place (f 0) x (columns_by (λ j. f (suc j)) n) i h)

in_table : (fault : Option Fault) (f : ℕ → Result Column Fault) (n i : ℕ) (x : Result Column Fault) → slice_get (unless_faulty fault (columns_by f n)) i ≡ Some x → x ≡ f i
in_table None f n i x h = column_in_place f n i x h
in_table (Some e) f n i x h = absurd cc

pub table_column_in_place : (t : TableMap) (i : ℕ) (x : Result Column Fault) → slice_get (table_columns t) i ≡ Some x → x ≡ column_at t i
table_column_in_place t i x h = in_table (field_fault t) (column_at t) (length t.types) i x h

-- one column, and those after it
columns_next : (p q : Parts) (n m : ℕ) (c : Column) → n ≡ m + 1 → column_by p 0 ≡ Ok c → Follows p q → columns_by (column_by p) n ≡ Ok c ∷ columns_by (column_by q) m
columns_next p q n m c e h f =
    let n-is : n ≡ suc m = omega (arith, e) in
    rw (n-is, h) (ap (λ (l : List (Result Column Fault)). Ok c ∷ l)
    (columns_same (λ j. column_by p (suc j)) (column_by q) m (λ j. sym (column_is p q (suc j) j (f.type j) (f.chunk j) (f.sign j) (f.charset j) (f.name j) (f.key j) (f.json_place j)))))

columns_fault : (p : Parts) (n : ℕ) (e : Fault) → 0 < n → column_by p 0 ≡ Err e → columns_by (column_by p) n ≡ Err e ∷ []
columns_fault p zero e lt h = absurd (omega (arith, lt))
columns_fault p (suc n) e lt h = rw h refl

-- the same of a walk
pub walk_next : (v w : Walk) (c : Column) → length v.types.now ≡ length w.types.now + 1 → column_by (parts_left v) 0 ≡ Ok c → Follows (parts_left v) (parts_left w) → columns_left v ≡ Ok c ∷ columns_left w
unfolding columns_left
walk_next v w c e h f = columns_next (parts_left v) (parts_left w) (length v.types.now) (length w.types.now) c e h f

pub walk_fault : (v : Walk) (e : Fault) → 0 < length v.types.now → column_by (parts_left v) 0 ≡ Err e → columns_left v ≡ Err e ∷ []
unfolding columns_left
walk_fault v e lt h = columns_fault (parts_left v) (length v.types.now) e lt h

pub walk_end : (v : Walk) → length v.types.now ≡ 0 → columns_left v ≡ []
unfolding columns_left
walk_end v h = rw h refl

-- ---- each part, one column on

pub named_later : (xs ys : List (Result (List ℕ) Fault)) (x : Result (List ℕ) Fault) → xs ≡ x ∷ ys → (j : ℕ) → named ys j ≡ named xs (suc j)
named_later xs ys x h j = rw h refl

pub named_none : (xs ys : List (Result (List ℕ) Fault)) → xs ≡ [] → ys ≡ [] → (j : ℕ) → named ys j ≡ named xs (suc j)
named_none xs ys h k j = rw (h, k) refl

pub sign_later : (server : Server) (raw : ℕ) (rest all : List ℕ) (old new : List Bool) → all ≡ raw ∷ rest → new ≡ bits_after (is_numeric_number server raw) old → (j : ℕ) → sign_left server rest new j ≡ sign_left server all old (suc j)
sign_later server raw rest all old new e h j = rw (e, h) refl

pub json_later : (n m raw : ℕ) (rest all : List ℕ) → all ≡ raw ∷ rest → m ≡ n + cond (eqb raw 245) 1 0 → (j : ℕ) → m + json_count (take j rest) ≡ n + json_count (take (suc j) all)
json_later n m raw rest all e h j =
    let counted : json_count (raw ∷ take j rest) ≡ cond (eqb raw 245) 1 0 + json_count (take j rest) = sum_by-cons (λ x. cond (x == 245) 1 0) raw (take j rest) in
    rw (e, h, counted) (omega arith)

advance_at : (b : Bool) (f g : ℕ → Result ℕ Fault) → Advances b f g → (n : ℕ) → g n ≡ f (one_more b n)
advance_at true f g h n = h n
advance_at false f g h n = h n

pub ordinal_same : (group : ColumnType → Bool) (s t : ℕ → Result ColumnType Fault) → ((j : ℕ) → s j ≡ t j) → (j : ℕ) → ordinal_of group s j ≡ ordinal_of group t j
ordinal_same group s t h zero = refl
ordinal_same group s t h (suc j) = rw (h 0, ordinal_same group (λ k. s (suc k)) (λ k. t (suc k)) (λ k. h (suc k)) j) refl

pub charset_later : (server : Server) (f g f' g' : ℕ → Result ℕ Fault) (s t : ℕ → Result ColumnType Fault) (type : ColumnType) → s 0 ≡ Ok type → ((j : ℕ) → t j ≡ s (suc j))
    → Advances (character_group server type) f f' → Advances (enum_or_set_group server type) g g' → (j : ℕ) → charset_by server f' g' t j ≡ charset_by server f g s (suc j)
charset_later server f g f' g' s t type first h ff gg j =
    let c : ordinal_of (character_group server) t j ≡ ordinal_of (character_group server) (λ k. s (suc k)) j = ordinal_same (character_group server) t (λ k. s (suc k)) h j in
    let e : ordinal_of (enum_or_set_group server) t j ≡ ordinal_of (enum_or_set_group server) (λ k. s (suc k)) j = ordinal_same (enum_or_set_group server) t (λ k. s (suc k)) h j in
    rw (h j, c, e, first, advance_at (character_group server type) f f' ff (ordinal_of (character_group server) (λ k. s (suc k)) j), advance_at (enum_or_set_group server type) g g' gg (ordinal_of (enum_or_set_group server) (λ k. s (suc k)) j)) refl

-- ---- at the first column

first_sign : (b : Bool) (bits : List Bool) → bit_here b bits ≡ b && slice_index_or bits 0 false
first_sign true [] = refl
first_sign true (x ∷ bits) = refl
first_sign false bits = refl

later_bit : (bits : List Bool) (k : ℕ) → slice_index_or (bits_after_first bits) k false ≡ slice_index_or bits (suc k) false
later_bit [] k = refl
later_bit (b ∷ bits) k = refl

later_at : (n b : Bool) (bits : List Bool) (k : ℕ) → n && slice_index_or (bits_after b bits) k false ≡ n && slice_index_or bits (cond b 1 0 + k) false
later_at n true bits k = let one : 1 + k ≡ suc k = omega arith in rw (one, later_bit bits k) refl
later_at n false bits k = let none : 0 + k ≡ k = omega arith in rw none refl

pub sign_law : (server : Server) (types : List ℕ) (bits : List Bool) (i : ℕ) → sign_left server types bits i ≡ sign_in server types bits i
sign_law server [] bits i = refl
sign_law server (raw ∷ types) bits zero = first_sign (is_numeric_number server raw) bits
sign_law server (raw ∷ types) bits (suc i) = sign_law server types (bits_after (is_numeric_number server raw) bits) i ∙ later_at (is_numeric_at server types i) (is_numeric_number server raw) bits (numeric_count server (take i types)) ∙
    ap (λ (k : ℕ). is_numeric_at server types i && slice_index_or bits k false) (sym (sum_by-cons (λ x. cond (is_numeric_number server x) 1 0) raw (take i types)))

group_start : (c : CharsetsLeft) (d : Option DefaultCharset) (list : Option (List ℕ)) → IsStart d list c → (k : ℕ) → row_charset c k ≡ charset_of_group d list k
group_start c d list s k = charsets_of_table c s.ordinal k ∙ rw (s.default, s.pairs, s.list) refl

pub columns_start : (p q : Parts) (n : ℕ) → ((j : ℕ) → q.type j ≡ p.type j) → ((j : ℕ) → q.chunk j ≡ p.chunk j) → ((j : ℕ) → q.sign j ≡ p.sign j) → ((j : ℕ) → q.charset j ≡ p.charset j)
    → ((j : ℕ) → q.name j ≡ p.name j) → ((j : ℕ) → q.key j ≡ p.key j) → ((j : ℕ) → q.json_place j ≡ p.json_place j) → columns_by (column_by q) n ≡ columns_by (column_by p) n
columns_start p q n type chunk sign charset name key json =
    columns_same (column_by q) (column_by p) n (λ j. column_is p q j j (type j) (chunk j) (sign j) (charset j) (name j) (key j) (json j))

pub charset_start : (server : Server) (c e : CharsetsLeft) (d ed : Option DefaultCharset) (list elist : Option (List ℕ)) (s t : ℕ → Result ColumnType Fault) → IsStart d list c → IsStart ed elist e
    → ((j : ℕ) → s j ≡ t j) → (j : ℕ) → charset_by server (row_charset c) (row_charset e) s j ≡ charset_by server (charset_of_group d list) (charset_of_group ed elist) t j
charset_start server c e d ed list elist s t sc se h j =
    rw (
      h j,
      ordinal_same (character_group server) s t h j,
      ordinal_same (enum_or_set_group server) s t h j,
      group_start c d list sc (ordinal_of (character_group server) t j),
      group_start e ed elist se (ordinal_of (enum_or_set_group server) t j),
    ) refl

-- ---- the column that comes next, by its raw type

chunk_first : (raw : ℕ) (types : List ℕ) (m : Option (List ℕ)) (type : ColumnType) → column_type_of raw ≡ Ok type
    → chunk_left (record { types = raw ∷ types; metadata = m }) 0 ≡ typed_chunk type m
unfolding chunk
chunk_first raw types None type h = refl
chunk_first raw types (Some m) type h = rw h refl

rest_of : (types : List ℕ) (r : Result (List ℕ × List ℕ) Fault) (i : ℕ) → option_and_then (λ m. chunk_at types m i) (after_chunk r Some) ≡ after_chunk r (λ m. chunk_at types m i)
rest_of types (Ok r) i = refl
rest_of types (Err e) i = refl

chunk_later : (raw : ℕ) (types : List ℕ) (m : Option (List ℕ)) (type : ColumnType) (i : ℕ) → column_type_of raw ≡ Ok type
    → chunk_left (record { types = types; metadata = after_typed type m }) i ≡ chunk_left (record { types = raw ∷ types; metadata = m }) (suc i)
unfolding chunk
chunk_later raw types None type i h = refl
chunk_later raw types (Some m) type i h = rw h (rest_of types ((type_chunk type).parse m) i)

-- the type of a number by a table of types, whatever holds a number that is refused
by_row : (b : Bool) (t : ColumnType) (r : Result ColumnType UnknownColumnType) (s : Result ColumnType Fault) (chunk : Option (List ℕ))
    → typed (real_type_of (some_of r) chunk) ≡ (s >>= λ x. typed (some_of (real_type x chunk)))
    → typed (real_type_of (some_of (cond b (Ok t) r)) chunk) ≡ (cond b (Ok t) s >>= λ x. typed (some_of (real_type x chunk)))
by_row true t r s chunk h = refl
by_row false t r s chunk h = h

by_table : (rows : List (ℕ × ColumnType)) (n : ℕ) (chunk : Option (List ℕ))
    → typed (real_type_of (some_of (from_table rows (λ k. record { 0 = k }) n)) chunk) ≡ (from_table rows fault.UnknownColumnType n >>= λ x. typed (some_of (real_type x chunk)))
by_table [] n chunk = refl
by_table (row ∷ rows) n chunk = by_row (n == row.0) row.1 _ _ chunk (by_table rows n chunk)

type_first : (raw : ℕ) (chunk : Option (List ℕ)) → typed (real_type_of (raw_type_of (Some raw)) chunk) ≡ (column_type_of raw >>= λ x. typed (some_of (real_type x chunk)))
type_first raw chunk = by_table column_types raw chunk

-- the metadata that is left
abbrev pub metadata_of : Walk → Option (List ℕ)
metadata_of v = option_map (λ m. m.now) v.metadata

chunk_of_next : (v : Walk) (raw : ℕ) (types : List ℕ) (raw_type : ColumnType) → v.types.now ≡ raw ∷ types → column_type_of raw ≡ Ok raw_type
    → chunk_left (chunks_of v) 0 ≡ typed_chunk raw_type (metadata_of v)
chunk_of_next v raw types raw_type e known =
    ap (λ (l : List ℕ). chunk_left (record { types = l; metadata = metadata_of v }) 0) e ∙ chunk_first raw types (metadata_of v) raw_type known

pub type_of_next : (v : Walk) (raw : ℕ) (types : List ℕ) (raw_type : ColumnType) → v.types.now ≡ raw ∷ types → column_type_of raw ≡ Ok raw_type
    → type_left v 0 ≡ typed (some_of (real_type raw_type (typed_chunk raw_type (metadata_of v))))
type_of_next v raw types raw_type e known =
    let chunk = chunk_of_next v raw types raw_type e known in
    ap (λ (l : List ℕ). typed (real_type_of (raw_type_of (slice_get l 0)) (chunk_left (chunks_of v) 0))) e ∙
    ap (λ (c : Option (List ℕ)). typed (real_type_of (raw_type_of (Some raw)) c)) chunk ∙
    type_first raw (typed_chunk raw_type (metadata_of v)) ∙
    ap (λ (r : Result ColumnType Fault). r >>= λ x. typed (some_of (real_type x (typed_chunk raw_type (metadata_of v))))) known

pub type_unknown : (v : Walk) (raw : ℕ) (types : List ℕ) (e : Fault) → v.types.now ≡ raw ∷ types → column_type_of raw ≡ Err e → type_left v 0 ≡ Err e
type_unknown v raw types e is unknown =
    ap (λ (l : List ℕ). typed (real_type_of (raw_type_of (slice_get l 0)) (chunk_left (chunks_of v) 0))) is ∙
    type_first raw (chunk_left (chunks_of v) 0) ∙
    ap (λ (r : Result ColumnType Fault). r >>= λ x. typed (some_of (real_type x (chunk_left (chunks_of v) 0)))) unknown

numeric_known : (server : Server) (raw : ℕ) (raw_type : ColumnType) → column_type_of raw ≡ Ok raw_type → is_numeric_number server raw ≡ numeric_group server raw_type
unfolding is_numeric_number
numeric_known server raw raw_type known = ap (in_group (numeric_group server)) known

-- the parts of the next column, by its raw type
abbrev pub parts_of_next : Walk → ColumnType → Parts
parts_of_next v raw_type =
    let chunk = typed_chunk raw_type (metadata_of v) in
    let type = typed (some_of (real_type raw_type chunk)) in
    record {
      type = λ _. type;
      chunk = λ _. chunk;
      sign = λ _. bit_here (numeric_group v.server raw_type) v.signs;
      charset = λ _. charset_by v.server (row_charset v.characters) (row_charset v.enums) (λ _. type) 0;
      name = λ _. named (items lenenc_string v.names.bytes) 0;
      key = λ _. key_from v.column v.keys.keys v.column;
      json_place = λ _. v.json_place;
    }

pub column_of_next : (v : Walk) (raw : ℕ) (types : List ℕ) (raw_type : ColumnType) → v.types.now ≡ raw ∷ types → column_type_of raw ≡ Ok raw_type
    → column_by (parts_left v) 0 ≡ column_by (parts_of_next v raw_type) 0
unfolding parts_left
column_of_next v raw types raw_type e known =
    let type = type_of_next v raw types raw_type e known in
    column_is (parts_of_next v raw_type) (parts_left v) 0 0 type (chunk_of_next v raw types raw_type e known)
    (rw (e, numeric_known v.server raw raw_type known) refl)
    (ap (λ (r : Result ColumnType Fault). charset_by v.server (row_charset v.characters) (row_charset v.enums) (λ _. r) 0) type)
    refl (key_now v.column v.keys.keys) (omega arith)

-- ---- columns with no character set

pub none_by_metadata : (raw : ColumnType) (chunk : Option (List ℕ)) (t : ColumnType) → real_type raw chunk ≡ Ok t → has_charset raw ≡ false → has_charset t ≡ false
none_by_metadata column.MYSQL_TYPE_STRING chunk t h none = absurd cc
none_by_metadata column.MYSQL_TYPE_DATE chunk t h none = let same : column.MYSQL_TYPE_NEWDATE ≡ t = cc in subst (λ (x : ColumnType). has_charset x ≡ false) same refl
none_by_metadata raw chunk t h none = let same : raw ≡ t = cc in subst (λ (x : ColumnType). has_charset x ≡ false) same none

pub no_character : (server : Server) (t : ColumnType) → has_charset t ≡ false → character_group server t ≡ false
no_character server column.MYSQL_TYPE_STRING h = absurd cc
no_character server column.MYSQL_TYPE_VAR_STRING h = absurd cc
no_character server column.MYSQL_TYPE_VARCHAR h = absurd cc
no_character server column.MYSQL_TYPE_BLOB h = absurd cc
no_character server column.MYSQL_TYPE_GEOMETRY h = absurd cc
no_character server column.MYSQL_TYPE_ENUM h = absurd cc
no_character server column.MYSQL_TYPE_SET h = absurd cc
no_character MySql t h = refl
no_character MariaDb t h = refl

pub no_choice : (server : Server) (t : ColumnType) → has_charset t ≡ false → enum_or_set_group server t ≡ false
no_choice server column.MYSQL_TYPE_ENUM h = absurd cc
no_choice server column.MYSQL_TYPE_SET h = absurd cc
no_choice server t h = refl

-- ---- a walk

pub walk_follows : (v w : Walk) (raw : ℕ) (raw_type type : ColumnType) → w.server ≡ v.server → v.types.now ≡ raw ∷ w.types.now → column_type_of raw ≡ Ok raw_type
    → typed (some_of (real_type raw_type (typed_chunk raw_type (metadata_of v)))) ≡ Ok type → metadata_of w ≡ after_typed raw_type (metadata_of v) → w.signs ≡ bits_after (numeric_group v.server raw_type) v.signs
    → Advances (character_group v.server type) (row_charset v.characters) (row_charset w.characters) → Advances (enum_or_set_group v.server type) (row_charset v.enums) (row_charset w.enums)
    → ((j : ℕ) → named (items lenenc_string w.names.bytes) j ≡ named (items lenenc_string v.names.bytes) (suc j))
    → w.column ≡ v.column + 1 → ((i : ℕ) → v.column < i → key_from (suc v.column) w.keys.keys i ≡ key_from v.column v.keys.keys i)
    → w.json_place ≡ v.json_place + cond (eqb raw 245) 1 0 → Follows (parts_left v) (parts_left w)
unfolding parts_left
walk_follows v w raw raw_type type server types known real metadata signs characters enums names column keys json =
    let first = type_of_next v raw w.types.now raw_type types known ∙ real in
    let chunks : (j : ℕ) → chunk_left (chunks_of w) j ≡ chunk_left (chunks_of v) (suc j) = λ j.
    ap (λ (m : Option (List ℕ)). chunk_left (record { types = w.types.now; metadata = m }) j) metadata ∙ chunk_later raw w.types.now (metadata_of v) raw_type j known ∙
    ap (λ (l : List ℕ). chunk_left (record { types = l; metadata = metadata_of v }) (suc j)) (sym types) in
    let types_later : (j : ℕ) → type_left w j ≡ type_left v (suc j) = λ j.
    ap (λ (c : Option (List ℕ)). typed (real_type_of (raw_type_of (slice_get w.types.now j)) c)) (chunks j) ∙
    ap (λ (l : List ℕ). typed (real_type_of (raw_type_of (slice_get l (suc j))) (chunk_left (chunks_of v) (suc j)))) (sym types) in
    let bits = signs ∙ ap (λ (b : Bool). bits_after b v.signs) (sym (numeric_known v.server raw raw_type known)) in
    record {
      type = types_later;
      chunk = chunks;
      sign = λ j. rw server (sign_later v.server raw w.types.now v.types.now v.signs w.signs types bits j);
      charset = λ j. rw server (charset_later v.server (row_charset v.characters) (row_charset v.enums) (row_charset w.characters) (row_charset w.enums) (type_left v) (type_left w) type first types_later characters enums j);
      name = names;
      key = λ j. rw column (key_later v.column v.keys.keys w.keys.keys keys j);
      json_place = json_later v.json_place w.json_place raw w.types.now v.types.now types json;
    }

-- ---- columns that are passed over

-- a group without lists goes on as it is
still : (b : Bool) (c : CharsetsLeft) → NoCharsetsLeft c → Advances b (row_charset c) (row_charset c)
still true c none = λ k. rw (none.pairs, none.list) refl
still false c none = λ k. refl

zero_there : (default : Option ℕ) → (x : ℕ) × (zero_without (Ok default) ≡ Ok x)
zero_there None = (0, refl)
zero_there (Some x) = (x, refl)

default_there : (c : CharsetsLeft) → NoCharsetsLeft c → (x : ℕ) × (row_charset c 0 ≡ Ok x)
default_there c none = let zero = zero_there c.default in (zero.0, rw (none.pairs, none.list) zero.1)

one_there : (a b : Bool) (r s : Result ℕ Fault) (x y : ℕ) → r ≡ Ok x → s ≡ Ok y → (z : ℕ) × (cond a r (cond b s (Ok 0)) ≡ Ok z)
one_there true b r s x y h k = (x, h)
one_there false true r s x y h k = (y, k)
one_there false false r s x y h k = (0, refl)

pub type_there : (raw_type type : ColumnType) (chunk : Option (List ℕ)) → real_type raw_type chunk ≡ Ok type → (t : ColumnType) × (typed (some_of (real_type raw_type chunk)) ≡ Ok t)
type_there raw_type type chunk h = (type, rw h refl)

-- a column has no fault where its type has none and no list is left
column_there : (v : Walk) (raw_type type : ColumnType) → NoListsLeft v → typed (some_of (real_type raw_type (typed_chunk raw_type (metadata_of v)))) ≡ Ok type
    → (c : Column) × (column_by (parts_of_next v raw_type) 0 ≡ Ok c)
column_there v raw_type type none real =
    let character = default_there v.characters none.characters in
    let enum = default_there v.enums none.enums in
    let charset = one_there (character_group v.server type) (enum_or_set_group v.server type) (row_charset v.characters 0) (row_charset v.enums 0) character.0 enum.0 character.1 enum.1 in (
      record { column_type = type; metadata = typed_chunk raw_type (metadata_of v); unsigned = bit_here (numeric_group v.server raw_type) v.signs; charset = charset.0; name = None; is_key = false; json_place = v.json_place },
      rw (real, charset.1, none.names, none.keys) refl,
    )

pub passes_one : (v w : Walk) (raw : ℕ) (raw_type type : ColumnType) → NoListsLeft v → w.server ≡ v.server → v.types.now ≡ raw ∷ w.types.now → column_type_of raw ≡ Ok raw_type
    → typed (some_of (real_type raw_type (typed_chunk raw_type (metadata_of v)))) ≡ Ok type → metadata_of w ≡ after_typed raw_type (metadata_of v) → w.signs ≡ bits_after (numeric_group v.server raw_type) v.signs
    → w.characters ≡ v.characters → w.enums ≡ v.enums → w.names ≡ v.names → w.keys ≡ v.keys → w.column ≡ v.column + 1
    → w.json_place ≡ v.json_place + cond (eqb raw 245) 1 0 → PassesOver 1 (columns_left v) (columns_left w)
passes_one v w raw raw_type type none server types known real metadata signs characters enums names keys column json =
    let there = column_there v raw_type type none real in
    let follows =
    walk_follows v w raw raw_type type server types known real metadata signs (rw characters (still (character_group v.server type) v.characters none.characters)) (rw enums (still (enum_or_set_group v.server type) v.enums none.enums))
    (λ j. rw (names, none.names) refl) column (λ i low. rw (keys, none.keys) refl) json in
    (there.0 ∷ [], refl, walk_next v w there.0 (rw types (omega arith)) (column_of_next v raw w.types.now raw_type types known ∙ there.1) follows)

pub passes_none : (columns : List (Result Column Fault)) → PassesOver 0 columns columns
passes_none columns = ([], refl, refl)

pub passes_more : (n m : ℕ) (old some new : List (Result Column Fault)) → PassesOver n old some → PassesOver m some new → PassesOver (n + m) old new
passes_more n m old some new first second =
    let columns : old ≡ map Ok (first.0 ++ second.0) ++ new = first.2 ∙ ap (λ (l : List (Result Column Fault)). map Ok first.0 ++ l) second.2 ∙ sym (append_assoc (map Ok first.0) (map Ok second.0) new) ∙ ap (λ (l : List (Result Column Fault)). l ++ new) (sym (map-append Ok first.0 second.0)) in
    (first.0 ++ second.0, rw (length-append first.0 second.0, first.1, second.1) refl, columns)

pub passes_then : (n m : ℕ) (old at some new : List (Result Column Fault)) → PassesOver n old at → at ≡ some → PassesOver m some new → PassesOver (n + m) old new
passes_then n m old at some new first same second = passes_more n m old some new (subst (λ (l : List (Result Column Fault)). PassesOver n old l) same first) second

-- what a call for one column tells
one_passed : (old new : List (Result Column Fault)) (c : Result Column Fault) (u : Unit {0}) → old ≡ c ∷ new → Ok u ≡ passed c → PassesOver 1 old new
one_passed old new (Ok c) u h told = (c ∷ [], refl, h)
one_passed old new (Err e) u h told = absurd cc

pub passed_one : (old new : List (Result Column Fault)) (r : Result (Unit {0}) Fault) (u : Unit {0}) → r ≡ Ok u → PassesFirst old (Some r) new → PassesOver 1 old new
passed_one old new r u is h = one_passed old new h.0 u h.1 (sym is ∙ h.2)

fault_told : (old new : List (Result Column Fault)) (c : Result Column Fault) (e : Fault) → old ≡ c ∷ new → Err e ≡ passed c → FaultFirst e old new
fault_told old new (Ok c) e h told = absurd cc
fault_told old new (Err d) e h told = let same : d ≡ e = cc in rw (h, same) (refl, refl)

pub passed_fault : (old new : List (Result Column Fault)) (r : Result (Unit {0}) Fault) (e : Fault) → r ≡ Err e → PassesFirst old (Some r) new → FaultFirst e old new
passed_fault old new r e is h = fault_told old new h.0 e h.1 (sym is ∙ h.2)

pub passed_end : (old new : List (Result Column Fault)) → PassesFirst old None new → FaultFirst fault.NoColumnType old new
passed_end old new h = rw h.0 (refl, h.1)

-- where n columns were passed over, column n is the next one
next_after : (front : List Column) (at : List (Result Column Fault)) → slice_get (map Ok front ++ at) (length front) ≡ slice_get at 0
next_after [] at = refl
next_after (c ∷ front) at = next_after front at

count_told : (old new : List (Result Column Fault)) (r : Option (Result (Unit {0}) Fault)) → PassesFirst old r new → count_of (slice_get old 0) ≡ count_of r
count_told old new None h = rw h.0 refl
count_told old new (Some told) h = rw h.1 refl

-- what a call for one column counts, after n columns
pub count_after : (n : ℕ) (old at new : List (Result Column Fault)) (r : Option (Result (Unit {0}) Fault)) → PassesOver n old at → PassesFirst at r new → count_of (slice_get old n) ≡ count_of r
count_after n old at new r over first =
    ap (λ (l : List (Result Column Fault)). count_of (slice_get l n)) over.2 ∙ ap (λ (m : ℕ). count_of (slice_get (map Ok over.0 ++ at) m)) (sym over.1) ∙
    ap (λ (c : Option (Result Column Fault)). count_of c) (next_after over.0 at) ∙ count_told at new r first

-- what the kept fields tell
abbrev pub parts_with : TableMap → Kept → Parts
parts_with t k = record {
  type = type_at t;
  chunk = chunk_at t.types t.metadata;
  sign = λ i. sign_in t.server t.types (list_or k.signs) i;
  charset = λ i. charset_by t.server (charset_of_group k.default k.charsets) (charset_of_group k.enum_default k.enum_charsets) (type_at t) i;
  name = λ i. named (items lenenc_string (list_or k.names)) i;
  key = λ i. key_in (key_items (items lenenc (list_or k.simple)) (items (pair_with lenenc) (list_or k.prefixed))) i;
  json_place = λ i. json_count (take i t.types);
}

pub walk_start : (w : Walk) (t : TableMap) (k : Kept) → k ≡ kept_of t → w.server ≡ t.server → w.types.now ≡ t.types → option_map (λ m. m.now) w.metadata ≡ Some t.metadata → w.signs ≡ list_or k.signs
    → IsStart k.default k.charsets w.characters → IsStart k.enum_default k.enum_charsets w.enums → w.names ≡ record { bytes = list_or k.names; taken = 0 }
    → w.keys.keys ≡ key_items (items lenenc (list_or k.simple)) (items (pair_with lenenc) (list_or k.prefixed)) → w.column ≡ 0 → w.json_place ≡ 0
    → columns_left w ≡ columns_by (column_at t) (length t.types)
unfolding columns_left parts_left column_at
walk_start w t k is server types metadata signs characters enums names keys column json =
    let types_same : (j : ℕ) → type_left w j ≡ type_at t j = λ j. rw (types, metadata) refl in
    subst (λ (x : Kept). columns_by (column_by (parts_left w)) (length w.types.now) ≡ columns_by (column_by (parts_with t x)) (length t.types)) is
    (ap (λ (n : ℕ). columns_by (column_by (parts_left w)) n) (ap length types) ∙
    columns_start (parts_with t k) (parts_left w) (length t.types) types_same (λ j. rw (types, metadata) refl) (λ j. rw (server, types, signs) (sign_law t.server t.types (list_or k.signs) j))
    (λ j. rw server (charset_start t.server w.characters w.enums k.default k.enum_default k.charsets k.enum_charsets (type_left w) (type_at t) characters enums types_same j))
    (λ j. rw names refl) (λ j. rw (column, keys) (keys_of_table _ j)) (λ j. rw (json, types) (omega arith)))
