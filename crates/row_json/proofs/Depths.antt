-- How deep what is written nests: at most 104 levels, and 128 are read back.
use Rattle.std.proofs.Common.{Ordering, Less, Equal, Greater, ◌≡◌, ◌≤◌, ◌+◌, ℕ, zero, suc, ℤ, Bool, true, false, List, [], ◌∷◌, ◌++◌, refl, ap, ◌∙◌, arith}
use Rattle.std.specs.Prelude.{Option, Some, None, Result, Ok, codes, max, if◌then◌else◌, nat_lt, length, ◌==◌, decimal, from_bits, unsigned_abs}
use Rattle.std.specs.Bool.{MatchBool}
use Rattle.std.specs.Float.{Float, Format, float_is_finite, binary32, binary64}
use Rattle.std.specs.Ordering.{match_ordering, nat_cmp}
use Rattle.std.specs.Cmp.Lexicographic.{slice_cmp}
use Rattle.std.specs.Str.Lossy.{utf8_lossy}
use Rattle.binlog_base.specs.declared.fault.Fault.{Fault}
use Rattle.binlog_base.specs.Values.{PlainValue, Null, Bytes, Int, UInt, Float as FloatOf, Double, Date, Time, value_at}
use Rattle.binlog_values.specs.JsonbValues.{JsonbValue, nested, Frame, element_at}
use Rattle.binlog_values.specs.JsonbTrees as trees
use Rattle.binlog_values.specs.JsonbTrees.{TreeScalar, Tree, leaf, node, Branches, no_branches, branch, Denotes, DenoteFrom, Data, plain, array, object, Items, Members, put, merged, merged_items, merged_into}
use Rattle.binlog_values.specs.JsonbDocuments.{opened, entries_from, entries_of, document_of}
use Rattle.binlog_values.specs.JsonbDocuments as documents
use Rattle.binlog_values.specs.JsonDiffs.{Diff}
use Rattle.binlog_values.proofs.JsonbUnfolding.{document_is}
use Rattle.binlog_cells.specs.Cells.{Cell, PlainCell, JsonCell, DiffsCell}
use Rattle.mysql_binlog_rows.specs.Images.{BinlogRow, Pair}
use Rattle.mysql_binlog_rows.specs.RowsEvent.{RowsEvent}
use Rattle.json.specs.Json as json
use Rattle.json.specs.Json.{Json}
use Rattle.json.specs.Word.{after_number}
use Rattle.json.specs.Tree.{depth, items_depth, members_depth}
use Rattle.row_json.specs.declared.kind.Kind.{Kind}
use Rattle.row_json.specs.declared.kind.Kind.TheVariants as kind
use Rattle.row_json.specs.declared.row.Part.{Part}
use Rattle.row_json.specs.declared.row.Part.TheVariants as part
use Rattle.row_json.specs.Columns.{Column}
use Rattle.row_json.specs.Charsets.{text_in}
use Rattle.row_json.specs.Documents.{IsScalarJson, IsDataJson, AreItems, AreMembers, IsDiffValue, IsDiffJson, AreDiffs, IsDiffsJson}
use Rattle.row_json.specs.Floats.{IsNumberOf, special_text}
use Rattle.row_json.specs.Values.{base64_json, string_or, is_whole, number_or_bytes, string_or_number, IsTimestampOrText, IsBytesJson, IsIntJson, IsPlainJson, set_of_bits, set_names, name_of, with_sign}
use Rattle.row_json.specs.Rows.{IsMember, IsDiffsMember, IsMemberOf, IsObjectOf, IsImageJson, IsPairJson, before_in, after_in, has_diffs}
use Rattle.row_json.specs.Rows as rows
use Rattle.row_json.specs.Wrote.{Named, Fits, items_of, members_of}
use Rattle.row_json.specs.declared.charset.Charset.TheVariants.{Utf8mb4}
use Rattle.row_json.specs.Times.{timestamp_in}
use Rattle.byteorder.specs.Endian.{little_number, big_number}
use Rattle.binlog_decimal.specs.DecimalText.{decimal_text}
use Rattle.std.specs.Str.{bytes_eq}
use Rattle.std.specs.List.{join_with_byte}
use Rattle.std.specs.Option.{option_map}

-- ---- numbers and strings

number_flat : (b : Bool) (text : List ℕ) → depth (if b then json.number text else json.string text) ≡ 0
number_flat true text = refl
number_flat false text = refl

float_flat : (b : Bool) (f : Format) (x : Float) (j : Json) → MatchBool b (IsNumberOf f x j) (j ≡ json.string (special_text x)) → depth j ≡ 0
float_flat true f x j h = ap depth h.1
float_flat false f x j h = ap depth h

scalar_flat : (s : TreeScalar) (j : Json) → IsScalarJson s j → depth j ≡ 0
scalar_flat trees.null j h = ap depth h
scalar_flat (trees.boolean b) j h = ap depth h
scalar_flat (trees.int z) j h = ap depth h
scalar_flat (trees.uint n) j h = ap depth h
scalar_flat (trees.double bits) j h = float_flat (float_is_finite (from_bits binary64 bits)) binary64 (from_bits binary64 bits) j h
scalar_flat (trees.decimal d) j h = ap depth h ∙ number_flat (is_whole (after_number (decimal_text d))) (decimal_text d)
scalar_flat (trees.date_time t) j h = ap depth h
scalar_flat (trees.text bytes) j h = ap depth h
scalar_flat (trees.opaque type bytes) j h = ap depth h

-- ---- documents

abbrev mutual
  levels : Data → ℕ
  levels (plain s) = 0
  levels (array ds) = suc (items_levels ds)
  levels (object ms) = suc (members_levels ms)

  items_levels : Items → ℕ
  items_levels trees.no_items = 0
  items_levels (trees.item d ds) = max (levels d) (items_levels ds)

  members_levels : Members → ℕ
  members_levels trees.no_members = 0
  members_levels (trees.member k d ms) = max (levels d) (members_levels ms)

mutual
  data_fits : (d : Data) (j : Json) → IsDataJson d j → depth j ≤ levels d
  data_fits (plain s) j h = let e = scalar_flat s j h in omega (arith, e)
  data_fits (array ds) j h = let inner = items_fit ds h.0 h.1 in rw h.2 (omega (arith, inner))
  data_fits (object ms) j h = let inner = members_fit ms h.0 h.1 in rw h.2 (omega (arith, inner))

  items_fit : (ds : Items) (js : List Json) → AreItems ds js → items_depth (items_of js) ≤ items_levels ds
  items_fit trees.no_items js h = rw h (omega arith)
  items_fit (trees.item d ds) js h = let first = data_fits d h.0 h.2 in let more = items_fit ds h.1 h.3 in rw h.4 (omega (arith, first, more))

  members_fit : (ms : Members) (js : List Named) → AreMembers ms js → members_depth (members_of js) ≤ members_levels ms
  members_fit trees.no_members js h = rw h (omega arith)
  members_fit (trees.member k d ms) js h = let first = data_fits d h.0 h.2 in let more = members_fit ms h.1 h.3 in rw h.4 (omega (arith, first, more))

by_order : (o : Ordering) (a b c : Members) (n : ℕ) → members_levels a ≤ n → members_levels b ≤ n → members_levels c ≤ n → members_levels (match_ordering o a b c) ≤ n
by_order Less a b c n x y z = x
by_order Equal a b c n x y z = y
by_order Greater a b c n x y z = z

put_fits : (k : List ℕ) (d : Data) (ms : Members) → members_levels (put k d ms) ≤ max (levels d) (members_levels ms)
put_fits k d trees.no_members = omega arith
put_fits k d (trees.member l e ms) =
    let later = put_fits k d ms in
    by_order (slice_cmp nat_cmp k l) (trees.member k d (trees.member l e ms)) (trees.member l d ms) (trees.member l e (put k d ms)) (max (levels d) (members_levels (trees.member l e ms))) (omega arith) (omega arith) (omega (arith, later))

mutual
  tree_fits : (t : Tree) (r : Result JsonbValue Fault) → Denotes t r → levels (merged t) ≤ documents.depth (document_of r)
  tree_fits (leaf p) r h = omega arith
  tree_fits (node true bs) r h =
      let d : document_of r ≡ opened h.0 (entries_of h.0) = ap document_of h.1 ∙ document_is (Ok (nested h.0)) in
      let inner = branches_fit bs h.0 0 h.0.count h.3 (omega arith) in
      rw d (omega (arith, inner))
  tree_fits (node false bs) r h =
      let d : document_of r ≡ opened h.0 (entries_of h.0) = ap document_of h.1 ∙ document_is (Ok (nested h.0)) in
      let inner = keyed_fit bs trees.no_members h.0 0 h.0.count h.3 (omega arith) in
      rw d (omega (arith, inner))

  branches_fit : (bs : Branches) (c : Frame) (i k : ℕ) → DenoteFrom bs c i → i + k ≡ c.count → items_levels (merged_items bs) ≤ documents.depths (entries_from c i k)
  branches_fit no_branches c i k h all = omega arith
  branches_fit (branch key t bs) c i zero h all = absurd (omega (arith, h.0, all))
  branches_fit (branch key t bs) c i (suc k) h all =
      let first = tree_fits t (element_at c i) h.2 in
      let more = branches_fit bs c (suc i) k h.3 (omega (arith, all)) in
      omega (arith, first, more)

  keyed_fit : (bs : Branches) (ms : Members) (c : Frame) (i k : ℕ) → DenoteFrom bs c i → i + k ≡ c.count → members_levels (merged_into ms bs) ≤ max (members_levels ms) (documents.depths (entries_from c i k))
  keyed_fit no_branches ms c i k h all = omega arith
  keyed_fit (branch key t bs) ms c i zero h all = absurd (omega (arith, h.0, all))
  keyed_fit (branch key t bs) ms c i (suc k) h all =
      let first = tree_fits t (element_at c i) h.2 in
      let here = put_fits (utf8_lossy key) (merged t) ms in
      let more = keyed_fit bs (put (utf8_lossy key) (merged t) ms) c (suc i) k h.3 (omega (arith, all)) in
      omega (arith, first, here, more)

-- the JSON of a document nests no deeper than the document
pub document_fits : (value : JsonbValue) (t : Tree) (j : Json) → Denotes t (Ok value) → IsDataJson (merged t) j → documents.depth (document_of (Ok value)) ≤ 100 → depth j ≤ 100
document_fits value t j denotes is within = let a = data_fits (merged t) j is in let b = tree_fits t (Ok value) denotes in omega (arith, a, b, within)

-- ---- diffs

diff_value_fits : (v : Option JsonbValue) (ms : List Named) → IsDiffValue v ms → members_depth (members_of ms) ≤ 100
diff_value_fits None ms h = rw h (omega arith)
diff_value_fits (Some v) ms h = let b : depth h.0 ≤ 100 = h.1.3 in rw h.2 (omega (arith, b))

diff_fits : (d : Diff) (j : Json) → IsDiffJson d j → depth j ≤ 101
diff_fits d j h = let b = diff_value_fits d.value h.0 h.1 in rw h.2 (omega (arith, b))

diffs_fit : (ds : List Diff) (js : List Json) → AreDiffs ds js → items_depth (items_of js) ≤ 101
diffs_fit [] js h = rw h (omega arith)
diffs_fit (d ∷ ds) js h = let first = diff_fits d h.0 h.2 in let more = diffs_fit ds h.1 h.3 in rw h.4 (omega (arith, first, more))

all_diffs_fit : (ds : List Diff) (j : Json) → IsDiffsJson ds j → depth j ≤ 102
all_diffs_fit ds j h = let b = diffs_fit ds h.0 h.1 in rw h.2 (omega (arith, b))

-- ---- plain values

string_or_fits : (bytes : List ℕ) (text : Option (List ℕ)) → depth (string_or bytes text) ≤ 1
string_or_fits bytes None = omega arith
string_or_fits bytes (Some text) = omega arith

number_or_bytes_fits : (bytes : List ℕ) (text : Option (List ℕ)) → depth (number_or_bytes bytes text) ≤ 1
number_or_bytes_fits bytes None = omega arith
number_or_bytes_fits bytes (Some text) = let e = number_flat (is_whole (after_number text)) text in omega (arith, e)

string_or_number_fits : (n : ℕ) (text : Option (List ℕ)) → depth (string_or_number n text) ≤ 1
string_or_number_fits n None = omega arith
string_or_number_fits n (Some text) = omega arith

one_of : (b : Bool) (x y : Json) → depth x ≤ 1 → depth y ≤ 1 → depth (if b then x else y) ≤ 1
one_of true x y p q = p
one_of false x y p q = q

timestamp_fits : (decimals : ℕ) (bytes : List ℕ) (t : Option (ℕ × ℕ)) (j : Json) → IsTimestampOrText decimals bytes t j → depth j ≤ 1
timestamp_fits decimals bytes None j h = rw h (string_or_fits bytes (text_in Utf8mb4 bytes))
timestamp_fits decimals bytes (Some t) j h = rw h.2 (omega arith)

bytes_fit : (c : Column) (k : Kind) (bytes : List ℕ) (j : Json) → IsBytesJson c k bytes j → depth j ≤ 1
bytes_fit c kind.Plain bytes j h = rw h (omega arith)
bytes_fit c kind.Year bytes j h = rw h (one_of (bytes_eq bytes (codes "1900")) (json.number (decimal 0)) (number_or_bytes bytes (text_in Utf8mb4 bytes)) (omega arith) (number_or_bytes_fits bytes (text_in Utf8mb4 bytes)))
bytes_fit c kind.Bits bytes j h = rw h (one_of (nat_lt 8 (length bytes)) (base64_json bytes) (json.number (decimal (big_number (length bytes) bytes))) (omega arith) (omega arith))
bytes_fit c kind.Date bytes j h = rw h (omega arith)
bytes_fit c (kind.Datetime d) bytes j h = rw h (omega arith)
bytes_fit c (kind.Timestamp d) bytes j h = timestamp_fits d bytes (timestamp_in bytes) j h
bytes_fit c (kind.Time d) bytes j h = rw h (omega arith)
bytes_fit c kind.OldTime bytes j h = rw h (omega arith)
bytes_fit c kind.Enum bytes j h = rw h (omega arith)
bytes_fit c kind.Set bytes j h =
    let bits = little_number (length bytes) bytes in
    rw h (one_of (nat_lt 8 (length bytes)) (base64_json bytes) (set_of_bits c.names bits) (omega arith) (string_or_number_fits bits (option_map (join_with_byte 44) (set_names c.names bits))))
bytes_fit c (kind.Text s) bytes j h = rw h (string_or_fits bytes (text_in s bytes))
bytes_fit c (kind.Binary n) bytes j h = rw h (omega arith)

int_fits : (c : Column) (k : Kind) (z : ℤ) (j : Json) → IsIntJson c k z j → depth j ≤ 1
int_fits c kind.Plain z j h = rw h (omega arith)
int_fits c kind.Year z j h = rw h (omega arith)
int_fits c kind.Bits z j h = rw h (omega arith)
int_fits c kind.Date z j h = rw h (omega arith)
int_fits c (kind.Datetime d) z j h = rw h (omega arith)
int_fits c (kind.Timestamp d) z j h = rw h.2 (omega arith)
int_fits c (kind.Time d) z j h = rw h (omega arith)
int_fits c kind.OldTime z j h = rw h (omega arith)
int_fits c kind.Enum z j h =
    let n = unsigned_abs z in
    rw h (one_of (n == 0) (json.string []) (string_or_number n (name_of c.names n)) (omega arith) (string_or_number_fits n (name_of c.names n)))
int_fits c kind.Set z j h = rw h (omega arith)
int_fits c (kind.Text s) z j h = rw h (omega arith)
int_fits c (kind.Binary n) z j h = rw h (omega arith)

pub plain_fits : (c : Column) (v : PlainValue) (j : Json) → IsPlainJson c v j → depth j ≤ 1
plain_fits c Null j h = rw h (omega arith)
plain_fits c (Bytes bytes) j h = bytes_fit c c.kind bytes j h
plain_fits c (Int z) j h = int_fits c c.kind z j h
plain_fits c (UInt n) j h = rw h (omega arith)
plain_fits c (FloatOf bits) j h = let e = float_flat (float_is_finite (from_bits binary32 bits)) binary32 (from_bits binary32 bits) j h in omega (arith, e)
plain_fits c (Double bits) j h = let e = float_flat (float_is_finite (from_bits binary64 bits)) binary64 (from_bits binary64 bits) j h in omega (arith, e)
plain_fits c (Date y m d h i s u) j is = rw is (omega arith)
plain_fits c (Time n d h i s u) j is = rw is (omega arith)

-- ---- rows

member_fits : (c : Column) (cell : Option Cell) (ms : List Named) → IsMember c cell ms → members_depth (members_of ms) ≤ 102
member_fits c None ms h = rw h (omega arith)
member_fits c (Some (PlainCell v)) ms h = let b = plain_fits c (with_sign c.kind v) h.0 h.1 in rw h.2 (omega (arith, b))
member_fits c (Some (JsonCell v)) ms h = let b : depth h.0 ≤ 100 = h.1.3 in rw h.2 (omega (arith, b))
member_fits c (Some (DiffsCell ds)) ms h = rw h (omega arith)

diffs_member_fits : (c : Column) (cell : Option Cell) (ms : List Named) → IsDiffsMember c cell ms → members_depth (members_of ms) ≤ 102
diffs_member_fits c None ms h = rw h (omega arith)
diffs_member_fits c (Some (PlainCell v)) ms h = rw h (omega arith)
diffs_member_fits c (Some (JsonCell v)) ms h = rw h (omega arith)
diffs_member_fits c (Some (DiffsCell ds)) ms h = let b = all_diffs_fit ds h.0 h.1 in rw h.2 (omega (arith, b))

part_fits : (p : Part) (c : Column) (cell : Option Cell) (ms : List Named) → IsMemberOf p c cell ms → members_depth (members_of ms) ≤ 102
part_fits part.Row c cell ms h = member_fits c cell ms h
part_fits part.Diffs c cell ms h = diffs_member_fits c cell ms h

joined : (a b : List Named) (n : ℕ) → members_depth (members_of a) ≤ n → members_depth (members_of b) ≤ n → members_depth (members_of (a ++ b)) ≤ n
joined [] b n x y = y
joined (m ∷ ms) b n x y = let more = joined ms b n (omega (arith, x)) y in omega (arith, x, more)

columns_fit : (p : Part) (cs : List Column) (present : List Bool) (place : ℕ) (values : List (Option Cell)) (ms : List Named) → rows.AreMembers p cs present place values ms → members_depth (members_of ms) ≤ 102
columns_fit p [] present place values ms h = rw h (omega arith)
columns_fit p (c ∷ cs) [] place values ms h = rw h (omega arith)
columns_fit p (c ∷ cs) (false ∷ present) place values ms h = columns_fit p cs present place values ms h
columns_fit p (c ∷ cs) (true ∷ present) place values ms h =
    rw h.4 (joined h.0 h.1 102 (part_fits p c (value_at values place) h.0 h.2) (columns_fit p cs present (suc place) values h.1 h.3))

pub object_fits : (p : Part) (cs : List Column) (present : List Bool) (row : BinlogRow) (j : Json) → IsObjectOf p cs present row j → depth j ≤ 103
object_fits p cs present row j h = let b = columns_fit p cs present 0 row.values h.0 h.1 in rw h.2 (omega (arith, b))

image_fits : (cs : List Column) (present : List Bool) (image : Option BinlogRow) (j : Json) → IsImageJson cs present image j → depth j ≤ 103
image_fits cs present None j h = rw h (omega arith)
image_fits cs present (Some row) j h = object_fits part.Row cs present row j h

diffs_of_fit : (b : Bool) (cs : List Column) (present : List Bool) (image : Option BinlogRow) (ms : List Named) → MatchBool b ((j : Json) × rows.IsDiffsOf cs present image j × (ms ≡ (codes "diffs", j) ∷ [])) (ms ≡ []) → members_depth (members_of ms) ≤ 103
diffs_of_fit true cs present None ms h = absurd h.1
diffs_of_fit true cs present (Some row) ms h = let b = object_fits part.Diffs cs present row h.0 h.1 in rw h.2 (omega (arith, b))
diffs_of_fit false cs present image ms h = rw h (omega arith)

-- a pair nests at most 104 levels, or as deep as the members of the caller's
pub pair_fits : (cs : List Column) (e : RowsEvent) (added : List Named) (pair : Pair) (j : Json) → Fits added → IsPairJson cs e added pair j → depth j ≤ 128
pair_fits cs e added pair j fits h =
    let before = image_fits cs (before_in e) pair.0 h.before h.is_before in
    let after = image_fits cs (after_in e) pair.1 h.after h.is_after in
    let diffs = diffs_of_fit (has_diffs pair.1) cs (after_in e) pair.1 h.diffs h.are_diffs in
    let rest : List Named = (codes "before", h.before) ∷ (codes "after", h.after) ∷ h.diffs in
    let all : members_depth (members_of (added ++ rest)) ≤ 127 = joined added rest 127 (omega (arith, fits)) (omega (arith, before, after, diffs)) in
    rw h.is (omega (arith, all))
