-- Bytes as JSON.
use Rattle.std.proofs.Common.{◌≡◌, ◌<◌, ◌≤◌, ◌+◌, ◌-◌, ◌^◌, ◌≢◌, ℕ, ℤ, [], ◌++◌, length, take, drop, replicate, List, Bool, true, false, refl, sym, ap, subst, ◌∙◌, arith, Bor}
use Rattle.std.specs.Prelude.{Option, Some, None, Result, Ok, Err, MatchResult, decimal, codes, if◌then◌else◌, IsUtf8}
use Rattle.std.specs.Bool.{Decides}
use Rattle.std.specs.Fmt.{digits}
use Rattle.std.specs.Option.{option_map}
use Rattle.std.specs.Result.{result_ok}
use Rattle.std.specs.Str.{bytes_eq, is_utf8}
use Rattle.std.proofs.lemmas.Fmt.{decimal_injective, IsAscii-decimal}
use Rattle.std.proofs.lemmas.List.{append-nil, drop-replicate, take-replicate}
use Rattle.std.proofs.Math.Seq.{take-append-add}
use Rattle.std.proofs.lemmas.Slice.Eq.{bytes_eq-Decides}
use Rattle.std.proofs.lemmas.Str.{is_utf8-from_IsUtf8, IsUtf8-from_is_utf8, IsUtf8-from_ascii}
use Rattle.json.specs.Json.{Json, number, string}
use Rattle.json.specs.Word.{after_number}
use Rattle.json.proofs.Printed.Decimals.{IsNumber-decimal}
use Rattle.binlog_base.specs.Values.{Bytes}
use Rattle.row_json.specs.declared.charset.Charset.{Charset}
use Rattle.row_json.specs.declared.charset.Charset.TheVariants.{Utf8mb4}
use Rattle.row_json.specs.declared.kind.Kind.{Kind}
use Rattle.row_json.specs.declared.kind.Kind.TheVariants as kind
use Rattle.row_json.specs.Charsets.{text_in}
use Rattle.row_json.specs.Columns.{Column}
use Rattle.std.specs.Fmt.{signed_decimal}
use Rattle.row_json.specs.Values.{padded, number_or_bytes, is_whole, year_json, base64_json, string_or, text_json, with_sign, IsBytesJson, IsIntJson, IsPlainJson, IsValueJson}

not_utf8 : (bytes : List ℕ) (b : Bool) → is_utf8 bytes ≡ b → (IsUtf8 bytes → ⊥) → b ≡ false
not_utf8 bytes true e h = absurd (h (IsUtf8-from_is_utf8 bytes e))
not_utf8 bytes false e h = refl

-- what the check of UTF-8 answers
pub checked_text : {E : Type 0} (r : Result (Bor (List ℕ)) E) (bytes : List ℕ) → MatchResult r (λ s. (s.now ≡ bytes) × IsUtf8 bytes) (λ _. ¬ (IsUtf8 bytes)) →
    option_map (λ (t : Bor (List ℕ)). t.now) (result_ok r) ≡ (if is_utf8 bytes then Some bytes else None)
checked_text (Ok s) bytes h = rw (is_utf8-from_IsUtf8 bytes h.1) (ap Some h.0)
checked_text (Err e) bytes h = rw (not_utf8 bytes (is_utf8 bytes) refl h) refl

pub zero_year : (bytes : List ℕ) → bytes_eq bytes (codes "1900") ≡ true → number (decimal 0) ≡ year_json bytes
zero_year bytes e = sym (ap (λ (b : Bool). if b then number (decimal 0) else number_or_bytes bytes (text_in Utf8mb4 bytes)) e)

pub later_year : (bytes : List ℕ) (text : Option (List ℕ)) → bytes_eq bytes (codes "1900") ≡ false → text ≡ text_in Utf8mb4 bytes → number_or_bytes bytes text ≡ year_json bytes
later_year bytes text e is = ap (number_or_bytes bytes) is ∙ sym (ap (λ (b : Bool). if b then number (decimal 0) else number_or_bytes bytes (text_in Utf8mb4 bytes)) e)

-- ---- years as numbers

digits_1900 : decimal 1900 ≡ codes "1900"
unfolding digits
digits_1900 = refl

not_so : {P : Type 0} (b : Bool) → Decides b P → (P → ⊥) → b ≡ false
not_so true is other = absurd (other (is.0 refl))
not_so false is other = refl

pub year_0 : number (decimal 0) ≡ year_json (decimal 1900)
year_0 = ap year_json (sym digits_1900)

pub year_number : (y : ℕ) → y < 2 ^ 16 → y ≢ 1900 → number (decimal y) ≡ year_json (decimal y)
year_number y fits other =
    let ds = decimal y in
    let differs : bytes_eq ds (codes "1900") ≡ false = not_so (bytes_eq ds (codes "1900")) (bytes_eq-Decides ds (codes "1900")) (λ e. other (decimal_injective y 1900 (omega arith) (omega arith) (e ∙ sym digits_1900))) in
    let text : Some ds ≡ text_in Utf8mb4 ds = sym (ap (λ (b : Bool). if b then Some ds else None) (is_utf8-from_IsUtf8 ds (IsUtf8-from_ascii ds (IsAscii-decimal y (omega arith))))) in
    let is : after_number ds ≡ Some [] = IsNumber-decimal y (omega arith) in
    sym (ap (λ (o : Option (List ℕ)). if is_whole o then number ds else string ds) is) ∙ later_year ds (Some ds) differs text

-- ---- by kinds

-- bytes mean no old TIME, so they have no sign
value_of_bytes : (c : Column) (k : Kind) (bytes : List ℕ) (j : Json) → IsBytesJson c c.kind bytes j → IsPlainJson c (with_sign k (Bytes bytes)) j
value_of_bytes c kind.Plain bytes j is = is
value_of_bytes c kind.Year bytes j is = is
value_of_bytes c kind.Bits bytes j is = is
value_of_bytes c kind.Date bytes j is = is
value_of_bytes c (kind.Datetime d) bytes j is = is
value_of_bytes c (kind.Timestamp d) bytes j is = is
value_of_bytes c (kind.Time d) bytes j is = is
value_of_bytes c kind.OldTime bytes j is = is
value_of_bytes c kind.Enum bytes j is = is
value_of_bytes c kind.Set bytes j is = is
value_of_bytes c (kind.Text s) bytes j is = is
value_of_bytes c (kind.Binary n) bytes j is = is

-- text in UTF-8
pub text_value : (c : Column) (bytes : List ℕ) (j : Json) → c.kind ≡ kind.Text Utf8mb4 → IsUtf8 bytes → j ≡ string bytes → IsValueJson c (Bytes bytes) j
text_value c bytes j is utf8 e =
    let text : string bytes ≡ text_json Utf8mb4 bytes = sym (ap (λ (b : Bool). string_or bytes (if b then Some bytes else None)) (is_utf8-from_IsUtf8 bytes utf8)) in
    value_of_bytes c c.kind bytes j (subst (λ (k : Kind). IsBytesJson c k bytes j) (sym is) (e ∙ text))

-- bytes of a kind that has no bytes
pub other_bytes : (c : Column) (k : Kind) (bytes : List ℕ) (j : Json) → ((s : Charset) → k ≡ kind.Text s → ⊥) → ((n : ℕ) → k ≡ kind.Binary n → ⊥) → (k ≡ kind.Year → ⊥) → (k ≡ kind.Bits → ⊥) → (k ≡ kind.Set → ⊥) → ((d : ℕ) → k ≡ kind.Timestamp d → ⊥) →
    j ≡ base64_json bytes → IsBytesJson c k bytes j
other_bytes c kind.Plain bytes j text binary year bits set time is = is
other_bytes c kind.Year bytes j text binary year bits set time is = absurd (year refl)
other_bytes c kind.Bits bytes j text binary year bits set time is = absurd (bits refl)
other_bytes c kind.Date bytes j text binary year bits set time is = is
other_bytes c (kind.Datetime d) bytes j text binary year bits set time is = is
other_bytes c (kind.Timestamp d) bytes j text binary year bits set time is = absurd (time d refl)
other_bytes c (kind.Time d) bytes j text binary year bits set time is = is
other_bytes c kind.OldTime bytes j text binary year bits set time is = is
other_bytes c kind.Enum bytes j text binary year bits set time is = is
other_bytes c kind.Set bytes j text binary year bits set time is = absurd (set refl)
other_bytes c (kind.Text s) bytes j text binary year bits set time is = absurd (text s refl)
other_bytes c (kind.Binary n) bytes j text binary year bits set time is = absurd (binary n refl)

-- a number of a kind that numbers alone decide
pub other_int : (c : Column) (k : Kind) (z : ℤ) (j : Json) → ((d : ℕ) → k ≡ kind.Timestamp d → ⊥) → (k ≡ kind.Enum → ⊥) → j ≡ number (signed_decimal z) → IsIntJson c k z j
other_int c kind.Plain z j time enum is = is
other_int c kind.Year z j time enum is = is
other_int c kind.Bits z j time enum is = is
other_int c kind.Date z j time enum is = is
other_int c (kind.Datetime d) z j time enum is = is
other_int c (kind.Timestamp d) z j time enum is = absurd (time d refl)
other_int c (kind.Time d) z j time enum is = is
other_int c kind.OldTime z j time enum is = is
other_int c kind.Enum z j time enum is = absurd (enum refl)
other_int c kind.Set z j time enum is = is
other_int c (kind.Text s) z j time enum is = is
other_int c (kind.Binary n) z j time enum is = is

-- ---- padding

-- bytes that are long enough are padded already
pub long_enough : (n : ℕ) (x : List ℕ) → n ≤ length x → base64_json x ≡ base64_json (padded n x)
long_enough n x long =
    let none : n - length x ≡ 0 = omega arith in
    ap base64_json (sym (ap (λ (k : ℕ). x ++ replicate k 0) none ∙ append-nil x))

-- the first bytes of a room of zeros in which others were put
pub in_room : (n : ℕ) (x : List ℕ) → length x ≤ n → n ≤ 255 → take n (x ++ drop (length x) (replicate 255 0)) ≡ padded n x
in_room n x short fits =
    let k = n - length x in
    let few : k ≤ 255 - length x = omega arith in
    let whole : length x + k ≡ n = omega arith in
    let more : take k (drop (length x) (replicate 255 0)) ≡ replicate k 0 = ap (take k) (drop-replicate (length x) 255 0) ∙ take-replicate k (255 - length x) 0 few in
    ap (λ (m : ℕ). take m (x ++ drop (length x) (replicate 255 0))) (sym whole) ∙ (take-append-add x (drop (length x) (replicate 255 0)) k ∙ ap (λ (l : List ℕ). x ++ l) more)
