-- Character sets: which one a collation number has, and which bytes are text of one.
use Rattle.std.specs.Prelude.{ℕ, ◌-◌, ◌&&◌, Bool, nat_lt, nat_le, if◌then◌else◌, List, [], ◌∷◌, Option, Some, None, find, encode_utf8, slice_index_or}
use Rattle.std.specs.List.{flat_map, list_all}
use Rattle.std.specs.Str.{is_utf8}
use Rattle.row_json.specs.declared.charset.Charset.{Charset}
use Rattle.row_json.specs.declared.charset.Charset.TheVariants.{Ascii, Latin1, Utf8mb3, Utf8mb4, Binary, Other}

-- ---- numbers

-- the first number, the last one, and their character set
abbrev pub Range : Type 0
Range = ℕ × ℕ × Charset

-- 0 stands for a column whose character set the metadata doesn't give
abbrev pub ranges : List Range
ranges =
    (0, 0, Utf8mb4)
    ∷ (5, 5, Latin1) ∷ (8, 8, Latin1) ∷ (11, 11, Ascii) ∷ (15, 15, Latin1) ∷ (31, 31, Latin1)
    ∷ (33, 33, Utf8mb3) ∷ (45, 46, Utf8mb4) ∷ (47, 49, Latin1) ∷ (63, 63, Binary) ∷ (65, 65, Ascii)
    ∷ (76, 76, Utf8mb3) ∷ (83, 83, Utf8mb3) ∷ (94, 94, Latin1) ∷ (192, 215, Utf8mb3)
    ∷ (223, 223, Utf8mb3) ∷ (224, 247, Utf8mb4) ∷ (255, 323, Utf8mb4) ∷ (576, 578, Utf8mb3)
    ∷ (608, 610, Utf8mb4) ∷ (1032, 1032, Latin1) ∷ (1035, 1035, Ascii) ∷ (1057, 1057, Utf8mb3)
    ∷ (1069, 1070, Utf8mb4) ∷ (1071, 1071, Latin1) ∷ (1089, 1089, Ascii) ∷ (1107, 1107, Utf8mb3)
    ∷ (1216, 1216, Utf8mb3) ∷ (1238, 1238, Utf8mb3) ∷ (1248, 1248, Utf8mb4) ∷ (1270, 1270, Utf8mb4)
    ∷ (2048, 2215, Utf8mb3) ∷ (2232, 2247, Utf8mb3) ∷ (2304, 2471, Utf8mb4) ∷ (2488, 2503, Utf8mb4)
    ∷ []

abbrev pub charset_in : Option Range → Charset
charset_in None = Other
charset_in (Some range) = range.2

-- the character set of a collation number
abbrev pub charset_of : ℕ → Charset
charset_of n = charset_in (find (λ (r : Range). nat_le r.0 n && nat_le n r.1) ranges)

-- ---- texts

-- The characters of the bytes 80 to 9F in MySQL's latin1, which is Windows-1252; its five free bytes
-- 81, 8D, 8F, 90 and 9D are the characters of these numbers.
abbrev pub windows_characters : List ℕ
windows_characters =
    0x20AC ∷ 0x81 ∷ 0x201A ∷ 0x192 ∷ 0x201E ∷ 0x2026 ∷ 0x2020 ∷ 0x2021
    ∷ 0x2C6 ∷ 0x2030 ∷ 0x160 ∷ 0x2039 ∷ 0x152 ∷ 0x8D ∷ 0x17D ∷ 0x8F
    ∷ 0x90 ∷ 0x2018 ∷ 0x2019 ∷ 0x201C ∷ 0x201D ∷ 0x2022 ∷ 0x2013 ∷ 0x2014
    ∷ 0x2DC ∷ 0x2122 ∷ 0x161 ∷ 0x203A ∷ 0x153 ∷ 0x9D ∷ 0x17E ∷ 0x178
    ∷ []

-- all other bytes are the characters of their own numbers
abbrev pub latin1_character : ℕ → ℕ
latin1_character byte = if nat_le 128 byte && nat_lt byte 160 then slice_index_or windows_characters (byte - 128) 0 else byte

abbrev pub latin1_text : List ℕ → List ℕ
latin1_text bytes = flat_map (λ b. encode_utf8 (latin1_character b)) bytes

-- whether bytes may be text as they are: the text of these character sets is UTF-8
abbrev pub may_be_text : Charset → List ℕ → Bool
may_be_text Ascii bytes = list_all (λ b. nat_lt b 128) bytes
may_be_text Utf8mb3 bytes = list_all (λ b. nat_lt b 240) bytes
may_be_text Utf8mb4 bytes = Bool.true
may_be_text Latin1 bytes = Bool.false
may_be_text Binary bytes = Bool.false
may_be_text Other bytes = Bool.false

abbrev pub str_in : Charset → List ℕ → Option (List ℕ)
str_in charset bytes = if may_be_text charset bytes && is_utf8 bytes then Some bytes else None

-- the text of bytes of a character set, if they are text of it
abbrev pub text_in : Charset → List ℕ → Option (List ℕ)
text_in Latin1 bytes = Some (latin1_text bytes)
text_in charset bytes = str_in charset bytes
