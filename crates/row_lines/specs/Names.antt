-- Names of databases, tables and columns as text that stays on its line.
use Rattle.std.specs.Prelude.{ℕ, Bool, ◌==◌, ◌||◌, nat_lt, if◌then◌else◌, List, [], ◌∷◌, ◌++◌, codes, encode_utf8}
use Rattle.std.specs.Char.{is_ascii_alphanumeric}
use Rattle.std.specs.Int.{w16, to_be_bytes, is_in_range}
use Rattle.std.specs.List.{flat_map, list_all}
use Rattle.bstr.specs.Utf8.{lossy_chars}
use Rattle.hex.specs.Hex.{encode_lower}

-- a character that ends a line, or changes how others are shown: C0, DEL and C1, the separators of lines and
-- of paragraphs, and what embeds, overrides or isolates a direction of writing
abbrev pub is_control : ℕ → Bool
is_control c = nat_lt c 0x20 || is_in_range 0x7F 0x9F c || is_in_range 0x2028 0x202E c || is_in_range 0x2066 0x2069 c

-- a code point in hexadecimal digits: two of them if it is below 100, else four
abbrev pub code_text : ℕ → List ℕ
code_text c = if nat_lt c 0x100 then codes "\\x" ++ encode_lower (c ∷ []) else codes "\\u" ++ encode_lower (to_be_bytes w16 c)

-- a character as it is, or its escape: tab, line feed, carriage return and backslash have one of their own
abbrev pub shown_character : ℕ → List ℕ
shown_character c =
    if c == 9 then codes "\\t"
    else if c == 10 then codes "\\n"
    else if c == 13 then codes "\\r"
    else if c == 92 then codes "\\\\"
    else if is_control c then code_text c
    else encode_utf8 c

-- a name with escapes, and with U+FFFD in place of what isn't UTF-8
abbrev pub shown_name : List ℕ → List ℕ
shown_name name = flat_map shown_character (lossy_chars name)

-- an ASCII letter or digit, `_`, `$` or `@`
abbrev pub is_ascii_bare : ℕ → Bool
is_ascii_bare c = is_ascii_alphanumeric c || c == 95 || c == 36 || c == 64

-- a character that may stand without backquotes: one of these, or one that isn't ASCII
abbrev pub is_bare : ℕ → Bool
is_bare c = is_ascii_bare c || nat_lt 0x7F c

-- a character between backquotes: a backquote is written twice
abbrev pub quoted_character : ℕ → List ℕ
quoted_character c = if c == 96 then codes "``" else shown_character c

-- a name with escapes, and in backquotes if a character may not stand without
abbrev pub quoted_name : List ℕ → List ℕ
quoted_name name =
    if list_all is_bare (lossy_chars name) then shown_name name
    else codes "`" ++ (flat_map quoted_character (lossy_chars name) ++ codes "`")

-- a table's name, with that of its database before it
abbrev pub shown_table : List ℕ → List ℕ → List ℕ
shown_table database table = shown_name database ++ (codes "." ++ shown_name table)

abbrev pub quoted_table : List ℕ → List ℕ → List ℕ
quoted_table database table = quoted_name database ++ (codes "." ++ quoted_name table)
