-- The numbers that table map events have for character sets, by the names that information_schema has: those of
-- their default collations.
use Rattle.std.specs.Prelude.{ℕ, codes, List, [], ◌∷◌, unwrap_or}
use Rattle.std.specs.Option.{option_or}
use Rattle.table_schema.specs.Types.{by_word}

abbrev pub charsets_1 : List (List ℕ × ℕ)
charsets_1 =
    (codes "binary", 63)
    ∷ (codes "utf8mb4", 45)
    ∷ (codes "utf8mb3", 33)
    ∷ (codes "utf8", 33)
    ∷ (codes "latin1", 8)
    ∷ (codes "ascii", 11)
    ∷ (codes "big5", 1)
    ∷ (codes "dec8", 3)
    ∷ (codes "cp850", 4)
    ∷ []

abbrev pub charsets_2 : List (List ℕ × ℕ)
charsets_2 =
    (codes "hp8", 6)
    ∷ (codes "koi8r", 7)
    ∷ (codes "latin2", 9)
    ∷ (codes "swe7", 10)
    ∷ (codes "ujis", 12)
    ∷ (codes "sjis", 13)
    ∷ (codes "hebrew", 16)
    ∷ (codes "tis620", 18)
    ∷ (codes "euckr", 19)
    ∷ []

abbrev pub charsets_3 : List (List ℕ × ℕ)
charsets_3 =
    (codes "koi8u", 22)
    ∷ (codes "gb2312", 24)
    ∷ (codes "greek", 25)
    ∷ (codes "cp1250", 26)
    ∷ (codes "gbk", 28)
    ∷ (codes "latin5", 30)
    ∷ (codes "armscii8", 32)
    ∷ (codes "ucs2", 35)
    ∷ (codes "cp866", 36)
    ∷ []

abbrev pub charsets_4 : List (List ℕ × ℕ)
charsets_4 =
    (codes "keybcs2", 37)
    ∷ (codes "macce", 38)
    ∷ (codes "macroman", 39)
    ∷ (codes "cp852", 40)
    ∷ (codes "latin7", 41)
    ∷ (codes "cp1251", 51)
    ∷ (codes "utf16", 54)
    ∷ (codes "utf16le", 56)
    ∷ (codes "cp1256", 57)
    ∷ []

abbrev pub charsets_5 : List (List ℕ × ℕ)
charsets_5 =
    (codes "cp1257", 59)
    ∷ (codes "utf32", 60)
    ∷ (codes "geostd8", 92)
    ∷ (codes "cp932", 95)
    ∷ (codes "eucjpms", 97)
    ∷ (codes "gb18030", 248)
    ∷ (codes "filename", 17)
    ∷ []

-- The number of a name; that of `binary` for no name, and 65535, which no collation has, for a name that isn't known.
abbrev pub charset_of : List ℕ → ℕ
charset_of [] = 63
charset_of (b ∷ bs) = let name = b ∷ bs in unwrap_or (option_or (by_word charsets_1 name) (option_or (by_word charsets_2 name) (option_or (by_word charsets_3 name) (option_or (by_word charsets_4 name) (by_word charsets_5 name))))) 65535
