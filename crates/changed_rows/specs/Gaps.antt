-- What a file says of changes that its rows don't show.
use Rattle.std.specs.Prelude.{ℕ, zero, suc, ◌+◌, ◌||◌, ◌&&◌, not, false, nat_eq, nat_lt, if◌then◌else◌, Bool, List, [], ◌∷◌, length, drop, take, codes, slice_get, slice_range, slice_index, Option, Some, None, unwrap_or}
use Rattle.std.specs.List.{list_any, prefix_len}
use Rattle.std.specs.Char.{is_ascii_whitespace, is_ascii_alphanumeric}
use Rattle.std.specs.Str.{str_eq_ignore_ascii_case}
use Rattle.byteorder.specs.Endian.{little_number}
use Rattle.changed_rows.specs.declared.gaps.Gap.{Gap}
use Rattle.changed_rows.specs.declared.gaps.Gap.TheVariants as gap
use Rattle.changed_rows.specs.declared.gaps.Gaps.{Gaps}
use Rattle.changed_rows.specs.Names.{up_to_most}
use Rattle.binlog_file.specs.LentChanges.{OtherEvent}

-- ---- the statement of an event

-- what is left of a text after the blanks with which it begins
abbrev pub after_blanks : List ℕ → List ℕ
after_blanks text = drop (prefix_len is_ascii_whitespace text) text

-- The statement in the body of a QUERY_EVENT: a thread (4 bytes), seconds (4), the length of the
-- database (1), an error (2), the length of the status variables (2), these, the database, a zero, and
-- the statement. The blanks before it don't count. A body that is too short has none.
abbrev pub statement_in : List ℕ → List ℕ
statement_in body =
    if nat_lt (length body) 13 then []
    else after_blanks (drop (13 + little_number 2 (slice_range body 11 13) + slice_index body 8 + 1) body)

-- whether a statement begins with a word, in either case
abbrev pub begins_with : List ℕ → List ℕ → Bool
begins_with statement word = str_eq_ignore_ascii_case (take (length word) statement) word

-- whether a statement is a part of a transaction that changes nothing by itself
abbrev pub is_control : List ℕ → Bool
is_control statement =
    list_any (begins_with statement) (codes "BEGIN" ∷ codes "COMMIT" ∷ codes "SAVEPOINT" ∷ codes "XA " ∷ [])

-- what follows the end of a comment, or nothing
unfoldable pub after_end : List ℕ → List ℕ
after_end [] = []
after_end (b ∷ bs) = if nat_eq b 42 && nat_eq (unwrap_or (slice_get bs 0) 0) 47 then drop 1 bs else after_end bs

-- what follows the end of a line, or nothing
unfoldable pub after_line : List ℕ → List ℕ
after_line [] = []
after_line (b ∷ bs) = if nat_eq b 10 then bs else after_line bs

-- what is left of a text after the digits with which it begins
unfoldable pub after_digits : List ℕ → List ℕ
after_digits [] = []
after_digits (b ∷ bs) = if nat_lt b 48 || nat_lt 57 b then b ∷ bs else after_digits bs

-- What is left of a statement after the comment with which it begins, if it begins with one. Of a comment that a
-- server executes only its mark is left out.
abbrev pub after_comment : List ℕ → List ℕ
after_comment s =
    if begins_with s (codes "/*!") then after_digits (drop 3 s)
    else if begins_with s (codes "/*M!") then after_digits (drop 4 s)
    else if begins_with s (codes "/*") then after_end (drop 2 s)
    else if begins_with s (codes "#") || begins_with s (codes "-- ") then after_line s
    else s

-- what is left of a statement after up to so many comments, and blanks, with which it begins
unfoldable pub after_comments : ℕ → List ℕ → List ℕ
after_comments zero s = s
after_comments (suc n) s = after_comments n (after_blanks (after_comment s))

-- whether a byte is one of those of words: a letter, a digit, `_`, `$`, or one above 7F
abbrev pub is_of_word : ℕ → Bool
is_of_word b = is_ascii_alphanumeric b || (nat_eq b 95 || (nat_eq b 36 || nat_lt 127 b))

-- whether a text begins with a word, in either case, that ends there
abbrev pub begins_with_whole : List ℕ → List ℕ → Bool
begins_with_whole text word = begins_with text word && not (is_of_word (unwrap_or (slice_get text (length word)) 0))

-- Whether a text has a word, in either case: whether it goes on with a word that began before it is said beside.
unfoldable pub has_word : Bool → List ℕ → List ℕ → Bool
has_word is_in_word [] word = false
has_word is_in_word (b ∷ bs) word = (not is_in_word && begins_with_whole (b ∷ bs) word) || has_word (is_of_word b) bs word

abbrev pub rolls_back : List ℕ → Bool
rolls_back statement = begins_with statement (codes "ROLLBACK") || begins_with statement (codes "XA ROLLBACK")

-- ---- what is counted

-- What a statement that makes or drops something says of changes: out of a transaction, one that makes a table of a
-- SELECT may have rows as text.
abbrev pub gap_of_definition : Bool → List ℕ → Option Gap
gap_of_definition is_open words =
    if not is_open && (begins_with words (codes "CREATE") && has_word false words (codes "SELECT")) then Some gap.Creation else None

-- what a statement says of changes, from its first word on
abbrev pub gap_of_words : Bool → List ℕ → Option Gap
gap_of_words is_open words =
    if begins_with words (codes "TRUNCATE") then Some gap.Truncation
    else if begins_with words (codes "CREATE") || begins_with words (codes "DROP") then gap_of_definition is_open words
    else if is_open then Some gap.Statement
    else None

-- what a statement says of changes; up to 16 comments before its first word don't count
abbrev pub gap_of_statement : Bool → List ℕ → Option Gap
gap_of_statement is_open s =
    if rolls_back s then Some gap.Rollback
    else if is_control s then None
    else gap_of_words is_open (after_comments 16 s)

-- What an event that is no rows event says of changes, by its type: QUERY_EVENT (0x02),
-- EXECUTE_LOAD_QUERY_EVENT (0x12), INCIDENT_EVENT (0x1A), XA_PREPARE_LOG_EVENT (0x26), whose first byte is
-- 0 unless the transaction is committed at once, and MariaDB's QUERY_COMPRESSED_EVENT (0xA5).
abbrev pub gap_of : Bool → OtherEvent → Option Gap
gap_of is_open e =
    let type = e.header.event_type in
    if nat_eq type 0x02 then gap_of_statement is_open (statement_in e.body)
    else if nat_eq type 0x12 then Some gap.Statement
    else if nat_eq type 0x1A then Some gap.Incident
    else if nat_eq type 0x26 then (if nat_eq (unwrap_or (slice_get e.body 0) 1) 0 then Some gap.Prepared else None)
    else if nat_eq type 0xA5 then Some gap.Compressed
    else None

-- what a rows event of so many rows says
abbrev pub gap_of_rows : ℕ → Option Gap
gap_of_rows rows = if nat_eq rows 0 then Some gap.NoRows else None

abbrev pub one_more : ℕ → ℕ
one_more n = up_to_most (n + 1)

-- one more of what was said, if it is anything
abbrev pub with_gap : Option Gap → Gaps → Gaps
with_gap None g = g
with_gap (Some gap.Statement) g = record g { statements = one_more g.statements }
with_gap (Some gap.Creation) g = record g { creations = one_more g.creations }
with_gap (Some gap.Compressed) g = record g { compressed = one_more g.compressed }
with_gap (Some gap.Truncation) g = record g { truncations = one_more g.truncations }
with_gap (Some gap.Rollback) g = record g { rollbacks = one_more g.rollbacks }
with_gap (Some gap.Prepared) g = record g { prepared = one_more g.prepared }
with_gap (Some gap.Incident) g = record g { incidents = one_more g.incidents }
with_gap (Some gap.NoRows) g = record g { without_rows = one_more g.without_rows }

abbrev pub no_gaps : Gaps
no_gaps = record { statements = 0; creations = 0; compressed = 0; truncations = 0; rollbacks = 0; prepared = 0; incidents = 0; without_rows = 0 }
