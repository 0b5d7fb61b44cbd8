-- Steps that were counted by hand.
use Rattle.std.proofs.Common.{◌≡◌, [], ◌∷◌, refl}
use Rattle.binlog_base.specs.Items.{items}
use Rattle.binlog_base.specs.Numbers.{lenenc, lenenc_after}
use Rattle.binlog_base.specs.Strings.{lenenc_string}
use Rattle.binlog_base.specs.Fixed.{fixed}
use Rattle.binlog_base.specs.Bits.{bit_list, bit_at}
use Rattle.binlog_base.specs.declared.below.columns.server.Server.TheVariants.{MySql}
use Rattle.binlog_table.specs.TableMap.{TableMap}
use Rattle.binlog_table.specs.Lists.{low_bits, pair_with, raw_field, default_charset}
use Rattle.binlog_table.specs.Fields.{field_of, is_known_kind, is_numeric_number}
use Rattle.binlog_table.specs.Keys.{key_at}
use Rattle.binlog_table.specs.Charsets.{charset_at}
use Rattle.binlog_table.specs.Chunks.{chunk}
use Rattle.binlog_table.specs.TableColumns.{column_at}
use Rattle.binlog_table.specs.Steps.{steps_after}

-- LONG and VARCHAR, with four fields: a sign bit, two names, a key of column 0, a default character
-- set
abbrev named : TableMap
named = record { server = MySql; table_id = 0; flags = 0; database = []; table = []; columns_count = 2; types = 3 ∷ 15 ∷ []; metadata = 40 ∷ 0 ∷ []; null_bits = []; optional_metadata = 1 ∷ 1 ∷ 128 ∷ 4 ∷ 4 ∷ 1 ∷ 97 ∷ 1 ∷ 98 ∷ 8 ∷ 1 ∷ 0 ∷ 2 ∷ 1 ∷ 33 ∷ [] }

-- the four fields and the key, then a name and a column each time
named_0 : steps_after named 0 ≡ 5
unfolding items fixed lenenc lenenc_after lenenc_string bit_list bit_at low_bits pair_with raw_field default_charset field_of is_known_kind is_numeric_number key_at charset_at chunk column_at steps_after
named_0 = refl

named_1 : steps_after named 1 ≡ 7
unfolding items fixed lenenc lenenc_after lenenc_string bit_list bit_at low_bits pair_with raw_field default_charset field_of is_known_kind is_numeric_number key_at charset_at chunk column_at steps_after
named_1 = refl

named_2 : steps_after named 2 ≡ 9
unfolding items fixed lenenc lenenc_after lenenc_string bit_list bit_at low_bits pair_with raw_field default_charset field_of is_known_kind is_numeric_number key_at charset_at chunk column_at steps_after
named_2 = refl

-- there are no more
named_9 : steps_after named 9 ≡ 9
unfolding items fixed lenenc lenenc_after lenenc_string bit_list bit_at low_bits pair_with raw_field default_charset field_of is_known_kind is_numeric_number key_at charset_at chunk column_at steps_after
named_9 = refl

-- LONG three times, with two fields: a key of columns 0 and 2, and one name, which is cut
abbrev cut : TableMap
cut = record { server = MySql; table_id = 0; flags = 0; database = []; table = []; columns_count = 3; types = 3 ∷ 3 ∷ 3 ∷ []; metadata = []; null_bits = []; optional_metadata = 8 ∷ 2 ∷ 0 ∷ 2 ∷ 4 ∷ 2 ∷ 5 ∷ 97 ∷ [] }

-- two fields and one item of the key
cut_0 : steps_after cut 0 ≡ 3
unfolding items fixed lenenc lenenc_after lenenc_string bit_list bit_at low_bits pair_with raw_field default_charset field_of is_known_kind is_numeric_number key_at charset_at chunk column_at steps_after
cut_0 = refl

-- the column and its name's fault, and no key
cut_1 : steps_after cut 1 ≡ 5
unfolding items fixed lenenc lenenc_after lenenc_string bit_list bit_at low_bits pair_with raw_field default_charset field_of is_known_kind is_numeric_number key_at charset_at chunk column_at steps_after
cut_1 = refl

-- after the fault nothing
cut_3 : steps_after cut 3 ≡ 5
unfolding items fixed lenenc lenenc_after lenenc_string bit_list bit_at low_bits pair_with raw_field default_charset field_of is_known_kind is_numeric_number key_at charset_at chunk column_at steps_after
cut_3 = refl

-- LONG three times, with one field: a key of columns 0 and 2
abbrev keys : TableMap
keys = record { server = MySql; table_id = 0; flags = 0; database = []; table = []; columns_count = 3; types = 3 ∷ 3 ∷ 3 ∷ []; metadata = []; null_bits = []; optional_metadata = 8 ∷ 2 ∷ 0 ∷ 2 ∷ [] }

-- each key is read beforehand
keys_0 : steps_after keys 0 ≡ 2
unfolding items fixed lenenc lenenc_after lenenc_string bit_list bit_at low_bits pair_with raw_field default_charset field_of is_known_kind is_numeric_number key_at charset_at chunk column_at steps_after
keys_0 = refl

keys_1 : steps_after keys 1 ≡ 4
unfolding items fixed lenenc lenenc_after lenenc_string bit_list bit_at low_bits pair_with raw_field default_charset field_of is_known_kind is_numeric_number key_at charset_at chunk column_at steps_after
keys_1 = refl

keys_2 : steps_after keys 2 ≡ 5
unfolding items fixed lenenc lenenc_after lenenc_string bit_list bit_at low_bits pair_with raw_field default_charset field_of is_known_kind is_numeric_number key_at charset_at chunk column_at steps_after
keys_2 = refl

keys_3 : steps_after keys 3 ≡ 6
unfolding items fixed lenenc lenenc_after lenenc_string bit_list bit_at low_bits pair_with raw_field default_charset field_of is_known_kind is_numeric_number key_at charset_at chunk column_at steps_after
keys_3 = refl

-- VARCHAR three times, with two fields: the default character set with another for column 1, and a
-- list of character sets, of which only column 2 takes one
abbrev sets : TableMap
sets = record { server = MySql; table_id = 0; flags = 0; database = []; table = []; columns_count = 3; types = 15 ∷ 15 ∷ 15 ∷ []; metadata = 1 ∷ 0 ∷ 1 ∷ 0 ∷ 1 ∷ 0 ∷ []; null_bits = []; optional_metadata = 2 ∷ 3 ∷ 33 ∷ 1 ∷ 8 ∷ 3 ∷ 3 ∷ 8 ∷ 9 ∷ 10 ∷ [] }

-- two fields and the pair; a column; a column; a column and an item of the list
sets_0 : steps_after sets 0 ≡ 3
unfolding items fixed lenenc lenenc_after lenenc_string bit_list bit_at low_bits pair_with raw_field default_charset field_of is_known_kind is_numeric_number key_at charset_at chunk column_at steps_after
sets_0 = refl

sets_1 : steps_after sets 1 ≡ 4
unfolding items fixed lenenc lenenc_after lenenc_string bit_list bit_at low_bits pair_with raw_field default_charset field_of is_known_kind is_numeric_number key_at charset_at chunk column_at steps_after
sets_1 = refl

sets_2 : steps_after sets 2 ≡ 5
unfolding items fixed lenenc lenenc_after lenenc_string bit_list bit_at low_bits pair_with raw_field default_charset field_of is_known_kind is_numeric_number key_at charset_at chunk column_at steps_after
sets_2 = refl

sets_3 : steps_after sets 3 ≡ 7
unfolding items fixed lenenc lenenc_after lenenc_string bit_list bit_at low_bits pair_with raw_field default_charset field_of is_known_kind is_numeric_number key_at charset_at chunk column_at steps_after
sets_3 = refl

-- an unknown type, with one field of a name, which is never read
abbrev unknown : TableMap
unknown = record { server = MySql; table_id = 0; flags = 0; database = []; table = []; columns_count = 1; types = 200 ∷ []; metadata = []; null_bits = []; optional_metadata = 4 ∷ 2 ∷ 1 ∷ 97 ∷ [] }

unknown_1 : steps_after unknown 1 ≡ 2
unfolding items fixed lenenc lenenc_after lenenc_string bit_list bit_at low_bits pair_with raw_field default_charset field_of is_known_kind is_numeric_number key_at charset_at chunk column_at steps_after
unknown_1 = refl

-- LONG, with two fields, of which the first is faulty: too many sign bits; the second isn't read
abbrev faulty : TableMap
faulty = record { server = MySql; table_id = 0; flags = 0; database = []; table = []; columns_count = 1; types = 3 ∷ []; metadata = []; null_bits = []; optional_metadata = 1 ∷ 2 ∷ 128 ∷ 0 ∷ 8 ∷ 1 ∷ 0 ∷ [] }

faulty_1 : steps_after faulty 1 ≡ 1
unfolding items fixed lenenc lenenc_after lenenc_string bit_list bit_at low_bits pair_with raw_field default_charset field_of is_known_kind is_numeric_number key_at charset_at chunk column_at steps_after
faulty_1 = refl
