-- The items of these lists are read exactly, and each takes a byte at least.
use Rattle.std.proofs.Common.{ℕ}
use Rattle.binlog_base.specs.Format.{Format, IsExact, IsExactToEnd}
use Rattle.binlog_base.specs.Lemmas.Format.{exact_sequence, exact_map_value, exact_map_all_left, to_end_both}
use Rattle.binlog_base.specs.Numbers.{little_endian, lenenc}
use Rattle.binlog_base.specs.Lemmas.Numbers.{exact_little_endian, exact_lenenc}
use Rattle.binlog_base.specs.Strings.{lenenc_string}
use Rattle.binlog_base.specs.Lemmas.Strings.{exact_lenenc_string}
use Rattle.binlog_base.specs.Items.{Eats}
use Rattle.binlog_base.specs.Lemmas.Items.{eats_both, eats_as, eats_little, eats_lenenc}
use Rattle.binlog_table.specs.Lists.{low_bits, pair_with, raw_field, default_charset}

pub exact_low_bits : (bits : ℕ) → IsExact (low_bits bits)
unfolding low_bits
exact_low_bits bits = exact_map_value lenenc _ exact_lenenc

pub eats_low_bits : (bits : ℕ) → Eats (low_bits bits)
unfolding low_bits
eats_low_bits bits = eats_as lenenc _ eats_lenenc

pub exact_pair_with : (f : Format ℕ) → IsExact f → IsExact (pair_with f)
unfolding pair_with
exact_pair_with f ef = exact_sequence lenenc _ exact_lenenc (λ index. exact_map_value f _ ef)

pub eats_pair_with : (f : Format ℕ) → IsExact f → Eats (pair_with f)
unfolding pair_with
eats_pair_with f ef = eats_both lenenc _ eats_lenenc (λ index. exact_map_value f _ ef)

pub exact_raw_field : IsExact raw_field
unfolding raw_field
exact_raw_field = exact_sequence (little_endian 1) _ (exact_little_endian 1) (λ kind. exact_map_value lenenc_string _ exact_lenenc_string)

pub eats_raw_field : Eats raw_field
unfolding raw_field
eats_raw_field = eats_both (little_endian 1) _ (eats_little 0) (λ kind. exact_map_value lenenc_string _ exact_lenenc_string)

pub exact_default_charset : IsExactToEnd default_charset
unfolding default_charset
exact_default_charset = to_end_both (low_bits 16) _ (exact_low_bits 16) (λ default. exact_map_all_left _)
