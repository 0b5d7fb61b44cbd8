-- The string values of a column are read exactly, and take at least one byte.
use Rattle.std.proofs.Common.{ℕ, ◌<◌, List, length}
use Rattle.binlog_base.specs.Format.{IsExact}
use Rattle.binlog_base.specs.Lemmas.Format.{exact_sequence}
use Rattle.binlog_base.specs.Numbers.{lenenc}
use Rattle.binlog_base.specs.Lemmas.Numbers.{exact_lenenc}
use Rattle.binlog_base.specs.Strings.{lenenc_string}
use Rattle.binlog_base.specs.Lemmas.Strings.{exact_lenenc_string}
use Rattle.binlog_base.specs.Items.{Eats}
use Rattle.binlog_base.specs.Lemmas.Items.{eats_both, eats_lenenc, exact_times, eats_spelled}
use Rattle.binlog_table.specs.Variants.{variants}

pub exact_variants : IsExact variants
unfolding variants
exact_variants = exact_sequence lenenc _ exact_lenenc (λ count. exact_times count lenenc_string exact_lenenc_string)

pub eats_variants : Eats variants
unfolding variants
eats_variants = eats_both lenenc _ eats_lenenc (λ count. exact_times count lenenc_string exact_lenenc_string)

pub variants_have_bytes : (x : List ℕ) (values : List (List ℕ)) → variants.spells x values → 0 < length x
variants_have_bytes x values s = eats_spelled variants exact_variants eats_variants x values s
