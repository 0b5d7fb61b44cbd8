-- The format of a bit list is exact.
use Rattle.std.specs.Prelude.{ℕ}
use Rattle.binlog_base.specs.declared.bits.BitOrder.{BitOrder}
use Rattle.binlog_base.specs.Format.{IsExact, take_bytes}
use Rattle.binlog_base.specs.Lemmas.Format.{exact_take_bytes, exact_map_value}
use Rattle.binlog_base.specs.Bits.{bitmap_len, bits_of, bit_list}

pub exact_bit_list : (order : BitOrder) (n : ℕ) → IsExact (bit_list order n)
unfolding bit_list
exact_bit_list order n = exact_map_value (take_bytes (bitmap_len n)) (bits_of order n) (exact_take_bytes (bitmap_len n))
