-- The formats of numbers are exact; what is written of a number is a spelling of it, and none is
-- shorter.
use Rattle.std.proofs.Common.{ℕ, zero, suc, ◌^◌, refl}
use Rattle.std.specs.Prelude.{nat_lt, ◌==◌}
use Rattle.byteorder.specs.Endian.{little_number, big_number, twos_complement}
use Rattle.binlog_base.specs.Coding.{plain_number}
use Rattle.binlog_base.specs.Lemmas.Fixed.{exact_fixed}
use Rattle.binlog_base.specs.declared.fault.Fault.TheVariants.{BadLenEnc, BadVarLen}
use Rattle.binlog_base.specs.Format.{IsExact}
use Rattle.binlog_base.specs.Lemmas.Format.{exact_no_bytes, exact_refusal, exact_sequence, exact_map_value, exact_choice}
use Rattle.binlog_base.specs.Numbers.{little_endian, big_endian, signed_little_endian, signed_big_endian, lenenc_after, lenenc, groups, varlen}

pub exact_little_endian : (w : ℕ) → IsExact (little_endian w)
exact_little_endian w = exact_fixed little_number plain_number w

pub exact_big_endian : (w : ℕ) → IsExact (big_endian w)
exact_big_endian w = exact_fixed big_number plain_number w

pub exact_signed_little_endian : (w : ℕ) → IsExact (signed_little_endian w)
exact_signed_little_endian w = exact_fixed little_number twos_complement w

pub exact_signed_big_endian : (w : ℕ) → IsExact (signed_big_endian w)
exact_signed_big_endian w = exact_fixed big_number twos_complement w

pub exact_lenenc_after : (first : ℕ) → IsExact (lenenc_after first)
unfolding lenenc_after
exact_lenenc_after first =
    exact_choice (nat_lt first 251) _ _ (exact_no_bytes first)
    (exact_choice (first == 252) _ _ (exact_little_endian 2)
    (exact_choice (first == 253) _ _ (exact_little_endian 3)
    (exact_choice (first == 254) _ _ (exact_little_endian 8) (exact_refusal BadLenEnc refl))))

pub exact_lenenc : IsExact lenenc
unfolding lenenc
exact_lenenc = exact_sequence (little_endian 1) lenenc_after (exact_little_endian 1) exact_lenenc_after

pub exact_groups : (k : ℕ) → IsExact (groups k)
unfolding groups
exact_groups zero = exact_refusal BadVarLen refl
exact_groups (suc k) =
    exact_sequence (little_endian 1) _ (exact_little_endian 1) (λ byte.
    exact_choice (nat_lt byte 128) _ _ (exact_no_bytes byte) (exact_map_value (groups k) _ (exact_groups k)))

pub exact_varlen : IsExact varlen
unfolding varlen
exact_varlen =
    exact_sequence (groups 5) _ (exact_groups 5) (λ n.
    exact_choice (nat_lt n (2 ^ 32)) _ _ (exact_no_bytes n) (exact_refusal BadVarLen refl))
