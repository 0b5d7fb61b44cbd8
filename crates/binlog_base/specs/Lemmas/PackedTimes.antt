-- The formats of packed times are exact.
use Rattle.std.specs.Prelude.{◌≡◌, ℕ, ◌==◌, ℤ, pos, negsuc, ◌-ℤ◌, ◌^◌, Bool, true, false, nat_lt, Ok, Err, if◌then◌else◌}
use Rattle.std.proofs.Common.{refl, subst}
use Rattle.binlog_base.specs.declared.fault.Fault.{Fault}
use Rattle.binlog_base.specs.declared.fault.Fault.TheVariants.{TimeRange}
use Rattle.binlog_base.specs.Faults.{IsOfBytes}
use Rattle.binlog_base.specs.Format.{IsExact, sequence}
use Rattle.binlog_base.specs.Lemmas.Format.{exact_map_value, exact_sequence, exact_check, exact_choice, err_is}
use Rattle.binlog_base.specs.Numbers.{big_endian, signed_big_endian}
use Rattle.binlog_base.specs.Lemmas.Numbers.{exact_big_endian, exact_signed_big_endian}
use Rattle.binlog_base.specs.PackedTimes.{fraction, timestamp2, datetime2, time2, fraction_width, in_range, packed_time, datetime2_sum, datetime2_after, with_microseconds, time2_of_six, time2_after}

pub exact_fraction : (w : ℕ) → IsExact (fraction w)
unfolding fraction
exact_fraction w = exact_map_value (signed_big_endian w) _ (exact_signed_big_endian w)

pub exact_timestamp2 : (decimals : ℕ) → IsExact (timestamp2 decimals)
unfolding timestamp2
exact_timestamp2 decimals = exact_sequence (signed_big_endian 4) (with_microseconds (fraction_width decimals)) (exact_signed_big_endian 4) (λ seconds. exact_map_value (fraction (fraction_width decimals)) _ (exact_fraction (fraction_width decimals)))

range_by : (b : Bool) (z : ℤ) (e : Fault) → (if b then Ok z else Err TimeRange) ≡ Err e → IsOfBytes e
range_by true z e h = absurd cc
range_by false z e h = subst IsOfBytes (err_is {A = ℤ} TimeRange e h) refl

in_range-of_bytes : (z : ℤ) (e : Fault) → in_range z ≡ Err e → IsOfBytes e
in_range-of_bytes (pos n) e h = absurd cc
in_range-of_bytes (negsuc n) e h = range_by (nat_lt n (2 ^ 63)) (negsuc n) e h

pub exact_datetime2 : (decimals : ℕ) → IsExact (datetime2 decimals)
unfolding datetime2
exact_datetime2 decimals =
    exact_sequence (big_endian 5) (datetime2_after (fraction_width decimals)) (exact_big_endian 5) (λ whole.
    exact_sequence (fraction (fraction_width decimals)) _ (exact_fraction (fraction_width decimals)) (λ microseconds.
    exact_check (datetime2_sum whole microseconds) (in_range-of_bytes (packed_time (pos whole -ℤ pos (2 ^ 39)) microseconds))))

pub exact_time2 : (decimals : ℕ) → IsExact (time2 decimals)
unfolding time2
exact_time2 decimals =
    exact_choice (fraction_width decimals == 3) time2_of_six (sequence (big_endian 3) (time2_after (fraction_width decimals)))
    (exact_map_value (big_endian 6) _ (exact_big_endian 6))
    (exact_sequence (big_endian 3) (time2_after (fraction_width decimals)) (exact_big_endian 3) (λ whole. exact_map_value (big_endian (fraction_width decimals)) _ (exact_big_endian (fraction_width decimals))))
