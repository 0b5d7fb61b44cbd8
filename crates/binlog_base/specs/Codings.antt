-- The codings of unsigned numbers and of signed ones.
use Rattle.std.proofs.Common.{ℕ, ◌<◌, ◌≤◌, ◌^◌}
use Rattle.std.specs.Prelude.{ℤ}
use Rattle.byteorder.specs.Endian.{twos_complement}
use Rattle.binlog_base.specs.Coding.{IsSigned, Coding, lowest_bytes, plain_number, signed_lowest_bytes}
use Rattle.binlog_base.specs.Lemmas.Coding.{lowest_fits, lowest_told, signed_lowest_fits, signed_told}

-- the coding of unsigned numbers of up to `size` bytes
abbrev pub unsigned_coding : (size : ℕ) → size ≤ 8 → Coding ℕ size
unsigned_coding size few = record {
  value = plain_number;
  bits = lowest_bytes;
  Fits = λ w n. n < 256 ^ w;
  few = few;
  bits_fit = lowest_fits;
  told = λ w n some most fits. lowest_told w n fits;
}

-- the coding of signed numbers of up to `size` bytes, in two's complement
abbrev pub signed_coding : (size : ℕ) → size ≤ 8 → Coding ℤ size
signed_coding size few = record {
  value = twos_complement;
  bits = signed_lowest_bytes;
  Fits = IsSigned;
  few = few;
  bits_fit = signed_lowest_fits;
  told = signed_told size few;
}
