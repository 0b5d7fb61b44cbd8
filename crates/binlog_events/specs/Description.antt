-- The format description event.
use Rattle.std.specs.Prelude.{ℕ, ◌-◌, Bool, false, nat_eq, nat_lt, if◌then◌else◌, List, slice_index, Result, Ok, Err}
use Rattle.binlog_base.specs.declared.below.columns.server.Server.{Server}
use Rattle.binlog_base.specs.Format.{FormatOf, Format, take_bytes, check, sequence, map_value, map_fault, choice, all_left}
use Rattle.binlog_base.specs.Numbers.{little_endian}
use Rattle.binlog_events.specs.declared.error.EventError.{EventError}
use Rattle.binlog_events.specs.declared.error.EventError.TheVariants as error
use Rattle.binlog_events.specs.Version.{server_of, knows_checksums, is_too_old}

-- server_version: 50 bytes, with zeros at their end; server: whose version this is.
-- post_header_lens: for each type of event from 1 on.
-- has_checksums: each event ends with a checksum.
pub record Description : Type 0 where
  pub server : Server
  pub server_version : List ℕ
  pub created : ℕ
  pub post_header_lens : List ℕ
  pub has_checksums : Bool

-- the post-header length of a type of event; 0 for a type past the list
abbrev pub post_header_len : Description → ℕ → ℕ
post_header_len d type = slice_index d.post_header_lens (type - 1)

-- only this number
abbrev pub only : ℕ → (ℕ → EventError) → ℕ → Result ℕ EventError
only wanted error n = if nat_eq n wanted then Ok n else Err (error n)

-- only versions from 5.0.0 on
abbrev pub new_enough : List ℕ → Result (List ℕ) EventError
new_enough version = if is_too_old version then Err error.ServerVersion else Ok version

-- whether events end with checksums: algorithm 0 is none, and 1 is CRC-32
abbrev pub algorithm : ℕ → Result Bool EventError
algorithm n = if nat_lt n 2 then Ok (nat_eq n 1) else Err (error.ChecksumAlgorithm n)

abbrev pub part : {A : Type 0} → Format A → FormatOf EventError A
part f = map_fault f error.Description

-- The rest of n bytes after the header length: the post-header lengths, and the algorithm if the
-- server knows checksums.
abbrev pub lens_of : ℕ → List ℕ → ℕ → FormatOf EventError Description
lens_of n version created =
    choice (knows_checksums version)
    (sequence (part (take_bytes (n - 58))) (λ lens.
    sequence (part (little_endian 1)) (λ number.
    sequence (check (algorithm number)) (λ sums.
    map_value all_left (λ _. record {
      server = server_of version;
      server_version = version;
      created = created;
      post_header_lens = lens;
      has_checksums = sums;
    })))))
    (map_value all_left (λ lens. record {
      server = server_of version;
      server_version = version;
      created = created;
      post_header_lens = lens;
      has_checksums = false;
    }))

-- A body of n bytes, without its checksum: the binlog version, the server's version, the time of
-- creation, the header length, the post-header lengths and the algorithm.
unfoldable pub description : ℕ → FormatOf EventError Description
description n =
    sequence (part (little_endian 2)) (λ number.
    sequence (check (only 4 error.BinlogVersion number)) (λ _.
    sequence (part (take_bytes 50)) (λ version.
    sequence (check (new_enough version)) (λ _.
    sequence (part (little_endian 4)) (λ created.
    sequence (part (little_endian 1)) (λ header_len.
    sequence (check (only 19 error.HeaderLength header_len)) (λ _.
    lens_of n version created)))))))
