-- The layout of a table map event is exact, and is that of each server.
use Rattle.std.proofs.Common.{◌≡◌, ℕ, List, [], sym, ap, ◌∙◌}
use Rattle.binlog_base.specs.Format.{IsExact, IsExactToEnd, take_bytes, all_left}
use Rattle.binlog_base.specs.Numbers.{little_endian, lenenc}
use Rattle.binlog_base.specs.Strings.{u8_string, lenenc_string, skip_bytes}
use Rattle.binlog_base.specs.Lemmas.Format.{exact_take_bytes, exact_map_all_left, to_end_both, ok_is, IsSame, same_sequence, same_map_value}
use Rattle.binlog_base.specs.Lemmas.Numbers.{exact_little_endian, exact_lenenc}
use Rattle.binlog_base.specs.Lemmas.Strings.{exact_u8_string, exact_lenenc_string, exact_skip_bytes}
use Rattle.binlog_base.specs.Bits.{bitmap_len}
use Rattle.binlog_base.specs.declared.below.columns.server.Server.{Server}
use Rattle.binlog_table.specs.TableMap.{TableMap, of_server, table_id, table_map_of}

pub exact_table_id : (n : ℕ) → IsExact (table_id n)
unfolding table_id
exact_table_id n = exact_little_endian _

pub exact_table_map : (server : Server) (n : ℕ) → IsExactToEnd (table_map_of server n)
unfolding table_map_of
exact_table_map server n =
    to_end_both _ _ (exact_table_id n) (λ id.
    to_end_both _ _ (exact_little_endian 2) (λ flags.
    to_end_both _ _ exact_u8_string (λ database.
    to_end_both _ _ (exact_skip_bytes 1) (λ _.
    to_end_both _ _ exact_u8_string (λ table.
    to_end_both _ _ (exact_skip_bytes 1) (λ _.
    to_end_both _ _ exact_lenenc (λ count.
    to_end_both _ _ (exact_take_bytes count) (λ types.
    to_end_both _ _ exact_lenenc_string (λ metadata.
    to_end_both _ _ (exact_take_bytes (bitmap_len count)) (λ null_bits.
    exact_map_all_left _))))))))))

-- Bytes that spell an event of one server spell the same event of each other, and bytes that are
-- refused for one are refused for each other, with the same fault.
pub same_table_map : (s r : Server) (n : ℕ) → IsSame (of_server r) (table_map_of s n) (table_map_of r n)
unfolding table_map_of
same_table_map s r n =
    same_sequence _ (table_id n) _ _ (λ id.
    same_sequence _ (little_endian 2) _ _ (λ flags.
    same_sequence _ u8_string _ _ (λ database.
    same_sequence _ (skip_bytes 1) _ _ (λ _.
    same_sequence _ u8_string _ _ (λ table.
    same_sequence _ (skip_bytes 1) _ _ (λ _.
    same_sequence _ lenenc _ _ (λ count.
    same_sequence _ (take_bytes count) _ _ (λ types.
    same_sequence _ lenenc_string _ _ (λ metadata.
    same_sequence _ (take_bytes (bitmap_len count)) _ _ (λ null_bits.
    same_map_value _ all_left _))))))))))

-- an event that bytes spell for a server is that server's
pub spelled_server : (s : Server) (n : ℕ) (x : List ℕ) (t : TableMap) → (table_map_of s n).spells x t → t.server ≡ s
spelled_server s n x t h =
    let ef = exact_table_map s n in
    let again = (same_table_map s s n).spells x t h in
    ap (λ (p : TableMap × List ℕ). p.0.server) (ok_is (t, []) (of_server s t, []) (sym (ef.complete x t h) ∙ ef.complete x (of_server s t) again))
