-- What is written of a table map event spells it, so it is read back.
use Rattle.std.proofs.Common.{◌≡◌, ◌≢◌, ℕ, ◌<◌, ◌^◌, false, List, [], ◌∷◌, ◌++◌, Ok, refl, sym, append_assoc, append-nil, arith}
use Rattle.std.specs.Prelude.{◌==◌}
use Rattle.std.proofs.lemmas.Bool.{ne_eqb}
use Rattle.binlog_base.specs.Endian.{little_bytes}
use Rattle.binlog_base.specs.Numbers.{lenenc_bytes}
use Rattle.binlog_base.specs.Lemmas.NumbersWritten.{little_written, lenenc_written}
use Rattle.binlog_base.specs.Strings.{skip_bytes, u8_string_bytes, lenenc_string_bytes}
use Rattle.binlog_base.specs.Lemmas.Strings.{u8_string_written, lenenc_string_written}
use Rattle.binlog_table.specs.TableMap.{TableMap, table_id, table_map_of}
use Rattle.binlog_table.specs.TableMapWritten.{IsTableMap, name_bytes, columns_bytes, written_table_map}
use Rattle.binlog_table.specs.Lemmas.TableMap.{exact_table_map}

not_six : (n : ℕ) → n ≢ 6 → (n == 6) ≡ false
not_six n h = ne_eqb n 6 h

pub table_id_written : (n id : ℕ) → n ≢ 6 → id < 256 ^ 6 → (table_id n).spells (little_bytes 6 id) id
unfolding table_id
table_id_written n id other fits = let six = not_six n other in rw six (little_written 6 id fits)

skipped_written : (skip_bytes 1).spells (0 ∷ []) tt
unfolding skip_bytes
skipped_written = (0 ∷ [], 0 ∷ [], [], refl, (refl, refl), (refl, refl))

name_then : (name more : List ℕ) → name_bytes name ++ more ≡ u8_string_bytes name ++ (0 ∷ more)
unfolding name_bytes
name_then name more = append_assoc (u8_string_bytes name) (0 ∷ []) more

-- What is written of an event spells it.
pub written_table_map_spelled : (n : ℕ) (t : TableMap) → n ≢ 6 → IsTableMap t → (table_map_of t.server n).spells (written_table_map t) t
unfolding table_map_of written_table_map columns_bytes
written_table_map_spelled n t other w =
    let columns = columns_bytes t in (
      t.table_id,
      little_bytes 6 t.table_id,
      _,
      refl,
      table_id_written n t.table_id other w.table_id,
      (
        t.flags,
        little_bytes 2 t.flags,
        _,
        refl,
        little_written 2 t.flags w.flags,
        (
          t.database,
          u8_string_bytes t.database,
          0 ∷ (name_bytes t.table ++ columns),
          name_then t.database (name_bytes t.table ++ columns),
          u8_string_written t.database (omega (arith, w.database)),
          (
            tt,
            0 ∷ [],
            name_bytes t.table ++ columns,
            refl,
            skipped_written,
            (
              t.table,
              u8_string_bytes t.table,
              0 ∷ columns,
              name_then t.table columns,
              u8_string_written t.table (omega (arith, w.table)),
              (
                tt,
                0 ∷ [],
                columns,
                refl,
                skipped_written,
                (
                  t.columns_count,
                  lenenc_bytes t.columns_count,
                  _,
                  refl,
                  lenenc_written t.columns_count w.columns_count,
                  (
                    t.types,
                    t.types,
                    _,
                    refl,
                    (refl, w.types),
                    (
                      t.metadata,
                      lenenc_string_bytes t.metadata,
                      _,
                      refl,
                      lenenc_string_written t.metadata w.metadata,
                      (
                        t.null_bits,
                        t.null_bits,
                        _,
                        refl,
                        (refl, w.null_bits),
                        (
                          t.optional_metadata,
                          t.optional_metadata,
                          [],
                          sym (append-nil t.optional_metadata),
                          refl,
                          (refl, refl),
                        ),
                      ),
                    ),
                  ),
                ),
              ),
            ),
          ),
        ),
      ),
    )

-- So it is read as the same event.
pub written_table_map_reads_back : (n : ℕ) (t : TableMap) → n ≢ 6 → IsTableMap t → (table_map_of t.server n).parse (written_table_map t) ≡ Ok (t, [])
written_table_map_reads_back n t other w = (exact_table_map t.server n).complete (written_table_map t) t (written_table_map_spelled n t other w)
