-- Reading images and pairs is exact: the bytes alone decide what is read or which fault comes.
use Rattle.std.specs.Prelude.{ℕ, suc, ◌%◌, ◌==◌, Bool, false, List, [], ◌∷◌, slice_index_or, unwrap_or, Option, Some, None, Err}
use Rattle.std.proofs.Common.{◌≡◌, refl, subst}
use Rattle.binlog_base.specs.declared.bits.BitOrder.TheVariants.{LeastSignificantFirst}
use Rattle.binlog_base.specs.declared.fault.Fault.{Fault}
use Rattle.binlog_base.specs.Faults.{IsOfBytes}
use Rattle.binlog_base.specs.Format.{IsExact}
use Rattle.binlog_base.specs.Lemmas.Format.{exact_no_bytes, exact_check, exact_sequence, exact_map_value, exact_choice, err_is}
use Rattle.binlog_base.specs.Lemmas.Bits.{exact_bit_list}
use Rattle.binlog_base.specs.Lemmas.Numbers.{exact_lenenc}
use Rattle.binlog_table.specs.TableMap.{TableMap}
use Rattle.binlog_table.specs.ColumnTypes.{json_count}
use Rattle.binlog_table.specs.Keys.{unless}
use Rattle.binlog_table.specs.Extracted.{field_fault}
use Rattle.binlog_table.specs.TableColumns.{Column, column_at}
use Rattle.binlog_table.specs.Lemmas.TableColumns.{column_fault_of_bytes, field_fault_of_bytes}
use Rattle.mysql_binlog_rows.specs.RowsEvent.{RowsEvent, image_columns, has_options}
use Rattle.binlog_cells.specs.Lemmas.Cells.{exact_cell}
use Rattle.mysql_binlog_rows.specs.Images.{is_partial, nullable_cell, cells, partial_bits, image, maybe_image, pair}

exact_nullable_cell : (is_null : Bool) (partials : List Bool) (c : Column) → IsExact (nullable_cell is_null partials c)
unfolding nullable_cell
exact_nullable_cell is_null partials c = exact_choice is_null _ _ (exact_no_bytes _) (exact_cell c.column_type (unwrap_or c.metadata []) c.unsigned (is_partial partials c))

exact_cells : (t : TableMap) (partials nulls : List Bool) (i before : ℕ) (present : List Bool) → IsExact (cells t partials nulls i before present)
unfolding cells
exact_cells t partials nulls i before [] = exact_no_bytes []
exact_cells t partials nulls i before (present ∷ others) =
    exact_sequence _ _ (exact_check (column_at t i) (column_fault_of_bytes t i)) (λ column.
    exact_choice present _ _
    (exact_sequence _ _ (exact_nullable_cell (slice_index_or nulls before false) partials column) (λ value. exact_map_value _ _ (exact_cells t partials nulls (suc i) (suc before) others)))
    (exact_cells t partials nulls (suc i) before others))

unless_of_bytes : {A : Type 0} (fault : Option Fault) (x : A) → ((e : Fault) → fault ≡ Some e → IsOfBytes e) → (e : Fault) → unless fault x ≡ Err e → IsOfBytes e
unless_of_bytes None x h e is = absurd cc
unless_of_bytes (Some d) x h e is = subst IsOfBytes (err_is d e is) (h d refl)

exact_partial_bits : (json_columns : ℕ) → IsExact (partial_bits json_columns)
unfolding partial_bits
exact_partial_bits json_columns =
    exact_sequence _ _ exact_lenenc (λ options. exact_choice (options % 2 == 1) _ _ (exact_bit_list LeastSignificantFirst json_columns) (exact_no_bytes []))

exact_image : (t : TableMap) (has_options : Bool) (present : List Bool) → IsExact (image t has_options present)
unfolding image
exact_image t has_options present =
    exact_sequence _ _ (exact_choice has_options _ _ (exact_partial_bits (json_count t.types)) (exact_no_bytes [])) (λ partials.
    exact_sequence _ _ (exact_bit_list LeastSignificantFirst _) (λ nulls.
    exact_sequence _ _ (exact_check (unless (field_fault t) nulls) (unless_of_bytes (field_fault t) nulls (field_fault_of_bytes t))) (λ nulls.
    exact_map_value _ _ (exact_cells t partials nulls 0 0 present))))

exact_maybe : (t : TableMap) (has_options : Bool) (present : Option (List Bool)) → IsExact (maybe_image t has_options present)
exact_maybe t has_options None = exact_no_bytes None
exact_maybe t has_options (Some present) = exact_map_value _ _ (exact_image t has_options present)

pub exact_pair : (t : TableMap) (e : RowsEvent) → IsExact (pair t e)
unfolding pair
exact_pair t e =
    exact_sequence _ _ (exact_maybe t false (image_columns e.num_columns e.before)) (λ b.
    exact_map_value _ _ (exact_maybe t (has_options e.event_type) (image_columns e.num_columns e.after)))
