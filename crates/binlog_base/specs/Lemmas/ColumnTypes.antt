-- A number that no column type or geometry type has is refused with a fault that bytes can have;
-- the number of a type gives the type back.
use Rattle.std.specs.Prelude.{◌≡◌, ℕ, Ok, Err}
use Rattle.std.proofs.Common.{rules, refl, sym, subst}
use Rattle.binlog_base.specs.declared.fault.Fault.{Fault}
use Rattle.binlog_base.specs.declared.fault.Fault.TheVariants as fault
use Rattle.binlog_base.specs.Faults.{IsOfBytes}
use Rattle.binlog_base.specs.Lemmas.Tables.{table_refuses}
use Rattle.binlog_base.specs.declared.below.columns.geometry.GeometryType.{GeometryType}
use Rattle.binlog_base.specs.declared.below.columns.column_type.ColumnType.{ColumnType}
use Rattle.binlog_base.specs.ColumnTypes.{column_types, column_type_of, column_number, geometry_types, geometry_type_of, geometry_number}

pub column_type_refused : (n : ℕ) (e : Fault) → column_type_of n ≡ Err e → IsOfBytes e
column_type_refused n e h = subst IsOfBytes (sym (table_refuses column_types fault.UnknownColumnType n e h)) refl

pub geometry_type_refused : (n : ℕ) (e : Fault) → geometry_type_of n ≡ Err e → IsOfBytes e
geometry_type_refused n e h = subst IsOfBytes (sym (table_refuses geometry_types fault.UnknownGeometryType n e h)) refl

pub column_number_reads_back : (t : ColumnType) → column_type_of (column_number t) ≡ Ok t
column_number_reads_back t = search rules

pub geometry_number_reads_back : (t : GeometryType) → geometry_type_of (geometry_number t) ≡ Ok t
geometry_number_reads_back t = search rules
