-- The groups of column types by which each server numbers the columns of a table.
use Rattle.std.specs.Prelude.{Bool, true}
use Rattle.binlog_base.specs.declared.below.columns.column_type.ColumnType.{ColumnType}
use Rattle.binlog_base.specs.declared.below.columns.column_type.ColumnType.TheVariants as column
use Rattle.binlog_base.specs.declared.below.columns.server.Server.{Server}
use Rattle.binlog_base.specs.declared.below.columns.server.Server.TheVariants as server
use Rattle.binlog_base.specs.ColumnTypes.{is_numeric, is_character, is_enum_or_set}

-- MariaDB counts YEAR and the old DECIMAL among the numeric types
abbrev pub is_mariadb_numeric : ColumnType → Bool
is_mariadb_numeric column.MYSQL_TYPE_DECIMAL = true
is_mariadb_numeric column.MYSQL_TYPE_YEAR = true
is_mariadb_numeric type = is_numeric type

-- MariaDB counts GEOMETRY among the character types
abbrev pub is_mariadb_character : ColumnType → Bool
is_mariadb_character column.MYSQL_TYPE_GEOMETRY = true
is_mariadb_character type = is_character type

-- the types whose columns have a sign bit
abbrev pub numeric_group : Server → ColumnType → Bool
numeric_group server.MySql = is_numeric
numeric_group server.MariaDb = is_mariadb_numeric

-- the types whose columns have a character set
abbrev pub character_group : Server → ColumnType → Bool
character_group server.MySql = is_character
character_group server.MariaDb = is_mariadb_character

-- the types whose columns have a character set in the other list: ENUM and SET
abbrev pub enum_or_set_group : Server → ColumnType → Bool
enum_or_set_group s = is_enum_or_set
