-- The keys of the status variables of a query event.
use Rattle.std.specs.Prelude.{ℕ, List, [], ◌∷◌}
use Rattle.binlog_consts.specs.declared.consts.status_var.StatusVarKey.{StatusVarKey}
use Rattle.binlog_consts.specs.declared.consts.status_var.StatusVarKey.TheVariants as key

-- the status variables by their keys
abbrev pub status_var_keys : List (ℕ × StatusVarKey)
status_var_keys =
    (0, key.Flags2)
    ∷ (1, key.SqlMode)
    ∷ (2, key.Catalog)
    ∷ (3, key.AutoIncrement)
    ∷ (4, key.Charset)
    ∷ (5, key.TimeZone)
    ∷ (6, key.CatalogNz)
    ∷ (7, key.LcTimeNames)
    ∷ (8, key.CharsetDatabase)
    ∷ (9, key.TableMapForUpdate)
    ∷ (10, key.MasterDataWritten)
    ∷ (11, key.Invoker)
    ∷ (12, key.UpdatedDbNames)
    ∷ (13, key.Microseconds)
    ∷ (14, key.CommitTs)
    ∷ (15, key.CommitTs2)
    ∷ (16, key.ExplicitDefaultsForTimestamp)
    ∷ (17, key.DdlLoggedWithXid)
    ∷ (18, key.DefaultCollationForUtf8mb4)
    ∷ (19, key.SqlRequirePrimaryKey)
    ∷ (20, key.DefaultTableEncryption)
    ∷ []
