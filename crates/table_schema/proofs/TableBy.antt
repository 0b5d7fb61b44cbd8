-- A table that has columns.
use Rattle.std.proofs.Common.{◌≡◌, ◌<◌, List, [], ◌∷◌, length, Some, None, refl, arith}
use Rattle.table_schema.specs.Schemas.{Column}
use Rattle.table_schema.specs.Lines.{KeyLine}
use Rattle.table_schema.specs.Files.{key_of, table_by}

pub table_some : (cs : List Column) (ks : List KeyLine) → 0 < length cs → table_by cs ks ≡ Some (record { columns = cs; key = key_of cs ks })
table_some [] ks h = absurd (omega (arith, h))
table_some (c ∷ cs) ks h = refl

pub table_none : (cs : List Column) (ks : List KeyLine) → length cs ≡ 0 → table_by cs ks ≡ None
table_none [] ks h = refl
table_none (c ∷ cs) ks h = absurd (omega (arith, h))
