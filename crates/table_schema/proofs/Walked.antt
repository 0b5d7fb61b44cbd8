-- The end of a walk over columns.
use Rattle.std.proofs.Common.{◌≡◌, ◌==◌, ◌<◌, Bool, List, [], ◌∷◌, ◌++◌, length, refl, sym, ap, ◌∙◌, append-nil, arith}
use Rattle.std.proofs.lemmas.Bool.{ne_eqb}
use Rattle.binlog_base.specs.declared.below.columns.column_type.ColumnType.{ColumnType}
use Rattle.binlog_base.specs.declared.below.columns.server.Server.{Server}
use Rattle.table_schema.specs.Schemas.{Column}
use Rattle.table_schema.specs.Fits.{fit_columns}
use Rattle.table_schema.specs.Completed.{among}

-- no columns are in a group
pub among_none : (is : ColumnType → Bool) (ts : List ColumnType) → among is ts [] ≡ []
among_none is [] = refl
among_none is (t ∷ ts) = refl

-- where no column is left, what was made of those in a group is the whole
pub walked : {A : Type 0} (f : List Column → List A) (is : ColumnType → Bool) (ts : List ColumnType) (cs : List Column) (out whole : List A) → f [] ≡ [] → length cs < 1 → out ++ f (among is ts cs) ≡ whole → out ≡ whole
walked f is ts [] out whole none short h = sym (append-nil out) ∙ ap (λ xs. out ++ xs) (sym (ap f (among_none is ts) ∙ none)) ∙ h
walked f is ts (c ∷ cs) out whole none short h = absurd (omega (arith, short))

-- behind the event's last column, none may be left
pub fit_end : (signs : Bool) (server : Server) (nulls : List Bool) (cs : List Column) → fit_columns signs server nulls cs [] ≡ (length cs == 0)
fit_end signs server nulls [] = refl
fit_end signs server nulls (c ∷ cs) = sym (ne_eqb (length (c ∷ cs)) 0 (λ h. omega (arith, h)))
