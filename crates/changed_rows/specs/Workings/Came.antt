-- What came of names, as it is kept.
use Rattle.std.specs.Prelude.{ℕ, ◌||◌, Bool, false, if◌then◌else◌, List, [], ◌∷◌, ◌++◌}
use Rattle.std.specs.Borrow.{Bor}
use Rattle.changed_rows.specs.declared.named.NameKind.{NameKind}
use Rattle.changed_rows.specs.declared.named.MissingName.{MissingName}
use Rattle.changed_rows.specs.declared.named.Came.{Came}
use Rattle.changed_rows.specs.Counted.{Name}
use Rattle.changed_rows.specs.SeenNames.{names_it, names_alike}

abbrev pub nothing_came : Came
nothing_came = record { exactly = false; in_any_case = false }

-- what came of a name, once a table came too
abbrev pub came_with : NameKind → List ℕ → Came → Name → Came
came_with kind text c t = record {
  exactly = c.exactly || names_it kind text t;
  in_any_case = c.in_any_case || names_alike kind text t;
}

-- what came of each of the names, once a table came too
abbrev pub each_with : NameKind → List (Bor (List ℕ)) → List Came → Name → List Came
each_with kind [] cs t = cs
each_with kind (n ∷ ns) [] t = []
each_with kind (n ∷ ns) (c ∷ cs) t = came_with kind n.now c t ∷ each_with kind ns cs t

-- the name, if nothing of it came
abbrev pub missing_one : NameKind → Bor (List ℕ) → Came → List MissingName
missing_one kind n c = if c.exactly then [] else record { kind = kind; name = n; has_other_case = c.in_any_case } ∷ []

-- the names of which nothing came
abbrev pub missing_in : NameKind → List (Bor (List ℕ)) → List Came → List MissingName
missing_in kind [] cs = []
missing_in kind (n ∷ ns) [] = []
missing_in kind (n ∷ ns) (c ∷ cs) = missing_one kind n c ++ missing_in kind ns cs
