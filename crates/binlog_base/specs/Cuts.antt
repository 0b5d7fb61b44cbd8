-- Parts of lists.
use Rattle.std.specs.Prelude.{ℕ, ◌-◌, List, take, drop}

-- the part of a list from index `start` up to but without index `end`
abbrev pub cut : {A : Type 0} → ℕ → ℕ → List A → List A
cut start end xs = take (end - start) (drop start xs)
