-- Which letters name which operations.
use Rattle.std.specs.Prelude.{ℕ, Bool, ◌==◌, ◌||◌, List, length, codes, bytes_eq}
use Rattle.std.specs.Borrow.{Bor}
use Rattle.std.specs.List.{list_any}
use Rattle.changed_rows.specs.declared.filter.Operation.{Operation}
use Rattle.changed_rows.specs.declared.filter.Operation.TheVariants as operation
use Rattle.changed_rows.specs.declared.filter.Operations.{Operations}

-- the letter of an operation, as in lines of JSON
abbrev pub letter_of : Operation → List ℕ
letter_of operation.Insert = codes "c"
letter_of operation.Update = codes "u"
letter_of operation.Delete = codes "d"

-- no letters, or one of them is the operation's
abbrev pub is_chosen : List (Bor (List ℕ)) → Operation → Bool
is_chosen letters o = length letters == 0 || list_any (λ letter. bytes_eq letter.now (letter_of o)) letters

abbrev pub operations_of : List (Bor (List ℕ)) → Operations
operations_of letters = record {
  inserts = is_chosen letters operation.Insert;
  updates = is_chosen letters operation.Update;
  deletes = is_chosen letters operation.Delete;
}
