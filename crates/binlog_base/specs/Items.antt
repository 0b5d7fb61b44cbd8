-- Lists of a format: to the end of the bytes, and of a known count.
use Rattle.std.specs.Prelude.{◌≡◌, ℕ, zero, suc, ◌+◌, ◌<◌, List, [], ◌∷◌, ◌++◌, length, map, Result, Ok, Err, Option, Some, None}
use Rattle.binlog_base.specs.declared.fault.Fault.{Fault}
use Rattle.binlog_base.specs.Format.{Format, ◌>>=◌, sequence, map_value, no_bytes}

-- These are the items that the bytes hold: what the format spells, again and again, to the end;
-- where it is refused, its fault is the last item.
abbrev pub AreItems : {A : Type 0} → Format A → List ℕ → List (Result A Fault) → Type 0
AreItems f x [] = x ≡ []
AreItems f x (Ok a ∷ more) = (y z : List ℕ) × (x ≡ y ++ z) × f.spells y a × AreItems f z more
AreItems f x (Err e ∷ more) = (0 < length x) × f.refuses x e × (more ≡ [])

-- the items as a plain program: one item, and then those of the bytes after it; none follows a
-- fault
abbrev pub item_then : {A : Type 0} → (List ℕ → List (Result A Fault)) → Result (A × List ℕ) Fault → List (Result A Fault)
item_then next (Ok r) = Ok r.0 ∷ next r.1
item_then next (Err e) = Err e ∷ []

-- the first n items
abbrev pub first_items : {A : Type 0} → Format A → ℕ → List ℕ → List (Result A Fault)
first_items f zero x = []
first_items f (suc n) [] = []
first_items f (suc n) (b ∷ x) = item_then (first_items f n) (f.parse (b ∷ x))

-- all of them: there are no more than bytes
unfoldable pub items : {A : Type 0} → Format A → List ℕ → List (Result A Fault)
items f x = first_items f (length x) x

-- the values of a list of items, or its first fault
abbrev pub values_of : {A : Type 0} → List (Result A Fault) → Result (List A) Fault
values_of [] = Ok []
values_of (Ok a ∷ more) = values_of more >>= λ vs. Ok (a ∷ vs)
values_of (Err e ∷ more) = Err e

-- the format again and again, to the end of the bytes
abbrev pub repeated : {A : Type 0} → Format A → Format (List A)
repeated {A} f = record {
  spells = λ x vs. AreItems f x (map Ok vs);
  refuses = λ x e. (vs : List A) × AreItems f x (map Ok vs ++ Err e ∷ []);
  parse = λ x. values_of (items f x) >>= λ vs. Ok (vs, []);
}

-- a format that takes at least a byte
abbrev pub Eats : {A : Type 0} → Format A → Type 0
Eats {A} f = (x : List ℕ) (a : A) (left : List ℕ) → f.parse x ≡ Ok (a, left) → length left < length x

-- n values of a format, one after the other
abbrev pub times : {A : Type 0} → ℕ → Format A → Format (List A)
times zero f = no_bytes []
times (suc n) f = sequence (times n f) (λ xs. map_value f (λ x. xs ++ x ∷ []))

-- the items before the first fault
abbrev pub before_fault : {A : Type 0} → List (Result A Fault) → List A
before_fault [] = []
before_fault (Ok x ∷ xs) = x ∷ before_fault xs
before_fault (Err e ∷ xs) = []

-- the first fault, if there is one
abbrev pub first_fault : {A : Type 0} → List (Result A Fault) → Option Fault
first_fault [] = None
first_fault (Ok x ∷ xs) = first_fault xs
first_fault (Err e ∷ xs) = Some e

-- each item at its weight and one, each fault at one
abbrev pub weigh : {A : Type 0} → (A → ℕ) → List (Result A Fault) → ℕ
weigh w [] = 0
weigh w (Ok a ∷ more) = 1 + w a + weigh w more
weigh w (Err e ∷ more) = 1 + weigh w more

-- an item seen otherwise
abbrev pub result_map : {A B : Type 0} → (A → B) → Result A Fault → Result B Fault
result_map f (Ok x) = Ok (f x)
result_map f (Err e) = Err e
