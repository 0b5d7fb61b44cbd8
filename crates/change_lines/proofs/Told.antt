-- What is told, piece by piece.
use Rattle.std.proofs.Common.{◌≡◌, ◌<◌, ◌≤◌, ◌+◌, ◌||◌, ℕ, zero, suc, length, get_or, take, flat_map, append_assoc, add-one, arith, Bool, true, false, if◌then◌else◌, List, [], ◌∷◌, ◌++◌, Option, Result, Ok, Err, IsOk, OnOk, refl, sym, ap, subst, ◌∙◌, append-nil}
use Rattle.std.specs.declared.io.Error.{Error}
use Rattle.std.specs.Io.KnownBytes.{Appends}
use Rattle.std.proofs.KnownBytes.{Appends-nil, Appends-trans}
use Rattle.change_lines.specs.declared.error.Failure.{Failure}
use Rattle.change_lines.specs.declared.error.Failure.TheVariants as failure
use Rattle.change_lines.specs.Notes.{Tells, IsTold}

-- nothing is told
pub tells_nothing : (is_lost : Bool) (told : Option (List ℕ)) → Tells is_lost told is_lost told []
tells_nothing is_lost told kept = (kept, Appends-nil told)

-- the same, of a writer that is as it was
pub tells_silent : (was_lost is_lost : Bool) (old new : Option (List ℕ)) → is_lost ≡ was_lost → new ≡ old → Tells was_lost old is_lost new []
tells_silent was_lost is_lost old new lost same kept = (sym lost ∙ kept, subst (λ (o : Option (List ℕ)). Appends old o []) (sym same) (Appends-nil old))

-- a text is told unless notes are quiet, and then nothing is
pub unless_quiet : (is_quiet was_lost is_lost : Bool) (old new : Option (List ℕ)) (text : List ℕ) → (is_quiet ≡ true → (is_lost ≡ was_lost) × (new ≡ old)) → (is_quiet ≡ false → Tells was_lost old is_lost new text)
    → Tells was_lost old is_lost new (if is_quiet then [] else text)
unless_quiet true was_lost is_lost old new text same tells = tells_silent was_lost is_lost old new (same refl).0 (same refl).1
unless_quiet false was_lost is_lost old new text same tells = tells refl

-- a text was told, and then nothing
pub still_told : (a b d : Bool) (x y z : Option (List ℕ)) (text : List ℕ) → Tells a x b y text → d ≡ b → z ≡ y → Tells a x d z text
still_told a b d x y z text h lost same kept =
    let told = h (sym lost ∙ kept) in
    (told.0, subst (λ (o : Option (List ℕ)). Appends x o text) (sym same) told.1)

-- a text is told, and then another
pub tells_more : (a b d : Bool) (x y z : Option (List ℕ)) (first more : List ℕ) → Tells a x b y first → Tells b y d z more → Tells a x d z (first ++ more)
tells_more a b d x y z first more h k kept =
    let last = k kept in
    let before = h last.0 in
    (before.0, Appends-trans x y z first more before.1 last.1)

-- what was written whole is told
pub wrote_tells : (was is : Bool) (r : Result (Unit {0}) Error) (old mid new : Option (List ℕ)) (text : List ℕ)
    → (is ≡ false → (was ≡ false) × IsOk r) → OnOk r (Appends old mid text) → new ≡ mid → Tells was old is new text
wrote_tells was is (Ok u) old mid new text lost wrote same kept = ((lost kept).0, subst (λ (n : Option (List ℕ)). Appends old n text) (sym same) wrote)
wrote_tells was is (Err e) old mid new text lost wrote same kept = absurd (let bad : false ≡ true = (lost kept).1 in cc)

-- a text that isn't left out
pub unless : (is_quiet b : Bool) (xs ys : List ℕ) → is_quiet ≡ false → b ≡ false → (if is_quiet || b then xs else ys) ≡ ys
unless false false xs ys loud other = refl
unless true b xs ys loud other = absurd cc
unless false true xs ys loud other = absurd cc

up_to : {X : Type 0} (f : X → List ℕ) (xs : List X) (i : ℕ) (d : X) → i < length xs → flat_map f (take (suc i) xs) ≡ flat_map f (take i xs) ++ f (get_or xs i d)
up_to f [] i d small = absurd (omega (arith, small))
up_to f (y ∷ ys) zero d small = append-nil (f y)
up_to f (y ∷ ys) (suc i) d small = ap (λ (l : List ℕ). f y ++ l) (up_to f ys i d (omega (arith, small))) ∙ sym (append_assoc (f y) (flat_map f (take i ys)) (f (get_or ys i d)))

-- what a list tells up to its next item
pub told_to : {X : Type 0} (f : X → List ℕ) (xs : List X) (i : ℕ) (d : X) → i < length xs → flat_map f (take i xs) ++ f (get_or xs i d) ≡ flat_map f (take (i + 1) xs)
told_to f xs i d small = sym (up_to f xs i d small) ∙ ap (λ (n : ℕ). flat_map f (take n xs)) (sym (add-one i))

-- all items of a list
pub take_all : {X : Type 0} (xs : List X) (n : ℕ) → length xs ≤ n → take n xs ≡ xs
take_all [] zero all = refl
take_all [] (suc n) all = refl
take_all (x ∷ xs) zero all = absurd (omega (arith, all))
take_all (x ∷ xs) (suc n) all = ap (λ (l : List _). x ∷ l) (take_all xs n (omega (arith, all)))

-- every failure can be told
pub some_told : (path : List ℕ) (why : Failure) → (text : List ℕ) × IsTold path why text
some_told path (failure.Unopened e) = (_, ([], refl))
some_told path (failure.File e) = (_, ([], refl))
some_told path (failure.NoEvent n) = (_, refl)
some_told path (failure.Output e) = (_, ([], refl))
some_told path failure.Memory = (_, refl)
