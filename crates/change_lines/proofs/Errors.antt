-- Results that are errors.
use Rattle.std.proofs.Common.{◌≡◌, true, false, Option, Some, Result, Ok, Err, is_err, IfErr, sym, subst}
use Rattle.std.specs.Prelude.{IsErrAnd, IsOk, OnOk, IfSome}

-- what holds of every error holds of the result's
pub any_error : {A E : Type 0} (r : Result A E) (P : E → Type 0) → ((e : E) → P e) → IfErr r P
any_error (Ok a) P all = tt
any_error (Err e) P all = all e

-- what holds of an error holds of the result that passes it on
pub passed_on : {A E : Type 0} (r : Result A E) (e : E) (P : E → Type 0) → IsErrAnd r (λ f. f ≡ e) → P e → IfErr r P
passed_on (Ok a) e P is holds = tt
passed_on (Err f) e P is holds = subst P (sym is) holds

-- one fact of an error follows from another
pub on_error : {A E : Type 0} (r : Result A E) (P Q : E → Type 0) → ((e : E) → P e → Q e) → IfErr r P → IfErr r Q
on_error (Ok a) P Q to h = tt
on_error (Err e) P Q to h = to e h

-- what holds of a result if it is no error holds of one that is none
pub if_ok : {A E : Type 0} (r : Result A E) (P : Type 0) → IsOk r → OnOk r P → P
if_ok (Ok a) P is h = h
if_ok (Err e) P is h = let bad : false ≡ true = is in absurd cc

-- the same of one that isn't an error
pub no_error : {A E : Type 0} (r : Result A E) (P : Type 0) → is_err r ≡ false → OnOk r P → P
no_error (Ok a) P is h = h
no_error (Err e) P is h = let bad : true ≡ false = is in absurd cc

-- a result that passes an error on is an error of the same kind
pub same_kind : {A E : Type 0} (r : Result A E) (e : E) (P : E → Type 0) → IsErrAnd r (λ f. f ≡ e) → P e → IsErrAnd r P
same_kind (Ok a) e P is holds = absurd is
same_kind (Err f) e P is holds = subst P (sym is) holds

pub on_errors : {A E : Type 0} (r : Result A E) (P Q R : E → Type 0) → ((e : E) → P e → Q e → R e) → IfErr r P → IfErr r Q → IfErr r R
on_errors (Ok a) P Q R to h k = tt
on_errors (Err e) P Q R to h k = to e h k

pub of_error : {A E : Type 0} (r : Result A E) (e : E) (P : E → Type 0) → r ≡ Err e → IfErr r P → P e
of_error {A = A} {E = E} r e P is h = subst (λ (x : Result A E). IfErr x P) is h

-- what holds of a value if there is one holds of this one
pub of_some : {A : Type 0} (o : Option A) (x : A) (P : A → Type 0) → o ≡ Some x → IfSome o P → P x
of_some {A = A} o x P is h = subst (λ (p : Option A). IfSome p P) is h
