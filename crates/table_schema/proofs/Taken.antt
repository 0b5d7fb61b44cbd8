-- What is taken of the lines that are looked for, line by line.
use Rattle.std.proofs.Common.{◌≡◌, ℕ, List, [], ◌∷◌, ◌++◌, sym, ap, ◌∙◌, append_assoc}
use Rattle.std.specs.Prelude.{if◌then◌else◌}
use Rattle.std.specs.Ordering.{is_eq}
use Rattle.std.specs.declared.cmp.Ordering.TheVariants as order
use Rattle.table_schema.specs.Texts.{pieces}
use Rattle.table_schema.specs.Lines.{Target}
use Rattle.table_schema.specs.Search.{order_of, lines_while}
use Rattle.table_schema.proofs.Read.{begins}

-- a line that is looked for
pub while_more : {X : Type 0} (taken : List (List ℕ) → List X) (target : Target) (bytes rest : List ℕ) (ps : List (List ℕ)) → ps ≡ bytes ∷ pieces 10 rest → order_of target bytes ≡ order.Equal → lines_while taken target ps ≡ taken (pieces 9 bytes) ++ lines_while taken target (pieces 10 rest)
while_more taken target bytes rest ps is e =
    let b = begins 10 rest in
    ap (lines_while taken target) (is ∙ ap (λ qs. bytes ∷ qs) b.is)
    ∙ ap (λ o. if is_eq o then taken (pieces 9 bytes) ++ lines_while taken target (b.first ∷ b.more) else []) e
    ∙ ap (λ qs. taken (pieces 9 bytes) ++ lines_while taken target qs) (sym b.is)

pub taken_more : {X : Type 0} (taken : List (List ℕ) → List X) (target : Target) (bytes rest left text : List ℕ) (fields : List (List ℕ)) (old new : List X) →
    pieces 10 left ≡ bytes ∷ pieces 10 rest → order_of target bytes ≡ order.Equal → fields ≡ pieces 9 bytes → new ≡ old ++ taken fields →
    old ++ lines_while taken target (pieces 10 left) ≡ lines_while taken target (pieces 10 text) → new ++ lines_while taken target (pieces 10 rest) ≡ lines_while taken target (pieces 10 text)
taken_more taken target bytes rest left text fields old new is e fs n inv =
    ap (λ x. x ++ lines_while taken target (pieces 10 rest)) (n ∙ ap (λ x. old ++ taken x) fs)
    ∙ append_assoc old (taken (pieces 9 bytes)) (lines_while taken target (pieces 10 rest))
    ∙ ap (λ x. old ++ x) (sym (while_more taken target bytes rest (pieces 10 left) is e))
    ∙ inv
