use Rattle.std.proofs.Common.{◌≡◌, ◌∙◌, ◌∷◌, ◌++◌, ℕ, List, [], sym, ap, get_or, take, append_assoc, append-nil, Vec, Global, arith}
use Rattle.std.specs.Borrow.{Bor}
use Rattle.changed_rows.specs.declared.named.MissingName.{MissingName}
use Rattle.changed_rows.specs.Workings.Came.{nothing_came, missing_in}
use Rattle.changed_rows.proofs.Came.{missing_more, missing_whole, is_kept, is_left_out}
use Rattle.changed_rows.proofs.named.push_missing.Goals.{then-not-came-i+in_ok-push, else-not-came-i}
use Rattle.changed_rows.proofs.named.push_missing.Goals as goal

pub loop-i-preserved : goal.loop-i-preserved
loop-i-preserved c =
    let kind = c.args.kind in
    let i = c.loop-i.i in
    let no_text : Bor (List ℕ) = record { ref_ptr = (0, 0); now = [] } in
    let name = get_or c.args.names.now i no_text in
    let came = get_or c.args.came.now i nothing_came in
    let before = c.args.missing.now.items in
    let so_far = missing_in kind (take i c.args.names.now) c.args.came.now in
    let more = missing_more kind c.args.names.now c.args.came.now i no_text nothing_came (omega (arith, c.loop-i-test.true, c.min-i-end.ensures)) (omega (arith, c.loop-i-test.true, c.min-i-end.ensures)) in
    elim c.if-not-came-i.branch [
      | then-not-came-i+in_ok-push w ↦
          let one : List MissingName = record { kind = kind; name = name; has_other_case = came.in_any_case } ∷ [] in
          let next = more ∙ ap (λ (xs : List MissingName). so_far ++ xs) (is_kept kind name came w.if-not-came-i.true) in
          ap (λ (v : Vec MissingName Global). v.items) w.missing-is
          ∙ w.in_ok-push.ensures.items
          ∙ ap (λ (xs : List MissingName). xs ++ one) c.loop-i.invariant
          ∙ append_assoc before so_far one
          ∙ ap (λ (xs : List MissingName). before ++ xs) (sym next)
      | else-not-came-i w ↦
          let next = more ∙ ap (λ (xs : List MissingName). so_far ++ xs) (is_left_out kind name came w.if-not-came-i.false) ∙ append-nil so_far in
          ap (λ (v : Vec MissingName Global). v.items) w.missing-is
          ∙ c.loop-i.invariant
          ∙ ap (λ (xs : List MissingName). before ++ xs) (sym next)
    ]

pub returns : goal.returns
returns c = c.loop-i.invariant ∙ ap (λ (xs : List MissingName). c.args.missing.now.items ++ xs) (missing_whole c.args.kind c.args.names.now c.args.came.now c.loop-i.i (omega (arith, c.loop-i-test.false, c.min-i-end.ensures)))
