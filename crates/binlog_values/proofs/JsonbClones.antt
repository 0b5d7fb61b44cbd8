-- A map that is copied entry by entry, in the order of its keys.
use Rattle.std.proofs.Common.{◌≡◌, List, [], ◌∷◌, ◌++◌, String, Global, Less, Greater, string_bytes, string_cmp, nat_cmp, refl, ap, ◌∙◌}
use Rattle.std.proofs.lemmas.Cmp.{nat_list_cmp_total}
use Rattle.std.specs.Cmp.Lexicographic.{slice_cmp}
use Rattle.std.specs.List.{AllByRecursion}
use Rattle.std.specs.List.Sorted.{IsStrictlySortedBy}
use Rattle.std.specs.Map.{keys_of}
use Rattle.std.specs.Ordering.{ordering_reverse}
use Rattle.binlog_values.specs.declared.jsonb.dom.JsonDom.{JsonDom}
use Rattle.binlog_values.specs.JsonbTrees.{member, put}
use Rattle.binlog_values.specs.JsonbDoms.{dom_view, members_view}

abbrev pub Entry : Type 0
Entry = String Global × JsonDom

below_middle : (first : Entry) (es : List Entry) (e : Entry) (more : List Entry) → AllByRecursion (λ y. string_cmp first.0 y ≡ Less) (keys_of (es ++ e ∷ more)) → string_cmp first.0 e.0 ≡ Less
below_middle first [] e more h = h.0
below_middle first (x ∷ es) e more h = below_middle first es e more h.1

-- a key that is above those before it goes last
pub put_last : (done : List Entry) (e : Entry) (more : List Entry) → IsStrictlySortedBy string_cmp (keys_of (done ++ e ∷ more))
    → put (string_bytes e.0) (dom_view e.1) (members_view done) ≡ members_view (done ++ e ∷ [])
unfolding IsStrictlySortedBy
put_last [] e more h = refl
put_last (first ∷ done) e more h =
    let above : slice_cmp nat_cmp (string_bytes e.0) (string_bytes first.0) ≡ Greater =
    nat_list_cmp_total.antisymm (string_bytes e.0) (string_bytes first.0) ∙ ap ordering_reverse (below_middle first done e more h.0) in
    rw above (ap (member (string_bytes first.0) (dom_view first.1)) (put_last done e more h.1))
