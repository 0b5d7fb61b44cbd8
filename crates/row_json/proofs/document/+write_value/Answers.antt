use Rattle.std.proofs.Common.{◌≡◌, ◌<◌, ◌+◌, ℕ, suc, true, false, List, [], ◌∷◌, ◌++◌, Option, Ok, arith, rules, refl, sym, ap, subst, ◌∙◌, append_assoc, string_bytes}
use Rattle.std.specs.Option.{option_map}
use Rattle.std.proofs.lemmas.Result.{err_from_is_err_and}
use Rattle.binlog_values.specs.declared.jsonb.value.Value.{Value}
use Rattle.binlog_values.specs.JsonbTrees.{Branches, Members, no_members, merged, merged_items, merged_into}
use Rattle.binlog_values.specs.JsonbViews.{view_of}
use Rattle.json.specs.Json as json
use Rattle.json.specs.Token as token
use Rattle.json.specs.Token.{Token}
use Rattle.json.specs.Tree.{json_tokens}
use Rattle.row_json.specs.Wrote.{Named, named_tokens, items_of, members_of}
use Rattle.row_json.specs.Documents.{AreItems, AreMembers}
use Rattle.row_json.specs.Workings.Walked.{AreIndexed, WroteItems}
use Rattle.row_json.proofs.Steps.{adds_both, adds_same, adds_object, items_end, some_more, some_token}
use Rattle.row_json.proofs.Flat.{one_more}
use Rattle.row_json.proofs.Walked.{Entry, first_of, nth, all_of, items_more, last, members_more, no_element_fault, smaller_element, on_ok, on_err, container_value, kept_at}
use Rattle.row_json.proofs.document.+write_value.Goals as goal

pub write_array-returns-clause-written : goal.write_array-returns-clause-written
write_array-returns-clause-written t c = λ f is all bs denoted flat.
    let w = c.in_ok-write_items.ensures.written f is all bs denoted in record {
      value = json.array (items_of w.0);
      is = (w.0, w.1, refl);
      adds = adds_same _ _ (ap (λ (l : List Token). token.begin_array ∷ l) (sym (items_end w.0)))
          (adds_both (token.begin_array ∷ []) _ (record { before = c.begin_array.ensures.before; tokens = c.in_ok-begin_array.ensures.ok })
          (adds_both _ (token.end_array ∷ []) w.2 (record { before = c.end_array.ensures.before; tokens = c.in_ok-end_array.ensures.ok })));
    }

pub write_object-returns-clause-written : goal.write_object-returns-clause-written
write_object-returns-clause-written t c = λ f is all bs denoted flat.
    let kept = c.in_ok-members.ensures.kept f is all bs denoted flat in
    let w = c.in_ok-write_members.ensures.written f is (merged_into no_members bs) kept in record {
      value = json.object (members_of w.0);
      is = (w.0, w.1, refl);
      adds = adds_object w.0 (record { before = c.begin_object.ensures.before; tokens = c.in_ok-begin_object.ensures.ok }) w.2 (record { before = c.end_object.ensures.before; tokens = c.in_ok-end_object.ensures.ok });
    }

pub write_element-returns-in_err-element-clause-memory : goal.write_element-returns-in_err-element-clause-memory
write_element-returns-in_err-element-clause-memory t c =
    let p = err_from_is_err_and c.from_residual.result c.from_residual.ensures.1 in
    rw (p.1, p.2) (no_element_fault (view_of c.args.container.now) c.args.pos c.in_err-element.field-0.0 c.in_err-element.ensures)

pub write_element-write_value-requires : goal.write_element-write_value-requires
write_element-write_value-requires t c =
    let e = ap (λ (o : Option Value). Ok (option_map view_of o)) (sym c.in-Some.is) ∙ c.in_ok-element.ensures in
    (omega (arith, c.decreases, smaller_element (view_of c.args.container.now) (view_of c.in-Some.element) c.args.pos e), tt)

pub write_items-returns-in_err-write_element-clause-memory : goal.write_items-returns-in_err-write_element-clause-memory
write_items-returns-in_err-write_element-clause-memory t c =
    let p = err_from_is_err_and c.from_residual.result c.from_residual.ensures.1 in
    rw (p.1, p.2) (λ f is all bs denoted.
    let lt : c.loop-pos.pos < f.count = omega (arith, c.loop-pos-test.true, all) in
    let n = nth c.loop-pos.pos bs f denoted lt in
    c.in_err-write_element.ensures.memory f is lt n.tree n.denotes)

pub write_items-returns-in_err-write_element-clause-stays : goal.write_items-returns-in_err-write_element-clause-stays
write_items-returns-in_err-write_element-clause-stays t c = some_more c.in_err-write_element.ensures.stays c.loop-pos.invariant.2

pub write_items-loop-pos-preserved : goal.write_items-loop-pos-preserved
write_items-loop-pos-preserved t c = (
  omega (arith, c.loop-pos-test.true),
  λ f is all bs denoted.
      let pos = c.loop-pos.pos in
      let lt : pos < f.count = omega (arith, c.loop-pos-test.true, all) in
      let n = nth pos bs f denoted lt in
      let before = c.loop-pos.invariant.1 f is all bs denoted in
      let w = c.in_ok-write_element.ensures.written f is lt n.tree n.denotes in
      let one : suc pos ≡ pos + 1 = omega arith in
      let more = sym n.one_more ∙ ap (λ (m : ℕ). first_of m bs) one in (
        before.0 ++ w.value ∷ [],
        subst (λ (b : Branches). AreItems (merged_items b) (before.0 ++ w.value ∷ [])) more (items_more (first_of pos bs) n.key n.tree before.0 w.value before.1 w.is),
        adds_same _ _ (one_more json_tokens before.0 w.value) (adds_both _ _ before.2 w.adds),
      ),
  some_more c.in_ok-write_element.ensures.stays c.loop-pos.invariant.2,
)

pub write_items-returns-clause-written : goal.write_items-returns-clause-written
write_items-returns-clause-written t c = λ f is all bs denoted.
    let pos = c.loop-pos.pos in
    let end : pos ≡ f.count = omega (arith, c.loop-pos-test.false, c.loop-pos.invariant.0, all) in
    subst (λ (b : Branches). WroteItems c.args.out.now c.loop-pos.out b) (all_of pos bs f denoted end) (c.loop-pos.invariant.1 f is all bs denoted)

pub write_items-returns-clause-stays : goal.write_items-returns-clause-stays
write_items-returns-clause-stays t c = c.loop-pos.invariant.2

pub write_members-returns-in_err-key-clause-stays : goal.write_members-returns-in_err-key-clause-stays
write_members-returns-in_err-key-clause-stays t c = some_token c.key.result _ c.key.ensures c.loop-name.invariant.3

pub write_members-loop-name-preserved : goal.write_members-loop-name-preserved
write_members-loop-name-preserved t c =
    let inv = c.loop-name.invariant in
    let e : Entry = (c.in-Some.name.now, c.in-Some.pos.now) in
    let left = c.next.new.self in
    let all : c.args.members.now.entries ≡ inv.0 ++ e ∷ left = inv.1 ∙ ap (λ (es : List Entry). inv.0 ++ es) c.in-Some.ensures.steps in (
      inv.0 ++ e ∷ [],
      all ∙ sym (append_assoc inv.0 (e ∷ []) left),
      λ f is ms kept.
          let l = last f inv.0 e ms kept in
          let before = inv.2 f is l.front l.are in
          let w = c.in_ok-write_element.ensures.written f is l.within l.tree l.denotes in
          let m : Named = (string_bytes e.0, w.value) in (
            before.0 ++ m ∷ [],
            subst (λ (x : Members). AreMembers x (before.0 ++ m ∷ [])) (sym l.whole) (members_more l.front (string_bytes e.0) (merged l.tree) before.0 w.value before.1 w.is),
            adds_same _ _ (one_more named_tokens before.0 m) (adds_both _ _ before.2 (adds_both (token.key (string_bytes e.0) ∷ []) (json_tokens w.value)
                (record { before = c.key.ensures.before; tokens = c.in_ok-key.ensures.ok ∙ ap (λ k. c.loop-name.out.tokens ++ token.key k ∷ []) c.as_str.ensures.value }) w.adds)),
          ),
      some_more c.in_ok-write_element.ensures.stays (some_token c.key.result _ c.key.ensures inv.3),
    )

pub write_members-returns-in_err-write_element-clause-memory : goal.write_members-returns-in_err-write_element-clause-memory
write_members-returns-in_err-write_element-clause-memory t c =
    let p = err_from_is_err_and c.from_residual-in_err-write_element.result c.from_residual-in_err-write_element.ensures.1 in
    let inv = c.loop-name.invariant in
    let e : Entry = (c.in-Some.name.now, c.in-Some.pos.now) in
    let left = c.next.new.self in
    let all : c.args.members.now.entries ≡ inv.0 ++ e ∷ left = inv.1 ∙ ap (λ (es : List Entry). inv.0 ++ es) c.in-Some.ensures.steps in
    rw (p.1, p.2) (λ f is ms kept.
    let here = kept_at f inv.0 e left ms (subst (λ (es : List Entry). AreIndexed f es ms) all kept) in
    c.in_err-write_element.ensures.memory f is here.0 here.1.0 here.1.1)

pub write_members-returns-in_err-write_element-clause-stays : goal.write_members-returns-in_err-write_element-clause-stays
write_members-returns-in_err-write_element-clause-stays t c = some_more c.in_err-write_element.ensures.stays (some_token c.key.result _ c.key.ensures c.loop-name.invariant.3)

pub write_members-returns-clause-stays : goal.write_members-returns-clause-stays
write_members-returns-clause-stays t c = c.loop-name.invariant.3

pub write_value-returns-then-is_array-clause-written : goal.write_value-returns-then-is_array-clause-written
write_value-returns-then-is_array-clause-written t c =
    let some = sym c.element_count.ensures ∙ c.in-Some.is in
    let yes : c.is_array.result ≡ true = search rules in
    on_ok c.write_array.result _ _ (λ w. container_value (view_of c.args.value.now) c.in-Some.count true _ some (sym c.is_array.ensures ∙ yes) w) c.write_array.ensures.written

pub write_value-returns-then-is_array-clause-memory : goal.write_value-returns-then-is_array-clause-memory
write_value-returns-then-is_array-clause-memory t c =
    let some = sym c.element_count.ensures ∙ c.in-Some.is in
    let yes : c.is_array.result ≡ true = search rules in
    on_err c.write_array.result _ _ (λ e w. container_value (view_of c.args.value.now) c.in-Some.count true _ some (sym c.is_array.ensures ∙ yes) (λ f is all bs denoted kind. w f is all bs denoted)) c.write_array.ensures.memory

pub write_value-returns-else-is_array-clause-written : goal.write_value-returns-else-is_array-clause-written
write_value-returns-else-is_array-clause-written t c =
    let some = sym c.element_count.ensures ∙ c.in-Some.is in
    let no : c.is_array.result ≡ false = search rules in
    on_ok c.write_object.result _ _ (λ w. container_value (view_of c.args.value.now) c.in-Some.count false _ some (sym c.is_array.ensures ∙ no) w) c.write_object.ensures.written

pub write_value-returns-else-is_array-clause-memory : goal.write_value-returns-else-is_array-clause-memory
write_value-returns-else-is_array-clause-memory t c =
    let some = sym c.element_count.ensures ∙ c.in-Some.is in
    let no : c.is_array.result ≡ false = search rules in
    on_err c.write_object.result _ _ (λ e w. container_value (view_of c.args.value.now) c.in-Some.count false _ some (sym c.is_array.ensures ∙ no) w) c.write_object.ensures.memory
