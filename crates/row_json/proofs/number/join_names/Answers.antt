use Rattle.std.proofs.Common.{◌+◌, List, ℕ, [], ◌∷◌, ◌++◌, map, drop, ap, ◌∙◌}
use Rattle.std.specs.Prelude.{Option}
use Rattle.std.specs.Option.{option_map}
use Rattle.std.specs.String.{string_bytes}
use Rattle.row_json.specs.Values.{set_names}
use Rattle.row_json.proofs.Sets.{after, set_step, unset_step, none_step, even, odd, not_none, name_joined, drop_mapped, all_named}
use Rattle.row_json.proofs.number.join_names.Goals as goal

pub loop-name-preserved-then-left-eq0-2 : goal.loop-name-preserved-then-left-eq0-2
loop-name-preserved-then-left-eq0-2 c =
    let inv = c.loop-name.invariant in
    let left = c.loop-name.left in
    let at = drop_mapped (option_map string_bytes) c.args.names.now c.loop-name.name-index c.name-item.result c.loop-name-test.true c.name-item.is in
    (inv.0, inv.1 ∙ (ap (λ (l : List (Option (List ℕ))). after inv.0 (set_names l left)) at ∙ unset_step _ _ left inv.0 (even left c.if-left-eq0-2.true)), inv.2, inv.3)

pub returns-then-left-eq0 : goal.returns-then-left-eq0
returns-then-left-eq0 c =
    let inv = c.loop-name.invariant in
    let rest = drop c.loop-name.name-index (map (option_map string_bytes) c.args.names.now) in
    all_named _ rest c.loop-name.left inv.0 (string_bytes c.loop-name.text) inv.1 c.if-left-eq0.true inv.2

pub returns-in_default : goal.returns-in_default
returns-in_default c =
    let inv = c.loop-name.invariant in
    let left = c.loop-name.left in
    let rest = drop (c.loop-name.name-index + 1) (map (option_map string_bytes) c.args.names.now) in
    let at = drop_mapped (option_map string_bytes) c.args.names.now c.loop-name.name-index c.name-item.result c.loop-name-test.true c.name-item.is in
    let none = at ∙ ap (λ o. option_map string_bytes o ∷ rest) c.in_default.is in
    inv.1 ∙ (ap (λ (l : List (Option (List ℕ))). after inv.0 (set_names l left)) none ∙ none_step rest left inv.0 (odd left c.if-left-eq0-2.false))

pub loop-name-preserved : goal.loop-name-preserved
loop-name-preserved c =
    let inv = c.loop-name.invariant in
    let left = c.loop-name.left in
    let name = string_bytes c.in-Some.name in
    let rest = drop (c.loop-name.name-index + 1) (map (option_map string_bytes) c.args.names.now) in
    let at = drop_mapped (option_map string_bytes) c.args.names.now c.loop-name.name-index c.name-item.result c.loop-name-test.true c.name-item.is in
    let some = at ∙ ap (λ o. option_map string_bytes o ∷ rest) c.in-Some.is in (
      inv.0 ++ name ∷ [],
      inv.1 ∙ (ap (λ (l : List (Option (List ℕ))). after inv.0 (set_names l left)) some ∙ set_step name rest left inv.0 (odd left c.if-left-eq0-2.false)),
      name_joined _ _ c.as_str.result.now name c.loop-name.is_first inv.0 c.in_ok-push_name.ensures inv.2 inv.3 c.as_str.ensures.value,
      not_none inv.0 name,
    )
