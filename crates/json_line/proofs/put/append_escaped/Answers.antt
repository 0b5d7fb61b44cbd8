use Rattle.std.proofs.Common.{ℕ, List, take_at, ◌+◌, [], ◌∷◌, ◌++◌, cond, rules, ap, sym, ◌∙◌, drop, append_assoc, append-nil}
use Rattle.std.proofs.lemmas.List.{places, take-append-le}
use Rattle.std.proofs.lemmas.Result.{on_ok_weaker}
use Rattle.json.specs.Print.{escape}
use Rattle.json.proofs.Printed.Strings.{escape_to_stop, escape_at, escape_end}
use Rattle.json.proofs.Printed.Room.{moved}
use Rattle.json_line.proofs.put.append_escaped.Goals as goal

pub loop-out-init : goal.loop-out-init
loop-out-init c =
    let comma : List ℕ = cond c.args.comma (44 ∷ []) [] in
    let rest = escape c.args.text.now ++ c.args.close.now in (
      search rules,
      ap (λ l. l ++ rest) c.in_ok-put_plain.ensures ∙ append_assoc c.args.out.now.items (comma ++ 34 ∷ []) rest
          ∙ ap (λ l. c.args.out.now.items ++ l) (append_assoc comma (34 ∷ []) rest),
      search (rules, places, take_at),
    )

pub returns-then-stop-text-clause-ok : goal.returns-then-stop-text-clause-ok
returns-then-stop-text-clause-ok c =
    let text = c.args.text.now in
    let close = c.args.close.now in
    let stop = c.plain_end-stop.result in
    let mid = moved _ _ _ _ _ _ c.in_ok-extend_from_slice.ensures.ok (escape_to_stop text c.loop-out.at stop close c.plain_end-stop.ensures.value) c.loop-out.invariant.1 in
    on_ok_weaker c.extend_from_slice-then-stop-text.result
    (λ e. sym (append-nil _) ∙ moved _ _ close [] _ _ e (escape_end text stop close (search rules)) mid) c.extend_from_slice-then-stop-text.ensures.ok

pub loop-out-preserved : goal.loop-out-preserved
loop-out-preserved c =
    let text = c.args.text.now in
    let close = c.args.close.now in
    let stop = c.plain_end-stop.result in
    let mid = moved _ _ _ _ _ _ c.in_ok-extend_from_slice.ensures.ok (escape_to_stop text c.loop-out.at stop close c.plain_end-stop.ensures.value) c.loop-out.invariant.1 in
    let split = escape_at text stop close (search rules) ∙ ap (λ l. l ++ (escape (drop (stop + 1) text) ++ close)) (sym c.escape_of-len.ensures.value) in (
      search rules,
      moved _ _ _ _ _ _ c.in_ok-extend_from_slice-2.ensures.ok split mid,
      search (rules, places, take-append-le),
    )
