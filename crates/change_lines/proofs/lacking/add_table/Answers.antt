use Rattle.std.proofs.Common.{◌≡◌, ◌<◌, ◌≤◌, true, false, ◌++◌, ◌∷◌, [], length, slice_set, sym, ap, subst, ◌∙◌, add-one, refl, rules}
use Rattle.change_lines.specs.Lacking.{same_lacks, with_table, group_of}
use Rattle.change_lines.proofs.Grouped.{AreOthers, others_more, one_more_there, group_last}
use Rattle.change_lines.proofs.Written.{on_ok}
use Rattle.change_lines.proofs.lacking.add_table.Goals as goal

pub returns-then-same_lacks : goal.returns-then-same_lacks
returns-then-same_lacks c =
    let h = c.loop-i.invariant in
    let gs = c.loop-i.groups.items in
    let x = c.index.result.now in
    let y = c.index_mut.result.now in
    let same : same_lacks x.lacks c.args.lacks ≡ true = search rules in
    let small : c.loop-i.i < length gs = search rules in
    let there = one_more_there c.args.lacks c.args.name.now gs c.loop-i.i x y h.1 small c.index.ensures c.index_mut.ensures.value same in
    on_ok c.add.result _ _ (λ is. ap (slice_set gs c.loop-i.i) is ∙ there ∙ ap (with_table c.args.lacks c.args.name.now) h.0) c.add.ensures

pub loop-i-init : goal.loop-i-init
loop-i-init c = (refl, tt)

pub loop-i-preserved : goal.loop-i-preserved
loop-i-preserved c =
    let h = c.loop-i.invariant in
    let gs = c.loop-i.groups.items in
    let other : same_lacks c.index.result.now.lacks c.args.lacks ≡ false = search rules in
    let small : c.loop-i.i < length gs = search rules in
    (h.0, subst (AreOthers c.args.lacks gs) (sym (add-one c.loop-i.i)) (others_more c.args.lacks gs c.loop-i.i c.index.result.now h.1 small c.index.ensures other))

pub returns : goal.returns
returns c =
    let h = c.loop-i.invariant in
    let gs = c.loop-i.groups.items in
    let all : length gs ≤ c.loop-i.i = search rules in
    let last = group_last c.args.lacks c.args.name.now gs c.loop-i.i all h.1 in
    let pushed : c.push.new.self.items ≡ gs ++ group_of c.args.lacks c.args.name.now ∷ [] = search rules in
    pushed ∙ sym last ∙ ap (with_table c.args.lacks c.args.name.now) h.0
