use Rattle.std.proofs.Common.{◌≡◌, ◌+◌, length, ◌∙◌, subst, arith}
use Rattle.std.proofs.lemmas.List.{length-append}
use Rattle.binlog_base.specs.ColumnLists.{ColumnList}
use Rattle.binlog_base.proofs.ColumnLists.{list_of, with_column, column_added, are_inside_more, are_inside_last}
use Rattle.binlog_base.proofs.below.columns.column_list.ColumnList.add.Goals as goal

pub invariant_of-self : goal.invariant_of-self
invariant_of-self c = rw c.in_err-add.ensures.refused c.self.invariant

pub invariant_of-self-in_err-push : goal.invariant_of-self-in_err-push
invariant_of-self-in_err-push c =
    let h = c.self.invariant in
    let len = length-append c.self.inside.names.text c.args.name.now in
    rw (c.in_ok-add.ensures.ok, c.in_err-push.ensures.items) (h.0, are_inside_more _ _ _ (omega (arith, len)) h.1)

pub invariant_of-self-2 : goal.invariant_of-self-2
invariant_of-self-2 c =
    let h = c.self.invariant in
    let len = length-append c.self.inside.names.text c.args.name.now in
    let start = c.len-start.ensures in
    let end : c.len-end.result ≡ length c.self.inside.names.text + length c.args.name.now = c.len-end.ensures ∙ simp (c.in_ok-add.ensures.ok) len in
    rw (c.in_ok-add.ensures.ok, c.in_ok-push.ensures.items)
    (h.0, are_inside_last _ _ _ (are_inside_more _ _ _ (omega (arith, len)) h.1) (record { order = omega (arith, start, end); inside = omega (arith, end, len) }))

pub returns : goal.returns
returns c =
    let t = c.self.inside.names in
    let len = length-append t.text c.args.name.now in
    let start = c.len-start.ensures in
    let end : c.len-end.result ≡ length t.text + length c.args.name.now = c.len-end.ensures ∙ simp (c.in_ok-add.ensures.ok) len in
    subst (λ (l : ColumnList). list_of c.add.new.self c.push.new.self.items ≡ with_column l c.args.column_type c.args.name.now c.args.flags c.args.character_set)
    c.self.view_is
    (rw (c.in_ok-push.ensures.items, c.in_ok-add.ensures.ok, start, end)
    (column_added t c.args.name.now c.self.inside.columns.items c.args.column_type c.args.flags c.args.character_set c.self.invariant.0 c.self.invariant.1))
