use Rattle.std.proofs.Common.{map, sym, ap, ◌∙◌}
use Rattle.table_schema.specs.Search.{target_of, key_taken}
use Rattle.table_schema.proofs.Taken.{taken_more}
use Rattle.table_schema.proofs.columns.keys_of.Goals as goal

pub loop-line-preserved : goal.loop-line-preserved
loop-line-preserved c =
    taken_more key_taken (target_of c.args.target.now) c.in-Some.line.now c.in-Some.rest.now c.loop-line.left.now c.args.text.now (map (λ f. f.now) c.as_slice.result.now) c.loop-line.keys.items c.take_key.new.keys.items
    c.in-Some.ensures.found
    (sym c.in_ok-order_of.ensures.order ∙ c.in-Equal.is)
    (ap (λ fs. map (λ f. f.now) fs) c.as_slice.ensures.value ∙ c.in_ok-order_of.ensures.fields)
    c.in_ok-take_key-in-Equal.ensures
    c.loop-line.invariant
