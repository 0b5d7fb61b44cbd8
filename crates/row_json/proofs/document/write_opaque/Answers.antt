use Rattle.std.proofs.Common.{◌≡◌, subst, Ok}
use Rattle.std.proofs.lemmas.Result.{err_from_is_err_and}
use Rattle.binlog_base.specs.declared.fault.Fault.TheVariants.{Memory}
use Rattle.binlog_values.specs.JsonbValues.{JsonbValue}
use Rattle.binlog_values.specs.JsonbTrees.{Tree, Denotes}
use Rattle.binlog_values.specs.JsonbDoms.{IsTree}
use Rattle.binlog_values.specs.JsonbParsed.{IsWithinLimits}
use Rattle.binlog_values.specs.JsonbViews.{view_of}
use Rattle.row_json.proofs.Steps.{some_none}
use Rattle.row_json.proofs.Walked.{wrote_leaf, refused_leaf}
use Rattle.row_json.proofs.document.write_opaque.Goals as goal

pub returns-in_err-tree : goal.returns-in_err-tree
returns-in_err-tree c =
    let p = err_from_is_err_and c.from_residual.result c.from_residual.ensures.1 in
    let f = c.in_err-tree.field-0.0 in
    let given = subst (λ (v : JsonbValue). (t : Tree) → Denotes t (Ok v) → IsWithinLimits v → f ≡ Memory) c.lent.ensures (c.in_err-tree.ensures.1).given in
    rw (p.1, p.2) (record { written = tt; memory = refused_leaf (view_of c.args.value.now) f c.requires given; stays = some_none c.args.out.now })

pub returns : goal.returns
returns c =
    let dom = c.in_ok-tree.tree in
    let given = subst (λ (v : JsonbValue). (t : Tree) → Denotes t (Ok v) → IsWithinLimits v → IsTree dom t) c.lent.ensures (c.in_ok-tree.ensures.1).given in
    record {
      written = wrote_leaf (view_of c.args.value.now) dom _ _ c.requires given c.in_ok-write_leaf.ensures.written;
      memory = tt;
      stays = c.in_ok-write_leaf.ensures.stays;
    }
