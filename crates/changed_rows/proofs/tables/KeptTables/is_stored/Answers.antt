use Rattle.std.proofs.Common.{◌≡◌, Some, sym, subst, ◌∙◌}
use Rattle.binlog_kept.specs.Kept.{kept_at}
use Rattle.changed_rows.specs.Tables.{TablesKept}
use Rattle.changed_rows.proofs.Kept.{tells_as, tells_if}
use Rattle.changed_rows.proofs.tables.KeptTables.is_stored.Goals as goal

pub returns-in_ok-renew-clause-tells : goal.returns-in_ok-renew-clause-tells
returns-in_ok-renew-clause-tells c =
    let k = c.in-Some.field-0.value.now in
    let t = c.args.event.now in
    λ given. tells_if (kept_at c.renew.new.self c.args.key) k t (c.in_ok-renew.ensures.kept c.args.key ∙ sym c.in-Some.ensures.value) (tells_as k t (c.is_of.ensures.0 c.if-not-is_of.false))

pub returns-else-is_old-clause-tells : goal.returns-else-is_old-clause-tells
returns-else-is_old-clause-tells c =
    let k = c.in-Some.field-0.value.now in
    let t = c.args.event.now in
    let is = subst (λ (kept : TablesKept). kept_at kept.stored c.args.key ≡ Some k) c.self.view_is (sym c.in-Some.ensures.value) in
    λ given. tells_if (kept_at c.args.self.now.stored c.args.key) k t is (tells_as k t (c.is_of.ensures.0 c.if-not-is_of.false))
