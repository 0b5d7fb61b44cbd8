use Rattle.std.proofs.Common.{◌≡◌, ◌∙◌, ap, List, rules}
use Rattle.std.specs.Vec.{with_items}
use Rattle.std.proofs.lemmas.List.{with_items_is}
use Rattle.changed_rows.specs.declared.named.NameKind.{NameKind}
use Rattle.changed_rows.specs.declared.named.NameKind.TheVariants as kind
use Rattle.changed_rows.specs.declared.named.Came.{Came}
use Rattle.changed_rows.specs.Counted.{Name}
use Rattle.changed_rows.specs.Workings.Came.{each_with}
use Rattle.changed_rows.proofs.Came.{each_more}
use Rattle.changed_rows.proofs.named.Named.see_name.Goals as goal

pub returns : goal.returns
returns c =
    let names = c.args.names.now in
    let t : Name = (c.args.database.now, c.args.table.now) in
    let databases : (with_items c.args.self.now.databases c.see_each.new.came).items ≡ c.see_each.new.came = with_items_is c.args.self.now.databases c.see_each.new.came (search rules) in
    let tables : (with_items c.args.self.now.tables c.see_each-2.new.came).items ≡ c.see_each-2.new.came = with_items_is c.args.self.now.tables c.see_each-2.new.came (search rules) in
    λ before is. record {
      databases = databases ∙ c.see_each.ensures ∙ ap (λ (xs : List Came). each_with kind.Database names.databases.now xs t) (c.deref_mut.ensures.value ∙ is.databases) ∙ each_more kind.Database before t names.databases.now;
      tables = tables ∙ c.see_each-2.ensures ∙ ap (λ (xs : List Came). each_with kind.Table names.tables.now xs t) (c.deref_mut-2.ensures.value ∙ is.tables) ∙ each_more kind.Table before t names.tables.now;
    }
