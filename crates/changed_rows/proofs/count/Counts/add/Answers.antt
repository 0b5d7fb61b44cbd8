use Rattle.std.proofs.Common.{◌≡◌, ◌<◌, ◌⊎◌, inl, inr, arith, rules, refl, sym, ap, ◌∙◌, Option, None, true, length}
use Rattle.std.specs.Option.{is_some, unwrap_or}
use Rattle.std.specs.Map.{lookup}
use Rattle.changed_rows.specs.declared.count.Changed.{Changed}
use Rattle.changed_rows.specs.declared.count.TableName.{TableName}
use Rattle.changed_rows.specs.Counted.{nothing, added, name_of, same_name, counted_of}
use Rattle.changed_rows.proofs.Counted.{found, inserted, grown, counted_apart, counted_together}
use Rattle.changed_rows.proofs.count.Counts.add.Goals.{else-is_none-via-then-is_none+else-len-ge-MOST_TABLES, else-is_none-via-else-is_none}
use Rattle.changed_rows.proofs.count.Counts.add.Goals as goal

pub returns-then-len-ge-MOST_TABLES-clause-added : goal.returns-then-len-ge-MOST_TABLES-clause-added
returns-then-len-ge-MOST_TABLES-clause-added c = λ before h.
    let value : c.copied-counted.result ≡ counted_of c.args.self.now (name_of c.args.name) = c.copied-counted.ensures ∙ c.get.ensures.value ∙ found c.args.name c.args.self.now.tables.entries in
    let nowhere : c.copied-counted.result ≡ None = search rules in
    counted_together before _ c.args.self.now _ refl c.add.ensures (sym value ∙ nowhere) (omega (arith, c.len.ensures.len, c.if-len-ge-MOST_TABLES.true)) h

pub returns-clause-added : goal.returns-clause-added
returns-clause-added c = λ before h.
    let entries = c.args.self.now.tables.entries in
    let name = name_of c.args.name in
    let value : c.copied-counted.result ≡ counted_of c.args.self.now name = c.copied-counted.ensures ∙ c.get.ensures.value ∙ found c.args.name entries in
    let changed : c.add-2.new.self ≡ added c.args.operation c.args.rows (unwrap_or (counted_of c.args.self.now name) nothing) =
    c.add-2.ensures ∙ ap (added c.args.operation c.args.rows) (c.unwrap_or-changed.ensures ∙ ap (λ (d : Changed). unwrap_or c.copied-counted.result d) c.none.ensures ∙ ap (λ (o : Option Changed). unwrap_or o nothing) value) in
    let old : c.in_ok-insert.field-0 ≡ counted_of c.args.self.now name = c.in_ok-insert.ensures.old ∙ found c.args.name entries in
    let room : (length entries < 65536) ⊎ (is_some c.in_ok-insert.field-0 ≡ true) = elim c.else-is_none.branch [
      | else-is_none-via-then-is_none+else-len-ge-MOST_TABLES w ↦ inl (omega (arith, w.len.ensures.len, w.if-len-ge-MOST_TABLES.false))
      | else-is_none-via-else-is_none w ↦ inr (ap is_some old ∙ sym (ap is_some value) ∙ w.if-is_none.ensures)
    ] in
    let sizes = grown c.in_ok-insert.field-0 (length entries) (length c.insert.new.self.entries) c.in_ok-insert.ensures.len h.most room in
    counted_apart before _ c.args.self.now _ c.add-2.new.self changed
    (λ q. ap (lookup (λ (n : TableName). same_name q (name_of n))) c.in_ok-insert.ensures.entries ∙ inserted q c.args.name c.add-2.new.self entries)
    refl sizes.0
    (λ full. (sym (ap is_some old) ∙ (sizes.1 full).0, (sizes.1 full).1)) h
