use Rattle.std.proofs.Common.{◌≡◌, [], refl, inl, ap, ◌∙◌}
use Rattle.binlog_table.specs.TableMap.{TableMap}
use Rattle.mysql_binlog_rows.specs.RowsEvent.{RowsEvent}
use Rattle.changed_rows.specs.Filters.{operation_of}
use Rattle.changed_rows.specs.Counted.{name_of}
use Rattle.change_lines.specs.declared.error.Failure.TheVariants as failure
use Rattle.change_lines.proofs.Errors.{passed_on, of_some}
use Rattle.change_lines.proofs.Pairs.{nothing_read}
use Rattle.change_lines.proofs.CountedFiles.{counts_nothing, event_rows, first_rows}
use Rattle.change_lines.proofs.run.Printer.count.Goals as goal

pub returns-in_err-name-clause-first : goal.returns-in_err-name-clause-first
returns-in_err-name-clause-first c =
    let e = c.args.change.now in
    passed_on _ failure.Memory _ c.from_residual.ensures.1 ([], e.left, nothing_read e.table e.rows e.left, tt)

pub returns-in_err-name-clause-first_counts : goal.returns-in_err-name-clause-first_counts
returns-in_err-name-clause-first_counts c = passed_on _ failure.Memory _ c.from_residual.ensures.1 ([], inl (refl, tt), counts_nothing c.args.counts.now)

pub returns-in_err-add_rows-clause-first : goal.returns-in_err-add_rows-clause-first
returns-in_err-add_rows-clause-first c =
    let e = c.args.change.now in
    passed_on _ failure.Memory _ c.from_residual-in_err-add_rows.ensures.1 ([], e.left, nothing_read e.table e.rows e.left, tt)

pub returns-in_err-add_rows-clause-first_counts : goal.returns-in_err-add_rows-clause-first_counts
returns-in_err-add_rows-clause-first_counts c = passed_on _ failure.Memory _ c.from_residual-in_err-add_rows.ensures.1 ([], inl (refl, tt), c.in_err-add_rows.ensures.kept)

pub returns-in-None-clause-counts : goal.returns-in-None-clause-counts
returns-in-None-clause-counts c =
    let e = c.args.change.now in
    let is : c.of-operation.result ≡ operation_of e.rows.event_type = c.of-operation.ensures ∙ ap operation_of (c.event_type.ensures ∙ ap (λ (d : RowsEvent). d.event_type) c.rows.ensures) in
    let named : name_of c.in_ok-name.name ≡ (e.table.database, e.table.table) = c.in_ok-name.ensures ∙ ap (λ (t : TableMap). (t.database, t.table)) c.table.ensures in
    event_rows c.args.self.now.settings.now.skips_faulty e c.of-operation.result (name_of c.in_ok-name.name) c.count_rows-rows.result.0 c.args.counts.now c.add_rows.new.counts is named c.in_ok-add_rows.ensures.added (c.count_rows-rows.ensures.covers c.in-None.is)

pub returns-in-Some-clause-first_counts : goal.returns-in-Some-clause-first_counts
returns-in-Some-clause-first_counts c =
    let e = c.args.change.now in
    let is : c.of-operation.result ≡ operation_of e.rows.event_type = c.of-operation.ensures ∙ ap operation_of (c.event_type.ensures ∙ ap (λ (d : RowsEvent). d.event_type) c.rows.ensures) in
    let named : name_of c.in_ok-name.name ≡ (e.table.database, e.table.table) = c.in_ok-name.ensures ∙ ap (λ (t : TableMap). (t.database, t.table)) c.table.ensures in
    first_rows e c.of-operation.result (name_of c.in_ok-name.name) c.count_rows-rows.result.0 c.args.counts.now c.add_rows.new.counts (failure.File c.in-Some.error) is named c.in_ok-add_rows.ensures.added
    (of_some c.count_rows-rows.result.1 c.in-Some.error _ c.in-Some.is c.count_rows-rows.ensures.first)

pub returns-in_err-name-clause-cause : goal.returns-in_err-name-clause-cause
returns-in_err-name-clause-cause c = passed_on _ failure.Memory _ c.from_residual.ensures.1 tt

pub returns-in_err-add_rows-clause-cause : goal.returns-in_err-add_rows-clause-cause
returns-in_err-add_rows-clause-cause c = passed_on _ failure.Memory _ c.from_residual-in_err-add_rows.ensures.1 tt
