use Rattle.std.specs.Prelude.{filter}
use Rattle.std.proofs.Common.{List, map, Result, refl, ap, ◌∙◌}
use Rattle.binlog_base.specs.declared.fault.Fault.{Fault}
use Rattle.binlog_base.specs.Format.{◌>>=◌}
use Rattle.binlog_base.specs.Items.{items}
use Rattle.binlog_base.specs.Lemmas.Items.{items_are, items_only}
use Rattle.binlog_table.specs.Lists.{RawField, raw_field}
use Rattle.binlog_table.specs.Lemmas.Lists.{exact_raw_field, eats_raw_field}
use Rattle.binlog_table.specs.Fields.{field_of, is_item}
use Rattle.binlog_table.proofs.laws.fields_are_exact.Goals as goal

pub returns-clause-are : goal.returns-clause-are
returns-clause-are c = λ f. (items raw_field f.left.bytes, items_are raw_field exact_raw_field eats_raw_field f.left.bytes, refl)

pub returns-clause-only : goal.returns-clause-only
returns-clause-only c = λ f found h.
    h.2 ∙ ap (λ (l : List (Result RawField Fault)). map (λ r. r >>= field_of f.numeric f.columns) (filter is_item l)) (items_only raw_field exact_raw_field eats_raw_field f.left.bytes h.0 h.1)
