use Rattle.std.specs.Prelude.{filter, if◌then◌else◌}
use Rattle.std.proofs.Common.{◌≡◌, List, ◌∷◌, Bool, map, Result, Ok, sym, subst, ap, ◌∙◌}
use Rattle.binlog_base.specs.declared.fault.Fault.{Fault}
use Rattle.binlog_base.specs.Format.{◌>>=◌}
use Rattle.binlog_base.specs.Items.{items}
use Rattle.binlog_base.specs.Lemmas.Items.{items_ok}
use Rattle.binlog_table.specs.Lists.{RawField, raw_field}
use Rattle.binlog_table.specs.Lemmas.Lists.{exact_raw_field, eats_raw_field}
use Rattle.binlog_table.specs.Fields.{field_of, is_item}
use Rattle.binlog_table.proofs.laws.unknown_fields_are_skipped.Goals as goal

pub returns : goal.returns
returns c = λ f x rest raw spelled unknown at.
    let read = subst (λ b. raw_field.parse b ≡ Ok (raw, rest)) (sym at) (exact_raw_field.complete x rest raw spelled) in
    let left = filter is_item (items raw_field rest) in
    ap (λ (l : List (Result RawField Fault)). map (λ r. r >>= field_of f.numeric f.columns) (filter is_item l)) (items_ok raw_field eats_raw_field f.left.bytes raw rest read)
    ∙ ap (λ (b : Bool). map (λ r. r >>= field_of f.numeric f.columns) (if b then Ok raw ∷ left else left)) unknown
