use Rattle.std.proofs.Common.{◌≡◌, ◌∙◌}
use Rattle.changed_rows.specs.declared.named.NameKind.TheVariants as kind
use Rattle.changed_rows.proofs.Came.{none_of}
use Rattle.changed_rows.proofs.named.Named.new.Goals as goal

pub returns : goal.returns
returns c = record {
  databases = c.in_ok-none_came.ensures ∙ none_of kind.Database c.args.names.now.databases.now;
  tables = c.in_ok-none_came-2.ensures ∙ none_of kind.Table c.args.names.now.tables.now;
}
