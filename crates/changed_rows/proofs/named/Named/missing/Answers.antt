use Rattle.std.proofs.Common.{◌≡◌, ◌∙◌, ◌++◌, ap, List}
use Rattle.changed_rows.specs.declared.named.NameKind.TheVariants as kind
use Rattle.changed_rows.specs.declared.named.Came.{Came}
use Rattle.changed_rows.specs.declared.named.MissingName.{MissingName}
use Rattle.changed_rows.specs.Workings.Came.{missing_in}
use Rattle.changed_rows.specs.SeenNames.{missing_of}
use Rattle.changed_rows.proofs.Came.{missing_are}
use Rattle.changed_rows.proofs.named.Named.missing.Goals as goal

pub returns : goal.returns
returns c =
    let names = c.args.names.now in
    λ seen is.
    let databases : missing_in kind.Database names.databases.now c.deref.result.now ≡ missing_of kind.Database seen names.databases.now = ap (λ (xs : List Came). missing_in kind.Database names.databases.now xs) (c.deref.ensures.value ∙ is.databases) ∙ missing_are kind.Database seen names.databases.now in
    let tables : missing_in kind.Table names.tables.now c.deref-2.result.now ≡ missing_of kind.Table seen names.tables.now = ap (λ (xs : List Came). missing_in kind.Table names.tables.now xs) (c.deref-2.ensures.value ∙ is.tables) ∙ missing_are kind.Table seen names.tables.now in
    c.in_ok-push_missing-2.ensures
    ∙ ap (λ (xs : List MissingName). xs ++ missing_in kind.Table names.tables.now c.deref-2.result.now) (c.in_ok-push_missing.ensures ∙ ap (λ (xs : List MissingName). xs ++ missing_in kind.Database names.databases.now c.deref.result.now) c.new-missing.ensures.items ∙ databases)
    ∙ ap (λ (xs : List MissingName). missing_of kind.Database seen names.databases.now ++ xs) tables
