use Rattle.std.proofs.Common.{◌≡◌, Ok, ap, ◌∙◌}
use Rattle.std.proofs.lemmas.Result.{IfOk-weaker}
use Rattle.table_schema.specs.Texts.{pieces}
use Rattle.table_schema.specs.Search.{lines_while, column_taken}
use Rattle.table_schema.specs.Files.{File, file_of, columns_in}
use Rattle.table_schema.proofs.Tables.{columns_told}
use Rattle.table_schema.proofs.file.columns_in.Goals as goal

pub returns : goal.returns
returns c =
    IfOk-weaker c.columns_of.result
    (λ found. found.items ≡ lines_while column_taken (record { rank = 1; names = record { database = c.args.database.now; table = c.args.table.now } }) (pieces 10 c.split_at.result.1.now))
    (λ found. (f : File) → file_of c.args.text.now ≡ Ok f → found.items ≡ columns_in (record { database = c.args.database.now; table = c.args.table.now }) f.lines)
    (λ found p f h.
    p
    ∙ ap (λ t. lines_while column_taken (record { rank = 1; names = record { database = c.args.database.now; table = c.args.table.now } }) (pieces 10 t)) c.split_at.ensures.back
    ∙ columns_told (record { database = c.args.database.now; table = c.args.table.now }) c.args.text.now f c.in_ok-low.low h c.in_ok-low.ensures.place)
    c.columns_of.ensures
