use Rattle.std.proofs.Common.{◌≡◌, Ok, ap, ◌∙◌}
use Rattle.std.proofs.lemmas.Result.{IfOk-weaker}
use Rattle.table_schema.specs.Texts.{pieces}
use Rattle.table_schema.specs.Search.{lines_while, key_taken}
use Rattle.table_schema.specs.Files.{File, file_of, parts_in}
use Rattle.table_schema.proofs.Tables.{keys_told}
use Rattle.table_schema.proofs.file.keys_in.Goals as goal

pub returns : goal.returns
returns c =
    IfOk-weaker c.keys_of.result
    (λ found. found.items ≡ lines_while key_taken (record { rank = 2; names = record { database = c.args.database.now; table = c.args.table.now } }) (pieces 10 c.split_at.result.1.now))
    (λ found. (f : File) → file_of c.args.text.now ≡ Ok f → found.items ≡ parts_in (record { database = c.args.database.now; table = c.args.table.now }) f.lines)
    (λ found p f h.
    p
    ∙ ap (λ t. lines_while key_taken (record { rank = 2; names = record { database = c.args.database.now; table = c.args.table.now } }) (pieces 10 t)) c.split_at.ensures.back
    ∙ keys_told (record { database = c.args.database.now; table = c.args.table.now }) c.args.text.now f c.in_ok-low.low h c.in_ok-low.ensures.place)
    c.keys_of.ensures
