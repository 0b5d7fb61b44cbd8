use Rattle.std.proofs.Common.{◌≡◌, ◌++◌, ◌∙◌, List, ℕ, codes, sym, ap, subst, IsUtf8, append_assoc}
use Rattle.row_lines.specs.Names.{quoted_name, quoted_table}
use Rattle.row_lines.proofs.ShownText.{utf8_quoted_table}
use Rattle.row_lines.proofs.name.quoted_table.Goals as goal

pub into_text-requires : goal.into_text-requires
into_text-requires c =
    let database = c.args.database.now in
    let table = c.args.table.now in
    let first : c.push_quoted.new.buf.items ≡ quoted_name database = c.in_ok-push_quoted.ensures.added ∙ ap (λ (old : List ℕ). old ++ quoted_name database) c.new-text.ensures.items in
    let point : c.push_text.new.buf.items ≡ quoted_name database ++ codes "." = c.in_ok-push_text.ensures.added ∙ ap (λ (old : List ℕ). old ++ codes ".") first in
    let bytes : c.push_quoted-2.new.buf.items ≡ quoted_table database table =
    c.in_ok-push_quoted-2.ensures.added ∙ ap (λ (old : List ℕ). old ++ quoted_name table) point ∙ append_assoc (quoted_name database) (codes ".") (quoted_name table) in
    subst IsUtf8 (sym bytes) (utf8_quoted_table database table)
