use Rattle.std.proofs.Common.{◌≡◌, ◌++◌, ◌∙◌, List, ℕ, codes, sym, ap, subst, IsUtf8, append_assoc}
use Rattle.row_lines.specs.Names.{shown_name, shown_table}
use Rattle.row_lines.proofs.ShownText.{utf8_shown_table}
use Rattle.row_lines.proofs.name.shown_table.Goals as goal

pub into_text-requires : goal.into_text-requires
into_text-requires c =
    let database = c.args.database.now in
    let table = c.args.table.now in
    let first : c.push_shown.new.buf.items ≡ shown_name database = c.in_ok-push_shown.ensures.added ∙ ap (λ (old : List ℕ). old ++ shown_name database) c.new-text.ensures.items in
    let point : c.push_text.new.buf.items ≡ shown_name database ++ codes "." = c.in_ok-push_text.ensures.added ∙ ap (λ (old : List ℕ). old ++ codes ".") first in
    let bytes : c.push_shown-2.new.buf.items ≡ shown_table database table =
    c.in_ok-push_shown-2.ensures.added ∙ ap (λ (old : List ℕ). old ++ shown_name table) point ∙ append_assoc (shown_name database) (codes ".") (shown_name table) in
    subst IsUtf8 (sym bytes) (utf8_shown_table database table)
