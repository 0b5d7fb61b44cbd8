use Rattle.std.proofs.Common.{◌≡◌, ◌++◌, ◌∙◌, List, ℕ, sym, ap, subst, IsUtf8}
use Rattle.row_lines.specs.Names.{shown_name}
use Rattle.row_lines.proofs.ShownText.{utf8_shown}
use Rattle.row_lines.proofs.name.shown_name.Goals as goal

pub into_text-requires : goal.into_text-requires
into_text-requires c =
    let name = c.args.name.now in
    let bytes : c.push_shown.new.buf.items ≡ shown_name name = c.in_ok-push_shown.ensures.added ∙ ap (λ (old : List ℕ). old ++ shown_name name) c.new-text.ensures.items in
    subst IsUtf8 (sym bytes) (utf8_shown name)
