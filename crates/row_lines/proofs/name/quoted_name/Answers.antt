use Rattle.std.proofs.Common.{◌≡◌, ◌++◌, ◌∙◌, List, ℕ, sym, ap, subst, IsUtf8}
use Rattle.row_lines.specs.Names.{quoted_name}
use Rattle.row_lines.proofs.ShownText.{utf8_quoted}
use Rattle.row_lines.proofs.name.quoted_name.Goals as goal

pub into_text-requires : goal.into_text-requires
into_text-requires c =
    let name = c.args.name.now in
    let bytes : c.push_quoted.new.buf.items ≡ quoted_name name = c.in_ok-push_quoted.ensures.added ∙ ap (λ (old : List ℕ). old ++ quoted_name name) c.new-text.ensures.items in
    subst IsUtf8 (sym bytes) (utf8_quoted name)
