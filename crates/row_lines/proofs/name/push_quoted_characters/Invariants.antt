use Rattle.std.proofs.Common.{◌≡◌, ◌++◌}
use Rattle.std.specs.List.{flat_map}
use Rattle.bstr.specs.Utf8.{lossy_chars}
use Rattle.row_lines.specs.Lines.{Keeps}
use Rattle.row_lines.specs.Names.{quoted_character}
use Rattle.row_lines.proofs.name.push_quoted_characters.Given as goal

abbrev pub invariant-loop-character : goal.invariant-loop-character
invariant-loop-character l =
    (lossy_chars l.fn.name ≡ l.yielded ++ l.character-iterator)
    × (l.buf.items ≡ l.initial.buf.items ++ flat_map quoted_character l.yielded)
    × Keeps l.initial.buf.items l.buf.items
