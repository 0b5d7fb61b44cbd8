use Rattle.std.proofs.Common.{◌≡◌}
use Rattle.std.specs.List.{list_all}
use Rattle.bstr.specs.Utf8.{lossy_chars}
use Rattle.row_lines.specs.Names.{is_bare}
use Rattle.row_lines.proofs.name.is_bare.Given as goal

abbrev pub invariant-loop-character : goal.invariant-loop-character
invariant-loop-character l =
    list_all is_bare (lossy_chars l.fn.name) ≡ list_all is_bare l.character-iterator
