use Rattle.std.proofs.Common.{◌≡◌}
use Rattle.std.specs.Prelude.{take}
use Rattle.change_lines.specs.Notes.{Tells}
use Rattle.change_lines.specs.Lacking.{groups_text}
use Rattle.change_lines.proofs.notes.Notes.tell_tables.Given as goal

abbrev pub invariant-loop-index : goal.invariant-loop-index
invariant-loop-index g l =
    Tells l.fn.self.is_lost (g.E.Write.contents l.fn.self.err) l.self.is_lost (g.E.Write.contents l.self.err) (groups_text l.fn.self.has_more (take l.index l.groups.items))
    × (l.self.has_more ≡ l.fn.self.has_more) × (l.self.is_quiet ≡ l.fn.self.is_quiet) × (l.groups.items ≡ l.fn.self.groups.items)
