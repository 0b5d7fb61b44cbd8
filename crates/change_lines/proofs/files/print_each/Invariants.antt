use Rattle.change_lines.specs.Files.{AreFirstFiles}
use Rattle.change_lines.proofs.files.print_each.Given as goal

abbrev pub invariant-loop-index : goal.invariant-loop-index
invariant-loop-index g l =
    AreFirstFiles l.arguments (g.F.Files.bytes l.files) l.index l.fn.counts l.counts (g.O.Write.contents l.fn.out) (g.O.Write.contents l.out) l.ended l.notes.is_lost (g.E.Write.contents l.notes.err)
