use Rattle.std.proofs.Common.{◌≡◌}
use Rattle.changed_rows.specs.Workings.Walked.{kinds_in, kinds_then}
use Rattle.changed_rows.proofs.lacks.kinds_in.Given as goal

abbrev pub invariant-loop-column : goal.invariant-loop-column
invariant-loop-column l = kinds_then l.kinds l.column-iterator.columns ≡ kinds_in l.table
