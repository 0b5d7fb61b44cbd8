use Rattle.std.proofs.Common.{◌≡◌, drop}
use Rattle.table_schema.specs.Texts.{number_after, number_of}
use Rattle.table_schema.proofs.texts.number_of.Given as goal

abbrev pub invariant-loop-byte : goal.invariant-loop-byte
invariant-loop-byte l = number_after l.number (drop l.byte-index l.text) ≡ number_of l.text
