use Rattle.std.proofs.Common.{◌<◌, ap, length, arith}
use Rattle.std.proofs.lemmas.List.{length-append}
use Rattle.binlog_table.specs.Lemmas.Variants.{variants_have_bytes}
use Rattle.binlog_table.proofs.table_map.optional.variants.IterStrValuesIterator.next.Goals as goal

pub returns-in-Ok-clause-goes : goal.returns-in-Ok-clause-goes
returns-in-Ok-clause-goes c =
    let read = c.in-Ok.ensures.reads in
    let some = variants_have_bytes read.0 c.in-Ok.values read.2 in
    let fewer : length c.parse.new.self.0.now < length c.args.self.now = omega (arith, ap length c.self.view_is, ap length read.1, length-append read.0 c.parse.new.self.0.now, some) in
    record { on = λ _. (tt, tt, fewer); keeps = tt; rests = λ _. tt }
