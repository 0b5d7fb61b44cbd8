use Rattle.std.proofs.lemmas.Result.{IfErr-weaker}
use Rattle.binlog_file.specs.Stream.{NoHeader}
use Rattle.binlog_file.proofs.Headers.{no_header}
use Rattle.binlog_file.proofs.file.BinlogFileHeader.read.Goals as goal

pub returns-in-Ok-clause-err : goal.returns-in-Ok-clause-err
returns-in-Ok-clause-err g c =
    let old = g.S.Source.remaining c.args.source.now in
    IfErr-weaker c.header_of.result _ (NoHeader old) (λ e h. no_header old (g.S.Source.remaining c.fill.new.source) c.in-Ok.bytes.now e c.in-Ok.ensures.ok h.0 h.1) c.header_of.ensures.err
