use Rattle.binlog_cells.specs.Cells.{cell_of}
use Rattle.binlog_cells.specs.Lemmas.Forms.{read_by_form}
use Rattle.binlog_cells.proofs.value.BinlogValueMyDeserialize.deserialize.Goals as goal

pub returns : goal.returns
returns c = read_by_form cell_of c.args.ctx.1 c.args.ctx.2.now c.args.ctx.3 c.args.ctx.4 c.read_cell.result c.args.buf.now.0.now c.read_cell.new.buf.0.now c.read_cell.ensures
