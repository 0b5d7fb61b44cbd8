use Rattle.row_json.proofs.Shown.Cells.{cells_of_one_column}
use Rattle.row_json.proofs.Shown.Rows.{rows_show, row_texts_show}
use Rattle.row_json.proofs.laws.json_shows_rows.Goals as goal

pub returns-clause-rows : goal.returns-clause-rows
returns-clause-rows c = rows_show

pub returns-clause-texts : goal.returns-clause-texts
returns-clause-texts c = row_texts_show

pub returns-clause-cells : goal.returns-clause-cells
returns-clause-cells c = cells_of_one_column
