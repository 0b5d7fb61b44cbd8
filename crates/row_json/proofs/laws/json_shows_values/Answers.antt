use Rattle.row_json.proofs.Shown.Values.{json_shows, texts_show}
use Rattle.row_json.proofs.Shown.Cells.{of_one_column}
use Rattle.row_json.proofs.laws.json_shows_values.Goals as goal

pub returns-clause-shows : goal.returns-clause-shows
returns-clause-shows c = json_shows

pub returns-clause-texts : goal.returns-clause-texts
returns-clause-texts c = texts_show

pub returns-clause-cells : goal.returns-clause-cells
returns-clause-cells c = of_one_column
