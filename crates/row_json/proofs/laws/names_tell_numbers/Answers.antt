use Rattle.row_json.proofs.Shown.Names.{enum_numbers, set_numbers}
use Rattle.row_json.proofs.laws.names_tell_numbers.Goals as goal

pub returns-clause-enums : goal.returns-clause-enums
returns-clause-enums c = enum_numbers

pub returns-clause-sets : goal.returns-clause-sets
returns-clause-sets c = set_numbers
