use Rattle.table_schema.proofs.Stays.{parts_stay, fields_stay}
use Rattle.table_schema.proofs.laws.completed_events_keep_their_parts.Goals as goal

pub returns-clause-parts : goal.returns-clause-parts
returns-clause-parts c = parts_stay

pub returns-clause-fields : goal.returns-clause-fields
returns-clause-fields c = fields_stay
