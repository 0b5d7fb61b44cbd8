use Rattle.std.proofs.Common.{refl, ◌∙◌, ap}
use Rattle.binlog_decimal.specs.Decimals.{DecimalView, trimmed_decimal}
use Rattle.binlog_decimal.proofs.DecimalTexts.{AreLeft, trimmed_decimal-none, trimmed_decimal-some, trimmed_decimal-decimal}
use Rattle.binlog_decimal.proofs.decimal.lent.LentDigits.trimmed.Goals as goal

pub returns-then-no_digit : goal.returns-then-no_digit
returns-then-no_digit c =
    let d : DecimalView = record { negative = c.self.inside.negative; integer = c.self.inside.integer.now; fraction = c.self.inside.fraction.now } in
    let are : AreLeft d c.without_zero_groups-integer.result.now d.fraction c.no_digit.result = record { before = c.without_zero_groups-integer.ensures; after = refl; empty = c.no_digit.ensures } in
    c.zero.ensures ∙ trimmed_decimal-none d c.without_zero_groups-integer.result.now d.fraction c.no_digit.result are c.if-no_digit.true ∙ ap trimmed_decimal c.self.view_is

pub invariant_of-result : goal.invariant_of-result
invariant_of-result c =
    let d : DecimalView = record { negative = c.self.inside.negative; integer = c.self.inside.integer.now; fraction = c.self.inside.fraction.now } in
    let are : AreLeft d c.without_zero_groups-integer.result.now d.fraction c.no_digit.result = record { before = c.without_zero_groups-integer.ensures; after = refl; empty = c.no_digit.ensures } in
    trimmed_decimal-decimal d c.without_zero_groups-integer.result.now d.fraction c.no_digit.result c.self.invariant are c.if-no_digit.false

pub returns : goal.returns
returns c =
    let d : DecimalView = record { negative = c.self.inside.negative; integer = c.self.inside.integer.now; fraction = c.self.inside.fraction.now } in
    let are : AreLeft d c.without_zero_groups-integer.result.now d.fraction c.no_digit.result = record { before = c.without_zero_groups-integer.ensures; after = refl; empty = c.no_digit.ensures } in
    trimmed_decimal-some d c.without_zero_groups-integer.result.now d.fraction c.no_digit.result are c.if-no_digit.false ∙ ap trimmed_decimal c.self.view_is
