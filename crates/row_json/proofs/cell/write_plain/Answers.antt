use Rattle.std.proofs.Common.{◌≡◌, ◌+◌, ◌*◌, ℕ, refl, ap, ◌∙◌}
use Rattle.json.specs.Json as json
use Rattle.row_json.specs.Values.{date_by, time_by}
use Rattle.row_json.proofs.Steps.{token_wrote, wrote_value}
use Rattle.row_json.proofs.cell.write_plain.Goals as goal

pub returns-in-NULL-clause-written : goal.returns-in-NULL-clause-written
returns-in-NULL-clause-written c = rw c.in-NULL.is (token_wrote c.null.result c.args.out.now c.null.new.self _ json.null _ refl c.null.ensures refl)

pub returns-in-UInt-clause-written : goal.returns-in-UInt-clause-written
returns-in-UInt-clause-written c = rw c.in-UInt.is (token_wrote c.u64.result c.args.out.now c.u64.new.self _ (json.number _) _ refl c.u64.ensures refl)

pub returns-in-Date-clause-written : goal.returns-in-Date-clause-written
returns-in-Date-clause-written c =
    let v = c.in-Date in
    rw v.is (wrote_value c.write_date.result c.args.out.now c.write_date.new.out _ (json.string (date_by c.kind.result c.from.result c.from-in-Date.result c.from-in-Date-2.result c.from-in-Date-3.result c.from-in-Date-4.result c.from-in-Date-5.result v.microseconds))
    (λ i. json.string (date_by (c.kind.ensures i) (c.from.ensures i) (c.from-in-Date.ensures i) (c.from-in-Date-2.ensures i) (c.from-in-Date-3.ensures i) (c.from-in-Date-4.ensures i) (c.from-in-Date-5.ensures i) v.microseconds)) c.write_date.ensures.written)

pub returns-in-Time-clause-written : goal.returns-in-Time-clause-written
returns-in-Time-clause-written c =
    let v = c.in-Time in
    let hours = c.from-in-Time.result * 24 + c.from-in-Time-2.result in
    let same : hours ≡ v.days * 24 + v.hours = ap (λ (d : ℕ). d * 24 + c.from-in-Time-2.result) c.from-in-Time.ensures ∙ ap (λ (h : ℕ). v.days * 24 + h) c.from-in-Time-2.ensures in
    rw v.is (wrote_value c.write_time.result c.args.out.now c.write_time.new.out _ (json.string (time_by c.kind-in-Time.result v.is_negative hours c.from-in-Time-3.result c.from-in-Time-4.result v.microseconds))
    (λ i. json.string (time_by (c.kind-in-Time.ensures i) v.is_negative (same i) (c.from-in-Time-3.ensures i) (c.from-in-Time-4.ensures i) v.microseconds)) c.write_time.ensures.written)
