use Rattle.std.proofs.Common.{◌≡◌, ◌*◌, ℕ, [], ◌∷◌, subst}
use Rattle.std.specs.Prelude.{codes, decimal}
use Rattle.json.specs.Json.{number}
use Rattle.row_json.specs.Wrote.{WroteMembers}
use Rattle.row_json.proofs.Steps.{some_more}
use Rattle.changed_rows.proofs.Members.{wrote_more}
use Rattle.changed_rows.proofs.source.Source.write_members.Goals as goal

pub returns-clause-written : goal.returns-clause-written
returns-clause-written c =
    let from = c.args.self.now.origin in
    let time : WroteMembers (λ ms. ms ≡ (codes "ts_ms", number (decimal (from.timestamp * 1000))) ∷ []) c.write_number-2.new.out c.write_number-3.new.out =
    subst (λ (n : ℕ). WroteMembers (λ ms. ms ≡ (codes "ts_ms", number (decimal n)) ∷ []) c.write_number-2.new.out c.write_number-3.new.out) c.milliseconds.ensures c.in_ok-write_number-3.ensures.written in
    let server : WroteMembers (λ ms. ms ≡ (codes "server_id", number (decimal from.server_id)) ∷ []) c.write_number-3.new.out c.write_number-4.new.out =
    subst (λ (n : ℕ). WroteMembers (λ ms. ms ≡ (codes "server_id", number (decimal n)) ∷ []) c.write_number-3.new.out c.write_number-4.new.out) c.from.ensures c.in_ok-write_number-4.ensures.written in
    wrote_more (_ ∷ []) _ c.in_ok-write_string.ensures.written
    (wrote_more (_ ∷ []) _ c.in_ok-write_number.ensures.written
    (wrote_more (_ ∷ []) _ c.in_ok-write_number-2.ensures.written
    (wrote_more (_ ∷ []) _ time
    (wrote_more (_ ∷ []) _ server
    (wrote_more (_ ∷ []) _ c.in_ok-write_option.ensures.written
    (wrote_more (_ ∷ []) (_ ∷ []) c.in_ok-write_string-2.ensures.written c.in_ok-write_string-3.ensures.written))))))

pub returns-in_err-write_string-2-clause-stays : goal.returns-in_err-write_string-2-clause-stays
returns-in_err-write_string-2-clause-stays c =
    let six = some_more c.write_option.ensures.stays (some_more c.write_number-4.ensures.stays (some_more c.write_number-3.ensures.stays (some_more c.write_number-2.ensures.stays (some_more c.write_number.ensures.stays c.write_string.ensures.stays)))) in
    some_more c.write_string-2.ensures.stays six

pub returns-in_err-write_string-3-clause-stays : goal.returns-in_err-write_string-3-clause-stays
returns-in_err-write_string-3-clause-stays c =
    let six = some_more c.write_option.ensures.stays (some_more c.write_number-4.ensures.stays (some_more c.write_number-3.ensures.stays (some_more c.write_number-2.ensures.stays (some_more c.write_number.ensures.stays c.write_string.ensures.stays)))) in
    some_more c.write_string-3.ensures.stays (some_more c.write_string-2.ensures.stays six)

pub returns-clause-stays : goal.returns-clause-stays
returns-clause-stays c =
    let six = some_more c.write_option.ensures.stays (some_more c.write_number-4.ensures.stays (some_more c.write_number-3.ensures.stays (some_more c.write_number-2.ensures.stays (some_more c.write_number.ensures.stays c.write_string.ensures.stays)))) in
    some_more c.write_string-3.ensures.stays (some_more c.write_string-2.ensures.stays six)
