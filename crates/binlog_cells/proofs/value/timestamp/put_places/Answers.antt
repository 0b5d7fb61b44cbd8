use Rattle.std.specs.Prelude.{decimal, unsigned_abs}
use Rattle.std.proofs.Common.{rules, arith, ◌≡◌, ◌≤◌, ◌-◌, ◌++◌, ℕ, true, false, List, length, drop, ap, ◌∙◌}
use Rattle.std.specs.Int.{is_negative}
use Rattle.std.proofs.lemmas.Fmt.{length-decimal-le}
use Rattle.std.proofs.lemmas.List.{take-set}
use Rattle.binlog_values.specs.Lemmas.Places.{AtEnd, zeros_left}
use Rattle.binlog_cells.proofs.Places.{unsigned_places, signed_places}
use Rattle.binlog_cells.proofs.value.timestamp.put_places.Goals as goal

pub write_digits-digits-requires : goal.write_digits-digits-requires
write_digits-digits-requires c =
    let short : length (decimal c.from.result) ≤ 10 = search (rules, length-decimal-le 10) in
    (omega (arith, short, c.requires.room), omega (arith, c.told-room, c.requires.room))

pub overflow_sub-room : goal.overflow_sub-room
overflow_sub-room c =
    let short : length (decimal c.from.result) ≤ 10 = search (rules, length-decimal-le 10) in
    omega (arith, short, c.requires.room, c.requires.places, c.write_digits-digits.ensures.start, c.min-start.ensures, c.saturating_sub-padded.ensures)

pub overflow_sub-result : goal.overflow_sub-result
overflow_sub-result c =
    let short : length (decimal c.from.result) ≤ 10 = search (rules, length-decimal-le 10) in
    omega (arith, short, c.requires.room, c.requires.places, c.write_digits-digits.ensures.start, c.min-start.ensures, c.saturating_sub-padded.ensures)

pub returns-then-number-lt0-clause-short : goal.returns-then-number-lt0-clause-short
returns-then-number-lt0-clause-short c =
    let short : length (decimal c.from.result) ≤ 10 = search (rules, length-decimal-le 10) in
    omega (arith, short, c.requires.room, c.requires.places, c.write_digits-digits.ensures.start, c.min-start.ensures, c.saturating_sub-padded.ensures)

pub returns-else-number-lt0-clause-short : goal.returns-else-number-lt0-clause-short
returns-else-number-lt0-clause-short c =
    let short : length (decimal c.from.result) ≤ 10 = search (rules, length-decimal-le 10) in
    omega (arith, short, c.requires.room, c.requires.places, c.write_digits-digits.ensures.start, c.min-start.ensures, c.saturating_sub-padded.ensures)

pub returns-then-number-lt0-clause-text : goal.returns-then-number-lt0-clause-text
returns-then-number-lt0-clause-text c =
    let short : length (decimal c.from.result) ≤ 10 = search (rules, length-decimal-le 10) in
    let value : c.from.result ≡ unsigned_abs c.args.number = search rules in
    let same : decimal c.from.result ≡ decimal (unsigned_abs c.args.number) = ap decimal value in
    let at_end : AtEnd c.write_digits-digits.new.buf c.args.room.now (decimal (unsigned_abs c.args.number)) c.write_digits-digits.result c.args.end = record {
      long = omega (arith, c.write_digits-digits.ensures.start, ap length same);
      written = c.write_digits-digits.ensures.written ∙ ap (λ (t : List ℕ). t ++ drop c.args.end c.args.room.now) same;
      before = c.write_digits-digits.ensures.before;
      zeros = c.requires.zeros;
    } in
    let sign : is_negative c.args.number ≡ true = search rules in
    let one : c.from-2.result ≡ 1 = search rules in
    let whole : length c.write_digits-digits.new.buf ≡ 24 = search rules in
    signed_places _ _ c.args.number c.args.places _ c.args.end c.min-start.result sign at_end (omega (arith, one, c.min-start.ensures, c.saturating_sub-padded.ensures)) (omega (arith, c.requires.places, c.requires.room))
    (omega (arith, short, c.requires.room, c.requires.places, c.write_digits-digits.ensures.start, c.min-start.ensures, c.saturating_sub-padded.ensures))
    (omega (arith, whole, c.requires.room, c.write_digits-digits.ensures.start, c.min-start.ensures))

pub returns-then-number-lt0-clause-zeros : goal.returns-then-number-lt0-clause-zeros
returns-then-number-lt0-clause-zeros c =
    let value : c.from.result ≡ unsigned_abs c.args.number = search rules in
    let same : decimal c.from.result ≡ decimal (unsigned_abs c.args.number) = ap decimal value in
    let at_end : AtEnd c.write_digits-digits.new.buf c.args.room.now (decimal (unsigned_abs c.args.number)) c.write_digits-digits.result c.args.end = record {
      long = omega (arith, c.write_digits-digits.ensures.start, ap length same);
      written = c.write_digits-digits.ensures.written ∙ ap (λ (t : List ℕ). t ++ drop c.args.end c.args.room.now) same;
      before = c.write_digits-digits.ensures.before;
      zeros = c.requires.zeros;
    } in
    take-set c.write_digits-digits.new.buf (c.min-start.result - 1) 45
    ∙ zeros_left _ _ _ _ _ (c.min-start.result - 1) at_end (omega (arith, c.min-start.ensures))

pub returns-else-number-lt0-clause-text : goal.returns-else-number-lt0-clause-text
returns-else-number-lt0-clause-text c =
    let value : c.from.result ≡ unsigned_abs c.args.number = search rules in
    let same : decimal c.from.result ≡ decimal (unsigned_abs c.args.number) = ap decimal value in
    let at_end : AtEnd c.write_digits-digits.new.buf c.args.room.now (decimal (unsigned_abs c.args.number)) c.write_digits-digits.result c.args.end = record {
      long = omega (arith, c.write_digits-digits.ensures.start, ap length same);
      written = c.write_digits-digits.ensures.written ∙ ap (λ (t : List ℕ). t ++ drop c.args.end c.args.room.now) same;
      before = c.write_digits-digits.ensures.before;
      zeros = c.requires.zeros;
    } in
    let sign : is_negative c.args.number ≡ false = search rules in
    let none : c.from-2.result ≡ 0 = search rules in
    unsigned_places _ _ c.args.number c.args.places _ c.args.end c.min-start.result sign at_end (omega (arith, none, c.min-start.ensures, c.saturating_sub-padded.ensures)) (omega (arith, c.requires.places, c.requires.room))

pub returns-else-number-lt0-clause-zeros : goal.returns-else-number-lt0-clause-zeros
returns-else-number-lt0-clause-zeros c =
    let value : c.from.result ≡ unsigned_abs c.args.number = search rules in
    let same : decimal c.from.result ≡ decimal (unsigned_abs c.args.number) = ap decimal value in
    let at_end : AtEnd c.write_digits-digits.new.buf c.args.room.now (decimal (unsigned_abs c.args.number)) c.write_digits-digits.result c.args.end = record {
      long = omega (arith, c.write_digits-digits.ensures.start, ap length same);
      written = c.write_digits-digits.ensures.written ∙ ap (λ (t : List ℕ). t ++ drop c.args.end c.args.room.now) same;
      before = c.write_digits-digits.ensures.before;
      zeros = c.requires.zeros;
    } in
    zeros_left _ _ _ _ _ c.min-start.result at_end (omega (arith, c.min-start.ensures))
