use mir.Facts.{to_z-of_z}
use Rattle.std.specs.Prelude.{unsigned_abs}
use Rattle.std.proofs.Common.{rules, arith, ◌≡◌, ◌<◌, ◌^◌, ◌++◌, ℕ, pos, int_eq, w32, true, false, drop, length, ap, ◌∙◌}
use Rattle.std.proofs.lemmas.List.{length-replicate}
use Rattle.binlog_cells.specs.Cells.{places_text}
use Rattle.binlog_cells.proofs.Places.{timestamp_with, timestamp_without, IsAscii-timestamp}
use Rattle.binlog_cells.proofs.value.timestamp.put_text.Goals as goal
use Rattle.binlog_cells.proofs.value.timestamp.put_text.Goals.{then-microseconds-ne0, else-microseconds-ne0}

pub returns-clause-text : goal.returns-clause-text
returns-clause-text c =
    let room = c.if-microseconds-ne0.room in
    let end = c.if-microseconds-ne0.end in
    let whole = drop c.put_places.result c.put_places.new.room in
    let text : whole ≡ places_text 0 c.args.seconds ++ drop end room = rw (to_z-of_z {w = w32} {z = c.args.seconds} c.ranges.seconds) at c.put_places.ensures.text in
    elim c.if-microseconds-ne0.branch [
      | then-microseconds-ne0 w ↦
          let other : int_eq c.args.microseconds (pos 0) ≡ false = search rules in
          (timestamp_with c.args.seconds c.args.microseconds whole room w.put_places-end.new.room c.args.room.now end w.put_places-end.result other text w.room-is w.end-is
          (omega (arith, w.put_places-end.ensures.short)) (omega (arith, w.put_places-end.ensures.within, w.put_places-end.array_long)) (rw (to_z-of_z {w = w32} {z = c.args.microseconds} c.ranges.microseconds) at w.put_places-end.ensures.text) (ap length c.requires ∙ length-replicate {A = ℕ} 24 48))
      | else-microseconds-ne0 w ↦
          let none : int_eq c.args.microseconds (pos 0) ≡ true = search rules in
          (timestamp_without c.args.seconds c.args.microseconds whole room end none text w.end-is (ap length (w.room-is ∙ c.requires) ∙ length-replicate {A = ℕ} 24 48))
    ]

pub returns-clause-ascii : goal.returns-clause-ascii
returns-clause-ascii c =
    let s : unsigned_abs c.args.seconds < 2 ^ 32 = search rules in
    let m : unsigned_abs c.args.microseconds < 2 ^ 32 = search rules in
    IsAscii-timestamp c.args.seconds c.args.microseconds s m
