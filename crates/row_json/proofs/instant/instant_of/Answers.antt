use Rattle.std.proofs.Common.{◌≡◌, ◌<◌, ℕ, ℤ, pos, Some, sym, ap, subst, ◌∙◌}
use mir.Syntax.{w32}
use Rattle.std.specs.Int.{cast_unsigned}
use Rattle.std.proofs.lemmas.Int.{to_z-of_z}
use Rattle.binlog_cells.specs.Cells.{timestamp_text}
use Rattle.row_json.specs.Times.{timestamp_in}
use Rattle.row_json.proofs.Timestamps.{timestamp_back, small_unsigned}
use Rattle.row_json.proofs.instant.instant_of.Goals as goal

pub returns-then-fraction-lt1000000 : goal.returns-then-fraction-lt1000000
returns-then-fraction-lt1000000 c =
    let s = c.args.seconds in
    let z = c.args.microseconds in
    let u = cast_unsigned w32 z in
    let first : c.cast_unsigned.result ≡ cast_unsigned w32 s = c.cast_unsigned.ensures ∙ ap (cast_unsigned w32) (to_z-of_z w32 s c.ranges.seconds) in
    let second : c.cast_unsigned-fraction.result ≡ u = c.cast_unsigned-fraction.ensures ∙ ap (cast_unsigned w32) (to_z-of_z w32 z c.ranges.microseconds) in
    let below : u < 1000000 = subst (λ (n : ℕ). n < 1000000) second c.if-fraction-lt1000000.true in
    let is : z ≡ pos u = small_unsigned z c.ranges.microseconds below in
    ap (λ (y : ℤ). timestamp_in (timestamp_text (s, y))) is
    ∙ (timestamp_back s u c.ranges.seconds below
    ∙ (ap (λ (n : ℕ). Some (n, u)) (sym first) ∙ ap (λ (n : ℕ). Some (c.cast_unsigned.result, n)) (sym second)))
