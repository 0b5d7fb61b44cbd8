-- Equality of cells is an equivalence.
use Rattle.std.specs.Prelude.{◌≡◌, true}
use Rattle.std.specs.Cmp.{IsEquivalence}
use Rattle.std.specs.Cmp.Lexicographic.{pointwise, lists_equiv}
use Rattle.std.proofs.Common.{refl, sym}
use Rattle.std.proofs.lemmas.Bool.{true≢false}
use Rattle.binlog_base.specs.Lemmas.Equality.{same_plain_is_equivalence}
use Rattle.binlog_values.specs.JsonEquality.{same_diff}
use Rattle.binlog_values.specs.Lemmas.JsonEquality.{same_json_is_equivalence, same_diff_is_equivalence}
use Rattle.binlog_cells.specs.Cells.{Cell, PlainCell, JsonCell, DiffsCell}
use Rattle.binlog_cells.specs.Equality.{same_cell}

diffs_equiv : IsEquivalence (pointwise same_diff)
diffs_equiv = lists_equiv same_diff_is_equivalence

itself : (v : Cell) → same_cell v v ≡ true
itself (PlainCell v) = same_plain_is_equivalence.refl v
itself (JsonCell v) = same_json_is_equivalence.refl v
itself (DiffsCell ds) = diffs_equiv.refl ds

flip : (v w : Cell) → same_cell v w ≡ same_cell w v
flip (PlainCell v) (PlainCell w) = same_plain_is_equivalence.symm v w
flip (JsonCell v) (JsonCell w) = same_json_is_equivalence.symm v w
flip (DiffsCell ds) (DiffsCell es) = diffs_equiv.symm ds es
flip _ _ = refl

alike : (u v w : Cell) → same_cell u v ≡ true → same_cell u w ≡ same_cell v w
alike (PlainCell u) (PlainCell v) (PlainCell w) h = same_plain_is_equivalence.congr u v w h
alike (JsonCell u) (JsonCell v) (JsonCell w) h = same_json_is_equivalence.congr u v w h
alike (DiffsCell cs) (DiffsCell ds) (DiffsCell es) h = diffs_equiv.congr cs ds es h
alike (PlainCell u) (PlainCell v) _ h = refl
alike (JsonCell u) (JsonCell v) _ h = refl
alike (DiffsCell cs) (DiffsCell ds) _ h = refl
alike _ _ _ h = absurd (true≢false (sym h))

pub same_cell_is_equivalence : IsEquivalence same_cell
same_cell_is_equivalence = record { refl = itself; symm = flip; congr = alike }
