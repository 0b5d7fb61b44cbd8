use Rattle.std.proofs.Common.{ℕ, List, ◌++◌, length, take, drop, replicate, subst, ap, ◌∙◌, arith}
use Rattle.std.specs.Prelude.{OnOk}
use Rattle.json.specs.Tree.{json_tokens}
use Rattle.row_json.specs.Values.{base64_json, padded}
use Rattle.row_json.specs.Wrote.{Adds}
use Rattle.row_json.proofs.Bytes.{in_room}
use Rattle.row_json.proofs.text.write_padded.Goals as goal

pub returns-clause-written : goal.returns-clause-written
returns-clause-written c =
    let x = c.args.bytes.now in
    let put = ap (λ (l : List ℕ). take c.from-length.result (l ++ drop (length x) (replicate 255 0))) c.copy_from_slice.ensures.after in
    let whole = put ∙ (in_room c.from-length.result x (omega arith) (omega (arith, c.from-length.ensures, c.ranges.length.fits)) ∙ ap (λ (n : ℕ). padded n x) c.from-length.ensures) in
    subst (λ (b : List ℕ). OnOk c.write_base64-2.result (Adds c.args.out.now c.write_base64-2.new.out (json_tokens (base64_json b)))) whole c.write_base64-2.ensures.written
