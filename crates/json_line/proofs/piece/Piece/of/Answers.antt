use Rattle.std.proofs.Common.{◌≡◌, ◌++◌, true, ap, sym, ◌∙◌, refl}
use Rattle.json.specs.Print.{print_from, print}
use Rattle.json_line.proofs.Pieces.{comma_first, before_last, room_after}
use Rattle.json_line.proofs.piece.Piece.of.Goals as goal

pub invariant_of-result : goal.invariant_of-result
invariant_of-result c =
    let ts = c.args.written.tokens in
    let front = c.into_inner-bytes.result.items in
    let bytes = c.extend_from_slice.new.self.items in
    let text : front ≡ print_from true ts = c.into_inner-bytes.ensures.items ∙ ap (λ l. l ++ print ts) c.requires.before ∙ sym (comma_first ts c.requires.begun) in
    record {
      room = room_after bytes front _ c.in_ok-extend_from_slice.ensures.items refl;
      printed = ts;
      begun = c.requires.begun;
      printable = c.is_after_value-ends_value.ensures.printable;
      text = before_last bytes front _ c.in_ok-extend_from_slice.ensures.items refl ∙ text;
      place = c.is_after_value-ends_value.ensures.place;
    }
