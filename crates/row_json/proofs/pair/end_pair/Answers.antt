use Rattle.std.proofs.Common.{◌≡◌, Bool, List, [], ◌∷◌, refl, ap, subst, ◌∙◌, inl, inr}
use Rattle.std.specs.Prelude.{codes, Option}
use Rattle.mysql_binlog_rows.specs.Images.{BinlogRow}
use Rattle.json.specs.Token as token
use Rattle.std.specs.List.{flat_map}
use Rattle.row_json.specs.Wrote.{Adds, Named, named_tokens}
use Rattle.row_json.specs.Rows.{present_in, before_in, after_in, IsImageJson, AreDiffs}
use Rattle.row_json.proofs.Steps.{adds_both, adds_members}
use Rattle.row_json.proofs.Columns.{one_member}
use Rattle.row_json.specs.declared.row.Part.TheVariants as part
use Rattle.row_json.specs.Faults.{IsFaultOfBoth, IsFaultOfImage}
use Rattle.row_json.proofs.Faults.{image_fault, image_sound, both_sound}
use Rattle.std.proofs.lemmas.Result.{err_from_is_err_and}
use Rattle.json.specs.Print.{escape_byte}
use Rattle.row_json.proofs.pair.end_pair.Goals as goal

pub returns-clause-written : goal.returns-clause-written
returns-clause-written g c =
    let b = c.in_ok-write_image.ensures.written in
    let a = c.in_ok-write_image-2.ensures.written in
    let d = c.in_ok-write_diffs_of.ensures.written in
    let cs = c.args.table.now in
    let pair = g.P.Images.pair c.args.pair.now in
    let before : c.present_in-before.result ≡ before_in c.args.event.now = c.present_in-before.ensures ∙ ap present_in c.columns_before_image.ensures in
    let after : c.present_in-after.result ≡ after_in c.args.event.now = c.present_in-after.ensures ∙ ap present_in c.columns_after_image.ensures in
    let b_key : Adds c.args.out.now c.plain_key.new.self (token.key (codes "before") ∷ []) = record { before = c.plain_key.ensures.before; tokens = c.in_ok-plain_key.ensures.ok } in
    let a_key : Adds c.write_image.new.out c.plain_key-2.new.self (token.key (codes "after") ∷ []) = record { before = c.plain_key-2.ensures.before; tokens = c.in_ok-plain_key-2.ensures.ok } in
    let ended : Adds c.write_diffs_of.new.out c.end_object.new.self (token.end_object ∷ []) = record { before = c.end_object.ensures.before; tokens = c.in_ok-end_object.ensures.ok } in
    let ms : List Named = (codes "before", b.value) ∷ (codes "after", a.value) ∷ d.0 in
    let all : Adds c.args.out.now c.write_diffs_of.new.out (flat_map named_tokens ms) =
    adds_members ((codes "before", b.value) ∷ []) ((codes "after", a.value) ∷ d.0) (one_member _ _ _ (codes "before") (codes "before") b.value refl b_key b.adds) (adds_members ((codes "after", a.value) ∷ []) d.0 (one_member _ _ _ (codes "after") (codes "after") a.value refl a_key a.adds) d.2) in (
      ms,
      record {
        before = b.value;
        after = a.value;
        diffs = d.0;
        is_before = subst (λ (bits : List Bool). IsImageJson cs bits pair.0 b.value) before (subst (λ (i : Option BinlogRow). IsImageJson cs c.present_in-before.result i b.value) c.before-2.ensures b.is);
        is_after = subst (λ (bits : List Bool). IsImageJson cs bits pair.1 a.value) after (subst (λ (i : Option BinlogRow). IsImageJson cs c.present_in-after.result i a.value) c.after.ensures a.is);
        are_diffs = subst (λ (bits : List Bool). AreDiffs cs bits pair.1 d.0) after (subst (λ (i : Option BinlogRow). AreDiffs cs c.present_in-after.result i d.0) c.after-2.ensures d.1);
        are = refl;
      },
      adds_both (flat_map named_tokens ms) (token.end_object ∷ []) all ended,
    )

pub returns-clause-sound : goal.returns-clause-sound
returns-clause-sound g c =
    let cs = c.args.table.now in
    let e = c.args.event.now in
    let pair = g.P.Images.pair c.args.pair.now in
    let before : c.present_in-before.result ≡ before_in e = c.present_in-before.ensures ∙ ap present_in c.columns_before_image.ensures in
    let after : c.present_in-after.result ≡ after_in e = c.present_in-after.ensures ∙ ap present_in c.columns_after_image.ensures in
    let first = image_sound part.Row cs c.present_in-before.result (before_in e) _ pair.0 before c.before-2.ensures c.in_ok-write_image.ensures.sound in
    let second = image_sound part.Row cs c.present_in-after.result (after_in e) _ pair.1 after c.after.ensures c.in_ok-write_image-2.ensures.sound in
    let third = image_sound part.Diffs cs c.present_in-after.result (after_in e) _ pair.1 after c.after-2.ensures c.in_ok-write_diffs_of.ensures.sound in
    both_sound (IsFaultOfImage part.Row cs (before_in e) pair.0) (IsFaultOfBoth (IsFaultOfImage part.Row cs (after_in e) pair.1) (IsFaultOfImage part.Diffs cs (after_in e) pair.1)) first
    (both_sound (IsFaultOfImage part.Row cs (after_in e) pair.1) (IsFaultOfImage part.Diffs cs (after_in e) pair.1) second third)

pub returns-in_err-write_image-clause-err : goal.returns-in_err-write_image-clause-err
returns-in_err-write_image-clause-err g c =
    let pair = g.P.Images.pair c.args.pair.now in
    let f = c.in_err-write_image.field-0.0 in
    let before : c.present_in-before.result ≡ before_in c.args.event.now = c.present_in-before.ensures ∙ ap present_in c.columns_before_image.ensures in
    let p = err_from_is_err_and c.from_residual-in_err-write_image.result c.from_residual-in_err-write_image.ensures.1 in
    rw (p.1, p.2) (λ other. inl (image_fault part.Row c.args.table.now c.present_in-before.result (before_in c.args.event.now) _ pair.0 f before c.before-2.ensures (c.in_err-write_image.ensures.err other)))

pub returns-in_err-write_image-2-clause-err : goal.returns-in_err-write_image-2-clause-err
returns-in_err-write_image-2-clause-err g c =
    let cs = c.args.table.now in
    let e = c.args.event.now in
    let pair = g.P.Images.pair c.args.pair.now in
    let f = c.in_err-write_image-2.field-0.0 in
    let before : c.present_in-before.result ≡ before_in e = c.present_in-before.ensures ∙ ap present_in c.columns_before_image.ensures in
    let after : c.present_in-after.result ≡ after_in e = c.present_in-after.ensures ∙ ap present_in c.columns_after_image.ensures in
    let first = image_sound part.Row cs c.present_in-before.result (before_in e) _ pair.0 before c.before-2.ensures c.in_ok-write_image.ensures.sound in
    let p = err_from_is_err_and c.from_residual-in_err-write_image-2.result c.from_residual-in_err-write_image-2.ensures.1 in
    rw (p.1, p.2) (λ other. inr (first, inl (image_fault part.Row cs c.present_in-after.result (after_in e) _ pair.1 f after c.after.ensures (c.in_err-write_image-2.ensures.err other))))

pub returns-in_err-write_diffs_of-clause-err : goal.returns-in_err-write_diffs_of-clause-err
returns-in_err-write_diffs_of-clause-err g c =
    let cs = c.args.table.now in
    let e = c.args.event.now in
    let pair = g.P.Images.pair c.args.pair.now in
    let f = c.in_err-write_diffs_of.field-0.0 in
    let before : c.present_in-before.result ≡ before_in e = c.present_in-before.ensures ∙ ap present_in c.columns_before_image.ensures in
    let after : c.present_in-after.result ≡ after_in e = c.present_in-after.ensures ∙ ap present_in c.columns_after_image.ensures in
    let first = image_sound part.Row cs c.present_in-before.result (before_in e) _ pair.0 before c.before-2.ensures c.in_ok-write_image.ensures.sound in
    let second = image_sound part.Row cs c.present_in-after.result (after_in e) _ pair.1 after c.after.ensures c.in_ok-write_image-2.ensures.sound in
    let p = err_from_is_err_and c.from_residual-in_err-write_diffs_of.result c.from_residual-in_err-write_diffs_of.ensures.1 in
    rw (p.1, p.2) (λ other. inr (first, inr (second, image_fault part.Diffs cs c.present_in-after.result (after_in e) _ pair.1 f after c.after-2.ensures (c.in_err-write_diffs_of.ensures.err other))))

pub plain_key-requires : goal.plain_key-requires
unfolding escape_byte
plain_key-requires g c = refl

pub plain_key-requires-2 : goal.plain_key-requires-2
unfolding escape_byte
plain_key-requires-2 g c = refl
