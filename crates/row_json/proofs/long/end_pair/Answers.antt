use Rattle.std.proofs.Common.{◌≡◌, Bool, List, [], ◌∷◌, refl, ap, subst, ◌∙◌, inl, inr}
use Rattle.std.specs.Prelude.{codes, Option}
use Rattle.mysql_binlog_rows.specs.Images.{BinlogRow}
use Rattle.json.specs.Token as token
use Rattle.std.specs.List.{flat_map}
use Rattle.row_json.specs.Wrote.{Adds, Named, named_tokens}
use Rattle.row_json.specs.Rows.{present_in, before_in, after_in, IsImageJson, AreDiffs}
use Rattle.row_json.specs.Workings.Drafts.{Goes}
use Rattle.row_json.proofs.Drafts.{goes_adds, goes_both, goes_member, goes_members}
use Rattle.row_json.specs.declared.row.Part.TheVariants as part
use Rattle.row_json.specs.Faults.{IsFaultOfBoth, IsFaultOfImage}
use Rattle.row_json.proofs.Faults.{image_fault, image_sound, both_sound}
use Rattle.std.proofs.lemmas.Result.{err_from_is_err_and}
use Rattle.row_json.proofs.long.end_pair.Goals as goal

pub returns-clause-written : goal.returns-clause-written
returns-clause-written c =
    let b = c.in_ok-write_image.ensures.written in
    let a = c.in_ok-write_image-2.ensures.written in
    let d = c.in_ok-write_diffs_of.ensures.written in
    let cs = c.args.table.now in
    let pair = c.args.pair.now in
    let before : c.present_in-before.result ≡ before_in c.args.event.now = c.present_in-before.ensures ∙ ap present_in c.columns_before_image.ensures in
    let after : c.present_in-after.result ≡ after_in c.args.event.now = c.present_in-after.ensures ∙ ap present_in c.columns_after_image.ensures in
    let start = c.args.draft.now in
    let first = c.write_image.new.draft in
    let second = c.write_image-2.new.draft in
    let ps = start.parts.items in
    let qs = first.parts.items in
    let rs = second.parts.items in
    let b_key : Adds start.out c.key.new.self (token.key (codes "before") ∷ []) = record { before = c.key.ensures.before; tokens = c.in_ok-key.ensures.ok } in
    let a_key : Adds first.out c.key-2.new.self (token.key (codes "after") ∷ []) = record { before = c.key-2.ensures.before; tokens = c.in_ok-key-2.ensures.ok } in
    let ended : Adds c.write_diffs_of.new.out c.end_object.new.self (token.end_object ∷ []) = record { before = c.end_object.ensures.before; tokens = c.in_ok-end_object.ensures.ok } in
    let ms : List Named = (codes "before", b.0) ∷ (codes "after", a.0) ∷ d.0 in
    let last : Goes qs first.out rs c.write_diffs_of.new.out (flat_map named_tokens ((codes "after", a.0) ∷ d.0)) =
    goes_members qs rs rs first.out second.out c.write_diffs_of.new.out ((codes "after", a.0) ∷ []) d.0 (goes_member qs rs first.out c.key-2.new.self second.out (codes "after") (codes "after") a.0 refl a_key a.2) (goes_adds rs second.out c.write_diffs_of.new.out (flat_map named_tokens d.0) d.2) in
    let all : Goes ps start.out rs c.write_diffs_of.new.out (flat_map named_tokens ms) =
    goes_members ps qs rs start.out first.out c.write_diffs_of.new.out ((codes "before", b.0) ∷ []) ((codes "after", a.0) ∷ d.0) (goes_member ps qs start.out c.key.new.self first.out (codes "before") (codes "before") b.0 refl b_key b.2) last in (
      ms,
      record {
        before = b.0;
        after = a.0;
        diffs = d.0;
        is_before = subst (λ (bits : List Bool). IsImageJson cs bits pair.0 b.0) before (subst (λ (i : Option BinlogRow). IsImageJson cs c.present_in-before.result i b.0) c.before-2.ensures b.1);
        is_after = subst (λ (bits : List Bool). IsImageJson cs bits pair.1 a.0) after (subst (λ (i : Option BinlogRow). IsImageJson cs c.present_in-after.result i a.0) c.after.ensures a.1);
        are_diffs = subst (λ (bits : List Bool). AreDiffs cs bits pair.1 d.0) after (subst (λ (i : Option BinlogRow). AreDiffs cs c.present_in-after.result i d.0) c.after-2.ensures d.1);
        are = refl;
      },
      goes_both ps rs rs start.out c.write_diffs_of.new.out c.end_object.new.self (flat_map named_tokens ms) (token.end_object ∷ []) all (goes_adds rs c.write_diffs_of.new.out c.end_object.new.self (token.end_object ∷ []) ended),
    )

pub returns-clause-sound : goal.returns-clause-sound
returns-clause-sound c =
    let cs = c.args.table.now in
    let e = c.args.event.now in
    let pair = c.args.pair.now in
    let before : c.present_in-before.result ≡ before_in e = c.present_in-before.ensures ∙ ap present_in c.columns_before_image.ensures in
    let after : c.present_in-after.result ≡ after_in e = c.present_in-after.ensures ∙ ap present_in c.columns_after_image.ensures in
    let first = image_sound part.Row cs c.present_in-before.result (before_in e) _ pair.0 before c.before-2.ensures c.in_ok-write_image.ensures.sound in
    let second = image_sound part.Row cs c.present_in-after.result (after_in e) _ pair.1 after c.after.ensures c.in_ok-write_image-2.ensures.sound in
    let third = image_sound part.Diffs cs c.present_in-after.result (after_in e) _ pair.1 after c.after-2.ensures c.in_ok-write_diffs_of.ensures.sound in
    both_sound (IsFaultOfImage part.Row cs (before_in e) pair.0) (IsFaultOfBoth (IsFaultOfImage part.Row cs (after_in e) pair.1) (IsFaultOfImage part.Diffs cs (after_in e) pair.1)) first
    (both_sound (IsFaultOfImage part.Row cs (after_in e) pair.1) (IsFaultOfImage part.Diffs cs (after_in e) pair.1) second third)

pub returns-in_err-write_image-clause-err : goal.returns-in_err-write_image-clause-err
returns-in_err-write_image-clause-err c =
    let pair = c.args.pair.now in
    let f = c.in_err-write_image.field-0.0 in
    let before : c.present_in-before.result ≡ before_in c.args.event.now = c.present_in-before.ensures ∙ ap present_in c.columns_before_image.ensures in
    let p = err_from_is_err_and c.from_residual-in_err-write_image.result c.from_residual-in_err-write_image.ensures.1 in
    rw (p.1, p.2) (λ other. inl (image_fault part.Row c.args.table.now c.present_in-before.result (before_in c.args.event.now) _ pair.0 f before c.before-2.ensures (c.in_err-write_image.ensures.err other)))

pub returns-in_err-write_image-2-clause-err : goal.returns-in_err-write_image-2-clause-err
returns-in_err-write_image-2-clause-err c =
    let cs = c.args.table.now in
    let e = c.args.event.now in
    let pair = c.args.pair.now in
    let f = c.in_err-write_image-2.field-0.0 in
    let before : c.present_in-before.result ≡ before_in e = c.present_in-before.ensures ∙ ap present_in c.columns_before_image.ensures in
    let after : c.present_in-after.result ≡ after_in e = c.present_in-after.ensures ∙ ap present_in c.columns_after_image.ensures in
    let first = image_sound part.Row cs c.present_in-before.result (before_in e) _ pair.0 before c.before-2.ensures c.in_ok-write_image.ensures.sound in
    let p = err_from_is_err_and c.from_residual-in_err-write_image-2.result c.from_residual-in_err-write_image-2.ensures.1 in
    rw (p.1, p.2) (λ other. inr (first, inl (image_fault part.Row cs c.present_in-after.result (after_in e) _ pair.1 f after c.after.ensures (c.in_err-write_image-2.ensures.err other))))

pub returns-in_err-write_diffs_of-clause-err : goal.returns-in_err-write_diffs_of-clause-err
returns-in_err-write_diffs_of-clause-err c =
    let cs = c.args.table.now in
    let e = c.args.event.now in
    let pair = c.args.pair.now in
    let f = c.in_err-write_diffs_of.field-0.0 in
    let before : c.present_in-before.result ≡ before_in e = c.present_in-before.ensures ∙ ap present_in c.columns_before_image.ensures in
    let after : c.present_in-after.result ≡ after_in e = c.present_in-after.ensures ∙ ap present_in c.columns_after_image.ensures in
    let first = image_sound part.Row cs c.present_in-before.result (before_in e) _ pair.0 before c.before-2.ensures c.in_ok-write_image.ensures.sound in
    let second = image_sound part.Row cs c.present_in-after.result (after_in e) _ pair.1 after c.after.ensures c.in_ok-write_image-2.ensures.sound in
    let p = err_from_is_err_and c.from_residual-in_err-write_diffs_of.result c.from_residual-in_err-write_diffs_of.ensures.1 in
    rw (p.1, p.2) (λ other. inr (first, inr (second, image_fault part.Diffs cs c.present_in-after.result (after_in e) _ pair.1 f after c.after-2.ensures (c.in_err-write_diffs_of.ensures.err other))))
