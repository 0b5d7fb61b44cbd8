use Rattle.std.proofs.Common.{◌≡◌, ◌<◌, ℕ, List, [], length, get_or, Some, Result, Err, refl, sym, ap, subst, ◌∙◌, add-one, rules}
use Rattle.std.specs.Prelude.{slice_get}
use Rattle.std.specs.Borrow.{Bor}
use Rattle.std.specs.Option.{option_map}
use Rattle.std.proofs.lemmas.Option.{slice_get-map, slice_get-get_or}
use Rattle.change_lines.specs.declared.error.Failure.{Failure}
use Rattle.change_lines.specs.Arguments.{texts}
use Rattle.change_lines.specs.Files.{AreFirstFiles, IsRunOfPath}
use Rattle.change_lines.proofs.files.print_each.Goals as goal

abbrev no_text : Bor (List ℕ)
no_text = record { ref_ptr = (0, 0); now = [] }

-- the path of a number
there : (files : List (Bor (List ℕ))) (i : ℕ) → i < length files → slice_get (texts files) i ≡ Some (get_or files i no_text).now
there files i small = slice_get-map (λ (v : Bor (List ℕ)). v.now) files i ∙ ap (option_map (λ (v : Bor (List ℕ)). v.now)) (slice_get-get_or files i no_text small)

pub loop-index-init : goal.loop-index-init
loop-index-init g c = (refl, refl, refl)

pub returns-in-Err-clause-first : goal.returns-in-Err-clause-first
returns-in-Err-clause-first g c =
    let a = c.args.arguments.now in
    let i = c.loop-index.index in
    let path = get_or a.files.now i no_text in
    let small : i < length a.files.now = search rules in
    let before = c.loop-index.notes in
    let stops = c.in-Err.ensures.stops in
    let bytes = g.F.Files.bytes c.args.files.now in
    let old = g.O.Write.contents c.loop-index.out in
    let new = g.O.Write.contents c.print_file-done.new.out in
    let why = c.in-Err.stopped.failure in
    let run = subst (λ (r : Result ℕ Failure). IsRunOfPath a bytes i path.now c.loop-index.counts c.print_file-done.new.counts old new r) stops.2 c.print_file-done.ensures.run in (
      i,
      there a.files.now i small ∙ ap (λ (b : List ℕ). Some b) (sym stops.0),
      c.loop-index.counts,
      old,
      before.is_lost,
      g.E.Write.contents before.err,
      subst (λ e. AreFirstFiles a bytes i c.args.counts.now c.loop-index.counts (g.O.Write.contents c.args.out.now) old e before.is_lost (g.E.Write.contents before.err)) (sym stops.1) c.loop-index.invariant,
      subst (λ (b : List ℕ). IsRunOfPath a bytes i b c.loop-index.counts c.print_file-done.new.counts old new (Err why)) (sym stops.0) run,
      stops.3,
    )

pub loop-index-preserved : goal.loop-index-preserved
loop-index-preserved g c =
    let a = c.args.arguments.now in
    let i = c.loop-index.index in
    let path = (get_or a.files.now i no_text).now in
    let small : i < length a.files.now = search rules in
    let before = c.loop-index.notes in
    let after = c.after_file.new.notes in
    let bytes = g.F.Files.bytes c.args.files.now in
    subst (λ (n : ℕ). AreFirstFiles a bytes n c.args.counts.now c.print_file-done.new.counts (g.O.Write.contents c.args.out.now) (g.O.Write.contents c.print_file-done.new.out) c.in-Ok.now after.is_lost (g.E.Write.contents after.err)) (sym (add-one i)) (
      c.loop-index.counts,
      g.O.Write.contents c.loop-index.out,
      c.loop-index.ended,
      before.is_lost,
      g.E.Write.contents before.err,
      c.loop-index.invariant,
      path,
      there a.files.now i small,
      c.print_file-done.result,
      c.print_file-done.ensures.run,
      c.in-Ok.ensures.goes_on,
    )
