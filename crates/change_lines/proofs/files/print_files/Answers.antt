use Rattle.std.proofs.Common.{◌≡◌, true, false, refl, rules}
use Rattle.change_lines.specs.declared.run.Ended.TheVariants as ended
use Rattle.change_lines.proofs.Ended.{end_files, not_asked, not_read, asked}
use Rattle.change_lines.proofs.files.print_files.Goals as goal

pub returns-then-not-arguments : goal.returns-then-not-arguments
returns-then-not-arguments g c =
    let a = c.args.arguments.now in
    let out = g.O.Write.contents c.print_each-done.new.out in
    let each = c.print_each-done.new.notes in
    let notes = c.end-ended.new.notes in
    let files = end_files a (g.F.Files.bytes c.args.files.now) c.new-counts.result c.print_each-done.new.counts (g.O.Write.contents c.args.out.now) out c.print_each-done.result c.end-ended.result each.is_lost _ notes.is_lost (g.E.Write.contents each.err) _ (g.E.Write.contents notes.err)
    c.print_each-done.ensures.all c.print_each-done.ensures.first c.tell_last.ensures c.end-ended.ensures.whole c.end-ended.ensures.stopped in
    let no : a.is_count ≡ false = search rules in
    record { files = (c.new-counts.result, c.print_each-done.new.counts, out, c.end-ended.result, notes.is_lost, g.E.Write.contents notes.err, c.new-counts.ensures, files, not_asked a.is_count c.end-ended.result _ out no, λ quiet. (refl, refl)) }

pub returns-then-eq : goal.returns-then-eq
returns-then-eq g c =
    let a = c.args.arguments.now in
    let out = g.O.Write.contents c.print_each-done.new.out in
    let each = c.print_each-done.new.notes in
    let notes = c.end-ended.new.notes in
    let files = end_files a (g.F.Files.bytes c.args.files.now) c.new-counts.result c.print_each-done.new.counts (g.O.Write.contents c.args.out.now) out c.print_each-done.result c.end-ended.result each.is_lost _ notes.is_lost (g.E.Write.contents each.err) _ (g.E.Write.contents notes.err)
    c.print_each-done.ensures.all c.print_each-done.ensures.first c.tell_last.ensures c.end-ended.ensures.whole c.end-ended.ensures.stopped in
    let closed : c.end-ended.result ≡ ended.Closed = search rules in
    record { files = (c.new-counts.result, c.print_each-done.new.counts, out, c.end-ended.result, notes.is_lost, g.E.Write.contents notes.err, c.new-counts.ensures, files, not_read a.is_count c.end-ended.result _ out closed, λ quiet. (refl, refl)) }

pub returns : goal.returns
returns g c =
    let a = c.args.arguments.now in
    let out = g.O.Write.contents c.print_each-done.new.out in
    let each = c.print_each-done.new.notes in
    let notes = c.end-ended.new.notes in
    let files = end_files a (g.F.Files.bytes c.args.files.now) c.new-counts.result c.print_each-done.new.counts (g.O.Write.contents c.args.out.now) out c.print_each-done.result c.end-ended.result each.is_lost _ notes.is_lost (g.E.Write.contents each.err) _ (g.E.Write.contents notes.err)
    c.print_each-done.ensures.all c.print_each-done.ensures.first c.tell_last.ensures c.end-ended.ensures.whole c.end-ended.ensures.stopped in
    let yes : a.is_count ≡ true = search rules in
    let read : c.end-ended.result ≡ ended.Closed → ⊥ = λ is. search rules in
    let prints = asked a.is_count c.end-ended.result c.print_each-done.new.counts out (g.O.Write.contents c.print_counts.new.out) c.print_counts.result yes read c.print_counts.ensures in
    record { files = (c.new-counts.result, c.print_each-done.new.counts, out, c.end-ended.result, notes.is_lost, g.E.Write.contents notes.err, c.new-counts.ensures, files, prints, λ no. absurd (let bad : true ≡ false = search rules in cc)) }
