use Rattle.std.proofs.Common.{◌≡◌, ℕ, List, false, refl, ap, subst, ◌∙◌}
use Rattle.row_lines.specs.Names.{shown_name}
use Rattle.change_lines.specs.declared.run.Settings.{Settings}
use Rattle.change_lines.specs.Files.{name_in_lines}
use Rattle.change_lines.specs.Runs.{IsRun}
use Rattle.change_lines.specs.declared.error.Failure.TheVariants as failure
use Rattle.change_lines.proofs.Ran.{run_unread, fresh}
use Rattle.change_lines.proofs.files.print_file.Goals as goal

pub returns-in-Err : goal.returns-in-Err
returns-in-Err g c = record { run = (c.file_name-name.result.now, c.file_name-name.ensures, λ x known small. (false, run_unread _ _ x _ _ _ (failure.Unopened _) refl tt)) }

pub returns-in_default : goal.returns-in_default
returns-in_default g c = record { run = (c.file_name-name.result.now, c.file_name-name.ensures, λ x known small. (false, run_unread _ _ x _ _ _ failure.Memory refl tt)) }

pub returns-in_err-shown_path : goal.returns-in_err-shown_path
returns-in_err-shown_path g c = record { run = (c.file_name-name.result.now, c.file_name-name.ensures, λ x known small. (false, run_unread _ _ x _ _ _ failure.Memory c.from_residual.ensures.1 tt)) }

pub returns-in_err-shown_file : goal.returns-in_err-shown_file
returns-in_err-shown_file g c = record { run = (c.file_name-name.result.now, c.file_name-name.ensures, λ x known small. (false, run_unread _ _ x _ _ _ failure.Memory c.from_residual-in_err-shown_file.ensures.1 tt)) }

pub returns : goal.returns
returns g c =
    let name = c.file_name-name.result.now in
    let h = c.in-Ok-new.ensures in
    let read = fresh _ _ _ h.capacity h.empty ∙ ap g.F.Input.Read.remaining h.inner ∙ c.in-Ok.ensures in
    let shown : c.as_str.result.now ≡ shown_name name = c.as_str.ensures.value ∙ c.in_ok-shown_file.ensures ∙ ap shown_name c.as_bytes-2.ensures.value in
    let file = name_in_lines c.args.arguments.now.is_text name in
    let run = λ (s : Settings) (f x : List ℕ). IsRun s f x c.args.counts.now c.run.new.counts (g.O.Write.contents c.args.out.now) (g.O.Write.contents c.run.new.out) c.run.result in
    record {
      run = (
        name,
        c.file_name-name.ensures,
        λ x known small. (
          c.if-is_none.may_wait,
          subst (λ (s : Settings). run s file x) c.settings-settings.ensures
              (subst (λ (f : List ℕ). run c.settings-settings.result f x) (c.name_in_lines-file.ensures shown) (c.run.ensures.run x (read ∙ known) small)),
        ),
      );
    }
