-- How a run over several files ends.
use Rattle.std.proofs.Common.{◌≡◌, ℕ, Bool, true, false, List, Option, Result, Ok, Err, IfErr, inl, inr, refl, sym, subst}
use Rattle.std.specs.Prelude.{IfOk}
use Rattle.changed_rows.specs.declared.count.Counts.{Counts}
use Rattle.change_lines.specs.declared.arguments.Arguments.{Arguments}
use Rattle.change_lines.specs.declared.files.Stopped.{Stopped}
use Rattle.change_lines.specs.declared.run.Ended.{Ended}
use Rattle.change_lines.specs.declared.run.Ended.TheVariants as ended
use Rattle.change_lines.specs.Notes.{TellsSome}
use Rattle.change_lines.specs.Files.{AreFirstFiles, AreFilesUpTo, EndFiles, IsEndBy, PrintsCounts, PrintsCountsAfter}
use Rattle.std.specs.Prelude.{length}

-- all files were read, or those before the one that failed
pub end_files : (a : Arguments) (bytes : List ℕ → Option (List ℕ)) (before after : Counts) (old new : Option (List ℕ)) (r : Result Ended Stopped) (e : Ended) (lost mid_lost is_lost : Bool) (err mid told : Option (List ℕ))
    → IfOk r (λ was. AreFirstFiles a bytes (length a.files.now) before after old new was lost err) → IfErr r (λ s. AreFilesUpTo a bytes s.path.now s.failure before after old new s.before)
    → TellsSome lost err mid_lost mid → IfOk r (λ was. (e ≡ was) × (is_lost ≡ mid_lost) × (told ≡ mid)) → IfErr r (λ s. IsEndBy s.path.now s.failure s.before e is_lost told)
    → EndFiles a bytes before after old new e is_lost told
end_files a bytes before after old new (Ok was) e lost mid_lost is_lost err mid told all first more whole by =
    let here = subst (λ (l : Bool). TellsSome lost err l mid) (sym whole.1) more in
    inl (lost, err, subst (λ (x : Ended). AreFirstFiles a bytes (length a.files.now) before after old new x lost err) (sym whole.0) all, subst (λ (o : Option (List ℕ)). TellsSome lost err is_lost o) (sym whole.2) here)
end_files a bytes before after old new (Err s) e lost mid_lost is_lost err mid told all first more whole by = inr (s.path.now, s.failure, s.before, first, by)

-- no counts are asked for
pub not_asked : (b : Bool) (e : Ended) (counts : Counts) (out : Option (List ℕ)) → b ≡ false → PrintsCounts b e counts out out e
not_asked false e counts out is = (refl, refl)
not_asked true e counts out is = absurd cc

-- nobody reads the counts
pub not_read : (b : Bool) (e : Ended) (counts : Counts) (out : Option (List ℕ)) → e ≡ ended.Closed → PrintsCounts b e counts out out e
not_read false e counts out closed = (refl, refl)
not_read true ended.Closed counts out closed = (refl, refl)
not_read true ended.Whole counts out closed = absurd cc
not_read true ended.Failed counts out closed = absurd cc

-- the counts are printed
pub asked : (b : Bool) (e : Ended) (counts : Counts) (old new : Option (List ℕ)) (last : Ended) → b ≡ true → (e ≡ ended.Closed → ⊥) → PrintsCountsAfter e counts old new last → PrintsCounts b e counts old new last
asked false e counts old new last is read prints = absurd cc
asked true ended.Whole counts old new last is read prints = prints
asked true ended.Failed counts old new last is read prints = prints
asked true ended.Closed counts old new last is read prints = absurd (read refl)
