-- The lines that are read, and those that are left.
use Rattle.std.proofs.Common.{◌≡◌, ℕ, ◌+◌, List, [], ◌∷◌, ◌++◌, Option, Some, None, Result, Ok, Err, refl, ap, sym, ◌∙◌, append_assoc}
use Rattle.binlog_base.specs.Format.{◌>>=◌}
use Rattle.table_schema.specs.declared.fault.SchemaFault.{SchemaFault}
use Rattle.table_schema.specs.declared.fault.SchemaFault.TheVariants as fault
use Rattle.table_schema.specs.declared.fault.SchemaError.{SchemaError}
use Rattle.table_schema.specs.declared.line.Line.{Line}
use Rattle.table_schema.specs.declared.line.Line.TheVariants as line
use Rattle.table_schema.specs.Texts.{pieces, onto_first}
use Rattle.table_schema.specs.Lines.{Head}
use Rattle.table_schema.specs.Files.{at, file_in, file_with, first_line, then_lines, end_at, lines_from, line_behind}
use Rattle.std.proofs.Common.{true, false, Bool, ◌==◌, if◌then◌else◌}

-- these lines, and then what is left
abbrev pub with_front : List Line → Result (List Line × ℕ) SchemaError → Result (List Line × ℕ) SchemaError
with_front front (Ok r) = Ok (front ++ r.0, r.1)
with_front front (Err e) = Err e

-- the whole is some lines, and then what is left
pub record EndsAs (rest whole : Result (List Line × ℕ) SchemaError) : Type 0 where
  pub front : List Line
  pub is : whole ≡ with_front front rest

front_none : (r : Result (List Line × ℕ) SchemaError) → r ≡ with_front [] r
front_none (Ok r) = refl
front_none (Err e) = refl

pub ends_self : (r : Result (List Line × ℕ) SchemaError) → EndsAs r r
ends_self r = record { front = []; is = front_none r }

pub ends_err : {whole : Result (List Line × ℕ) SchemaError} (rest : Result (List Line × ℕ) SchemaError) (e : SchemaError) → rest ≡ Err e → EndsAs rest whole → whole ≡ Err e
ends_err rest e h ends = ends.is ∙ ap (with_front ends.front) h

pub ends_ok : {whole : Result (List Line × ℕ) SchemaError} (rest : Result (List Line × ℕ) SchemaError) (lines : List Line) (time : ℕ) → rest ≡ Ok (lines, time) → EndsAs rest whole → (all : List Line) × (whole ≡ Ok (all, time))
ends_ok rest lines time h ends = (ends.front ++ lines, ends.is ∙ ap (with_front ends.front) h)

front_more : (front : List Line) (l : Line) (r : Result (List Line × ℕ) SchemaError) → with_front front (r >>= λ x. Ok (l ∷ x.0, x.1)) ≡ with_front (front ++ l ∷ []) r
front_more front l (Ok r) = ap (λ ls. Ok (ls, r.1)) (sym (append_assoc front (l ∷ []) r.0))
front_more front l (Err e) = refl

pub ends_more : {whole : Result (List Line × ℕ) SchemaError} (rest next : Result (List Line × ℕ) SchemaError) (l : Line) → rest ≡ (next >>= λ x. Ok (l ∷ x.0, x.1)) → EndsAs rest whole → EndsAs next whole
ends_more rest next l h ends = record { front = ends.front ++ l ∷ []; is = ends.is ∙ ap (with_front ends.front) h ∙ front_more ends.front l next }

-- ---- a step

-- there is always a first piece
pub record Begins (ps : List (List ℕ)) : Type 0 where
  pub first : List ℕ
  pub more : List (List ℕ)
  pub is : ps ≡ first ∷ more

onto_begins : (b : ℕ) (ps : List (List ℕ)) → Begins (onto_first b ps)
onto_begins b [] = record { first = b ∷ []; more = []; is = refl }
onto_begins b (p ∷ ps) = record { first = b ∷ p; more = ps; is = refl }

begins_by : (t : Bool) (end b : ℕ) (ps : List (List ℕ)) → Begins (if t then [] ∷ ps else onto_first b ps)
begins_by true end b ps = record { first = []; more = ps; is = refl }
begins_by false end b ps = onto_begins b ps

pub begins : (end : ℕ) (text : List ℕ) → Begins (pieces end text)
begins end [] = record { first = []; more = []; is = refl }
begins end (b ∷ bs) = begins_by (b == end) end b (pieces end bs)

lines_by : (n : ℕ) (before : Option Line) (bytes first : List ℕ) (more : List (List ℕ)) (r : Result Line SchemaFault) → line_behind before bytes ≡ r → lines_from n before (bytes ∷ first ∷ more) ≡ (at n r >>= then_lines (n + 1) (first ∷ more) (λ l. lines_from (n + 1) l (first ∷ more)))
lines_by n before bytes first more r h = ap (λ x. at n x >>= then_lines (n + 1) (first ∷ more) (λ l. lines_from (n + 1) l (first ∷ more))) h

-- a line and what is behind it, by what the line is read as
pub lines_here : (n : ℕ) (before : Option Line) (bytes rest : List ℕ) (ps : List (List ℕ)) (r : Result Line SchemaFault) → ps ≡ bytes ∷ pieces 10 rest → line_behind before bytes ≡ r → lines_from n before ps ≡ (at n r >>= then_lines (n + 1) (pieces 10 rest) (λ l. lines_from (n + 1) l (pieces 10 rest)))
lines_here n before bytes rest ps r is h =
    let b = begins 10 rest in
    ap (lines_from n before) (is ∙ ap (λ qs. bytes ∷ qs) b.is)
    ∙ lines_by n before bytes b.first b.more r h
    ∙ ap (λ qs. at n r >>= then_lines (n + 1) qs (λ l. lines_from (n + 1) l qs)) (sym b.is)

-- a line that isn't the last one
pub line_more : (n : ℕ) (ps : List (List ℕ)) (next : Option Line → Result (List Line × ℕ) SchemaError) (l : Line) → ((t : ℕ) → l ≡ line.End t → ⊥) → then_lines n ps next l ≡ (next (Some l) >>= λ x. Ok (l ∷ x.0, x.1))
line_more n ps next (line.Column c) h = refl
line_more n ps next (line.Key k) h = refl
line_more n ps next (line.End t) h = absurd (h t refl)

-- something stands behind the last line
pub end_behind : (n : ℕ) (bytes rest : List ℕ) (ps : List (List ℕ)) → ps ≡ bytes ∷ pieces 10 rest → (time : ℕ) → end_at n time ps ≡ at n (Err fault.BehindEnd)
end_behind n bytes rest ps is time = let b = begins 10 rest in ap (end_at n time) (is ∙ ap (λ qs. bytes ∷ qs) b.is)

-- the last line
pub line_last : (n : ℕ) (ps : List (List ℕ)) (next : Option Line → Result (List Line × ℕ) SchemaError) (l : Line) (t : ℕ) → l ≡ line.End t → then_lines n ps next l ≡ end_at n t ps
line_last n ps next l t h = ap (then_lines n ps next) h

-- a file, by what its first line is read as
pub file_here : (bytes rest : List ℕ) (ps : List (List ℕ)) (r : Result Head SchemaFault) → ps ≡ bytes ∷ pieces 10 rest → first_line bytes ≡ r → file_in ps ≡ (at 1 r >>= λ h. lines_from 2 None (pieces 10 rest) >>= λ x. Ok (file_with h x))
file_here bytes rest ps r is h =
    let b = begins 10 rest in
    ap file_in (is ∙ ap (λ qs. bytes ∷ qs) b.is)
    ∙ ap (λ q. at 1 q >>= λ h. lines_from 2 None (b.first ∷ b.more) >>= λ x. Ok (file_with h x)) h
    ∙ ap (λ qs. at 1 r >>= λ h. lines_from 2 None qs >>= λ x. Ok (file_with h x)) (sym b.is)
