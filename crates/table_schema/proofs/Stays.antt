-- What stays of an event that is completed.
use Rattle.std.proofs.Common.{◌≡◌, ℕ, Bool, true, false, ◌&&◌, ◌||◌, not, List, [], ◌++◌, Option, Some, None, refl, sym, ap, append-nil, if◌then◌else◌}
use Rattle.binlog_table.specs.TableMap.{TableMap}
use Rattle.table_schema.specs.Schemas.{Table}
use Rattle.table_schema.specs.Has.{has_of}
use Rattle.table_schema.specs.Fits.{fits}
use Rattle.table_schema.specs.Completed.{completed, is_asked, lacking, types_of, without_optional}

with_more : Bool → TableMap → List ℕ → TableMap
with_more b t more = if b then record t { optional_metadata = t.optional_metadata ++ more } else t

more_parts : (b : Bool) (t : TableMap) (more : List ℕ) → without_optional (with_more b t more) ≡ without_optional t
unfolding with_more
more_parts true t more = refl
more_parts false t more = refl

more_fields : (b : Bool) (t : TableMap) (more : List ℕ) → (rest : List ℕ) × ((with_more b t more).optional_metadata ≡ t.optional_metadata ++ rest)
unfolding with_more
more_fields true t more = (more, refl)
more_fields false t more = ([], sym (append-nil t.optional_metadata))

pub parts_stay : (s : Option Table) (t : TableMap) → without_optional (completed s t) ≡ without_optional t
unfolding with_more
parts_stay None t = refl
parts_stay (Some s) t = more_parts (is_asked t && fits s t) t (lacking s t.server (has_of t) (types_of t))

pub fields_stay : (s : Option Table) (t : TableMap) → (more : List ℕ) × ((completed s t).optional_metadata ≡ t.optional_metadata ++ more)
unfolding with_more
fields_stay None t = ([], sym (append-nil t.optional_metadata))
fields_stay (Some s) t = more_fields (is_asked t && fits s t) t (lacking s t.server (has_of t) (types_of t))

not_both : (a b : Bool) (t : TableMap) (more : List ℕ) → (a && b) ≡ false → with_more (a && b) t more ≡ t
unfolding with_more
not_both a b t more h = ap (λ c. if c then record t { optional_metadata = t.optional_metadata ++ more } else t) h

and_no : (a b : Bool) → b ≡ false → (a && b) ≡ false
and_no true b h = h
and_no false b h = refl

no_names : (a b : Bool) → a ≡ true → not (a || b) ≡ false
no_names a b h = ap (λ c. not (c || b)) h

no_fault : (a b : Bool) → b ≡ true → not (a || b) ≡ false
no_fault true b h = refl
no_fault false b h = ap not h

itself : (s : Option Table) (t : TableMap) → is_asked t ≡ false → completed s t ≡ t
unfolding with_more
itself None t h = refl
itself (Some s) t h = not_both (is_asked t) (fits s t) t (lacking s t.server (has_of t) (types_of t)) (ap (λ c. c && fits s t) h)

pub names_itself : (s : Option Table) (t : TableMap) → (has_of t).names ≡ true → completed s t ≡ t
names_itself s t h = itself s t (no_names (has_of t).names (has_of t).fault h)

pub fault_itself : (s : Option Table) (t : TableMap) → (has_of t).fault ≡ true → completed s t ≡ t
fault_itself s t h = itself s t (no_fault (has_of t).names (has_of t).fault h)

pub misfit_itself : (s : Table) (t : TableMap) → fits s t ≡ false → completed (Some s) t ≡ t
unfolding with_more
misfit_itself s t h = not_both (is_asked t) (fits s t) t (lacking s t.server (has_of t) (types_of t)) (and_no (is_asked t) (fits s t) h)
