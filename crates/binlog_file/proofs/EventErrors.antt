-- Bytes are never refused with the error of bytes that are lacking.
use Rattle.std.proofs.Common.{◌≡◌, ℕ, ◌-◌, Bool, true, false, List, [], ◌++◌, length, Option, Some, None, Result, Ok, Err, refl, sym, ap, subst, ◌∙◌}
use Rattle.std.specs.Prelude.{IfErr, if◌then◌else◌, nat_lt, nat_eq, not, ◌||◌, drop, take}
use Rattle.std.specs.Result.{IsErrAnd}
use Rattle.binlog_base.specs.Format.{IsExactOf, IsExactToEndOf, IsExact, Format, Parses, map_fault, within}
use Rattle.binlog_base.specs.Lemmas.Format.{exact_take_bytes, exact_no_bytes, exact_refusal, exact_check, exact_within, exact_all_of, exact_sequence, exact_map_value, exact_map_fault, exact_choice, exact_choice_to_end, exact_map_all_left, to_end_both}
use Rattle.binlog_base.specs.Lemmas.Numbers.{exact_little_endian}
use Rattle.binlog_table.specs.Lemmas.TableMap.{exact_table_map}
use Rattle.byteorder.specs.Endian.{little_number}
use Rattle.binlog_events.specs.declared.error.EventError.{EventError}
use Rattle.binlog_events.specs.declared.error.EventError.TheVariants as error
use Rattle.binlog_file.specs.Lemmas.Formats.{exact_header}
use Rattle.binlog_file.specs.Crc32.{crc32}
use Rattle.binlog_file.specs.Header.{Header, header}
use Rattle.binlog_file.specs.Version.{knows_checksums, is_too_old}
use Rattle.binlog_file.specs.Description.{Description, description, lens_of, part, algorithm, only, new_enough}
use Rattle.binlog_file.specs.Events.{Raw, Parts, event_of_raw, other_event, is_description, has_checksum, parts_of, summed, is_checked, summed_head}
use Rattle.binlog_file.specs.Stream.{lacks_bytes, HasBytes, count_after, CountsError}

-- any other error leaves the count as it is
pub count_left : (e : EventError) (n : ℕ) → HasBytes e → count_after e n ≡ n
count_left error.Reader n has = absurd (let bad : true ≡ false = has in cc)
count_left _ n has = refl

pub memory_error : (e : EventError) → e ≡ error.Memory → HasBytes e
memory_error e is = ap lacks_bytes is

-- an error that is handed on
pub error_other : {A : Type 0} (r : Result A EventError) (e : EventError) → IsErrAnd r (λ d. d ≡ e) → HasBytes e → IfErr r HasBytes
error_other (Ok x) e is other = tt
error_other (Err d) e is other = subst HasBytes (sym is) other

-- the source didn't fail
pub error_uncounted : {A : Type 0} (r : Result A EventError) (e : EventError) (old new : ℕ) → IsErrAnd r (λ d. d ≡ e) → HasBytes e → new ≡ old → CountsError r old new
error_uncounted (Ok x) e old new is other same = absurd is
error_uncounted (Err d) e old new is other same = same ∙ sym (count_left d old (subst HasBytes (sym is) other))

-- an error that a check gives in one branch
second : {A : Type 0} (b : Bool) (a : A) (d e : EventError) → HasBytes d → (if b then Ok a else Err d) ≡ Err e → HasBytes e
second true a d e other is = absurd cc
second false a d e other is = subst HasBytes (let same : d ≡ e = cc in same) other

first : {A : Type 0} (b : Bool) (d e : EventError) (r : Result A EventError) → HasBytes d → (r ≡ Err e → HasBytes e) → (if b then Err d else r) ≡ Err e → HasBytes e
first true d e r other later is = subst HasBytes (let same : d ≡ e = cc in same) other
first false d e r other later is = later is

exact_part : {A : Type 0} (f : Format A) → IsExact f → IsExactOf HasBytes (part f)
exact_part f ef = exact_map_fault f error.Description ef (λ d k. refl)

exact_lens : (n : ℕ) (server : List ℕ) (created : ℕ) → IsExactToEndOf HasBytes (lens_of n server created)
exact_lens n server created =
    exact_choice_to_end (knows_checksums server) _ _
    (to_end_both _ _ (exact_part _ (exact_take_bytes (n - 58))) (λ lens.
    to_end_both _ _ (exact_part _ (exact_little_endian 1)) (λ number.
    to_end_both _ _ (exact_check (algorithm number) (λ e h. second (nat_lt number 2) (nat_eq number 1) (error.ChecksumAlgorithm number) e refl h)) (λ sums.
    exact_map_all_left _))))
    (exact_map_all_left _)

exact_description : (n : ℕ) → IsExactToEndOf HasBytes (description n)
unfolding description
exact_description n =
    to_end_both _ _ (exact_part _ (exact_little_endian 2)) (λ number.
    to_end_both _ _ (exact_check (only 4 error.BinlogVersion number) (λ e h. second (nat_eq number 4) number (error.BinlogVersion number) e refl h)) (λ _.
    to_end_both _ _ (exact_part _ (exact_take_bytes 50)) (λ version.
    to_end_both _ _ (exact_check (new_enough version) (λ e h. first (is_too_old version) error.ServerVersion e (Ok version) refl (λ none. absurd cc) h)) (λ _.
    to_end_both _ _ (exact_part _ (exact_little_endian 4)) (λ created.
    to_end_both _ _ (exact_part _ (exact_little_endian 1)) (λ header_len.
    to_end_both _ _ (exact_check (only 19 error.HeaderLength header_len) (λ e h. second (nat_eq header_len 19) header_len (error.HeaderLength header_len) e refl h)) (λ _.
    exact_lens n version created)))))))

parts_error : (has : Bool) (r : Raw) (e : EventError) → parts_of has r ≡ Err e → HasBytes e
unfolding parts_of
parts_error false r e is = absurd cc
parts_error true r e is =
    let n = length r.rest - 4 in
    let body = take n r.rest in
    let found = little_number 4 (drop n r.rest) in
    let sum = crc32 (summed_head r ++ body) in
    first (nat_lt (length r.rest) 4) (error.EventSize r.header.event_size) e (summed (is_checked r) (summed_head r) found body) refl
    (second (not (is_checked r) || nat_eq found sum) (record { body = body; checksum = Some found }) (error.Checksum found sum) e refl)
    is

exact_other : (at : ℕ) (d : Option Description) (h : Header) (p : Parts) → IsExactOf HasBytes (other_event at d h p)
exact_other at None h p = exact_choice _ _ _ (exact_no_bytes _) (exact_refusal error.NoDescription refl)
exact_other at (Some d) h p =
    exact_choice _ _ _
    (exact_map_value _ _ (exact_map_fault _ error.TableMap (exact_all_of p.body _ (exact_table_map d.server _)) (λ d k. refl)))
    (exact_choice _ _ _ (exact_no_bytes _) (exact_refusal (error.NotSupported h.event_type) refl))

exact_event_of_raw : (at : ℕ) (d : Option Description) (r : Raw) → IsExactOf HasBytes (event_of_raw at d r)
exact_event_of_raw at d r =
    exact_sequence _ _ (exact_check (parts_of (has_checksum d r) r) (λ e h. parts_error (has_checksum d r) r e h)) (λ p.
    exact_choice (is_description r) _ _
    (exact_map_value _ _ (exact_all_of p.body (description (length p.body)) (exact_description (length p.body))))
    (exact_other at d r.header p))

-- the bytes of an event
pub event_error : (at : ℕ) (d : Option Description) (r : Raw) (e : EventError) → ((x : List ℕ) → Parses (event_of_raw at d r) (Err e) x x) → HasBytes e
event_error at d r e read =
    let exact = exact_event_of_raw at d r in
    exact.of_bytes [] e (exact.refused_sound [] e (read []))

-- the bytes of a header
pub header_error : (head : List ℕ) (e : EventError) → ((x : List ℕ) → Parses (map_fault (within head header) error.Description) (Err e) x x) → HasBytes e
header_error head e read =
    let exact : IsExactOf HasBytes (map_fault (within head header) error.Description) = exact_map_fault _ error.Description (exact_within head header exact_header) (λ d k. refl) in
    exact.of_bytes [] e (exact.refused_sound [] e (read []))
