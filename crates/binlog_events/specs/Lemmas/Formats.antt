-- The formats of events are exact.
use Rattle.std.specs.Prelude.{ℕ, ◌-◌, List, length, Option, Some, None, ⊤}
use Rattle.binlog_base.specs.Format.{IsExactOf, IsExactToEndOf, IsExact, Format}
use Rattle.binlog_base.specs.Lemmas.Format.{exact_take_or, exact_take_bytes, exact_no_bytes, exact_refusal, exact_check, exact_within, exact_all_of, exact_sequence, exact_map_value, exact_map_fault, exact_choice, exact_choice_to_end, exact_map_all_left, to_end_both}
use Rattle.binlog_base.specs.Lemmas.Numbers.{exact_little_endian}
use Rattle.binlog_table.specs.Lemmas.TableMap.{exact_table_map}
use Rattle.binlog_events.specs.declared.error.EventError.{EventError}
use Rattle.binlog_events.specs.declared.error.EventError.TheVariants as error
use Rattle.binlog_events.specs.Header.{Header, header}
use Rattle.binlog_events.specs.Version.{knows_checksums}
use Rattle.binlog_events.specs.Description.{Description, description, lens_of, part, algorithm}
use Rattle.binlog_events.specs.Events.{Raw, Parts, raw_event, event, event_of_raw, other_event, is_description, has_checksum, parts_of, rest_len, taken}

-- every error is one that bytes can have
abbrev pub Any : EventError → Type 0
Any _ = ⊤

pub exact_header : IsExact header
unfolding header
exact_header =
    exact_sequence _ _ (exact_little_endian 4) (λ timestamp.
    exact_sequence _ _ (exact_little_endian 1) (λ event_type.
    exact_sequence _ _ (exact_little_endian 4) (λ server_id.
    exact_sequence _ _ (exact_little_endian 4) (λ event_size.
    exact_sequence _ _ (exact_little_endian 4) (λ log_pos.
    exact_map_value _ _ (exact_little_endian 2))))))

exact_part : {A : Type 0} (f : Format A) → IsExact f → IsExactOf Any (part f)
exact_part f ef = exact_map_fault f error.Description ef (λ d k. tt)

exact_lens : (n : ℕ) (server : List ℕ) (created : ℕ) → IsExactToEndOf Any (lens_of n server created)
exact_lens n server created =
    exact_choice_to_end (knows_checksums server) _ _
    (to_end_both _ _ (exact_part _ (exact_take_bytes (n - 58))) (λ lens.
    to_end_both _ _ (exact_part _ (exact_little_endian 1)) (λ number.
    to_end_both _ _ (exact_check (algorithm number) (λ e h. tt)) (λ sums.
    exact_map_all_left _))))
    (exact_map_all_left _)

pub exact_description : (n : ℕ) → IsExactToEndOf Any (description n)
unfolding description
exact_description n =
    to_end_both _ _ (exact_part _ (exact_little_endian 2)) (λ number.
    to_end_both _ _ (exact_check _ (λ e h. tt)) (λ _.
    to_end_both _ _ (exact_part _ (exact_take_bytes 50)) (λ version.
    to_end_both _ _ (exact_check _ (λ e h. tt)) (λ _.
    to_end_both _ _ (exact_part _ (exact_little_endian 4)) (λ created.
    to_end_both _ _ (exact_part _ (exact_little_endian 1)) (λ header_len.
    to_end_both _ _ (exact_check _ (λ e h. tt)) (λ _.
    exact_lens n version created)))))))

pub exact_taken : (n : ℕ) → IsExactOf Any (taken n)
exact_taken n = exact_take_or (λ there. error.Cut (n - there)) n (λ m h. tt)

pub exact_raw_event : IsExactOf Any raw_event
unfolding raw_event
exact_raw_event =
    exact_sequence _ _ (exact_taken 19) (λ head.
    exact_sequence _ _ (exact_map_fault _ error.Description (exact_within head header exact_header) (λ d k. tt)) (λ h.
    exact_sequence _ _ (exact_check (rest_len h) (λ e h. tt)) (λ n.
    exact_map_value _ _ (exact_taken n))))

exact_other : (at : ℕ) (d : Option Description) (h : Header) (p : Parts) → IsExactOf Any (other_event at d h p)
exact_other at None h p = exact_choice _ _ _ (exact_no_bytes _) (exact_refusal error.NoDescription tt)
exact_other at (Some d) h p =
    exact_choice _ _ _
    (exact_map_value _ _ (exact_map_fault _ error.TableMap (exact_all_of p.body _ (exact_table_map d.server _)) (λ d k. tt)))
    (exact_choice _ _ _ (exact_no_bytes _) (exact_refusal (error.NotSupported h.event_type) tt))

pub exact_event_of_raw : (at : ℕ) (d : Option Description) (r : Raw) → IsExactOf Any (event_of_raw at d r)
exact_event_of_raw at d r =
    exact_sequence _ _ (exact_check (parts_of (has_checksum d r) r) (λ e h. tt)) (λ p.
    exact_choice (is_description r) _ _
    (exact_map_value _ _ (exact_all_of p.body (description (length p.body)) (exact_description (length p.body))))
    (exact_other at d r.header p))

pub exact_event : (at : ℕ) (d : Option Description) → IsExactOf Any (event at d)
unfolding event
exact_event at d = exact_sequence _ _ exact_raw_event (exact_event_of_raw at d)
