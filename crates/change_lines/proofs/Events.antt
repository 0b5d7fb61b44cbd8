-- Lines of events, one after the other.
use Rattle.std.proofs.Common.{ℕ, List, [], ◌∷◌, ◌++◌, Option, refl, sym, ap, subst, ◌∙◌, append_assoc, append-nil}
use Rattle.binlog_file.specs.declared.lent_changes.LentEvent.{LentEvent}
use Rattle.binlog_file.specs.Events.{Event, glance_of}
use Rattle.binlog_file.specs.Changes.{Wanted, Spot}
use Rattle.binlog_file.specs.LentEvents.{Shows, GoesPast}
use Rattle.change_lines.specs.Lines.{Manner, AreEventLines, gtid_past, AreLines}

-- one event more was read, and its lines come after the others
pub event_more : (f : Manner) (wanted : Wanted) (file : List ℕ) (old : Spot) (gtid : Option (List ℕ)) (es : List Event) (text : List ℕ) (mid : Spot) (here : Option (List ℕ)) (e : Event) (new : Spot) (x : LentEvent) (line : List ℕ)
    → AreLines f wanted file old gtid es text mid here → GoesPast mid e new → Shows wanted new.in_force.tables (glance_of e) x → AreEventLines f file here x line
    → AreLines f wanted file old gtid (es ++ e ∷ []) (text ++ line) new (gtid_past here x)
event_more f wanted file old gtid [] text mid here e new x line h past shows lines = (
  new,
  subst (λ (s : Spot). GoesPast s e new) h.0 past,
  x,
  shows,
  line,
  [],
  subst (λ (g : Option (List ℕ)). AreEventLines f file g x line) h.1 lines,
  (refl, ap (λ (g : Option (List ℕ)). gtid_past g x) h.1, refl),
  ap (λ (t : List ℕ). t ++ line) h.2 ∙ sym (append-nil line),
)
event_more f wanted file old gtid (d ∷ es) text mid here e new x line h past shows lines = (
  h.0,
  h.1,
  h.2,
  h.3,
  h.4,
  h.5 ++ line,
  h.6,
  event_more f wanted file h.0 (gtid_past gtid h.2) es h.5 mid here e new x line h.7 past shows lines,
  ap (λ (t : List ℕ). t ++ line) h.8 ∙ append_assoc h.4 h.5 line,
)
