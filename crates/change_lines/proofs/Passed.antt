-- Events that are passed over.
use Rattle.std.proofs.Common.{◌≡◌, ◌||◌, ℕ, zero, suc, Bool, true, false, List, [], ◌∷◌, ◌++◌, if◌then◌else◌, Option, None, refl, sym, subst, ap, ◌∙◌, append_assoc, append-nil, inl, inr}
use Rattle.std.specs.Prelude.{nat_eq}
use Rattle.std.specs.Option.{is_some}
use Rattle.std.proofs.lemmas.Bool.{eq-eqb}
use Rattle.std.proofs.lemmas.Bool.Decides.{eqb_tells}
use Rattle.binlog_file.specs.declared.lent_changes.LentEvent.TheVariants as lent
use Rattle.binlog_file.specs.Events.{Event, glance_of, rows_type}
use Rattle.binlog_file.specs.Changes.{Wanted, Spot}
use Rattle.binlog_file.specs.Asked.{is_asked}
use Rattle.binlog_file.specs.LentChanges.{OtherEvent}
use Rattle.binlog_file.specs.LentEvents.{other_of, PassesOver}
use Rattle.binlog_file.proofs.AskedFollowed.{passed_shows}
use Rattle.changed_rows.specs.Gtids.{mysql_gtid, mariadb_gtid, gtid_after}
use Rattle.change_lines.specs.Readings.{seen_types, Passes}
use Rattle.change_lines.specs.Lines.{Manner, AreLines}
use Rattle.change_lines.proofs.Events.{event_more}

-- ---- the GTID stays

left_false : (a b : Bool) → (a || b) ≡ false → a ≡ false
left_false false b h = refl
left_false true b h = absurd cc

right_false : (a b : Bool) → (a || b) ≡ false → b ≡ false
right_false false b h = h
right_false true b h = absurd cc

stays_as : {A : Type 0} (a b c d e : Bool) (x y z old : A) → a ≡ false → b ≡ false → c ≡ false → d ≡ false → e ≡ false → (if a then x else if b then y else if c || (d || e) then z else old) ≡ old
stays_as false false false false false x y z old p q r s t = refl
stays_as true b c d e x y z old p q r s t = absurd cc
stays_as false true c d e x y z old p q r s t = absurd cc
stays_as false false true d e x y z old p q r s t = absurd cc
stays_as false false false true e x y z old p q r s t = absurd cc
stays_as false false false false true x y z old p q r s t = absurd cc

turned : (a b : ℕ) → nat_eq a b ≡ false → nat_eq b a ≡ false
turned a b h = elim (eqb_tells b a) [ inl same ↦ absurd (let bad = sym (eq-eqb a b (sym same.1)) ∙ h in cc) | inr other ↦ other.0 ]

-- none of the types that are looked at
pub record IsUnseenType (t : ℕ) : Type 0 where
  pub mariadb : nat_eq t 0xA2 ≡ false
  pub gtid : nat_eq t 0x21 ≡ false
  pub query : nat_eq t 0x02 ≡ false
  pub description : nat_eq t 0x0F ≡ false
  pub load : nat_eq t 0x12 ≡ false
  pub anonymous : nat_eq t 0x22 ≡ false
  pub tagged : nat_eq t 0x2A ≡ false
  pub compressed : nat_eq t 0xA5 ≡ false
  pub prepare : nat_eq t 0x26 ≡ false
  pub incident : nat_eq t 0x1A ≡ false

pub unseen_type : (t : ℕ) → is_asked seen_types t ≡ false → IsUnseenType t
unseen_type t not =
    let l0 = right_false (is_some (rows_type t)) _ not in
    let l1 = right_false (nat_eq 0xA2 t) _ l0 in
    let l2 = right_false (nat_eq 0x21 t) _ l1 in
    let l3 = right_false (nat_eq 0x02 t) _ l2 in
    let l4 = right_false (nat_eq 0x0F t) _ l3 in
    let l5 = right_false (nat_eq 0x12 t) _ l4 in
    let l6 = right_false (nat_eq 0x22 t) _ l5 in
    let l7 = right_false (nat_eq 0x2A t) _ l6 in
    let l8 = right_false (nat_eq 0xA5 t) _ l7 in
    let l9 = right_false (nat_eq 0x26 t) _ l8 in record {
      mariadb = turned 0xA2 t (left_false (nat_eq 0xA2 t) _ l0);
      gtid = turned 0x21 t (left_false (nat_eq 0x21 t) _ l1);
      query = turned 0x02 t (left_false (nat_eq 0x02 t) _ l2);
      description = turned 0x0F t (left_false (nat_eq 0x0F t) _ l3);
      load = turned 0x12 t (left_false (nat_eq 0x12 t) _ l4);
      anonymous = turned 0x22 t (left_false (nat_eq 0x22 t) _ l5);
      tagged = turned 0x2A t (left_false (nat_eq 0x2A t) _ l6);
      compressed = turned 0xA5 t (left_false (nat_eq 0xA5 t) _ l7);
      prepare = turned 0x26 t (left_false (nat_eq 0x26 t) _ l8);
      incident = turned 0x1A t (left_false (nat_eq 0x1A t) _ l9);
    }

-- an event that isn't looked at leaves the GTID as it is
same_gtid : (old : Option (List ℕ)) (o : OtherEvent) → is_asked seen_types o.header.event_type ≡ false → gtid_after old o ≡ old
same_gtid old o not =
    let t = o.header.event_type in
    let is = unseen_type t not in
    stays_as (nat_eq t 0x21) (nat_eq t 0xA2) (nat_eq t 0x0F) (nat_eq t 0x22) (nat_eq t 0x2A) (mysql_gtid o.body) (mariadb_gtid o.header.server_id o.body) None old is.gtid is.mariadb is.description is.anonymous is.tagged

-- ---- their lines

-- events that come after others
abbrev pub Extends : List Event → List Event → Type 0
Extends es ds = (more : List Event) × (ds ≡ es ++ more)

-- events that give no lines are added to the others
over_more : (f : Manner) (wanted : Wanted) (file : List ℕ) (from : Spot) (gtid : Option (List ℕ)) (es : List Event) (text : List ℕ) (mid : Spot) (here : Option (List ℕ)) (n : ℕ) (new : Spot)
    → AreLines f wanted file from gtid es text mid here → PassesOver seen_types n mid new → (ds : List Event) × AreLines f wanted file from gtid ds text new here × Extends es ds
over_more f wanted file from gtid es text mid here zero new lines same = (es, subst (λ (s : Spot). AreLines f wanted file from gtid es text s here) (sym same) lines, ([], sym (append-nil es)))
over_more f wanted file from gtid es text mid here (suc n) new lines h =
    let before = over_more f wanted file from gtid es text mid here n h.0 lines h.1 in
    let e = h.2.0 in
    let o = other_of (glance_of e) in
    let more = event_more f wanted file from gtid before.0 text h.0 here e new (lent.Other o) [] before.1 h.2.1 (passed_shows wanted seen_types h.0 new h.2) refl in
    let ds = before.0 ++ e ∷ [] in
    let same_text = subst (λ (t : List ℕ). AreLines f wanted file from gtid ds t new (gtid_after here o)) (append-nil text) more in (
      ds,
      subst (λ (g : Option (List ℕ)). AreLines f wanted file from gtid ds text new g) (same_gtid here o h.2.2) same_text,
      (
        before.2.0 ++ e ∷ [],
        ap (λ (l : List Event). l ++ e ∷ []) before.2.1 ∙ append_assoc es before.2.0 (e ∷ []),
      ),
    )

pub passed_more : (f : Manner) (wanted : Wanted) (file : List ℕ) (from : Spot) (gtid : Option (List ℕ)) (es : List Event) (text : List ℕ) (mid : Spot) (here : Option (List ℕ)) (is_each : Bool) (new : Spot)
    → AreLines f wanted file from gtid es text mid here → Passes is_each mid new → (ds : List Event) × AreLines f wanted file from gtid ds text new here × Extends es ds
passed_more f wanted file from gtid es text mid here true new lines same = (es, subst (λ (s : Spot). AreLines f wanted file from gtid es text s here) (sym same) lines, ([], sym (append-nil es)))
passed_more f wanted file from gtid es text mid here false new lines passes = over_more f wanted file from gtid es text mid here passes.0 new lines passes.1

-- none is added where each is looked at
pub passed_same : (f : Manner) (wanted : Wanted) (file : List ℕ) (from : Spot) (gtid : Option (List ℕ)) (es : List Event) (text : List ℕ) (mid : Spot) (here : Option (List ℕ)) (is_each : Bool) (new : Spot)
    (lines : AreLines f wanted file from gtid es text mid here) (passes : Passes is_each mid new) → is_each ≡ true → (passed_more f wanted file from gtid es text mid here is_each new lines passes).0 ≡ es
unfolding passed_more
passed_same f wanted file from gtid es text mid here true new lines same each = refl
passed_same f wanted file from gtid es text mid here false new lines passes each = absurd cc
