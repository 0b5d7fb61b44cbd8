-- The next event of a source that is asked for.
use Rattle.std.proofs.Common.{◌≡◌, ℕ, suc, Bool, false, List, Option, Some, None, Result, Ok, refl, sym, subst}
use Rattle.std.specs.Prelude.{IsTrue}
use Rattle.binlog_events.specs.declared.error.FileError.{FileError}
use Rattle.binlog_file.specs.declared.lent_changes.LentEvent.{LentEvent}
use Rattle.binlog_file.specs.Events.{Glance}
use Rattle.binlog_file.specs.Stream.{Reading, ReaderGlances, MayGoOn}
use Rattle.binlog_file.specs.Changes.{Wanted}
use Rattle.binlog_file.specs.Asked.{is_asked}
use Rattle.binlog_file.specs.LentEvents.{IsAsked}
use Rattle.binlog_file.specs.SourceChanges.{Found, Finds, spot_at, SourceEvent, SourcePasses, SourceAsked}
use Rattle.binlog_file.proofs.SourceFollowed.{took}
use Rattle.binlog_file.proofs.SourceLent.{here, not_true}

pub none_passed : (types : List ℕ) (old : Option (List ℕ)) (r : Reading) (p : Option FileError) → SourcePasses types old r p old r p
none_passed types old r p = λ x finds. (x, finds, 0, refl)

-- one more event is passed over
pub one_passed : (types : List ℕ) (old mid new : Option (List ℕ)) (r m s : Reading) (p : Option FileError) (g : Glance) → SourcePasses types old r p mid m None → MayGoOn m → ReaderGlances mid m (Ok (Some g)) new s → is_asked types g.header.event_type ≡ false
    → SourcePasses types old r p new s None
one_passed types old mid new r m s p g passes on gives not = λ x finds.
    let h = passes x finds in
    let known = here m mid h.0 on h.1 in
    let e = gives.glances in
    let t = took mid new h.0 m.kept s.kept e.0 known.0 known.1 e.2 in
    let going : s.is_over ≡ false = not_true s.is_over (λ is. absurd (let bad : IsTrue false = gives.ended.0 is in cc)) in
    let found : Finds s new t.z = subst (λ (b : Bool). Found b s.kept.at new t.z) (sym going) (t.left, t.small) in (
      t.z,
      found,
      suc h.2,
      (
        spot_at m.kept None h.0,
        h.3,
        (
          e.0,
          record { gives = t.gives; in_force = t.tables; ends_before = refl; goes_on = refl },
          subst (λ (x : Glance). is_asked types x.header.event_type ≡ false) e.1 not,
        ),
      ),
    )

-- the next event after those that are passed over
pub asked_after : (w : Wanted) (types : List ℕ) (old mid new : Option (List ℕ)) (r m s : Reading) (p k q : Option FileError) (item : Option (Result LentEvent FileError)) → SourcePasses types old r p mid m k → SourceEvent w mid m k item new s q → IsAsked types item
    → SourceAsked w types old r p item new s q
asked_after w types old mid new r m s p k q item passes event asked = λ x finds.
    let h = passes x finds in
    let e = event h.0 h.1 in
    (e.0, e.1, record { passed = h.2; at = spot_at m.kept k h.0; passes = h.3; gives = e.2; is_asked_for = asked })
