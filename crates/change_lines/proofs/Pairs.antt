-- The pairs of an event, read one after the other.
use Rattle.std.proofs.Common.{◌≡◌, ◌+◌, ℕ, List, [], ◌∷◌, ◌++◌, length, Some, None, Result, Ok, refl, ap, subst, arith, length-append}
use Rattle.binlog_table.specs.TableMap.{TableMap}
use Rattle.mysql_binlog_rows.specs.RowsEvent.{RowsEvent}
use Rattle.mysql_binlog_rows.specs.Images.{Pair, pair}
use Rattle.mysql_binlog_rows.specs.Cover.{IsPair, Covers}
use Rattle.mysql_binlog_rows.proofs.Covers.{SoFar, one_pair_more, covers_from}
use Rattle.binlog_events.specs.declared.error.FileError.{FileError}
use Rattle.binlog_file.specs.LentChanges.{LentChange, PairGives}

-- nothing was read
pub nothing_read : (t : TableMap) (e : RowsEvent) (left : List ℕ) → SoFar (pair t e) left [] left
nothing_read t e left = ([], refl, tt)

-- one pair more was read
pub pair_read : (t : TableMap) (e : RowsEvent) (whole : List ℕ) (ps : List Pair) (old new : LentChange) (p : Pair) (u : Unit {0}) → old.table ≡ t → old.rows ≡ e
    → SoFar (pair t e) whole ps old.left → PairGives old p (Some (Ok u)) new → SoFar (pair t e) whole (ps ++ p ∷ []) new.left
pair_read t e whole ps old new p u table rows so_far gives =
    let is : IsPair (pair t e) gives.0 p = subst (λ (d : RowsEvent). IsPair (pair t d) gives.0 p) rows (subst (λ (s : TableMap). IsPair (pair s old.rows) gives.0 p) table gives.2) in
    one_pair_more (pair t e) whole ps old.left new.left gives.0 p so_far gives.1 is

-- all pairs were read
pub all_read : (t : TableMap) (e : RowsEvent) (whole : List ℕ) (ps : List Pair) (old new : LentChange) (p : Pair) → SoFar (pair t e) whole ps old.left → PairGives old p None new → Covers (pair t e) whole ps None
all_read t e whole ps old new p so_far gives = covers_from (pair t e) whole ps old.left None so_far gives.0

-- what stays of the event
pub same_table : (old new : LentChange) (p : Pair) (u : Unit {0}) → PairGives old p (Some (Ok u)) new → new.table ≡ old.table
same_table old new p u gives = ap (λ (c : LentChange). c.table) gives.3

pub same_rows : (old new : LentChange) (p : Pair) (u : Unit {0}) → PairGives old p (Some (Ok u)) new → new.rows ≡ old.rows
same_rows old new p u gives = ap (λ (c : LentChange). c.rows) gives.3

pub same_origin : (old new : LentChange) (p : Pair) (u : Unit {0}) → PairGives old p (Some (Ok u)) new → new.origin ≡ old.origin
same_origin old new p u gives = ap (λ (c : LentChange). c.origin) gives.3

pub one_more : (old new : LentChange) (p : Pair) (u : Unit {0}) → PairGives old p (Some (Ok u)) new → new.count ≡ old.count + 1
one_more old new p u gives = ap (λ (c : LentChange). c.count) gives.3

-- the number of the next pair, after one more was read
pub counted_more : (c old new : LentChange) (ps : List Pair) (p : Pair) (u : Unit {0}) → PairGives old p (Some (Ok u)) new → old.count ≡ c.count + length ps → new.count ≡ c.count + length (ps ++ p ∷ [])
counted_more c old new ps p u gives so_far = omega (arith, one_more old new p u gives, so_far, length-append ps (p ∷ []))

-- a pair that was read is one that the event gives
pub ok_gives : (old new : LentChange) (p : Pair) (r : Result (Unit {0}) FileError) (u : Unit {0}) → r ≡ Ok u → PairGives old p (Some r) new → PairGives old p (Some (Ok u)) new
ok_gives old new p r u is h = subst (λ (x : Result (Unit {0}) FileError). PairGives old p (Some x) new) is h
