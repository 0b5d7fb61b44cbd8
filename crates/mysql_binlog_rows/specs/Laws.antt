-- The statements that the functions of `laws.rt` prove about pairs of rows.
use Rattle.std.specs.Prelude.{◌≡◌, ◌≢◌, ℕ, List, [], ◌++◌, Option, Some}
use Rattle.std.specs.List.{concat}
use Rattle.binlog_base.specs.declared.fault.Fault.{Fault}
use Rattle.binlog_base.specs.declared.fault.Fault.TheVariants.{Memory}
use Rattle.binlog_table.specs.TableMap.{TableMap}
use Rattle.mysql_binlog_rows.specs.RowsEvent.{RowsEvent}
use Rattle.mysql_binlog_rows.specs.Images.{Pair, pair}
use Rattle.mysql_binlog_rows.specs.Cover.{IsPair, ArePairs, Covers}
use Rattle.mysql_binlog_rows.specs.Rows.{Rows, GivesPairsOf, AreItems}

-- two lists of pairs of an event that have the same bytes are the same list
abbrev pub OneListOfPairs : Type 0
OneListOfPairs = (t : TableMap) (e : RowsEvent) (xs ys : List (List ℕ)) (ps qs : List Pair) → ArePairs (pair t e) xs ps → ArePairs (pair t e) ys qs → concat xs ≡ concat ys → (xs ≡ ys) × (ps ≡ qs)

-- no pair is a proper prefix of another
abbrev pub NoProperPrefix : Type 0
NoProperPrefix = (t : TableMap) (e : RowsEvent) (x more : List ℕ) (p q : Pair) → IsPair (pair t e) x p → IsPair (pair t e) (x ++ more) q → more ≡ []

-- The items of an iterator over the pairs of two events, from any state up to its first fault or its
-- end, are the pairs that cover the bytes that are left, and the fault there. Only where memory was
-- refused is nothing said.
abbrev pub ItemsAreTheCover : Type 0
ItemsAreTheCover = (t : TableMap) (e : RowsEvent) (s : Rows) (ps : List Pair) (end : Option Fault) → GivesPairsOf t e s → AreItems s ps end → end ≢ Some Memory → Covers (pair t e) s.left ps end

-- rows data has only one list of pairs up to its first fault, and only one such fault
abbrev pub OneCover : Type 0
OneCover = (t : TableMap) (e : RowsEvent) (rows_data : List ℕ) (ps qs : List Pair) (end other : Option Fault) → Covers (pair t e) rows_data ps end → Covers (pair t e) rows_data qs other → (ps ≡ qs) × (end ≡ other)
