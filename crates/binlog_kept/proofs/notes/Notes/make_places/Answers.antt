use Rattle.std.proofs.Common.{arith, ◌≡◌, ◌%◌, length}
use Rattle.binlog_kept.proofs.Places.{none_at_first, none_in_nothing}
use Rattle.binlog_kept.proofs.notes.Notes.make_places.Goals as goal

pub returns-in_ok-places-clause-noted : goal.returns-in_ok-places-clause-noted
returns-in_ok-places-clause-noted c =
    let none : length c.args.self.now ≡ 0 = c.is_empty.ensures.0 c.if-is_empty.true in
    λ k. (λ noted. elim (none_at_first 8192 k (omega arith) c.in_ok-places.places.items (c.in_ok-places.ensures.items_if_clones_equal (λ y same. same)) noted) [ ], λ noted. elim (none_in_nothing c.args.self.now (k % 8192) k none noted) [ ])
