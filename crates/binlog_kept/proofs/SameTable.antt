-- The body of a table map event is one table map event.
use Rattle.std.proofs.Common.{◌≡◌, ℕ, List, [], Ok, sym, ap, ◌∙◌}
use Rattle.binlog_base.specs.declared.below.columns.server.Server.{Server}
use Rattle.binlog_table.specs.TableMap.{TableMap}
use Rattle.binlog_events.specs.Workings.TableBodies.{ReadsTable}

pub same_table : (server : Server) (n : ℕ) (body : List ℕ) (t u : TableMap) → ReadsTable server n body (Ok t) → ReadsTable server n body (Ok u) → t ≡ u
same_table server n body t u p q =
    let same = sym (p []) ∙ q [] in
    let first : TableMap × List ℕ = (t, []) in
    let second : TableMap × List ℕ = (u, []) in
    let pairs : first ≡ second = cc in
    ap (λ (r : TableMap × List ℕ). r.0) pairs
