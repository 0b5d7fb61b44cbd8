use Rattle.std.proofs.Common.{[], ◌∷◌, refl}
use Rattle.std.specs.Prelude.{codes, decimal}
use Rattle.json.specs.Token as token
use Rattle.row_json.specs.Wrote.{Adds}
use Rattle.row_json.proofs.Steps.{adds_both}
use Rattle.tests_json.proofs.tests.SourceMembers.write.Goals as goal

pub returns-clause-written : goal.returns-clause-written
returns-clause-written c =
    let source = c.args.self.now in
    let name : Adds c.args.out.now c.key.new.self (token.key (codes "source") ∷ []) = record { before = c.key.ensures.before; tokens = c.in_ok-key.ensures.ok } in
    let begun : Adds c.key.new.self c.begin_object.new.self (token.begin_object ∷ []) = record { before = c.begin_object.ensures.before; tokens = c.in_ok-begin_object.ensures.ok } in
    let file_name : Adds c.begin_object.new.self c.key-2.new.self (token.key (codes "file") ∷ []) = record { before = c.key-2.ensures.before; tokens = c.in_ok-key-2.ensures.ok } in
    let file : Adds c.key-2.new.self c.string.new.self (token.string source.file.now ∷ []) = record { before = c.string.ensures.before; tokens = c.in_ok-string.ensures.ok } in
    let position_name : Adds c.string.new.self c.key-3.new.self (token.key (codes "position") ∷ []) = record { before = c.key-3.ensures.before; tokens = c.in_ok-key-3.ensures.ok } in
    let position : Adds c.key-3.new.self c.u64.new.self (token.number (decimal source.position) ∷ []) = record { before = c.u64.ensures.before; tokens = c.in_ok-u64.ensures.ok } in
    let snapshot_name : Adds c.u64.new.self c.key-4.new.self (token.key (codes "is_snapshot") ∷ []) = record { before = c.key-4.ensures.before; tokens = c.in_ok-key-4.ensures.ok } in
    let snapshot : Adds c.key-4.new.self c.boolean.new.self (token.boolean source.is_snapshot ∷ []) = record { before = c.boolean.ensures.before; tokens = c.in_ok-boolean.ensures.ok } in
    let ended : Adds c.boolean.new.self c.end_object.new.self (token.end_object ∷ []) = record { before = c.end_object.ensures.before; tokens = c.in_ok-end_object.ensures.ok } in
    (_, refl, adds_both _ _ name (adds_both _ _ begun (adds_both _ _ file_name (adds_both _ _ file (adds_both _ _ position_name (adds_both _ _ position (adds_both _ _ snapshot_name (adds_both _ _ snapshot ended))))))))
