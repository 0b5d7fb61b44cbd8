use Rattle.std.proofs.Common.{◌≡◌, [], ◌∷◌, ◌++◌, rules}
use Rattle.std.specs.Str.{IsAscii}
use Rattle.json.specs.Token as token
use Rattle.row_json.proofs.Ascii.{latin1_ascii}
use Rattle.row_json.proofs.text.write_text.Goals as goal

pub returns-then-branch-clause-written : goal.returns-then-branch-clause-written
returns-then-branch-clause-written c =
    let bytes = c.args.bytes.now in
    let ascii : IsAscii bytes = search rules in
    let written : c.ascii_string.new.self.tokens ≡ c.args.out.now.tokens ++ token.string bytes ∷ [] = search rules in
    rw (c.in-Latin1.is, latin1_ascii bytes ascii) (record { before = c.ascii_string.ensures.before; tokens = written })
