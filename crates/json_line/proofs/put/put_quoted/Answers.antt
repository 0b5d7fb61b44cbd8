use Rattle.std.proofs.Common.{◌≡◌, rules}
use Rattle.json.specs.Print.{escape}
use Rattle.json_line.proofs.put.put_quoted.Goals as goal

pub returns : goal.returns
returns c =
    let same : escape c.args.text.now ≡ c.args.text.now = search rules in
    rw same (rw c.in_ok-reserve.ensures.items at c.put_quoted.ensures.items)
