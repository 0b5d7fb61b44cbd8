use Rattle.std.proofs.Common.{◌≡◌, ◌&&◌, Bor, rules, tests, sym, ap, ◌∙◌}
use Rattle.std.specs.Prelude.{nat_le, find}
use Rattle.std.specs.Option.{option_map}
use Rattle.std.proofs.lemmas.Iterator.{YieldsList-from_slice}
use Rattle.std.proofs.lemmas.Iterator.Search.{find_from_yields_List}
use Rattle.row_json.specs.Charsets.{Range, ranges, charset_in}
use Rattle.row_json.proofs.charset.charset_of.Goals as goal

pub returns-in-Some : goal.returns-in-Some
returns-in-Some c =
    let test = λ (r : Range). nat_le r.0 c.args.collation && nat_le c.args.collation r.1 in
    let e : option_map (λ (r : Bor Range). r.now) c.find.result ≡ find test ranges = find_from_yields_List test _ _ c.find.result c.find.ensures.ran (YieldsList-from_slice ranges (cc)) (λ x b q k. search (rules, tests)) in
    ap charset_in (sym (ap (option_map (λ (r : Bor Range). r.now)) c.in-Some.is) ∙ e)

pub returns-in-None : goal.returns-in-None
returns-in-None c =
    let test = λ (r : Range). nat_le r.0 c.args.collation && nat_le c.args.collation r.1 in
    let e : option_map (λ (r : Bor Range). r.now) c.find.result ≡ find test ranges = find_from_yields_List test _ _ c.find.result c.find.ensures.ran (YieldsList-from_slice ranges (cc)) (λ x b q k. search (rules, tests)) in
    ap charset_in (sym (ap (option_map (λ (r : Bor Range). r.now)) c.in-None.is) ∙ e)
