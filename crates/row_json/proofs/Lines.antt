-- The lines of pairs.
use Rattle.std.proofs.Common.{◌≡◌, ℕ, List, [], ◌++◌, sym, ap, subst, ◌∙◌, append-nil}
use Rattle.std.specs.Prelude.{codes, option_and_then}
use Rattle.mysql_binlog_rows.specs.Images.{Pair}
use Rattle.mysql_binlog_rows.specs.RowsEvent.{RowsEvent}
use Rattle.json.specs.Token.{Token}
use Rattle.json.specs.Tree.{json_tokens}
use Rattle.json.specs.Json.{value, max_depth, if_last}
use Rattle.json.specs.Print.{print}
use Rattle.json.specs.Lex.{tokens}
use Rattle.json_line.specs.Written.{Written}
use Rattle.json.proofs.Printed.Trees.{value-json_tokens}
use Rattle.row_json.specs.Columns.{Column}
use Rattle.row_json.specs.Rows.{IsPairJson, IsLine}
use Rattle.row_json.specs.Wrote.{Wrote, Named, Fits}
use Rattle.row_json.proofs.Depths.{pair_fits}

-- what a writer holds that began with nothing
pub line_is : (cs : List Column) (e : RowsEvent) (added : List Named) (pair : Pair) (a b : Written) → Fits added → a.before ≡ [] → a.tokens ≡ [] → Wrote (IsPairJson cs e added pair) a b →
    tokens (print b.tokens) ≡ b.tokens → IsLine cs e added pair (b.before ++ print b.tokens ++ codes "\n")
line_is cs e added pair a b fits before empty w reads =
    let nothing : b.before ≡ [] = w.adds.before ∙ before in
    let ts : b.tokens ≡ json_tokens w.value = w.adds.tokens ∙ ap (λ (l : List Token). l ++ json_tokens w.value) empty in
    let back : tokens (print (json_tokens w.value)) ≡ json_tokens w.value = subst (λ (l : List Token). tokens (print l) ≡ l) ts reads in record {
      value = w.value;
      is = w.is;
      text = ap (λ (l : List ℕ). l ++ print b.tokens ++ codes "\n") nothing ∙ ap (λ (l : List Token). print l ++ codes "\n") ts;
      reads_back = ap (option_and_then (λ p. if_last p.0 p.1)) (ap (value max_depth) (back ∙ sym (append-nil (json_tokens w.value))) ∙ value-json_tokens w.value max_depth [] (pair_fits cs e added pair w.value fits w.is));
    }
