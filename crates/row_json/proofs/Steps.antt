-- Steps of what is written.
use Rattle.std.proofs.Common.{◌≡◌, ℕ, List, [], ◌∷◌, ◌++◌, refl, sym, ap, ◌∙◌, append_assoc, append-nil}
use Rattle.std.specs.Prelude.{OnOk, Result, Ok, Err}
use Rattle.std.specs.List.{flat_map}
use Rattle.std.proofs.lemmas.Grind.{flat_map-append}
use Rattle.json.specs.Token.{Token}
use Rattle.json.specs.Token as token
use Rattle.json.specs.Json.{Json, object}
use Rattle.json.specs.Tree.{json_tokens, items_tokens, members_tokens}
use Rattle.json_line.specs.Written.{Written, Writes}
use Rattle.row_json.specs.Wrote.{Adds, AddsSome, Wrote, Named, named_tokens, items_of, members_of, object_end}

-- two writes, one after the other
pub adds_both : {a b c : Written} (ts us : List Token) → Adds a b ts → Adds b c us → Adds a c (ts ++ us)
adds_both ts us x y = record { before = y.before ∙ x.before; tokens = y.tokens ∙ ap (λ l. l ++ us) x.tokens ∙ append_assoc _ ts us }

pub adds_nothing : (a : Written) → Adds a a []
adds_nothing a = record { before = refl; tokens = sym (append-nil a.tokens) }

pub adds_same : {a b : Written} (ts us : List Token) → ts ≡ us → Adds a b ts → Adds a b us
adds_same {a} ts us e x = record { before = x.before; tokens = x.tokens ∙ ap (λ (l : List Token). a.tokens ++ l) e }

-- the written token of a call that succeeded
pub adds_token : {E : Type 0} (r : Result (Unit {0}) E) (a b : Written) (t : Token) → Writes r a b t → OnOk r (Adds a b (t ∷ []))
adds_token (Ok _) a b t w = record { before = w.before; tokens = w.ok }
adds_token (Err _) a b t w = tt

-- the same for a string or a key whose text is known otherwise
pub adds_string : {E : Type 0} (r : Result (Unit {0}) E) (a b : Written) (s t : List ℕ) → s ≡ t → Writes r a b (token.string s) → OnOk r (Adds a b (token.string t ∷ []))
adds_string (Ok _) a b s t e w = record { before = w.before; tokens = w.ok ∙ ap (λ (l : List ℕ). a.tokens ++ token.string l ∷ []) e }
adds_string (Err _) a b s t e w = tt

-- a value of which it is known what it is
pub wrote_value : {E : Type 0} (r : Result (Unit {0}) E) (a b : Written) (Is : Json → Type 0) (j : Json) → Is j → OnOk r (Adds a b (json_tokens j)) → OnOk r (Wrote Is a b)
wrote_value (Ok _) a b Is j is adds = record { value = j; is = is; adds = adds }
wrote_value (Err _) a b Is j is adds = tt

-- the same tokens, of a value that is known otherwise
pub adds_equal : {E : Type 0} (r : Result (Unit {0}) E) (a b : Written) (j k : Json) → j ≡ k → OnOk r (Adds a b (json_tokens j)) → OnOk r (Adds a b (json_tokens k))
adds_equal (Ok _) a b j k e adds = adds_same (json_tokens j) (json_tokens k) (ap json_tokens e) adds
adds_equal (Err _) a b j k e adds = tt

-- the tokens of the items of an array, and its closing bracket
abbrev pub array_end : List Json → List Token
array_end js = flat_map json_tokens js ++ token.end_array ∷ []

pub items_end : (js : List Json) → items_tokens (items_of js) ≡ array_end js
items_end [] = refl
items_end (j ∷ js) = ap (λ l. json_tokens j ++ l) (items_end js) ∙ sym (append_assoc (json_tokens j) _ _)

pub members_end : (ms : List Named) → members_tokens (members_of ms) ≡ object_end ms
members_end [] = refl
members_end (m ∷ ms) = ap (λ l. token.key m.0 ∷ (json_tokens m.1 ++ l)) (members_end ms) ∙ ap (λ l. token.key m.0 ∷ l) (sym (append_assoc (json_tokens m.1) _ _))

-- members, and then more members
pub adds_members : {a b c : Written} (ms more : List Named) → Adds a b (flat_map named_tokens ms) → Adds b c (flat_map named_tokens more) → Adds a c (flat_map named_tokens (ms ++ more))
adds_members ms more x y = adds_same _ _ (sym (flat_map-append named_tokens ms more)) (adds_both _ _ x y)

-- an object: its opening bracket, its members, and its closing bracket
pub adds_object : {a b c d : Written} (ms : List Named) → Adds a b (token.begin_object ∷ []) → Adds b c (flat_map named_tokens ms) → Adds c d (token.end_object ∷ []) → Adds a d (json_tokens (object (members_of ms)))
adds_object ms begun written ended =
    adds_same _ _ (ap (λ (l : List Token). token.begin_object ∷ l) (sym (members_end ms))) (adds_both (token.begin_object ∷ []) _ begun (adds_both _ (token.end_object ∷ []) written ended))

-- a call that wrote one token, which is the whole value
pub token_wrote : {E : Type 0} (r : Result (Unit {0}) E) (a b : Written) (t : Token) (j : Json) (Is : Json → Type 0) → json_tokens j ≡ t ∷ [] → Writes r a b t → Is j → OnOk r (Wrote Is a b)
token_wrote (Ok _) a b t j Is e w is = record { value = j; is = is; adds = adds_same (t ∷ []) (json_tokens j) (sym e) (record { before = w.before; tokens = w.ok }) }
token_wrote (Err _) a b t j Is e w is = tt

pub wrote_weaker : {a b : Written} (Is Be : Json → Type 0) → ((j : Json) → Is j → Be j) → Wrote Is a b → Wrote Be a b
wrote_weaker Is Be f w = record { value = w.value; is = f w.value w.is; adds = w.adds }

-- ---- what stays

pub some_none : (a : Written) → AddsSome a a
some_none a = record { added = []; adds = adds_nothing a }

pub some_more : {a b c : Written} → AddsSome b c → AddsSome a b → AddsSome a c
some_more x y = record { added = y.added ++ x.added; adds = adds_both y.added x.added y.adds x.adds }

-- a call that writes one token
pub some_token : {E : Type 0} {a b c : Written} (r : Result (Unit {0}) E) (t : Token) → Writes r b c t → AddsSome a b → AddsSome a c
some_token (Ok _) t w x = some_more (record { added = t ∷ []; adds = record { before = w.before; tokens = w.ok } }) x
some_token {b = b} (Err _) t w x = some_more (record { added = []; adds = record { before = w.before; tokens = w.err ∙ sym (append-nil b.tokens) } }) x

-- what is known to have been written
pub some_adds : {a b : Written} (ts : List Token) → Adds a b ts → AddsSome a b
some_adds ts x = record { added = ts; adds = x }

pub some_wrote : {a b : Written} (Is : Json → Type 0) → Wrote Is a b → AddsSome a b
some_wrote Is w = record { added = json_tokens w.value; adds = w.adds }

pub ruleset stays = (some_none, some_more, some_token, some_adds)
