-- A format says which bytes spell which values, and which fault is given where no prefix of the
-- bytes spells any.
use Rattle.std.specs.Prelude.{◌≡◌, ◌≢◌, ℕ, ◌<◌, Bool, true, false, List, [], ◌++◌, length, take, drop, Result, Ok, Err, Option, Some, None, nat_lt, if◌then◌else◌, ◌⊎◌, ⊤}
use Rattle.std.specs.Bool.{MatchBool}
use Rattle.binlog_base.specs.declared.fault.Fault.{Fault}
use Rattle.binlog_base.specs.declared.fault.Fault.TheVariants.{UnexpectedEof, Memory}
use Rattle.binlog_base.specs.Faults.{IsOfBytes}

-- spells: these bytes, all of them, spell (encode) this value.
-- refuses: no prefix of these bytes spells a value, and the fault is that of the first part that
-- isn't valid.
-- parse: reads from the left, and gives the value of a prefix and the bytes after it, or the fault.
-- E is the type of the faults.
pub record FormatOf (E A : Type 0) : Type 1 where
  pub spells : List ℕ → A → Type 0
  pub refuses : List ℕ → E → Type 0
  pub parse : List ℕ → Result (A × List ℕ) E

-- with the faults of this library
abbrev pub Format : Type 0 → Type 1
Format A = FormatOf Fault A

-- the next step for a value; a fault stays
infixl 10 ◌>>=◌
abbrev pub ◌>>=◌ : {E A B : Type 0} → Result A E → (A → Result B E) → Result B E
(Ok x) >>= f = f x
(Err e) >>= f = Err e

-- the same result, with its fault told as another
abbrev pub fault_map : {D E A : Type 0} → (D → E) → Result A D → Result A E
fault_map g (Ok a) = Ok a
fault_map g (Err d) = Err (g d)

-- ---- ways to make a format

-- n bytes, whatever they are; the fault, where there are fewer, is told how many there are
abbrev pub take_or : {E : Type 0} → (ℕ → E) → ℕ → FormatOf E (List ℕ)
take_or short n = record {
  spells = λ x v. (v ≡ x) × (length x ≡ n);
  refuses = λ x e. (length x < n) × (e ≡ short (length x));
  parse = λ x. if nat_lt (length x) n then Err (short (length x)) else Ok (take n x, drop n x);
}

-- n bytes, or UnexpectedEof where there are fewer
abbrev pub take_bytes : ℕ → Format (List ℕ)
take_bytes n = take_or (λ _. UnexpectedEof) n

-- no bytes, and this value
abbrev pub no_bytes : {E A : Type 0} → A → FormatOf E A
no_bytes a = record {
  spells = λ x b. (x ≡ []) × (b ≡ a);
  refuses = λ x e. ⊥;
  parse = λ x. Ok (a, x);
}

-- always refused, with this fault
abbrev pub refusal : {E A : Type 0} → E → FormatOf E A
refusal {E} {A} d = record {
  spells = λ x (a : A). ⊥;
  refuses = λ x e. e ≡ d;
  parse = λ x. Err d;
}

-- a check of what was read before: it takes no bytes, and gives a value or a fault
abbrev pub check : {E A : Type 0} → Result A E → FormatOf E A
check {E} {A} r = record {
  spells = λ x a. (x ≡ []) × (r ≡ Ok a);
  refuses = λ x e. r ≡ Err e;
  parse = λ x. r >>= λ a. Ok (a, x);
}

-- a value at the start of bytes that were read before; bytes after it are ignored
abbrev pub within : {E A : Type 0} → List ℕ → FormatOf E A → FormatOf E A
within {E} {A} b f = record {
  spells = λ x a. (x ≡ []) × (y z : List ℕ) × (b ≡ y ++ z) × f.spells y a;
  refuses = λ x e. f.refuses b e;
  parse = λ x. f.parse b >>= λ r. Ok (r.0, x);
}

-- a value that takes all of the bytes that were read before
abbrev pub all_of : {E A : Type 0} → List ℕ → FormatOf E A → FormatOf E A
all_of {E} {A} b f = record {
  spells = λ x a. (x ≡ []) × f.spells b a;
  refuses = λ x e. f.refuses b e;
  parse = λ x. f.parse b >>= λ r. Ok (r.0, x);
}

-- One format after the other; the second may depend on the first's value. The fault is that of the
-- first of the two that is refused.
abbrev pub sequence : {E A B : Type 0} → FormatOf E A → (A → FormatOf E B) → FormatOf E B
sequence {E} {A} {B} f g = record {
  spells = λ x b. (a : A) × (y z : List ℕ) × (x ≡ y ++ z) × f.spells y a × (g a).spells z b;
  refuses = λ x e. f.refuses x e ⊎ ((a : A) × (y z : List ℕ) × (x ≡ y ++ z) × f.spells y a × (g a).refuses z e);
  parse = λ x. f.parse x >>= λ r. (g r.0).parse r.1;
}

-- n bytes, and in them a value that takes all of them
abbrev pub inside : {A : Type 0} → ℕ → Format A → Format A
inside n f = sequence (take_bytes n) (λ b. all_of b f)

-- a format whose value is computed from that of another format, by the same bytes
abbrev pub map_value : {E A B : Type 0} → FormatOf E A → (A → B) → FormatOf E B
map_value f g = sequence f (λ a. no_bytes (g a))

-- the same values by the same bytes, and the faults told as others
abbrev pub map_fault : {D E A : Type 0} → FormatOf D A → (D → E) → FormatOf E A
map_fault {D} f g = record {
  spells = f.spells;
  refuses = λ x e. (d : D) × f.refuses x d × (e ≡ g d);
  parse = λ x. fault_map g (f.parse x);
}

-- the first format where the condition is true, else the second
abbrev pub choice : {E A : Type 0} → Bool → FormatOf E A → FormatOf E A → FormatOf E A
choice b f g = record {
  spells = λ x a. MatchBool b (f.spells x a) (g.spells x a);
  refuses = λ x e. MatchBool b (f.refuses x e) (g.refuses x e);
  parse = λ x. if b then f.parse x else g.parse x;
}

-- all bytes that are left, as one value; it can only come last
abbrev pub all_left : {E : Type 0} → FormatOf E (List ℕ)
all_left = record {
  spells = λ x v. v ≡ x;
  refuses = λ x e. ⊥;
  parse = λ x. Ok (x, []);
}

-- ---- the three parts of a format agree

-- sound: where parse gives a value, a prefix of the bytes spells it, and the bytes that are left
-- follow.
-- complete: bytes that spell a value are read as that value, whatever follows them.
-- refused_sound, refused_complete: parse fails with the fault that refuses gives, and with no
-- other.
-- of_bytes: that fault is one that bytes can have.
-- Which faults these are is OfBytes.
pub record IsExactOf {E A : Type 0} (OfBytes : E → Type 0) (f : FormatOf E A) : Type 0 where
  pub sound : (x : List ℕ) (a : A) (left : List ℕ) → f.parse x ≡ Ok (a, left) → (y : List ℕ) × (x ≡ y ++ left) × f.spells y a
  pub complete : (y left : List ℕ) (a : A) → f.spells y a → f.parse (y ++ left) ≡ Ok (a, left)
  pub refused_sound : (x : List ℕ) (e : E) → f.parse x ≡ Err e → f.refuses x e
  pub refused_complete : (x : List ℕ) (e : E) → f.refuses x e → f.parse x ≡ Err e
  pub of_bytes : (x : List ℕ) (e : E) → f.refuses x e → OfBytes e

-- IsExactOf for a format that ends with all_left: a value takes all of the bytes
pub record IsExactToEndOf {E A : Type 0} (OfBytes : E → Type 0) (f : FormatOf E A) : Type 0 where
  pub sound : (x : List ℕ) (a : A) (left : List ℕ) → f.parse x ≡ Ok (a, left) → (left ≡ []) × f.spells x a
  pub complete : (x : List ℕ) (a : A) → f.spells x a → f.parse x ≡ Ok (a, [])
  pub refused_sound : (x : List ℕ) (e : E) → f.parse x ≡ Err e → f.refuses x e
  pub refused_complete : (x : List ℕ) (e : E) → f.refuses x e → f.parse x ≡ Err e
  pub of_bytes : (x : List ℕ) (e : E) → f.refuses x e → OfBytes e

-- the three parts agree, and the faults are those that bytes can have
abbrev pub IsExact : {A : Type 0} → Format A → Type 0
IsExact f = IsExactOf IsOfBytes f

-- the same for a format that takes all bytes
abbrev pub IsExactToEnd : {A : Type 0} → Format A → Type 0
IsExactToEnd f = IsExactToEndOf IsOfBytes f

-- the law of a format, by whether its values take all of the bytes
abbrev pub Exact : {A : Type 0} → Bool → Format A → Type 0
Exact false f = IsExact f
Exact true f = IsExactToEnd f

-- ---- the result of a call that reads a value

-- The result of a call that takes memory is as `answer` says, or memory was refused.
abbrev pub OrMemory : {X : Type 0} → Result X Fault → Type 0 → Type 0
OrMemory (Ok _) answer = answer
OrMemory (Err e) answer = e ≢ Memory → answer

-- OrMemory, where the call takes memory; else as `answer` says
abbrev pub OrMemoryIf : {X : Type 0} → Bool → Result X Fault → Type 0 → Type 0
OrMemoryIf false result answer = answer
OrMemoryIf true result answer = OrMemory result answer

-- The old bytes parse to the value, as `view` shows it, and to the new bytes, which are left; or to
-- the fault.
abbrev pub ParsesAs : {E X Y : Type 0} → (X → Y) → FormatOf E Y → Result X E → List ℕ → List ℕ → Type 0
ParsesAs view f (Ok x) old new = f.parse old ≡ Ok (view x, new)
ParsesAs view f (Err e) old new = f.parse old ≡ Err e

-- ParsesAs for values that are seen as they are
abbrev pub Parses : {E Y : Type 0} → FormatOf E Y → Result Y E → List ℕ → List ℕ → Type 0
Parses f result old new = ParsesAs (λ y. y) f result old new

-- a prefix of the old bytes spells the value, and the new bytes follow it
abbrev pub SpellsPrefix : {E Y : Type 0} → FormatOf E Y → Y → List ℕ → List ℕ → Type 0
SpellsPrefix f y old new = (prefix : List ℕ) × (old ≡ prefix ++ new) × f.spells prefix y

-- all of the old bytes spell the value, and none are left
abbrev pub SpellsAll : {E Y : Type 0} → FormatOf E Y → Y → List ℕ → List ℕ → Type 0
SpellsAll f y old new = f.spells old y × (new ≡ [])

-- the old bytes spell the value: a prefix of them, or all of them where the format takes them to
-- the end
abbrev pub Spells : {E Y : Type 0} → Bool → FormatOf E Y → Y → List ℕ → List ℕ → Type 0
Spells false f y old new = SpellsPrefix f y old new
Spells true f y old new = SpellsAll f y old new

-- The result by spells and refuses: a prefix of the old bytes spells the value, or all of them do
-- where the format takes them to the end; or the format refuses them with the fault.
abbrev pub ReadsAs : {E X Y : Type 0} → Bool → (X → Y) → FormatOf E Y → Result X E → List ℕ → List ℕ → Type 0
ReadsAs to_end view f (Ok x) old new = Spells to_end f (view x) old new
ReadsAs to_end view f (Err e) old new = f.refuses old e

-- ReadsAs for a format that takes all bytes, and values that are seen as they are
abbrev pub ReadsAll : {E Y : Type 0} → FormatOf E Y → Result Y E → List ℕ → List ℕ → Type 0
ReadsAll f result old new = ReadsAs true (λ y. y) f result old new

-- each value of the format takes this many bytes; with None they may differ
abbrev pub HasWidth : {E A : Type 0} → Option ℕ → FormatOf E A → Type 0
HasWidth None f = ⊤
HasWidth {E} {A} (Some w) f = (x : List ℕ) (a : A) → f.spells x a → length x ≡ w
