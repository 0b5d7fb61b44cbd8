-- The bytes that values take together, as values come and go.
use Rattle.std.specs.Prelude.{◌≡◌, ◌+◌, ℕ, Option, Some, None}
use Rattle.std.proofs.Common.{subst}
use Rattle.std.specs.Cmp.{nat_cmp_total}
use Rattle.std.specs.Ordering.{nat_cmp}
use Rattle.std.specs.Option.{option_map, unwrap_or}
use Rattle.std.specs.List.Sorted.{IsStrictlySortedBy}
use Rattle.std.specs.Map.{keys_of, remove_entry}
use Rattle.std.specs.BTreeMap.{is_at, insert_entry}
use Rattle.std.proofs.lemmas.Map.Entries.{sum_by-insert_entry, sum_by-remove_entry}
use Rattle.binlog_kept.specs.Kept.{Entries, bytes_held, value_at, either}

-- what one value takes, 0 if there is none
abbrev pub maybe_bytes : {X : Type 0} → (X → ℕ) → Option X → ℕ
maybe_bytes f o = unwrap_or (option_map f o) 0

pub bytes_put : {X : Type 0} (f : X → ℕ) (es fs : Entries X) (k : ℕ) (v : X) (o : Option X) → IsStrictlySortedBy nat_cmp (keys_of es)
    → fs ≡ insert_entry nat_cmp es k v → o ≡ value_at es k → bytes_held f fs + maybe_bytes f o ≡ bytes_held f es + f v
bytes_put f es fs k v o sorted is was = rw is (rw was (sum_by-insert_entry f nat_cmp_total es k v sorted))

pub bytes_taken : {X : Type 0} (f : X → ℕ) (es fs : Entries X) (k : ℕ) (o : Option X)
    → fs ≡ remove_entry (is_at (nat_cmp k)) es → o ≡ value_at es k → bytes_held f fs + maybe_bytes f o ≡ bytes_held f es
bytes_taken f es fs k o is was = rw is (rw was (sum_by-remove_entry f (is_at (nat_cmp k)) es))

-- a new value at a key that has one
pub bytes_replaced : {X : Type 0} (f : X → ℕ) (es fs : Entries X) (k : ℕ) (v r : X) (o : Option X) → IsStrictlySortedBy nat_cmp (keys_of es)
    → fs ≡ insert_entry nat_cmp es k v → o ≡ value_at es k → o ≡ Some r → bytes_held f fs + f r ≡ bytes_held f es + f v
bytes_replaced f es fs k v r o sorted is was some = subst (λ o. bytes_held f fs + maybe_bytes f o ≡ bytes_held f es + f v) some (bytes_put f es fs k v o sorted is was)

-- a value at a new key
pub bytes_more : {X : Type 0} (f : X → ℕ) (es fs : Entries X) (k : ℕ) (v : X) (o : Option X) → IsStrictlySortedBy nat_cmp (keys_of es)
    → fs ≡ insert_entry nat_cmp es k v → o ≡ value_at es k → o ≡ None → bytes_held f fs + 0 ≡ bytes_held f es + f v
bytes_more f es fs k v o sorted is was none = subst (λ o. bytes_held f fs + maybe_bytes f o ≡ bytes_held f es + f v) none (bytes_put f es fs k v o sorted is was)

-- without the value of a key that has one
pub bytes_fewer : {X : Type 0} (f : X → ℕ) (es fs : Entries X) (k : ℕ) (r : X) (o : Option X)
    → fs ≡ remove_entry (is_at (nat_cmp k)) es → o ≡ value_at es k → o ≡ Some r → bytes_held f fs + f r ≡ bytes_held f es
bytes_fewer f es fs k r o is was some = subst (λ o. bytes_held f fs + maybe_bytes f o ≡ bytes_held f es) some (bytes_taken f es fs k o is was)

-- with fewer older values there is no more
pub no_more_by : {X : Type 0} (a b c : Option X) (v : X) → (c ≡ Some v → b ≡ Some v) → either a c ≡ Some v → either a b ≡ Some v
no_more_by None b c v fewer is = fewer is
no_more_by (Some x) b c v fewer is = is
