use Rattle.std.proofs.Common.{◌≡◌, ℕ, ◌+◌, ◌-◌, ◌<◌, ◌∷◌, [], ◌++◌, replicate, List, subst, ap, ◌∙◌, arith}
use Rattle.std.proofs.lemmas.List.{replicate-append-replicate}
use Rattle.std.proofs.lemmas.Result.{err_from_is_err_and}
use Rattle.binlog_base.specs.Writing.{Begins}
use Rattle.binlog_base.proofs.Appending.{begins_more, begins_then}
use Rattle.binlog_base.proofs.below.raw.skip.SkipMySerialize.serialize.Goals as goal

abbrev zeros : ℕ → List ℕ
zeros n = replicate n 0

abbrev zero_byte : List ℕ
zero_byte = 0 ∷ []

-- the zeros so far, one more, and the others
split : (k n : ℕ) → k < n → zeros k ++ (zero_byte ++ zeros (n - (k + 1))) ≡ zeros n
split k n h =
    let e : k + (1 + (n - (k + 1))) ≡ n = omega arith in
    ap (λ (t : List ℕ). zeros k ++ t) (replicate-append-replicate 1 (n - (k + 1)) 0)
    ∙ replicate-append-replicate k (1 + (n - (k + 1))) 0 ∙ ap zeros e

pub returns-in_err-put_byte : goal.returns-in_err-put_byte
returns-in_err-put_byte g c =
    let p = err_from_is_err_and c.from_residual.result c.from_residual.ensures.1 in
    let k = c.loop.counter in
    let more = zeros (g.row.N - (k + 1)) in
    rw p.1 (subst (Begins c.args.buf.now.items c.put_byte.new.buf.items) (split k g.row.N (omega arith))
    (begins_then _ _ _ (zeros k) (zero_byte ++ more) c.loop.invariant (begins_more _ _ zero_byte more c.in_err-put_byte.ensures)))
