use Rattle.std.proofs.Common.{rules, ℕ, ◌*◌, ◌<◌, ◌^◌, subst, sym, ◌∙◌, arith, SFits}
use Rattle.std.specs.Int.{w64}
use Rattle.std.proofs.lemmas.Int.{to_z-of_z}
use Rattle.binlog_base.specs.Lemmas.Powers.{pow_256}
use Rattle.binlog_base.specs.Coding.{IsSigned}
use Rattle.binlog_base.specs.Lemmas.TwosComplement.{twos_complement-fits}
use Rattle.binlog_base.proofs.below.raw.integer.I64Integer.read.Goals as goal

pub returns-clause-fits : goal.returns-clause-fits
returns-clause-fits g c =
    let w = c.args.width in
    let n = g.O.ByteOrder.number_of w c.args.bytes.now in
    let small : n < 2 ^ (8 * w) = subst (λ (p : ℕ). n < p) (pow_256 w) (g.met.O.ByteOrder.number_fits w c.args.bytes.now (λ i. omega (arith, c.type_inv.bytes i))) in
    let held : SFits w64 c.read_int.result = search rules in
    subst (IsSigned w) (sym (to_z-of_z w64 c.read_int.result held ∙ c.read_int.ensures)) (twos_complement-fits w n (omega (arith, c.if-width-eq0.false)) small)
