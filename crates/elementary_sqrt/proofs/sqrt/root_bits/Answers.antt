-- `elementary_sqrt::sqrt::root_bits` meets its contract, by those of its callees; the radicand is that of the definition by the exponent's last digit. Assumes nothing.
use native.Mathlib.Omega.{arith}
use Rattle.elementary_sqrt.proofs.Root.{radicand_odd, radicand_even, bits_of}
use Rattle.elementary_sqrt.proofs.sqrt.root_bits.Goals as goal
use Rattle.elementary_sqrt.proofs.sqrt.root_bits.Goals.{then-e-eq1, else-e-eq1}

pub returns : goal.returns
returns c =
    let e = c.exponent-e in
    let m = c.significand-m in
    let r = c.if-e-eq1.radicand in (
      bits_of _ c.nearest_root.result e.result m.result r e.ensures.0 m.ensures.0
          (elim c.if-e-eq1.branch [ then-e-eq1 w ↦ rw w.radicand-is (radicand_odd m.result e.result w.if-e-eq1.true) | else-e-eq1 w ↦ rw w.radicand-is (radicand_even m.result e.result (omega (arith, w.if-e-eq1.false))) ])
          c.nearest_root.ensures.0,
      omega arith,
    )
