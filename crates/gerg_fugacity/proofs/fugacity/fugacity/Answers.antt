-- `gerg_fugacity::fugacity::fugacity` meets its contract. Both clauses go by the test that all are finite. Assumes nothing.
use native.Mathlib.Omega.{arith}
use mathlib.Core.Path.{sym, ◌∙◌}
use lib.Ieee.{nan}
use Rattle.gerg_model.proofs.Laws.First.{front_finite}
use Rattle.gerg_fugacity.specs.Fugacity.{fugacity_of, fugacity_memory}
use Rattle.gerg_fugacity.proofs.Laws.Memory.{copied_front}
use Rattle.gerg_fugacity.proofs.fugacity.fugacity.Goals as goal

pub returns-then-is_none : goal.returns-then-is_none
unfolding fugacity_of fugacity_memory
returns-then-is_none c =
    let finite = sym (front_finite c.ln_phis-values.result _ (omega (arith, c.args.mixture.listed.few)) c.first_nonfinite.ensures c.is_none.ensures) ∙ c.if-is_none.true in
    record {
      answer = rw (← c.ln_phis-values.ensures, finite);
      memory = rw (← c.ln_phis-values.ensures, finite) (copied_front c.ln_phis-values.result c.args.out.now c.args.mixture.model.now.components nan (omega (arith, c.args.mixture.listed.few)) c.copy_from_slice.ensures.after);
    }

pub returns : goal.returns
unfolding fugacity_of fugacity_memory
returns c =
    let infinite = sym (front_finite c.ln_phis-values.result _ (omega (arith, c.args.mixture.listed.few)) c.first_nonfinite.ensures c.is_none.ensures) ∙ c.if-is_none.false in
    record { answer = rw (← c.ln_phis-values.ensures, infinite); memory = rw (← c.ln_phis-values.ensures, infinite) }
