-- `elementary::power::powers_below_8` meets its contract. Assumes nothing.
use mathlib.Core.Path.{sym}
use Rattle.elementary.proofs.PowerSteps.{powers_below_8}
use Rattle.elementary.proofs.power.powers_below_8.Goals as goal

pub returns : goal.returns
returns c = sym (powers_below_8 _)
