-- `gerg_terms::departure::exponent_of` meets its contract: the exponential of no exponent is 1. Assumes nothing.
use mathlib.Core.Path.{◌≡◌, refl, ap, ◌∙◌}
use borrow.Author.Tests.{lt-ltb}
use lib.Ieee.{add, of_bits}
use Rattle.numerics.specs.Double.{◌⊕◌, +0}
use Rattle.elementary_exp.specs.Exp.{exp_of}
use Rattle.elementary_exp.proofs.ExpLaws.{exp_zero}
use Rattle.gerg_terms.specs.Terms.{exponent_of}
use Rattle.gerg_terms.proofs.departure.exponent_of.Goals as goal

-- the exponent among the polynomial terms
no_exponent : +0 ⊕ +0 ⊕ +0 ≡ +0
unfolding add of_bits
no_exponent = refl

pub returns-then-k-from : goal.returns-then-k-from
unfolding exponent_of
returns-then-k-from c = rw (← c.kpolij.ensures, ← c.from.ensures, lt-ltb _ _ c.if-k-from.true, ap exp_of no_exponent ∙ exp_zero)
