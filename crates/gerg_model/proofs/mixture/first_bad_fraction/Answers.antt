use borrow.Author.Rules.{rules}
use borrow.Author.Tests.{tests}
use mathlib.Core.Bool.{not, ◌||◌}
use lib.Ieee.{nan, lt}
use Rattle.std.specs.Float.Ieee.Scale.{finite}
use Rattle.numerics.specs.Double.{+0}
use Rattle.gerg_model.specs.MixtureCheck.{bad_fraction}
use Rattle.gerg_model.proofs.Laws.First.{first_of_slice}
use Rattle.gerg_model.proofs.mixture.first_bad_fraction.Goals as goal

pub returns : goal.returns
unfolding bad_fraction
returns c = first_of_slice (λ x. not (finite x) || lt x +0) nan c.args.fractions.now c.iter.ensures.rest c.position.ensures.ran (λ x b q k. search (rules, tests))
