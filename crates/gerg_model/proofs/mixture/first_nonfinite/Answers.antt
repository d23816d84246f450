use borrow.Author.Rules.{rules}
use borrow.Author.Tests.{tests}
use mathlib.Core.Bool.{not}
use lib.Ieee.{nan}
use Rattle.std.specs.Float.Ieee.Scale.{finite}
use Rattle.gerg_model.specs.Mixture.{nonfinite_at}
use Rattle.gerg_model.proofs.Laws.First.{first_of_slice}
use Rattle.gerg_model.proofs.mixture.first_nonfinite.Goals as goal

pub returns : goal.returns
unfolding nonfinite_at
returns c = first_of_slice (λ x. not (finite x)) nan c.args.values.now c.iter.ensures.rest c.position.ensures.ran (λ x b q k. search (rules, tests))
