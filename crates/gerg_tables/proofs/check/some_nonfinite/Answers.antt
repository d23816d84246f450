use borrow.Author.Rules.{rules}
use borrow.Author.Tests.{tests}
use Rattle.gerg_tables.specs.Check.{some_from, nonfinite, some_nonfinite}
use Rattle.gerg_tables.proofs.Some.{any_from}
use Rattle.gerg_tables.proofs.check.some_nonfinite.Goals as goal

pub returns : goal.returns
unfolding some_nonfinite
returns g c = λ doubles q h. any_from (λ i. some_from (nonfinite doubles q i) i) 0 c.any.ensures.ran (λ x b p k. search (rules, tests, h))
