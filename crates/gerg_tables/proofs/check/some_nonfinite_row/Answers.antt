use borrow.Author.Rules.{rules}
use borrow.Author.Tests.{tests}
use Rattle.gerg_tables.specs.Check.{nonfinite}
use Rattle.gerg_tables.proofs.Some.{any_from}
use Rattle.gerg_tables.proofs.check.some_nonfinite_row.Goals as goal

pub returns : goal.returns
returns g c = λ doubles q h. any_from (nonfinite doubles q c.args.i) c.args.i c.any.ensures.ran (λ x b p k. search (rules, tests, h))
