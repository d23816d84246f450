use borrow.Author.Rules.{rules}
use borrow.Author.Tests.{tests}
use Rattle.gerg_model.specs.MixtureCheck.{bad_number}
use Rattle.gerg_model.proofs.Laws.First.{first_of_range}
use Rattle.gerg_model.proofs.mixture.first_bad_number.Goals as goal

pub returns : goal.returns
returns c = first_of_range (bad_number c.args.list.now) _ c.position.ensures.ran (λ x b q k. search (rules, tests))
