use borrow.Author.Rules.{rules}
use borrow.Author.Tests.{tests}
use Prim.Native.Nat.{◌+◌}
use Rattle.gerg_tables.specs.Check.{some_from, bad_number, some_bad_number}
use Rattle.gerg_tables.proofs.Some.{any_from}
use Rattle.gerg_tables.proofs.check.some_bad_number.Goals as goal

pub returns : goal.returns
unfolding some_bad_number
returns c = any_from (λ i. some_from (bad_number c.args.integers.now c.args.count i) (i + 1)) 0 c.any.ensures.ran (λ x b q k. search (rules, tests))
