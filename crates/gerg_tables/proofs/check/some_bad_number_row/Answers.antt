use borrow.Author.Rules.{rules}
use borrow.Author.Tests.{tests}
use Prim.Native.Nat.{◌+◌}
use Rattle.gerg_tables.specs.Check.{bad_number}
use Rattle.gerg_tables.proofs.Some.{any_from}
use Rattle.gerg_tables.proofs.check.some_bad_number_row.Goals as goal

pub returns : goal.returns
returns c = any_from (bad_number c.args.integers.now c.args.count c.args.i) (c.args.i + 1) c.any.ensures.ran (λ x b q k. search (rules, tests))
