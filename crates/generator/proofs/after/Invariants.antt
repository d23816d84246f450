-- `generator::after` meets its contract. The invariant: the generator after that many draws. Assumes nothing.
use Rattle.std.proofs.Common.{◌≡◌}
use Rattle.generator.specs.Generator.{after_of, start_of}
use Rattle.generator.proofs.after.Given as goal

abbrev pub invariant-loop : goal.invariant-loop
invariant-loop l = l.g ≡ after_of (start_of l.seed) l.counter
