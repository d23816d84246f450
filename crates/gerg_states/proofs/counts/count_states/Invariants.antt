-- `gerg_states::counts::count_states` meets its contract. The invariant: what the states so far count, and the generator after them. Assumes nothing.
use mathlib.Core.Path.{◌≡◌}
use Prim.Native.Nat.{◌+◌, ◌*◌}
use Rattle.numerics.specs.Fill.{tabulate}
use Rattle.generator.specs.Generator.{after_of, start_of, state_of}
use Rattle.gerg_tables.specs.Lent.{lent}
use Rattle.gerg_states.specs.States.{count_of}
use Rattle.gerg_states.specs.Prepared.{number_from}
use Rattle.gerg_states.proofs.counts.count_states.Given as goal

abbrev pub invariant-loop : goal.invariant-loop
invariant-loop l =
    (l.g ≡ after_of (start_of l.fn.run.seed) (2 * (l.fn.run.first + l.counter))) ×
    (l.out ≡ tabulate (count_of (λ n. number_from (lent l.coefficients) l.model (state_of l.fn.run.seed n)) l.fn.run.first l.counter) 38)
