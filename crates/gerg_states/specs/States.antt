-- Request 01: the calls `state_at` and `count_refusals`, "States by the thousand from one seed".
use Rattle.std.specs.Prelude.{List, [], ◌∷◌, ℕ, zero, suc, ◌+◌, eqb, Float, Result, Err}
use Rattle.numerics.specs.Double.{pick}
use Rattle.numerics.specs.Loop.{tabulate}
use Rattle.generator.specs.Generator.{state_of}
use Rattle.gerg_refusals.specs.Answer.{number_of, passed, and_then, memory_of}
use Rattle.gerg_refusals.specs.declared.Refusal.{Refusal}
use Rattle.gerg_refusals.specs.declared.Refusal.TheVariants as refusal
use Rattle.gerg_prepared.specs.Mixed.{mixed_of}
use Rattle.gerg_calls.specs.Calls.{properties_of}
use Rattle.gerg_states.specs.declared.Run.{Run}

-- "Errors: 27, a zero seed"
unfoldable pub seed_refusal : ℕ → Result (Unit {0}) Refusal
seed_refusal seed = pick (eqb seed 0) (Err refusal.ZeroSeed) passed

-- the call `state_at`: two lent doubles afterwards
unfoldable pub state_written : ℕ → ℕ → List Float → List Float
state_written seed n out = memory_of (seed_refusal seed) out (λ u. (state_of seed n).temperature ∷ (state_of seed n).density ∷ [])

-- the number under which `properties` refuses state n of a seed, 0 where it is accepted
unfoldable pub number_at : List ℕ → List ℕ → List Float → ℕ → ℕ → ℕ
number_at bytes list fractions seed n = number_of (properties_of bytes list fractions (state_of seed n).temperature (state_of seed n).density)

-- how many of f first, f (first + 1), .., f (first + states - 1) are `number`
unfoldable pub count_of : (ℕ → ℕ) → ℕ → ℕ → ℕ → ℕ
count_of f first zero number = 0
count_of f first (suc states) number = count_of f first states number + pick (eqb (f (first + states)) number) 1 0

-- "each refusal met with its count": for each number of the table, and for 0, the accepted ones, how many states of the run have it, where state n has number f n
unfoldable pub counts_by : (ℕ → ℕ) → Run → List ℕ
counts_by f run = tabulate (count_of f run.first run.states) 38

unfoldable pub counts_of : List ℕ → List ℕ → List Float → Run → List ℕ
counts_of bytes list fractions run = counts_by (number_at bytes list fractions run.seed) run

-- the run of a C caller
abbrev pub run_of : ℕ → ℕ → ℕ → Run
run_of seed first states = record { seed = seed; first = first; states = states }

-- "27, a zero seed, tested first", then rows 1 to 5
unfoldable pub run_refusal : List ℕ → List ℕ → List Float → ℕ → Result (Unit {0}) Refusal
run_refusal bytes list fractions seed = and_then (seed_refusal seed) (λ u. and_then (mixed_of bytes list fractions) (λ m. passed))

-- the call `count_refusals`: 38 lent numbers afterwards
unfoldable pub counts_written : List ℕ → List ℕ → List Float → Run → List ℕ → List ℕ
counts_written bytes list fractions run out = memory_of (run_refusal bytes list fractions run.seed) out (λ u. counts_of bytes list fractions run)
