-- The numbers of a run's states: one preparation serves them all, none is 6, 7 or 8, each has its place. Assumes nothing.
use mathlib.Core.Path.{◌≡◌, sym, ap, ◌∙◌, subst}
use mathlib.Core.Bool.{true}
use mathlib.Core.List.{List}
use Prim.Native.Nat.{ℕ, ◌≤◌}
use lib.Dec.{T}
use lib.Ieee.{Float, le}
use Rattle.generator.specs.Generator.{state_of}
use Rattle.generator.specs.declared.State.{State}
use Rattle.generator.proofs.Laws.Range.{temperature_at, density_at}
use Rattle.gerg_tables.specs.declared.Tables.{Tables}
use Rattle.gerg_reducing.specs.declared.GergModel.{GergModel}
use Rattle.gerg_coefficients.specs.Answer.{answer_of, tables_of}
use Rattle.gerg.specs.Helmholtz.{normal_range, within_range}
use Rattle.gerg.proofs.Laws.Numbers.{evaluate_at_most_12}
use Rattle.gerg.proofs.Laws.Within.{Early, within_range_lem, evaluate_late}
use Rattle.gerg.proofs.Laws.Ranges.{normal_low, normal_high}
use Rattle.numerics.specs.Fill.{tabulate}
use Rattle.std.specs.Prelude.{Result, Ok}
use Rattle.gerg_refusals.specs.Answer.{number_of, passed, and_then}
use Rattle.gerg_refusals.specs.declared.Refusal.{Refusal}
use Rattle.gerg_refusals.proofs.Then.{then_ok, memory_ok}
use Rattle.gerg_prepared.specs.Mixed.{mixed_of}
use Rattle.gerg_prepared.specs.declared.Mixed.{Mixed}
use Rattle.gerg_prepared.proofs.Laws.{same_mixed}
use Rattle.gerg_calls.proofs.Laws.After.{properties_state, same_properties}
use Rattle.gerg_states.specs.declared.Run.{Run}
use Rattle.gerg_states.specs.States.{seed_refusal, number_at, count_of, counts_by, counts_of, run_refusal, counts_written}
use Rattle.gerg_states.specs.Prepared.{number_from, counts_from}
use Rattle.gerg_states.proofs.Laws.Counts.{counts_same}

-- rows 6 to 12 alone: at most 12
pub number_at_most : (t : Tables) (model : GergModel) (state : State) → number_from t model state ≤ 12
unfolding number_from
number_at_most t model state = evaluate_at_most_12 t model normal_range state.temperature state.density

-- the state of a seed lies in the normal range, so it is not refused under 6, 7 or 8
module _ (seed n : ℕ) where
  low : T (le normal_range.temperature_low (state_of seed n).temperature)
  low = subst (λ (x : Float). T (le x (state_of seed n).temperature)) (sym normal_low) (temperature_at seed n).0

  high : T (le (state_of seed n).temperature normal_range.temperature_high)
  high = subst (λ (x : Float). T (le (state_of seed n).temperature x)) (sym normal_high) (temperature_at seed n).1

  pub state_within : within_range normal_range (state_of seed n).temperature (state_of seed n).density ≡ true
  state_within = within_range_lem normal_range (state_of seed n).temperature (state_of seed n).density low high (density_at seed n).0 (density_at seed n).1

  pub number_late : (t : Tables) (model : GergModel) → Early (number_from t model (state_of seed n)) → ⊥
  unfolding number_from
  number_late t model = evaluate_late normal_range (state_of seed n).temperature (state_of seed n).density low high (density_at seed n).0 (density_at seed n).1 t model

-- ---- the mixture prepared once
module _ (bytes list : List ℕ) (fractions : List Float) (m : Mixed) (sound : mixed_of bytes list fractions ≡ Ok m) where
  pub prepared_number : (seed n : ℕ) → number_at bytes list fractions seed n ≡ number_from (tables_of bytes) m.model (state_of seed n)
  unfolding number_at number_from
  prepared_number seed n = ap number_of (properties_state bytes list fractions normal_range (state_of seed n).temperature m sound (state_of seed n).density)

  pub prepared_counts : (run : Run) → counts_from (tables_of bytes) m.model run ≡ counts_of bytes list fractions run
  unfolding counts_from counts_of
  prepared_counts run =
      counts_same (λ n. number_from (tables_of bytes) m.model (state_of run.seed n)) (number_at bytes list fractions run.seed) (λ n. sym (prepared_number run.seed n)) run

-- past number 27
pub after_seed : (bytes list : List ℕ) (fractions : List Float) (seed : ℕ) → seed_refusal seed ≡ passed → run_refusal bytes list fractions seed ≡ and_then (mixed_of bytes list fractions) (λ m. passed)
unfolding run_refusal
after_seed bytes list fractions seed e = then_ok (seed_refusal seed) (λ u. and_then (mixed_of bytes list fractions) (λ m. passed)) tt e

-- past rows 1 to 5
pub after_rows : (bytes list : List ℕ) (fractions : List Float) (seed : ℕ) (m : Mixed) → seed_refusal seed ≡ passed → mixed_of bytes list fractions ≡ Ok m → run_refusal bytes list fractions seed ≡ passed
after_rows bytes list fractions seed m e q = after_seed bytes list fractions seed e ∙ then_ok (mixed_of bytes list fractions) (λ m. passed) m q

-- what an accepted call writes
pub written_counts :
    (bytes list : List ℕ) (fractions : List Float) (run : Run) (out : List ℕ) → run_refusal bytes list fractions run.seed ≡ passed → counts_written bytes list fractions run out ≡ counts_of bytes list fractions run
unfolding counts_written
written_counts bytes list fractions run out e = memory_ok (run_refusal bytes list fractions run.seed) out (λ u. counts_of bytes list fractions run) tt e

pub accepted_counts :
    (bytes list : List ℕ) (fractions : List Float) (run : Run) (out : List ℕ) → run_refusal bytes list fractions run.seed ≡ passed →
    counts_written bytes list fractions run out ≡ tabulate (count_of (number_at bytes list fractions run.seed) run.first run.states) 38
unfolding counts_of counts_by
accepted_counts bytes list fractions run out e = written_counts bytes list fractions run out e

-- ---- two files with one answer and the same tables
module _ (a b list : List ℕ) (fractions : List Float) (seed : ℕ) (answer : answer_of a ≡ answer_of b) (same : tables_of a ≡ tables_of b) where
  pub same_number : (n : ℕ) → number_at a list fractions seed n ≡ number_at b list fractions seed n
  unfolding number_at
  same_number n = ap number_of (same_properties a b list fractions normal_range (state_of seed n).temperature (state_of seed n).density answer same)

  pub same_refusal : run_refusal a list fractions seed ≡ run_refusal b list fractions seed
  unfolding run_refusal
  same_refusal = ap (λ (x : Result Mixed Refusal). and_then (seed_refusal seed) (λ u. and_then x (λ m. passed))) (same_mixed a b list fractions answer same)
