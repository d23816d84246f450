-- What is promised of the calls `state_at` and `count_refusals`: their refusals, the lent memory, the states and the counts. Assumes nothing.
use mathlib.Core.Path.{◌≡◌, refl, sym, ap, ap₂, ◌∙◌, subst}
use mathlib.Core.Bool.{true}
use mathlib.Core.List.{List, [], ◌∷◌}
use mathlib.Core.Logic.{◌⊎◌, inl, inr}
use Prim.Native.Nat.{ℕ, zero, suc, ◌+◌, ◌*◌, ◌^◌, ◌≤◌, ◌<◌}
use native.Mathlib.Omega.{arith}
use borrow.Author.Tests.{ne_eqb}
use lib.Dec.{eqb}
use lib.Ieee.{Float, nan}
use lib.ListN.{get_or}
use Rattle.numerics.specs.Double.{pick}
use Rattle.numerics.specs.Fill.{get_d_tabulate}
use Rattle.generator.specs.Generator.{after_of, start_of, state_of, states_from}
use Rattle.generator.specs.declared.State.{State}
use Rattle.generator.proofs.Laws.Alone as drawn
use Rattle.generator.proofs.Laws.Word as generator
use Rattle.gerg_file.specs.Counts.{sum}
use Rattle.gerg_coefficients.specs.Answer.{tables_of}
use Rattle.gerg.specs.Helmholtz.{normal_range, within_range}
use Rattle.std.specs.Prelude.{Result, Ok, Err}
use Rattle.gerg_refusals.specs.Answer.{number_of, value_of, passed, and_then, memory_of}
use Rattle.gerg_refusals.specs.declared.Refusal.{Refusal}
use Rattle.gerg_refusals.specs.declared.Refusal.TheVariants as refusal
use Rattle.gerg_refusals.proofs.Then.{then_err, memory_ok, memory_err, accepted}
use Rattle.gerg_prepared.specs.Mixed.{mixed_of}
use Rattle.gerg_prepared.specs.declared.Mixed.{Mixed}
use Rattle.gerg_prepared.proofs.Numbers.{rows_at_most_5, rows_value}
use Rattle.gerg_answers.specs.Answers.{accepted_code}
use Rattle.gerg_answers.proofs.Laws.{accepted_code_lem}
use Rattle.gerg_calls.specs.Calls.{properties_of}
use Rattle.gerg_states.specs.declared.Run.{Run}
use Rattle.gerg_states.specs.States.{seed_refusal, state_written, number_at, count_of, counts_of, run_of, run_refusal, counts_written}
use Rattle.gerg_states.proofs.Laws.Counts.{count_one, count_split, count_none, count_total, sum_same}
use Rattle.gerg_states.proofs.Laws.Numbers.{number_at_most, state_within, number_late, prepared_number, after_seed, accepted_counts}

no_27 : ◌≡◌ {A = ℕ} 27 0 → ⊥
no_27 e = omega arith

above_zero : (n : ℕ) → suc n ≡ 0 → ⊥
above_zero n e = omega arith

-- "27, a zero seed", value 0
pub zero_seed : seed_refusal 0 ≡ Err refusal.ZeroSeed
unfolding seed_refusal
zero_seed = refl

pub other_seed : (seed : ℕ) → (seed ≡ 0 → ⊥) → seed_refusal seed ≡ passed
unfolding seed_refusal
other_seed seed h = rw (ne_eqb seed 0 h)

-- ---- `state_at`
pub state_code : (seed : ℕ) → accepted_code (seed_refusal seed) ≡ number_of (seed_refusal seed) * 2 ^ 32 + value_of (seed_refusal seed)
state_code zero = accepted_code_lem (seed_refusal zero) (rw zero_seed (omega arith))
state_code (suc seed) = accepted_code_lem (seed_refusal (suc seed)) (rw (other_seed (suc seed) (above_zero seed)) (omega arith))

pub state_leaves : (n : ℕ) (out : List Float) → state_written 0 n out ≡ out
unfolding state_written
state_leaves n out = memory_err (seed_refusal 0) out (λ u. (state_of 0 n).temperature ∷ (state_of 0 n).density ∷ []) refusal.ZeroSeed zero_seed

pub state_writes : (seed n : ℕ) (out : List Float) → (seed ≡ 0 → ⊥) → state_written seed n out ≡ (state_of seed n).temperature ∷ (state_of seed n).density ∷ []
unfolding state_written
state_writes seed n out h = memory_ok (seed_refusal seed) out (λ u. (state_of seed n).temperature ∷ (state_of seed n).density ∷ []) tt (other_seed seed h)

-- "State n .. has to be the same whether reached alone or in a run": alone, by `state_at`; in a run, drawn after those before it, from state `first` on
pub alone_or_in_a_run :
    (seed first count i : ℕ) (d : State) (out : List Float) → (seed ≡ 0 → ⊥) → i < count →
    let s = get_or (states_from (after_of (start_of seed) (2 * first)) count) i d in state_written seed (first + i) out ≡ s.temperature ∷ s.density ∷ []
alone_or_in_a_run seed first count i d out h l =
    state_writes seed (first + i) out h ∙ ap (λ (s : State). s.temperature ∷ s.density ∷ []) (sym (drawn.alone_or_in_a_run seed first count i d l))

-- "every T is in 200..450 and every density in 1e-3..30000 for every seed and n": row 8's own test
pub state_range : (seed n : ℕ) → within_range normal_range (state_of seed n).temperature (state_of seed n).density ≡ true
state_range = state_within

-- "a seed other than 0 never leads to s = 0"
pub never_zero : (seed k : ℕ) → seed < 2 ^ 64 → (seed ≡ 0 → ⊥) → (after_of (start_of seed) k).word ≡ 0 → ⊥
never_zero = generator.never_zero

-- ---- `count_refusals`
module _ (bytes list : List ℕ) (fractions : List Float) where
  -- 27 comes before rows 1 to 5
  pub zero_seed_first : run_refusal bytes list fractions 0 ≡ Err refusal.ZeroSeed
  unfolding run_refusal
  zero_seed_first = then_err (seed_refusal 0) (λ u. and_then (mixed_of bytes list fractions) (λ m. passed)) refusal.ZeroSeed zero_seed

  pub then_rows : (seed : ℕ) → (seed ≡ 0 → ⊥) → run_refusal bytes list fractions seed ≡ and_then (mixed_of bytes list fractions) (λ m. passed)
  then_rows seed h = after_seed bytes list fractions seed (other_seed seed h)

  -- their numbers and values are those of the mixture
  rows_number : (x : Result Mixed Refusal) → number_of (and_then x (λ m. passed)) ≡ number_of x
  rows_number (Ok m) = refl
  rows_number (Err r) = refl

  rows_values : (x : Result Mixed Refusal) → value_of (and_then x (λ m. passed)) ≡ value_of x
  rows_values (Ok m) = refl
  rows_values (Err r) = refl

  pub run_number : (seed : ℕ) → (number_of (run_refusal bytes list fractions seed) ≤ 5) ⊎ (number_of (run_refusal bytes list fractions seed) ≡ 27)
  run_number zero = inr (ap number_of zero_seed_first)
  run_number (suc seed) = inl (subst (λ (n : ℕ). n ≤ 5) (sym (ap number_of (then_rows (suc seed) (above_zero seed)) ∙ rows_number (mixed_of bytes list fractions))) (rows_at_most_5 bytes list fractions))

  pub run_value : (seed : ℕ) → value_of (run_refusal bytes list fractions seed) < 2 ^ 32
  run_value zero = rw zero_seed_first (omega arith)
  run_value (suc seed) = subst (λ (n : ℕ). n < 2 ^ 32) (sym (ap value_of (then_rows (suc seed) (above_zero seed)) ∙ rows_values (mixed_of bytes list fractions))) (rows_value bytes list fractions)

  pub run_code : (seed : ℕ) → accepted_code (run_refusal bytes list fractions seed) ≡ number_of (run_refusal bytes list fractions seed) * 2 ^ 32 + value_of (run_refusal bytes list fractions seed)
  run_code seed = accepted_code_lem (run_refusal bytes list fractions seed) (run_value seed)

  -- number 0 is no refusal's: the seed is not 0, and rows 1 to 5 refuse nothing
  pub run_accepted : (seed : ℕ) → number_of (run_refusal bytes list fractions seed) ≡ 0 → (m : Mixed) × (run_refusal bytes list fractions seed ≡ passed) × (mixed_of bytes list fractions ≡ Ok m)
  run_accepted zero e = absurd (no_27 (sym (ap number_of zero_seed_first) ∙ e))
  run_accepted (suc seed) e =
      let r = then_rows (suc seed) (above_zero seed) in
      let p = accepted (mixed_of bytes list fractions) (sym (rows_number (mixed_of bytes list fractions)) ∙ sym (ap number_of r) ∙ e) in
      (p.0, r ∙ ap (λ (x : Result Mixed Refusal). and_then x (λ m. passed)) p.1, p.1)

  -- "Every row leaves all lent memory as it was"
  pub counts_leave : (run : Run) (out : List ℕ) → (number_of (run_refusal bytes list fractions run.seed) ≡ 0 → ⊥) → counts_written bytes list fractions run out ≡ out
  unfolding counts_written
  counts_leave run out h = go (run_refusal bytes list fractions run.seed) h
    where
      go : (x : Result (Unit {0}) Refusal) → (number_of x ≡ 0 → ⊥) → memory_of x out (λ u. counts_of bytes list fractions run) ≡ out
      go (Ok u) h = absurd (h refl)
      go (Err r) h = refl

  module _ (seed : ℕ) (nothing : number_of (run_refusal bytes list fractions seed) ≡ 0) where
    -- place k of what an accepted call writes, whatever was lent
    abbrev counted : ℕ → ℕ → List ℕ → ℕ → ℕ
    counted first states out k = get_or (counts_written bytes list fractions (run_of seed first states) out) k 0

    -- "for each number how many of" the states "`properties_of` refuses under it"
    pub counts_write : (first states k : ℕ) (out : List ℕ) → k < 38 → counted first states out k ≡ count_of (number_at bytes list fractions seed) first states k
    counts_write first states k out h =
        ap (λ (l : List ℕ). get_or l k 0) (accepted_counts bytes list fractions (run_of seed first states) out (run_accepted seed nothing).1)
        ∙ get_d_tabulate (count_of (number_at bytes list fractions seed) first states) 38 k 0 h

    -- in a run of the one state n the count is of what `properties` answers at the T and the density that `state_at` writes for n
    pub counts_alone :
        (n k : ℕ) (out : List ℕ) (lent : List Float) → k < 38 →
        let s = state_written seed n lent in counted n 1 out k ≡ pick (eqb (number_of (properties_of bytes list fractions (get_or s 0 nan) (get_or s 1 nan))) k) 1 0
    unfolding number_at
    counts_alone n k out lent h =
        counts_write n 1 k out h ∙ count_one (number_at bytes list fractions seed) n k
        ∙ ap (λ (s : List Float). pick (eqb (number_of (properties_of bytes list fractions (get_or s 0 nan) (get_or s 1 nan))) k) 1 0) (sym (state_writes seed n lent no_zero))
      where
        no_zero : seed ≡ 0 → ⊥
        no_zero e = no_27 (sym (ap number_of zero_seed_first) ∙ ap (λ (n : ℕ). number_of (run_refusal bytes list fractions n)) (sym e) ∙ nothing)

    -- "a run's counts are the sums of its two parts' wherever it is split"
    pub counts_split : (first a b k : ℕ) (out out₁ out₂ : List ℕ) → k < 38 → counted first (a + b) out k ≡ counted first a out₁ k + counted (first + a) b out₂ k
    counts_split first a b k out out₁ out₂ h =
        counts_write first (a + b) k out h ∙ count_split (number_at bytes list fractions seed) first a b k
        ∙ ap₂ (λ (x y : ℕ). x + y) (sym (counts_write first a k out₁ h)) (sym (counts_write (first + a) b k out₂ h))

    number_place : (n : ℕ) → number_at bytes list fractions seed n < 38
    number_place n =
        let p = run_accepted seed nothing in
        let e = prepared_number bytes list fractions p.0 p.2 seed n in
        omega (arith, number_at_most (tables_of bytes) (p.0).model (state_of seed n))

    -- "the counts and the accepted add up to N"
    pub counts_total : (first states : ℕ) (out : List ℕ) → sum (counted first states out) 38 ≡ states
    counts_total first states out =
        sum_same (counted first states out) (count_of (number_at bytes list fractions seed) first states) 38 (λ k h. counts_write first states k out h)
        ∙ count_total (number_at bytes list fractions seed) first states 38 number_place

    -- "numbers 6, 7, 8 never occur in the counts"
    pub counts_no_6_to_8 : (first states k : ℕ) (out : List ℕ) → 6 ≤ k → k ≤ 8 → counted first states out k ≡ 0
    counts_no_6_to_8 first states k out l h =
        let p = run_accepted seed nothing in
        counts_write first states k out (omega arith)
        ∙ count_none (number_at bytes list fractions seed) first states k
        (λ n e. number_late seed n (tables_of bytes) (p.0).model
        (let q : number_at bytes list fractions seed n ≡ _ = prepared_number bytes list fractions p.0 p.2 seed n in (omega arith, omega arith)))
