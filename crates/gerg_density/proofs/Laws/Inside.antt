-- A density search in a range and in one that the range is inside of: the same trials and the same answer, but for rows 8, 11 and 14. Assumes nothing.
use mathlib.Core.Path.{◌≡◌, refl, sym, ap, ◌∙◌, fun_ext}
use mathlib.Core.Bool.{Bool, true, false}
use mathlib.Core.Logic.{◌⊎◌, inl, inr}
use Prim.Native.Nat.{ℕ}
use native.Mathlib.Omega.{arith}
use lib.Dec.{T}
use lib.Ieee.{Float}
use lib.Ieee.Positive.{positive}
use Rattle.gerg_tables.specs.declared.Tables.{Tables}
use Rattle.gerg_reducing.specs.declared.GergModel.{GergModel}
use Rattle.gerg.specs.declared.Range.{Range}
use Rattle.gerg.specs.Evaluate.{evaluate_of}
use Rattle.gerg.proofs.Laws.Inside.{Inside, between_ends, helmholtz_same, outside_ends, evaluate_inside}
use Rattle.gerg_search.specs.Checks.{options_refused, target_refused}
use Rattle.gerg_search.specs.Run.{outcome_of, trials_of}
use Rattle.gerg_search.specs.States.{Doubles}
use Rattle.interval.specs.declared.Interval.{Interval}
use Rattle.gerg_search.specs.declared.Options.{Options}
use Rattle.gerg_search.specs.Sample.{Outcome}
use Rattle.gerg_search.proofs.Laws.Start.{begun, target_within}
use Rattle.gerg_search.proofs.Laws.Outcomes.{low_refused}
use Rattle.gerg_density.specs.Density.{trial_of, verdict_of, search_of, density_trials, checked_of, finished_of, density_of}
use Rattle.gerg_refusals.specs.Answer.{number_of}
use Rattle.std.specs.Prelude.{Result, Ok, Err}
use Rattle.gerg.specs.declared.GergState.{GergState}
use Rattle.gerg_refusals.specs.declared.Refusal.{Refusal}
use Rattle.gerg_refusals.specs.declared.Refusal.TheVariants as refusal

module _ (a b : Range) (i : Inside a b) (t : Tables) (m : GergModel) (temperature target : Float) (o : Options) (doubles : Doubles o) where
  -- at a temperature within a's ends every trial has one verdict in both
  verdicts_same : between_ends a temperature ≡ true → verdict_of t m b temperature target ≡ verdict_of t m a temperature target
  unfolding verdict_of
  verdicts_same e = fun_ext (λ rho. verdict rho)
    where
      verdict : (rho : Float) → verdict_of t m b temperature target rho ≡ verdict_of t m a temperature target rho
      verdict rho = ap (trial_of temperature target rho) (helmholtz_same a b i t m temperature rho e)

  -- at another the search is refused by row 8, past rows 13 and 14
  outside_refused :
      options_refused o ≡ false → target_refused a.pressure_high target ≡ false → between_ends a temperature ≡ false →
      number_of (density_of t m a temperature target o) ≡ 8
  unfolding density_of finished_of search_of verdict_of trial_of
  outside_refused p q e =
      ap (λ (w : Outcome). number_of (finished_of t m a temperature target o w))
      (low_refused a.pressure_high target o (verdict_of t m a temperature target) refusal.OutsideRange p q (stopped (begun o doubles p).ranged.low.above))
    where
      stopped : T (positive o.bracket.lo) → verdict_of t m a temperature target o.bracket.lo ≡ Err refusal.OutsideRange
      stopped h = ap (trial_of temperature target o.bracket.lo) (outside_ends t m a temperature o.bracket.lo h e)

  target_refused_lem : options_refused o ≡ false → target_refused a.pressure_high target ≡ true → number_of (density_of t m a temperature target o) ≡ 14
  unfolding density_of finished_of search_of outcome_of
  target_refused_lem p q = rw (p, q)

  module _ (n8 : number_of (density_of t m a temperature target o) ≡ 8 → ⊥) (n14 : number_of (density_of t m a temperature target o) ≡ 14 → ⊥) where
    -- row 13 refuses in both, or the target passes in both and every trial has one verdict
    abbrev Alike : Type 0
    Alike = (target_refused a.pressure_high target ≡ false) × (target_refused b.pressure_high target ≡ false) × (verdict_of t m b temperature target ≡ verdict_of t m a temperature target)

    alike : (options_refused o ≡ true) ⊎ Alike
    alike = go (options_refused o) (target_refused a.pressure_high target) (between_ends a temperature) refl refl refl
      where
        go : (p q e : Bool) → options_refused o ≡ p → target_refused a.pressure_high target ≡ q → between_ends a temperature ≡ e → (options_refused o ≡ true) ⊎ Alike
        go true q e ep eq ee = inl ep
        go false true e ep eq ee = absurd (n14 (target_refused_lem ep eq))
        go false false false ep eq ee = absurd (n8 (outside_refused ep eq ee))
        go false false true ep eq ee =
            let p = i.pressure in
            inr (eq, target_within a.pressure_high b.pressure_high target p.0 p.1 p.2 eq, verdicts_same ee)

    search_inside : search_of t m b temperature target o ≡ search_of t m a temperature target o
    unfolding search_of outcome_of
    search_inside = go alike
      where
        go : (options_refused o ≡ true) ⊎ Alike → outcome_of b.pressure_high target o (verdict_of t m b temperature target) ≡ outcome_of a.pressure_high target o (verdict_of t m a temperature target)
        go (inl e) = rw e
        go (inr (p, q, v)) = rw (p, q, v)

    -- the trials are the same, in row 11 too
    pub trials_inside : density_trials t m b temperature target o ≡ density_trials t m a temperature target o
    unfolding density_trials trials_of
    trials_inside = go alike
      where
        go : (options_refused o ≡ true) ⊎ Alike → trials_of b.pressure_high target o (verdict_of t m b temperature target) ≡ trials_of a.pressure_high target o (verdict_of t m a temperature target)
        go (inl e) = rw e
        go (inr (p, q, v)) = rw (p, q, v)

    -- and but for row 11 so is the answer
    pub density_inside : (number_of (density_of t m a temperature target o) ≡ 11 → ⊥) → density_of t m b temperature target o ≡ density_of t m a temperature target o
    unfolding density_of finished_of checked_of
    density_inside n11 = ap (finished_of t m b temperature target o) search_inside ∙ go (search_of t m a temperature target o) n8 n11
      where
        refused : (k : ℕ) (last : Interval) (n : ℕ) (e : Result GergState Refusal) → (n ≡ 0 → ⊥) → number_of e ≡ n → number_of (checked_of target o k last e) ≡ n
        refused k last n (Ok s) z h = absurd (z (sym h))
        refused k last n (Err j) z h = h

        go : (w : Outcome) → (number_of (finished_of t m a temperature target o w) ≡ 8 → ⊥) → (number_of (finished_of t m a temperature target o w) ≡ 11 → ⊥) → finished_of t m b temperature target o w ≡ finished_of t m a temperature target o w
        go (Ok f) n8 n11 =
            ap (checked_of target o f.trials f.bracket)
            (evaluate_inside a b i t m temperature f.density (λ e. n8 (refused f.trials f.bracket 8 (evaluate_of t m a temperature f.density) (λ z. omega arith) e)) (λ e. n11 (refused f.trials f.bracket 11 (evaluate_of t m a temperature f.density) (λ z. omega arith) e)))
        go (Err n) n8 n11 = refl
