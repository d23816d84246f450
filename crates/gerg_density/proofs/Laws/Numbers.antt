-- `density` refuses by a number from 6 to 19; only rows 18 and 19, which are the search's own, have a value. Assumes nothing.
use mathlib.Core.Path.{◌≡◌, refl, ap}
use mathlib.Core.Bool.{Bool, true, false}
use Prim.Native.Nat.{ℕ, ◌≤◌}
use native.Mathlib.Omega.{arith}
use lib.Dec.{lit≤}
use lib.Ieee.{Float}
use Rattle.std.specs.Prelude.{Result, Ok, Err, IfErr}
use Rattle.std.proofs.lemmas.Result.{IfErr-weaker}
use Rattle.numerics.specs.Double.{pick}
use Rattle.gerg_refusals.specs.Answer.{number_of, value_of}
use Rattle.gerg_refusals.specs.declared.Refusal.{Refusal}
use Rattle.gerg_refusals.specs.declared.Refusal.TheVariants as refusal
use Rattle.gerg_refusals.proofs.Then.{accepted}
use Rattle.gerg_refusals.proofs.Told.{refusal_told, with_number}
use Rattle.gerg_tables.specs.declared.Tables.{Tables}
use Rattle.gerg_reducing.specs.declared.GergModel.{GergModel}
use Rattle.gerg.specs.declared.GergState.{GergState}
use Rattle.gerg.specs.declared.Range.{Range}
use Rattle.gerg.specs.Evaluate.{evaluate_of}
use Rattle.gerg.proofs.Laws.Numbers as late
use Rattle.gerg.proofs.Laws.Numbers.{Evaluated, Late, late_numbered, evaluate_rows}
use Rattle.interval.specs.declared.Interval.{Interval}
use Rattle.gerg_search.specs.declared.Options.{Options}
use Rattle.gerg_search.specs.Sample.{Outcome}
use Rattle.gerg_search.proofs.Laws.Ended.{Row, failed_row, Plain, failed_plain}
use Rattle.gerg_density.specs.declared.DensityResult.{DensityResult}
use Rattle.gerg_density.specs.Density.{verdict_of, search_of, residual_of, beyond_of, checked_of, finished_of, density_of}
use Rattle.gerg_density.proofs.Laws.Verdict.{verdict_stopped}

-- ---- the state at an accepted density: rows 6 to 12 and 17, which have no value
abbrev pub Checked : Result DensityResult Refusal → Type 0
Checked a = IfErr a (late.Row 17)

checked : (target : Float) (o : Options) (trials : ℕ) (last : Interval) (a : Result GergState Refusal) → Evaluated a → Checked (checked_of target o trials last a)
unfolding checked_of
checked target o trials last (Err r) h = let most = h.1 in (h.0, omega arith, h.2)
checked target o trials last (Ok s) h = go (beyond_of o.tolerance (residual_of target s)) _
  where
    go : (b : Bool) (r : DensityResult) → Checked (pick b (Err refusal.PressureCheck) (Ok r))
    go true r = (lit≤ tt, lit≤ tt, refl)
    go false r = tt

module _ (t : Tables) (m : GergModel) (range : Range) (temperature target : Float) (o : Options) where
  pub found : (x : Float) (k : ℕ) (b : Interval) → Checked (checked_of target o k b (evaluate_of t m range temperature x))
  found x k b = checked target o k b (evaluate_of t m range temperature x) (evaluate_rows t m range temperature x)

  trial : (x : Float) (r : Refusal) → verdict_of t m range temperature target x ≡ Err r → Row r
  trial x r e = let w = verdict_stopped t m range temperature target x r e in let below = w.1 in (w.0, omega arith)

  -- ---- the whole answer
  density_rows : IfErr (density_of t m range temperature target o) Row
  unfolding density_of search_of finished_of
  density_rows = go (search_of t m range temperature target o) (failed_row range.pressure_high target o (verdict_of t m range temperature target) trial)
    where
      go : (w : Outcome) → ((r : Refusal) → w ≡ Err r → Row r) → IfErr (finished_of t m range temperature target o w) Row
      go (Ok f) row = IfErr-weaker _ _ Row (λ r c. let most = c.1 in (c.0, omega arith)) (found f.density f.trials f.bracket)
      go (Err r) row = row r refl

  pub density_numbers : Late 19 (number_of (density_of t m range temperature target o))
  density_numbers = late_numbered 19 (density_of t m range temperature target o) density_rows

  -- number 0 is no refusal's
  pub density_accepted : number_of (density_of t m range temperature target o) ≡ 0 → (r : DensityResult) × (density_of t m range temperature target o ≡ Ok r)
  density_accepted = accepted (density_of t m range temperature target o)

  plain : (x : Float) (r : Refusal) → verdict_of t m range temperature target x ≡ Err r → Plain r
  plain x r e a b = (verdict_stopped t m range temperature target x r e).2

  -- "The value is 0 unless given"
  pub no_value : (number_of (density_of t m range temperature target o) ≡ 18 → ⊥) → (number_of (density_of t m range temperature target o) ≡ 19 → ⊥) → value_of (density_of t m range temperature target o) ≡ 0
  unfolding density_of search_of finished_of
  no_value = go (search_of t m range temperature target o) (failed_plain range.pressure_high target o (verdict_of t m range temperature target) plain)
    where
      go :
          (w : Outcome) → ((r : Refusal) → w ≡ Err r → Plain r) →
          (number_of (finished_of t m range temperature target o w) ≡ 18 → ⊥) → (number_of (finished_of t m range temperature target o w) ≡ 19 → ⊥) → value_of (finished_of t m range temperature target o w) ≡ 0
      go (Ok f) g p q = late.value_0 17 _ (found f.density f.trials f.bracket)
      go (Err n) g p q = g n refl p q

  -- a refusal from row 18 on is the search's own
  pub own_refusal : (n : ℕ) → 18 ≤ n → number_of (density_of t m range temperature target o) ≡ n → search_of t m range temperature target o ≡ Err (refusal_told n (value_of (density_of t m range temperature target o)))
  unfolding density_of finished_of
  own_refusal n h e = go (search_of t m range temperature target o) e
    where
      go : (w : Outcome) → number_of (finished_of t m range temperature target o w) ≡ n → w ≡ Err (refusal_told n (value_of (finished_of t m range temperature target o w)))
      go (Err r) e = ap Err (with_number r n e)
      go (Ok f) e = let k = (late.late_rows 17 _ (found f.density f.trials f.bracket)).most in absurd (omega arith)
