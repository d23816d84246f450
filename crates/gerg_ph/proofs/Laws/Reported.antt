-- What the answer of a saturation search reports. Assumes nothing.
use mathlib.Core.Path.{refl}
use mathlib.Core.Bool.{Bool, true, false}
use mathlib.Core.List.{List, []}
use Prim.Native.Nat.{ℕ, zero-le}
use native.Mathlib.Omega.{arith}
use lib.Ieee.{Float}
use lib.ListN.{length}
use Rattle.std.specs.Prelude.{Err, IfErr}
use Rattle.numerics.specs.Double.{pick}
use Rattle.gerg_refusals.specs.declared.Refusal.TheVariants as refusal
use Rattle.gerg_tables.specs.declared.Tables.{Tables}
use Rattle.gerg_reducing.specs.declared.GergModel.{GergModel}
use Rattle.gerg.specs.declared.Range.{Range}
use Rattle.gerg_saturation.specs.Checks.{saturation_refused}
use Rattle.gerg_saturation.specs.Halvings.{search_of, trials_of}
use Rattle.gerg_saturation.proofs.Laws.Reported.{Row, LateReports, late_reports, search_row}
use Rattle.gerg_ph.specs.Saturation.{verdict_at, interval_of, pure_saturation_of, saturation_trials}
use Rattle.gerg_ph.proofs.Laws.Rows.{verdict_early}

module _ (t : Tables) (m : GergModel) (gradients : List (List Float)) (range : Range) (pressure lo hi : Float) (limit : ℕ) where
  row : IfErr (pure_saturation_of t m gradients range pressure lo hi limit) (Row (length (saturation_trials t m gradients range pressure lo hi limit)))
  unfolding pure_saturation_of saturation_trials
  row = go (saturation_refused m lo hi)
    where
      go :
          (q : Bool) →
          IfErr (pick q (Err refusal.NotPure) (search_of (verdict_at t m gradients range pressure) limit (interval_of lo hi)))
          (Row (length (pick q [] (trials_of (verdict_at t m gradients range pressure) limit (interval_of lo hi)))))
      go true = record { late = omega arith; most = omega arith; row_26 = λ e. omega arith; others = λ n. refl; value = zero-le }
      go false = search_row (verdict_at t m gradients range pressure) (λ x. verdict_early t m gradients range pressure x) limit (interval_of lo hi)

  pub reports : LateReports (pure_saturation_of t m gradients range pressure lo hi limit) (length (saturation_trials t m gradients range pressure lo hi limit))
  reports = late_reports (pure_saturation_of t m gradients range pressure lo hi limit) (length (saturation_trials t m gradients range pressure lo hi limit)) row
