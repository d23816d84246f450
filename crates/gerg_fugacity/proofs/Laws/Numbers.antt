-- `fugacity` refuses by number 12 and value 0. Assumes nothing.
use mathlib.Core.Bool.{Bool, true, false}
use mathlib.Core.List.{List}
use mathlib.Core.Path.{◌≡◌, refl}
use native.Mathlib.Omega.{arith}
use lib.Ieee.{Float}
use Rattle.numerics.specs.Double.{pick}
use Rattle.gerg_tables.specs.declared.Tables.{Tables}
use Rattle.gerg_reducing.specs.declared.GergModel.{GergModel}
use Rattle.gerg_model.specs.Mixture.{all_finite}
use Rattle.gerg.specs.declared.GergState.{GergState}
use Rattle.gerg_fugacity.specs.Fugacity.{ln_phis, fugacity_of}
use Rattle.gerg.proofs.Laws.Numbers.{Late, late_none, late_row}
use Rattle.gerg_refusals.specs.Answer.{number_of, value_of, passed}
use Rattle.gerg_refusals.proofs.Then.{accepted}
use Rattle.std.specs.Prelude.{Err}
use Rattle.gerg_refusals.specs.declared.Refusal.TheVariants as refusal

number_of_lem : (b : Bool) → Late 12 (number_of (pick b passed (Err refusal.NotFinite)))
number_of_lem true = late_none 12
number_of_lem false = late_row 12 12 (omega arith) (omega arith)

value_of_lem : (b : Bool) → value_of (pick b passed (Err refusal.NotFinite)) ≡ 0
value_of_lem true = refl
value_of_lem false = refl

module _ (t : Tables) (m : GergModel) (gradients : List (List Float)) (s : GergState) (T rho : Float) where
  pub fugacity_numbers : Late 12 (number_of (fugacity_of t m gradients s T rho))
  unfolding fugacity_of
  fugacity_numbers = number_of_lem (all_finite (ln_phis t m gradients s T rho) m.components)

  pub fugacity_value_0 : value_of (fugacity_of t m gradients s T rho) ≡ 0
  unfolding fugacity_of
  fugacity_value_0 = value_of_lem (all_finite (ln_phis t m gradients s T rho) m.components)

  -- number 0 is no refusal's
  pub fugacity_accepted : number_of (fugacity_of t m gradients s T rho) ≡ 0 → fugacity_of t m gradients s T rho ≡ passed
  fugacity_accepted e = (accepted (fugacity_of t m gradients s T rho) e).1
