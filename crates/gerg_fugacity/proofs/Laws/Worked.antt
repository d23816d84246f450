-- The coefficients from a gradient, a weighted sum and a logarithm that are worked out once. Assumes nothing.
use mathlib.Core.Path.{◌≡◌, ap, ◌∙◌}
use mathlib.Core.List.{List}
use lib.Ieee.{Float, nan}
use lib.ListN.{get_or, replicate}
use Rattle.numerics.specs.Double.{+0}
use Rattle.numerics.specs.Fill.{filled}
use Rattle.elementary_ln.specs.Ln.{ln_of}
use Rattle.gerg_tables.specs.declared.Tables.{Tables}
use Rattle.gerg_fugacity.specs.Fugacity.{molar_gradient, weighted_sum, ln_phi, ln_phi_at, ln_phis}
use Rattle.gerg_reducing.specs.declared.GergModel.{GergModel}
use Rattle.gerg.specs.declared.GergState.{GergState}

module _ (t : Tables) (m : GergModel) (gradients : List (List Float)) (s : GergState) (T rho : Float) where
  abbrev worked : List Float → Float → Float → List Float
  worked g weighted lnZ = filled (λ k. ln_phi s.derivatives (get_or g (get_or m.component_indices k 0) nan) weighted lnZ) m.components (replicate 21 +0)

  pub ln_phis_worked :
      (g : List Float) (weighted lnZ : Float) {values : List Float} →
      g ≡ molar_gradient t m gradients s.derivatives T rho → weighted ≡ weighted_sum m.fractions g → lnZ ≡ ln_of s.compressibility →
      values ≡ worked g weighted lnZ → values ≡ ln_phis t m gradients s T rho
  unfolding ln_phis ln_phi_at
  ln_phis_worked g weighted lnZ eg ew ez ev =
      ev ∙ ap (λ (z : Float). worked g weighted z) ez ∙ ap (λ (w : Float). worked g w (ln_of s.compressibility)) ew
      ∙ ap (λ (h : List Float). worked h (weighted_sum m.fractions h) (ln_of s.compressibility)) eg
