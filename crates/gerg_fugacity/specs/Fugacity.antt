-- Fugacity coefficients: ln φ of each listed component.
use Rattle.std.specs.Prelude.{List, [], ℕ, Float, get_or, replicate, Result, Err}
use Rattle.std.specs.Float.{nan}
use Rattle.numerics.specs.Double.{◌⊕◌, ◌⊖◌, ◌⊗◌, ◌⊘◌, +0, pick}
use Rattle.numerics.specs.Iterate.{iter}
use Rattle.numerics.specs.Fill.{filled}
use Rattle.elementary_ln.specs.Ln.{ln_of}
use Rattle.gerg_tables.specs.declared.Tables.{Tables}
use Rattle.gerg_reducing.specs.Reduced.{thousand}
use Rattle.gerg_model.specs.Mixture.{all_finite}
use Rattle.gerg_reducing.specs.Reducing.{bumped}
use Rattle.gerg_reducing.specs.declared.GergModel.{GergModel}
use Rattle.gerg_derivatives.specs.declared.derivatives.GergDerivatives.{GergDerivatives}
use Rattle.gerg.specs.declared.GergState.{GergState}
use Rattle.gerg_composition.specs.Composition.{composition}
use Rattle.gerg_refusals.specs.Answer.{passed}
use Rattle.gerg_refusals.specs.declared.Refusal.{Refusal}
use Rattle.gerg_refusals.specs.declared.Refusal.TheVariants as refusal

-- what component i adds through the reducing volume (row 0) and temperature (row 1)
unfoldable pub through_reducing : GergModel → List (List Float) → GergDerivatives → ℕ → List Float → List Float
through_reducing m gradients a i g =
    bumped i
    (a.ar_d ⊗ get_or (get_or gradients 0 []) i nan ⊘ (thousand ⊘ m.reducing_density)
    ⊕ a.ar_t ⊗ get_or (get_or gradients 1 []) i nan ⊘ m.reducing_temperature)
    g

-- the derivatives by mole fraction at temperature T and density rho
unfoldable pub molar_gradient : Tables → GergModel → List (List Float) → GergDerivatives → Float → Float → List Float
molar_gradient t m gradients a T rho =
    iter (through_reducing m gradients a) 21
    (composition t m.fractions (rho ⊘ m.reducing_density) (m.reducing_temperature ⊘ T))

-- the sum over 21 of fraction times derivative
unfoldable pub weighted_sum : List Float → List Float → Float
weighted_sum x g = iter (λ i sum. sum ⊕ get_or x i nan ⊗ get_or g i nan) 21 +0

-- d(n ar)/dn_i at fixed T and volume, less ln Z: derivative of the component, weighted sum, ln Z
unfoldable pub ln_phi : GergDerivatives → Float → Float → Float → Float
ln_phi a derivative weighted lnZ = a.ar ⊕ a.ar_d ⊕ derivative ⊖ weighted ⊖ lnZ

-- ln φ of the listed component k
unfoldable pub ln_phi_at : GergModel → GergState → List Float → ℕ → Float
ln_phi_at m s g k = ln_phi s.derivatives (get_or g (get_or m.component_indices k 0) nan) (weighted_sum m.fractions g) (ln_of s.compressibility)

-- "One per listed component in list order, zero fractions too"; the places past them hold 0
unfoldable pub ln_phis : Tables → GergModel → List (List Float) → GergState → Float → Float → List Float
ln_phis t m gradients s T rho = filled (ln_phi_at m s (molar_gradient t m gradients s.derivatives T rho)) m.components (replicate 21 +0)

-- "a fugacity coefficient .. nonfinite: 12"
unfoldable pub fugacity_of : Tables → GergModel → List (List Float) → GergState → Float → Float → Result (Unit {0}) Refusal
fugacity_of t m gradients s T rho = pick (all_finite (ln_phis t m gradients s T rho) m.components) passed (Err refusal.NotFinite)

-- "doubles of a lent answer past those needed stay as lent"; "Every row leaves all lent memory as it was"
unfoldable pub fugacity_memory : Tables → GergModel → List (List Float) → GergState → Float → Float → List Float → List Float
fugacity_memory t m gradients s T rho out =
    pick (all_finite (ln_phis t m gradients s T rho) m.components)
    (filled (λ k. get_or (ln_phis t m gradients s T rho) k nan) m.components out) out
