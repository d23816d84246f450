-- The mixture model: fractions by component, molar mass, reducing values and their gradients. Row 0 is the volume, row 1 the temperature.
use Rattle.std.specs.Prelude.{Bool, not, ◌&&◌, List, [], ℕ, ◌-◌, eqb, Float, length, get_or, set, replicate}
use Rattle.std.specs.Float.{nan}
use Rattle.std.specs.Float.Ieee.{lt}
use Rattle.std.specs.Float.Ieee.Scale.{finite}
use Rattle.numerics.specs.Double.{◌⊕◌, ◌⊗◌, ◌⊘◌, +0}
use Rattle.numerics.specs.Iterate.{iter}
use Rattle.gerg_tables.specs.Tables.{mmi_gerg}
use Rattle.gerg_model.specs.MixtureCheck.{first_place}
use Rattle.gerg_reducing.specs.declared.GergModel.{GergModel}
use Rattle.gerg_reducing.specs.Reducing.{reducing}
use Rattle.gerg_reducing.specs.Reduced.{thousand}

-- the mole fraction of each of the 21 components: that of the place that lists it, else 0
unfoldable pub by_component : List ℕ → List Float → List Float
by_component list fractions = iter (λ k x. set x (get_or list k 0 - 1) (get_or fractions k nan)) (length list) (replicate 21 +0)

-- the listed components in list order, each less 1
unfoldable pub indices_of : List ℕ → List ℕ
indices_of list = iter (λ k a. set a k (get_or list k 0 - 1)) (length list) (replicate 21 0)

-- molar mass, kg/mol
unfoldable pub molar_mass : List Float → List Float → Float
molar_mass doubles x = iter (λ i mass. mass ⊕ get_or x i nan ⊗ mmi_gerg doubles i ⊘ thousand) 21 +0

-- "Reducing density is 1000 / volume"
unfoldable pub model_of : List Float → List ℕ → List Float → GergModel
model_of doubles list fractions =
    let x = by_component list fractions in
    record {
      fractions = x;
      component_indices = indices_of list;
      components = length list;
      reducing_temperature = reducing doubles x 1;
      reducing_density = thousand ⊘ reducing doubles x 0;
      molar_mass = molar_mass doubles x;
    }

-- whether place k holds an infinity or a NaN
unfoldable pub nonfinite_at : List Float → ℕ → Bool
nonfinite_at values k = not (finite (get_or values k nan))

-- whether the first n are finite
unfoldable pub all_finite : List Float → ℕ → Bool
all_finite values n = eqb (first_place (nonfinite_at values) n 0) n

-- "reducing values not finite and positive, or gradient nonfinite: 5"
unfoldable pub reducing_sound : GergModel → List (List Float) → Bool
reducing_sound m gradients =
    ((((finite m.reducing_temperature && lt +0 m.reducing_temperature) && finite m.reducing_density) && lt +0 m.reducing_density)
    && all_finite (get_or gradients 0 []) 21) && all_finite (get_or gradients 1 []) 21
