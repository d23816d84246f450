-- What the exterior roots at a temperature tell of saturation: the closure `sample` of gerg_ph.rs.
use Rattle.std.specs.Prelude.{List, ℕ, ◌-◌, eqb, Float, Ok, Err, length, get_or}
use Rattle.numerics.specs.Double.{pick}
use Rattle.gerg_refusals.specs.Answer.{and_then}
use Rattle.gerg_refusals.specs.declared.Refusal.TheVariants as refusal
use Rattle.gerg_tables.specs.declared.Tables.{Tables}
use Rattle.gerg_reducing.specs.declared.GergModel.{GergModel}
use Rattle.gerg.specs.declared.Range.{Range}
use Rattle.gerg_root_list.specs.RootList.{Kept, no_root, beyond_five, within_envelope}
use Rattle.gerg_flash.specs.Roots.{searched_of}
use Rattle.gerg_saturation.specs.Answer.{Sample}
use Rattle.gerg_saturation.specs.Checks.{positive_place}
use Rattle.gerg_saturation.specs.Coexistence.{sign_of, coexisting_of}
use Rattle.gerg_saturation.specs.declared.Exterior.TheVariants.{Single}

-- a refusal of the roots; "no exterior root": 23; a single root; else the vapor is the first and the liquid the last
unfoldable pub roots_sample : Float → ℕ → Float → Float → Kept → Sample
roots_sample reducing-density place temperature pressure kept =
    and_then kept
    (λ roots.
    pick (eqb (length roots) 0) (Err refusal.NoRoot)
    (pick (eqb (length roots) 1) (Ok (Single (sign_of reducing-density (get_or roots 0 no_root).head)))
    (Ok (coexisting_of place temperature pressure (get_or roots (length roots - 1) no_root) (get_or roots 0 no_root)))))

-- rows 20 and 21, then the roots
unfoldable pub sample_of : Tables → GergModel → List (List Float) → Range → Float → Float → Sample
sample_of t m gradients range pressure temperature =
    pick (beyond_five m) (Err refusal.BeyondFive)
    (pick (within_envelope temperature pressure) (roots_sample m.reducing_density (positive_place m) temperature pressure (searched_of t m gradients range temperature pressure)) (Err refusal.OutsideEnvelope))
