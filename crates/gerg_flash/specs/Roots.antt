-- The exterior roots: what a root gives, the search, and the answer.
use Rattle.std.specs.Prelude.{List, [], ◌∷◌, ℕ, Float, length, replicate, Result, Ok, Err}
use Rattle.numerics.specs.Double.{+0, pick}
use Rattle.gerg_refusals.specs.Answer.{and_then}
use Rattle.gerg_refusals.specs.declared.Refusal.{Refusal}
use Rattle.gerg_refusals.specs.declared.Refusal.TheVariants as refusal
use Rattle.gerg_tables.specs.declared.Tables.{Tables}
use Rattle.gerg_reducing.specs.declared.GergModel.{GergModel}
use Rattle.gerg.specs.declared.GergState.{GergState}
use Rattle.gerg.specs.declared.Range.{Range}
use Rattle.gerg.specs.Evaluate.{evaluate_of}
use Rattle.gerg_fugacity.specs.Fugacity.{fugacity_of, fugacity_memory}
use Rattle.gerg_grid.specs.Grid.{grid_of}
use Rattle.gerg_scan_steps.specs.Scan.{scan_of}
use Rattle.gerg_scan.specs.Sampling.{sample_of}
use Rattle.gerg_root_list.specs.RootList.{beyond_five, within_envelope, Outcome, Kept, answer_of, memory_by, found_of}

-- "Each root writes density, pressure, Z, Gibbs energy, then the coefficients"
unfoldable pub head_of : Float → GergState → List Float
head_of rho s = rho ∷ s.pressure_pa ∷ s.compressibility ∷ s.gibbs_energy ∷ []

unfoldable pub checked_of : Tables → GergModel → List (List Float) → Float → Float → GergState → Result (Unit {0}) Refusal → Outcome
checked_of t m gradients temperature rho s check =
    and_then check (λ passed. Ok (record { head = head_of rho s; coefficients = fugacity_memory t m gradients s temperature rho (replicate 21 +0) }))

unfoldable pub state_of : Tables → GergModel → List (List Float) → Float → Float → Result GergState Refusal → Outcome
state_of t m gradients temperature rho state = and_then state (λ s. checked_of t m gradients temperature rho s (fugacity_of t m gradients s temperature rho))

-- the state at a root's density, then its fugacity coefficients
unfoldable pub root_at : Tables → GergModel → List (List Float) → Range → Float → Float → Outcome
root_at t m gradients range temperature rho = state_of t m gradients temperature rho (evaluate_of t m range temperature rho)

-- the whole after rows 20 and 21
unfoldable pub searched_of : Tables → GergModel → List (List Float) → Range → Float → Float → Kept
searched_of t m gradients range temperature target =
    found_of (root_at t m gradients range temperature) target (scan_of (sample_of t m range temperature target) target grid_of)

unfoldable pub roots_of : Tables → GergModel → List (List Float) → Range → Float → Float → ℕ → Result ℕ Refusal
roots_of t m gradients range temperature target lent =
    pick (beyond_five m) (Err refusal.BeyondFive)
    (pick (within_envelope temperature target) (answer_of m lent (searched_of t m gradients range temperature target)) (Err refusal.OutsideEnvelope))

-- the lent answer afterwards
unfoldable pub roots_memory : Tables → GergModel → List (List Float) → Range → Float → Float → List Float → List Float
roots_memory t m gradients range temperature target out =
    memory_by m (searched_of t m gradients range temperature target) (roots_of t m gradients range temperature target (length out)) out
