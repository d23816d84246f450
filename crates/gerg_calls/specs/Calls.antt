-- What the calls `properties`, `fugacity` and `density` answer and write in a range, and in the normal one.
use Rattle.std.specs.Prelude.{List, [], Bool, ℕ, ltb, Float, length, Result, Ok, Err}
use Rattle.numerics.specs.Double.{pick}
use Rattle.gerg_refusals.specs.Answer.{and_then, memory_of}
use Rattle.gerg_refusals.specs.declared.Refusal.{Refusal}
use Rattle.gerg_refusals.specs.declared.Refusal.TheVariants as refusal
use Rattle.gerg_tables.specs.declared.Tables.{Tables}
use Rattle.gerg_coefficients.specs.Answer.{tables_of}
use Rattle.gerg_reducing.specs.declared.GergModel.{GergModel}
use Rattle.gerg.specs.declared.GergState.{GergState}
use Rattle.gerg.specs.declared.Range.{Range}
use Rattle.gerg.specs.Helmholtz.{normal_range}
use Rattle.gerg.specs.Evaluate.{evaluate_of}
use Rattle.gerg_fugacity.specs.Fugacity.{fugacity_of, fugacity_memory}
use Rattle.gerg_search.specs.declared.Options.{Options}
use Rattle.gerg_density.specs.declared.DensityResult.{DensityResult}
use Rattle.gerg_density.specs.Density.{density_of, density_trials}
use Rattle.gerg_prepared.specs.Mixed.{mixed_of}

-- the call `properties`, "over that range .. chosen by the call": rows 1 to 5, then 6 to 12 in the range
unfoldable pub properties_in : List ℕ → List ℕ → List Float → Range → Float → Float → Result GergState Refusal
properties_in bytes list fractions range temperature rho =
    and_then (mixed_of bytes list fractions) (λ m. evaluate_of (tables_of bytes) m.model range temperature rho)

-- a state, once its coefficients are refused by nothing (row 12)
unfoldable pub fugacity_after : Tables → GergModel → List (List Float) → Float → Float → Result GergState Refusal → Result GergState Refusal
fugacity_after t m gradients temperature rho e =
    and_then e (λ s. and_then (fugacity_of t m gradients s temperature rho) (λ passed. Ok s))

unfoldable pub memory_after : Tables → GergModel → List (List Float) → Float → Float → List Float → Result GergState Refusal → List Float
memory_after t m gradients temperature rho out e = memory_of e out (λ s. fugacity_memory t m gradients s temperature rho out)

-- "Needed here: as many doubles as the list is long"
abbrev pub too_short : GergModel → List Float → Bool
too_short m out = ltb (length out) m.components

-- "Number 24 is tested right after row 5 for fugacity"
unfoldable pub fugacity_from : Tables → GergModel → List (List Float) → Range → Float → Float → List Float → Result GergState Refusal
fugacity_from t m gradients range temperature rho out =
    pick (too_short m out) (Err (refusal.TooShort m.components)) (fugacity_after t m gradients temperature rho (evaluate_of t m range temperature rho))

-- "Every row leaves all lent memory as it was"
unfoldable pub memory_from : Tables → GergModel → List (List Float) → Range → Float → Float → List Float → List Float
memory_from t m gradients range temperature rho out =
    pick (too_short m out) out (memory_after t m gradients temperature rho out (evaluate_of t m range temperature rho))

-- the call `fugacity`: its answer, and the lent memory afterwards
unfoldable pub fugacity_in : List ℕ → List ℕ → List Float → Range → Float → Float → List Float → Result GergState Refusal
fugacity_in bytes list fractions range temperature rho out =
    and_then (mixed_of bytes list fractions) (λ m. fugacity_from (tables_of bytes) m.model m.gradients range temperature rho out)

unfoldable pub fugacity_written_in : List ℕ → List ℕ → List Float → Range → Float → Float → List Float → List Float
fugacity_written_in bytes list fractions range temperature rho out =
    memory_of (mixed_of bytes list fractions) out (λ m. memory_from (tables_of bytes) m.model m.gradients range temperature rho out)

-- the options of a C caller
abbrev pub options_of : Float → Float → ℕ → Float → Options
options_of lo hi limit tolerance = record { bracket = record { lo = lo; hi = hi }; limit = limit; tolerance = tolerance }

-- the call `density`: rows 1 to 5, then the search
unfoldable pub density_in : List ℕ → List ℕ → List Float → Range → Float → Float → Options → Result DensityResult Refusal
density_in bytes list fractions range temperature target options =
    and_then (mixed_of bytes list fractions) (λ m. density_of (tables_of bytes) m.model range temperature target options)

-- the trials of that call: none where rows 1 to 5 refuse
unfoldable pub density_trials_in : List ℕ → List ℕ → List Float → Range → Float → Float → Options → List Float
density_trials_in bytes list fractions range temperature target options =
    memory_of (mixed_of bytes list fractions) [] (λ m. density_trials (tables_of bytes) m.model range temperature target options)

-- ---- "A request that names no range means the normal one"
abbrev pub properties_of : List ℕ → List ℕ → List Float → Float → Float → Result GergState Refusal
properties_of bytes list fractions temperature rho = properties_in bytes list fractions normal_range temperature rho

abbrev pub fugacity_answer : List ℕ → List ℕ → List Float → Float → Float → List Float → Result GergState Refusal
fugacity_answer bytes list fractions temperature rho out = fugacity_in bytes list fractions normal_range temperature rho out

abbrev pub fugacity_written : List ℕ → List ℕ → List Float → Float → Float → List Float → List Float
fugacity_written bytes list fractions temperature rho out = fugacity_written_in bytes list fractions normal_range temperature rho out

abbrev pub density_call : List ℕ → List ℕ → List Float → Float → Float → Options → Result DensityResult Refusal
density_call bytes list fractions temperature target options = density_in bytes list fractions normal_range temperature target options

abbrev pub density_call_trials : List ℕ → List ℕ → List Float → Float → Float → Options → List Float
density_call_trials bytes list fractions temperature target options = density_trials_in bytes list fractions normal_range temperature target options
