-- What the calls `outer_roots` and `pure_saturation` answer and write.
use Rattle.std.specs.Prelude.{List, [], ℕ, Float, length, Result, Option}
use Rattle.gerg_refusals.specs.Answer.{and_then, memory_of}
use Rattle.gerg_refusals.specs.declared.Refusal.{Refusal}
use Rattle.gerg_coefficients.specs.Answer.{tables_of}
use Rattle.gerg.specs.Helmholtz.{normal_range}
use Rattle.gerg_flash.specs.Roots.{roots_of, roots_memory}
use Rattle.gerg_ph.specs.Saturation.{pure_saturation_of, saturation_trials}
use Rattle.gerg_saturation.specs.declared.PureSaturation.{PureSaturation}
use Rattle.gerg_prepared.specs.Mixed.{mixed_of}

-- the call `outer_roots`: rows 1 to 5, then the roots in the normal range
unfoldable pub roots_call : List ℕ → List ℕ → List Float → Float → Float → List Float → Result ℕ Refusal
roots_call bytes list fractions temperature target out =
    and_then (mixed_of bytes list fractions) (λ m. roots_of (tables_of bytes) m.model m.gradients normal_range temperature target (length out))

-- the lent memory afterwards: "Every row leaves all lent memory as it was"
unfoldable pub roots_written : List ℕ → List ℕ → List Float → Float → Float → List Float → List Float
roots_written bytes list fractions temperature target out =
    memory_of (mixed_of bytes list fractions) out (λ m. roots_memory (tables_of bytes) m.model m.gradients normal_range temperature target out)

-- the call `pure_saturation`: rows 1 to 5, then the search in the normal range
unfoldable pub saturation_call : List ℕ → List ℕ → List Float → Float → Float → Float → ℕ → Result (Option PureSaturation) Refusal
saturation_call bytes list fractions target lo hi limit =
    and_then (mixed_of bytes list fractions) (λ m. pure_saturation_of (tables_of bytes) m.model m.gradients normal_range target lo hi limit)

-- the trials of that call: none where rows 1 to 5 refuse
unfoldable pub saturation_call_trials : List ℕ → List ℕ → List Float → Float → Float → Float → ℕ → List Float
saturation_call_trials bytes list fractions target lo hi limit =
    memory_of (mixed_of bytes list fractions) [] (λ m. saturation_trials (tables_of bytes) m.model m.gradients normal_range target lo hi limit)
