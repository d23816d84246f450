-- The calls of document 01, which name no range, as document 01's rows define them: rows 1 to 5, then the rest in the normal range. Assumes nothing.
use mathlib.Core.Path.{◌≡◌, refl}
use mathlib.Core.List.{List, []}
use Prim.Native.Nat.{ℕ}
use lib.Ieee.{Float}
use Rattle.std.specs.Prelude.{Err}
use Rattle.numerics.specs.Double.{pick}
use Rattle.gerg_refusals.specs.Answer.{and_then, memory_of}
use Rattle.gerg_refusals.specs.declared.Refusal.TheVariants as refusal
use Rattle.gerg_coefficients.specs.Answer.{tables_of}
use Rattle.gerg.specs.Helmholtz.{normal_range}
use Rattle.gerg.specs.Evaluate.{evaluate_of}
use Rattle.gerg_density.specs.Density.{density_of, density_trials}
use Rattle.gerg_search.specs.declared.Options.{Options}
use Rattle.gerg_prepared.specs.Mixed.{mixed_of}
use Rattle.gerg_calls.specs.Calls as calls

module _ (bytes list : List ℕ) (fractions : List Float) where
  module _ (temperature rho : Float) where
    pub properties_normal :
        calls.properties_of bytes list fractions temperature rho ≡
        and_then (mixed_of bytes list fractions) (λ m. evaluate_of (tables_of bytes) m.model normal_range temperature rho)
    unfolding calls.properties_in
    properties_normal = refl

    pub fugacity_normal :
        (out : List Float) →
        let t = tables_of bytes in
        calls.fugacity_answer bytes list fractions temperature rho out ≡
        and_then (mixed_of bytes list fractions)
        (λ m. pick (calls.too_short m.model out) (Err (refusal.TooShort m.model.components)) (calls.fugacity_after t m.model m.gradients temperature rho (evaluate_of t m.model normal_range temperature rho)))
    unfolding calls.fugacity_in calls.fugacity_from
    fugacity_normal out = refl

    pub fugacity_memory_normal :
        (out : List Float) →
        let t = tables_of bytes in
        calls.fugacity_written bytes list fractions temperature rho out ≡
        memory_of (mixed_of bytes list fractions) out (λ m. pick (calls.too_short m.model out) out (calls.memory_after t m.model m.gradients temperature rho out (evaluate_of t m.model normal_range temperature rho)))
    unfolding calls.fugacity_written_in calls.memory_from
    fugacity_memory_normal out = refl

  module _ (temperature target : Float) (o : Options) where
    pub density_normal :
        calls.density_call bytes list fractions temperature target o ≡
        and_then (mixed_of bytes list fractions) (λ m. density_of (tables_of bytes) m.model normal_range temperature target o)
    unfolding calls.density_in
    density_normal = refl

    pub trials_normal :
        calls.density_call_trials bytes list fractions temperature target o ≡
        memory_of (mixed_of bytes list fractions) [] (λ m. density_trials (tables_of bytes) m.model normal_range temperature target o)
    unfolding calls.density_trials_in
    trials_normal = refl
