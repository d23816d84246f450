-- What a trial answers: rows 12 and 15, or a residual with the sign of its pressure less the target. Assumes nothing.
use mathlib.Core.Path.{◌≡◌, refl, subst, ap, sym}
use mathlib.Core.Bool.{Bool, true, false, not, ◌||◌}
use Prim.Native.Nat.{◌<◌}
use native.Mathlib.Omega.{arith}
use lib.Dec.{T}
use lib.Ieee.{Float, of_bits, lt, le}
use lib.Ieee.Scale.{finite}
use lib.Ieee.Positive.{positive}
use Rattle.numerics.specs.Double.{◌⊖◌, ◌⊘◌, +0, one, pick}
use Rattle.numerics.specs.Quotient.{Signs, signs}
use Rattle.gerg_refusals.specs.Refusal.{number_of, value_of}
use Rattle.gerg_density.specs.Trial.{scale_of, sample_of}
use Rattle.std.specs.Prelude.{Ok, Err, Result}
use Rattle.gerg_refusals.specs.declared.Refusal.{Refusal}
use Rattle.gerg_refusals.specs.declared.Refusal.TheVariants as refusal

-- a refusal of the trial itself is row 12 or 15
pub sample_stopped : (target p derivative : Float) (r : Refusal) → sample_of target p derivative ≡ Err r → (5 < number_of r) × (number_of r < 16) × (value_of r ≡ 0)
unfolding sample_of
sample_stopped target p derivative r e = go (not (finite p) || not (finite derivative)) (le derivative +0) e
  where
    go : (a b : Bool) → pick {A = Result (Float × Float) Refusal} a (Err refusal.NotFinite) (pick b (Err refusal.TrialUnstable) (Ok ((p ⊖ target) ⊘ scale_of target, derivative ⊘ scale_of target))) ≡ Err r → (5 < number_of r) × (number_of r < 16) × (value_of r ≡ 0)
    go true b e = let q : refusal.NotFinite ≡ r = cc in let k : 12 ≡ number_of r = ap number_of q in (omega arith, omega arith, sym (ap value_of q))
    go false true e = let q : refusal.TrialUnstable ≡ r = cc in let k : 15 ≡ number_of r = ap number_of q in (omega arith, omega arith, sym (ap value_of q))
    go false false e = cc

one_positive : T (positive one)
unfolding of_bits
one_positive = tt

scale_positive : (target : Float) → T (positive target) → T (positive (scale_of target))
unfolding scale_of
scale_positive target t = go (lt target one)
  where
    go : (b : Bool) → T (positive (pick b one target))
    go true = one_positive
    go false = t

-- a residual is the scaled difference, a number; below zero only where the pressure is below the target, above zero only where it is above
pub record Scaled (target p f : Float) : Type 0 where
  pub is : f ≡ (p ⊖ target) ⊘ scale_of target
  pub signs : Signs p target f

pub sample_residual : (target p derivative f d : Float) → T (positive target) → sample_of target p derivative ≡ Ok (f, d) → Scaled target p f
unfolding sample_of
sample_residual target p derivative f d t e = go (finite p) (finite derivative) (le derivative +0) refl e
  where
    go : (a b c : Bool) → finite p ≡ a → pick {A = Result (Float × Float) Refusal} (not a || not b) (Err refusal.NotFinite) (pick c (Err refusal.TrialUnstable) (Ok ((p ⊖ target) ⊘ scale_of target, derivative ⊘ scale_of target))) ≡ Ok (f, d) → Scaled target p f
    go false b c q e = cc
    go true false c q e = cc
    go true true true q e = cc
    go true true false q e =
        let both : ((p ⊖ target) ⊘ scale_of target, derivative ⊘ scale_of target) ≡ (f, d) = cc in
        let r : (p ⊖ target) ⊘ scale_of target ≡ f = ap (λ (w : Float × Float). w.0) both in
        subst (λ (g : Float). Scaled target p g) r (record { is = refl; signs = signs p target (scale_of target) q t (scale_positive target t) })
