-- What a refused temperature says of its sample, what ends that enclose are, and what row 25 leaves. Assumes nothing.
use mathlib.Core.Path.{◌≡◌, refl}
use mathlib.Core.Bool.{Bool, true, false, not, ◌||◌}
use Prim.Native.Nat.{ℕ}
use lib.Dec.{T, eqb}
use lib.Ieee.{Float, lt}
use lib.Ieee.Scale.{finite}
use Rattle.std.specs.Prelude.{Ok, Err, IfErr}
use Rattle.numerics.specs.Tests.{holds, not-false, or_false}
use Rattle.gerg_reducing.specs.declared.GergModel.{GergModel}
use Rattle.gerg_refusals.specs.declared.Refusal.{Refusal}
use Rattle.gerg_saturation.specs.Answer.{Sample, Tried}
use Rattle.gerg_saturation.specs.Checks.{positive_fractions, refused_by, saturation_refused}
use Rattle.gerg_saturation.specs.Coexistence.{tried_of}
use Rattle.gerg_saturation.specs.Halvings.{encloses}
use Rattle.gerg_saturation.specs.declared.Verdict.TheVariants.{Accepted, Apart}

-- what holds of a sample's refusal holds of the temperature's
pub tried_refusal : (P : Refusal → Type 0) (s : Sample) → IfErr s P → IfErr (tried_of s) P
unfolding tried_of
tried_refusal P (Ok roots) p = tt
tried_refusal P (Err r) p = p

pub refused_tried : (r : Refusal) → tried_of (Err r) ≡ Err r
unfolding tried_of
refused_tried r = refl

-- ---- ends that enclose are apart, so neither is refused
abbrev pub is_apart : Tried → Bool
is_apart (Ok (Accepted s)) = false
is_apart (Ok (Apart d)) = true
is_apart (Err r) = false

pub enclosing : (a c : Tried) → encloses a c ≡ true → (is_apart a ≡ true) × (is_apart c ≡ true)
unfolding encloses
enclosing (Ok (Apart l)) (Ok (Apart r)) e = (refl, refl)
enclosing (Ok (Apart l)) (Ok (Accepted s)) e = cc
enclosing (Ok (Apart l)) (Err r) e = cc
enclosing (Ok (Accepted s)) c e = cc
enclosing (Err r) c e = cc

-- row 25 of a model, by the number of its positive fractions
pub refused_is : (m : GergModel) (lo hi : Float) → saturation_refused m lo hi ≡ refused_by (positive_fractions m) lo hi
unfolding saturation_refused
refused_is m lo hi = refl

-- row 25 leaves ends that rise
pub rising : (n : ℕ) (lo hi : Float) → refused_by n lo hi ≡ false → T (lt lo hi)
unfolding refused_by
rising n lo hi e = holds (lt lo hi) (not-false (lt lo hi) (or_false (not (eqb n 1) || not (finite lo) || not (finite hi)) (not (lt lo hi)) e).1)
