-- "The value is 0 unless given": of every answer, by its number. Assumes nothing.
use mathlib.Core.Path.{◌≡◌, refl}
use mathlib.Core.Bool.{Bool, false, ◌||◌}
use Prim.Native.Nat.{ℕ}
use lib.Dec.{eqb}
use Rattle.std.specs.Prelude.{Result, Ok, Err}
use Rattle.gerg_refusals.specs.Answer.{number_of, value_of}
use Rattle.gerg_refusals.specs.Refusal as of_refusal
use Rattle.gerg_refusals.specs.declared.Refusal.{Refusal}
use Rattle.gerg_refusals.specs.declared.Refusal.TheVariants as refusal

-- the rows with a value
abbrev pub valued : ℕ → Bool
valued n = eqb n 1 || eqb n 2 || eqb n 3 || eqb n 4 || eqb n 18 || eqb n 19 || eqb n 24 || eqb n 26 || eqb n 28

refusal_no_value : (r : Refusal) → valued (of_refusal.number_of r) ≡ false → of_refusal.value_of r ≡ 0
refusal_no_value (refusal.File offset) e = cc
refusal_no_value (refusal.Tables fault) e = cc
refusal_no_value (refusal.Components place) e = cc
refusal_no_value (refusal.Fractions place) e = cc
refusal_no_value refusal.Reducing e = refl
refusal_no_value refusal.DensityNotFinite e = refl
refusal_no_value refusal.DensityNotPositive e = refl
refusal_no_value refusal.OutsideRange e = refl
refusal_no_value refusal.Derivative e = refl
refusal_no_value refusal.Unstable e = refl
refusal_no_value refusal.Pressure e = refl
refusal_no_value refusal.NotFinite e = refl
refusal_no_value refusal.Options e = refl
refusal_no_value refusal.Target e = refl
refusal_no_value refusal.TrialUnstable e = refl
refusal_no_value refusal.NotBracketed e = refl
refusal_no_value refusal.PressureCheck e = refl
refusal_no_value (refusal.Collapsed trials) e = cc
refusal_no_value (refusal.LimitReached trials) e = cc
refusal_no_value refusal.BeyondFive e = refl
refusal_no_value refusal.OutsideEnvelope e = refl
refusal_no_value refusal.RootNotConverged e = refl
refusal_no_value refusal.NoRoot e = refl
refusal_no_value (refusal.TooShort needed) e = cc
refusal_no_value refusal.NotPure e = refl
refusal_no_value (refusal.SaturationNotConverged trials) e = cc
refusal_no_value refusal.ZeroSeed e = refl
refusal_no_value (refusal.Record offset) e = cc
refusal_no_value refusal.Total e = refl

pub no_value : {A : Type 0} (a : Result A Refusal) → valued (number_of a) ≡ false → value_of a ≡ 0
no_value (Ok a) e = refl
no_value (Err r) e = refusal_no_value r e
