-- A refusal is known by its number and value. Assumes nothing.
use mathlib.Core.Path.{◌≡◌, refl, sym, ap, ap₂, ◌∙◌}
use Prim.Native.Nat.{ℕ, ◌≤◌}
use native.Mathlib.Omega.{arith}
use lib.Dec.{eqb}
use Rattle.numerics.specs.Double.{pick}
use Rattle.gerg_refusals.specs.Refusal.{cause_of, number_of, value_of}
use Rattle.gerg_refusals.specs.declared.Fault.{Fault}
use Rattle.gerg_refusals.specs.declared.Fault.TheVariants as fault
use Rattle.gerg_refusals.specs.declared.Refusal.{Refusal}
use Rattle.gerg_refusals.specs.declared.Refusal.TheVariants as refusal

abbrev pub fault_told : ℕ → Fault
fault_told n =
    pick (eqb n 1) fault.Btij
    (pick (eqb n 2) fault.Bvij
    (pick (eqb n 3) fault.Gtij
    (pick (eqb n 4) fault.Gvij
    (pick (eqb n 5) fault.Fij
    (pick (eqb n 6) fault.Critical
    (pick (eqb n 7) fault.NotPositive
    fault.Departure))))))

abbrev pub refusal_told : ℕ → ℕ → Refusal
refusal_told n value =
    pick (eqb n 1) (refusal.File value)
    (pick (eqb n 2) (refusal.Tables (fault_told value))
    (pick (eqb n 3) (refusal.Components value)
    (pick (eqb n 4) (refusal.Fractions value)
    (pick (eqb n 5) refusal.Reducing
    (pick (eqb n 6) refusal.DensityNotFinite
    (pick (eqb n 7) refusal.DensityNotPositive
    (pick (eqb n 8) refusal.OutsideRange
    (pick (eqb n 9) refusal.Derivative
    (pick (eqb n 10) refusal.Unstable
    (pick (eqb n 11) refusal.Pressure
    (pick (eqb n 12) refusal.NotFinite
    (pick (eqb n 13) refusal.Options
    (pick (eqb n 14) refusal.Target
    (pick (eqb n 15) refusal.TrialUnstable
    (pick (eqb n 16) refusal.NotBracketed
    (pick (eqb n 17) refusal.PressureCheck
    (pick (eqb n 18) (refusal.Collapsed value)
    (pick (eqb n 19) (refusal.LimitReached value)
    (pick (eqb n 20) refusal.BeyondFive
    (pick (eqb n 21) refusal.OutsideEnvelope
    (pick (eqb n 22) refusal.RootNotConverged
    (pick (eqb n 23) refusal.NoRoot
    (pick (eqb n 24) (refusal.TooShort value)
    (pick (eqb n 25) refusal.NotPure
    (pick (eqb n 26) (refusal.SaturationNotConverged value)
    (pick (eqb n 27) refusal.ZeroSeed
    (pick (eqb n 28) (refusal.Record value)
    refusal.Total)))))))))))))))))))))))))))

told_fault : (f : Fault) → fault_told (cause_of f) ≡ f
told_fault fault.Btij = refl
told_fault fault.Bvij = refl
told_fault fault.Gtij = refl
told_fault fault.Gvij = refl
told_fault fault.Fij = refl
told_fault fault.Critical = refl
told_fault fault.NotPositive = refl
told_fault fault.Departure = refl

pub told : (r : Refusal) → refusal_told (number_of r) (value_of r) ≡ r
told (refusal.File offset) = refl
told (refusal.Tables f) = ap refusal.Tables (told_fault f)
told (refusal.Components place) = refl
told (refusal.Fractions place) = refl
told refusal.Reducing = refl
told refusal.DensityNotFinite = refl
told refusal.DensityNotPositive = refl
told refusal.OutsideRange = refl
told refusal.Derivative = refl
told refusal.Unstable = refl
told refusal.Pressure = refl
told refusal.NotFinite = refl
told refusal.Options = refl
told refusal.Target = refl
told refusal.TrialUnstable = refl
told refusal.NotBracketed = refl
told refusal.PressureCheck = refl
told (refusal.Collapsed trials) = refl
told (refusal.LimitReached trials) = refl
told refusal.BeyondFive = refl
told refusal.OutsideEnvelope = refl
told refusal.RootNotConverged = refl
told refusal.NoRoot = refl
told (refusal.TooShort needed) = refl
told refusal.NotPure = refl
told (refusal.SaturationNotConverged trials) = refl
told refusal.ZeroSeed = refl
told (refusal.Record offset) = refl
told refusal.Total = refl

-- two refusals of one number and one value are the same
pub same : (r q : Refusal) → number_of r ≡ number_of q → value_of r ≡ value_of q → r ≡ q
same r q n v = sym (told r) ∙ ap₂ refusal_told n v ∙ told q

-- of this number, with its value
pub with_number : (r : Refusal) (n : ℕ) → number_of r ≡ n → r ≡ refusal_told n (value_of r)
with_number r n e = sym (told r) ∙ ap (λ (k : ℕ). refusal_told k (value_of r)) e

-- no refusal has the number 0, none one above 29
pub never_0 : (r : Refusal) → number_of r ≡ 0 → ⊥
never_0 (refusal.File offset) e = omega arith
never_0 (refusal.Tables fault) e = omega arith
never_0 (refusal.Components place) e = omega arith
never_0 (refusal.Fractions place) e = omega arith
never_0 refusal.Reducing e = omega arith
never_0 refusal.DensityNotFinite e = omega arith
never_0 refusal.DensityNotPositive e = omega arith
never_0 refusal.OutsideRange e = omega arith
never_0 refusal.Derivative e = omega arith
never_0 refusal.Unstable e = omega arith
never_0 refusal.Pressure e = omega arith
never_0 refusal.NotFinite e = omega arith
never_0 refusal.Options e = omega arith
never_0 refusal.Target e = omega arith
never_0 refusal.TrialUnstable e = omega arith
never_0 refusal.NotBracketed e = omega arith
never_0 refusal.PressureCheck e = omega arith
never_0 (refusal.Collapsed trials) e = omega arith
never_0 (refusal.LimitReached trials) e = omega arith
never_0 refusal.BeyondFive e = omega arith
never_0 refusal.OutsideEnvelope e = omega arith
never_0 refusal.RootNotConverged e = omega arith
never_0 refusal.NoRoot e = omega arith
never_0 (refusal.TooShort needed) e = omega arith
never_0 refusal.NotPure e = omega arith
never_0 (refusal.SaturationNotConverged trials) e = omega arith
never_0 refusal.ZeroSeed e = omega arith
never_0 (refusal.Record offset) e = omega arith
never_0 refusal.Total e = omega arith

pub at_most_29 : (r : Refusal) → number_of r ≤ 29
at_most_29 (refusal.File offset) = omega arith
at_most_29 (refusal.Tables fault) = omega arith
at_most_29 (refusal.Components place) = omega arith
at_most_29 (refusal.Fractions place) = omega arith
at_most_29 refusal.Reducing = omega arith
at_most_29 refusal.DensityNotFinite = omega arith
at_most_29 refusal.DensityNotPositive = omega arith
at_most_29 refusal.OutsideRange = omega arith
at_most_29 refusal.Derivative = omega arith
at_most_29 refusal.Unstable = omega arith
at_most_29 refusal.Pressure = omega arith
at_most_29 refusal.NotFinite = omega arith
at_most_29 refusal.Options = omega arith
at_most_29 refusal.Target = omega arith
at_most_29 refusal.TrialUnstable = omega arith
at_most_29 refusal.NotBracketed = omega arith
at_most_29 refusal.PressureCheck = omega arith
at_most_29 (refusal.Collapsed trials) = omega arith
at_most_29 (refusal.LimitReached trials) = omega arith
at_most_29 refusal.BeyondFive = omega arith
at_most_29 refusal.OutsideEnvelope = omega arith
at_most_29 refusal.RootNotConverged = omega arith
at_most_29 refusal.NoRoot = omega arith
at_most_29 (refusal.TooShort needed) = omega arith
at_most_29 refusal.NotPure = omega arith
at_most_29 (refusal.SaturationNotConverged trials) = omega arith
at_most_29 refusal.ZeroSeed = omega arith
at_most_29 (refusal.Record offset) = omega arith
at_most_29 refusal.Total = omega arith
