-- A crossing of the target between two densities, halved. `v` gives the sample at each density.
use Rattle.std.specs.Prelude.{false, ◌||◌, Float, Result, Ok, Err}
use Rattle.std.specs.Float.Ieee.{lt, le, neg}
use Rattle.numerics.specs.Double.{◌⊗◌, ◌⊘◌, bits, +0, one, pick}
use Rattle.interval.specs.Interval as interval
use Rattle.numerics.specs.Iterate.{iter}
use Rattle.gerg_refusals.specs.Answer.{and_then}
use Rattle.gerg_refusals.specs.declared.Refusal.{Refusal}
use Rattle.gerg_scan_steps.specs.Sample.{Sample}
use Rattle.gerg_scan_steps.specs.declared.Halving.{Halving}

abbrev pub infinity : Float
infinity = one ⊘ +0

-- |x|
unfoldable pub size_of : Float → Float
size_of x = pick (lt x +0) (neg x) x

-- the larger of a and b, and b where a is a NaN
unfoldable pub larger_of : Float → Float → Float
larger_of a b = pick (lt b a) a b

-- the residual that ends a halving: max(5e-13 × target, 2e-7)
unfoldable pub tolerance_of : Float → Float
tolerance_of target = larger_of (bits 0x3d61_9799_812d_ea11 ⊗ target) (bits 0x3e8a_d7f2_9abc_af48)

-- after the residual f at rho: the best point so far; whether it ends; rho takes the place of the end on its side
unfoldable pub narrowed_of : Float → Halving → Float → Float → Halving
narrowed_of tolerance h rho f = record {
  ends = interval.narrowed_of h.ends rho f;
  best = pick (lt (size_of f) h.best.residual) (record { density = rho; residual = size_of f }) h.best;
  stopped = le (size_of f) tolerance || interval.on_end h.ends rho;
}

-- a refusal of the equation ends it too
unfoldable pub tried_of : Float → Halving → Float → Sample → Result Halving Refusal
tried_of tolerance h rho (Ok (f, stiffness)) = Ok (narrowed_of tolerance h rho f)
tried_of tolerance h rho (Err r) = Err r

unfoldable pub halved_of : (Float → Sample) → Float → Halving → Result Halving Refusal
halved_of v tolerance h = pick h.stopped (Ok h) (tried_of tolerance h (interval.middle_of h.ends) (v (interval.middle_of h.ends)))

-- before the first halving the best point is the lower end, with an infinite residual
unfoldable pub unhalved : Float → Float → Halving
unhalved lo hi = record { ends = record { lo = lo; hi = hi }; best = record { density = lo; residual = infinity }; stopped = false }

-- at most 100 halvings
unfoldable pub crossing_of : (Float → Sample) → Float → Float → Float → Result Halving Refusal
crossing_of v tolerance lo hi = iter (λ k h. and_then h (halved_of v tolerance)) 100 (Ok (unhalved lo hi))
