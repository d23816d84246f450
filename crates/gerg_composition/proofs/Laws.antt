-- The damping factors at hand are those that the equation asks. Assumes nothing.
use mathlib.Core.Bool.{Bool, true, false}
use mathlib.Core.List.{List}
use mathlib.Core.Path.{◌≡◌, refl, ap, ◌∙◌}
use Prim.Native.Nat.{ℕ, ◌<◌}
use native.Mathlib.Omega.{arith}
use Rattle.std.proofs.lemmas.Bool.{lt-ltb}
use lib.Ieee.{Float, nan}
use lib.ListN.{get_or}
use Rattle.numerics.specs.Fill.{tabulate, get_d_tabulate}
use Rattle.gerg_composition.specs.Composition.{damping_factor}
use Rattle.gerg_composition.specs.Powers.{damping_at, damping_of}
use Rattle.numerics.specs.Double.{pick}
use Rattle.std.specs.Prelude.{Some, None}

pub damping_at_lem : (delta : Float) (dampings : List Float) (q : ℕ) → dampings ≡ tabulate (damping_at delta) 17 → q < 16 → get_or dampings q nan ≡ damping_factor delta true q
unfolding damping_factor damping_at
damping_at_lem delta dampings q e h =
    ap (λ (l : List Float). get_or l q nan) e ∙ get_d_tabulate (damping_at delta) 17 q nan (omega arith) ∙ rw (lt-ltb q 16 h)

pub undamped_at : (delta : Float) (dampings : List Float) (c : ℕ) → dampings ≡ tabulate (damping_at delta) 17 → get_or dampings 16 nan ≡ damping_factor delta false c
unfolding damping_factor damping_at
undamped_at delta dampings c e = ap (λ (l : List Float). get_or l 16 nan) e ∙ get_d_tabulate (damping_at delta) 17 16 nan (omega arith)

-- whether a term is damped, told by its exponent
pub damping_picked : (delta : Float) (damped : Bool) (c : ℕ) → damping_of delta (pick damped (Some c) None) ≡ damping_factor delta damped c
unfolding damping_factor
damping_picked delta true c = refl
damping_picked delta false c = refl
