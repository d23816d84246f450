-- `elementary::power::power` meets its contract. The invariant: what the digits left of m give is what those of n give. A turn is the law `power_turn`. Assumes nothing.
use mathlib.Core.Path.{◌≡◌}
use Prim.Native.Nat.{◌<◌, ◌^◌}
use Rattle.elementary.specs.Power.{power_from}
use Rattle.elementary.proofs.power.power.Given as goal

abbrev pub invariant-loop-m : goal.invariant-loop-m
invariant-loop-m l = (l.m < 2 ^ 32) × (power_from 32 l.r l.b l.m ≡ power_from 32 l.initial.r l.initial.b l.initial.m)

abbrev pub decreases-loop-m : goal.decreases-loop-m
decreases-loop-m l = l.m
