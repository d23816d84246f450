use mathlib.Core.Path.{◌≡◌}
use Prim.Native.Nat.{◌+◌, ◌-◌}
use Rattle.gerg_file.specs.File.{functions}
use Rattle.gerg_file.proofs.walk.function_count.Given as goal

abbrev pub invariant-loop-count : goal.invariant-loop-count
invariant-loop-count l = functions l.s 10 l.at ≡ l.count + functions l.s (10 - l.count) l.here
