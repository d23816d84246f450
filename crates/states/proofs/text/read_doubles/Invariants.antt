-- The first k doubles are stored.
use Rattle.std.proofs.Common.{◌≡◌, ◌+◌, ◌*◌}
use Rattle.numerics.specs.Loop.{filled}
use Rattle.gerg_file.specs.Bytes.{double_at}
use Rattle.states.proofs.text.read_doubles.Given as goal

abbrev pub invariant-loop-k : goal.invariant-loop-k
invariant-loop-k l = l.doubles ≡ filled (λ k. double_at l.input (l.at + 8 * k)) l.k l.initial.doubles
