use mathlib.Core.Path.{◌≡◌}
use Prim.Native.Nat.{◌+◌, ◌-◌, ◌*◌}
use Rattle.gerg_file.specs.File.{numbered, chain}
use Rattle.gerg_file.proofs.records.numbered_inside.Given as goal

abbrev pub invariant-loop-number : goal.invariant-loop-number
invariant-loop-number l =
    chain (numbered l.s l.kind.kind l.kind.size l.lead) l.count l.first l.at
    ≡ chain (numbered l.s l.kind.kind l.kind.size l.lead) (l.first + l.count - l.number) l.number (l.at + l.kind.size * (l.number - l.first))
