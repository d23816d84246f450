use native.Mathlib.Omega.{arith}
use Prim.Native.Nat.{◌<◌}
use Rattle.elementary_sqrt.proofs.Root.{Found, found_one, found_zero, found_all}
use mathlib.Core.Path.{◌≡◌}
use Rattle.elementary_sqrt.proofs.sqrt.root_digits.Goals as goal
use Rattle.elementary_sqrt.proofs.sqrt.root_digits.Goals.{then-next-left, else-next-left}

pub loop-preserved : goal.loop-preserved
loop-preserved c =
    let l = c.loop in
    let less : l.counter < 54 = omega arith in
    elim c.if-next-left.branch [
      | then-next-left w ↦ rw (w.root-is, w.left-is) (found_one _ l.counter l.root l.left l.bit less l.invariant w.if-next-left.true)
      | else-next-left w ↦ rw (w.root-is, w.left-is) (found_zero _ l.counter l.root l.left l.bit less l.invariant w.if-next-left.false)
    ]

pub returns : goal.returns
returns c =
    let l = c.loop in
    let x-small = c.requires in
    let all : l.counter ≡ 54 = omega arith in
    let f : Found _ 54 l.root l.left l.bit = rw all at l.invariant in
    let u : f.unit ≡ 1 = f.is in
    (found_all _ l.root l.left l.bit (omega arith) f, omega (arith, f.room, u))
