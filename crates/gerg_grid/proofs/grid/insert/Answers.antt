use Prim.Native.Nat.{◌+◌, ◌-◌}
use native.Mathlib.Omega.{arith}
use mathlib.Core.Path.{◌≡◌, refl, sym, ◌∙◌}
use Rattle.gerg_grid.proofs.Laws.Insertion.{insert_on, insert_here, insert_front}
use Rattle.gerg_grid.proofs.grid.insert.Goals as goal

pub loop-j-init : goal.loop-j-init
loop-j-init c = refl

pub returns-then-not-v-u : goal.returns-then-not-v-u
returns-then-not-v-u c =
    let t = c.loop-j in
    let e : t.j - 1 + 1 ≡ t.j = omega (arith, c.loop-j-test.true) in
    rw e (sym (insert_here t.j _ t.points c.loop-j-test.true c.if-not-v-u.true) ∙ t.invariant)

pub loop-j-preserved : goal.loop-j-preserved
loop-j-preserved c =
    let t = c.loop-j in
    let e : t.j - 1 + 1 ≡ t.j = omega (arith, c.loop-j-test.true) in
    rw e (sym (insert_on t.j _ t.points c.loop-j-test.true c.if-not-v-u.false) ∙ t.invariant)

pub returns : goal.returns
returns c =
    let t = c.loop-j in
    let e : t.j ≡ 0 = omega (arith, c.loop-j-test.false) in
    sym (insert_front _ t.points) ∙ rw e at t.invariant
