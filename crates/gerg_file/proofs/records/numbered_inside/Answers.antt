use native.Mathlib.Nat.{mul-suc}
use native.Mathlib.Omega.{arith}
use borrow.Author.Tests.{le-leb}
use mathlib.Core.Path.{◌≡◌, refl, sym, ap, ◌∙◌}
use mathlib.Core.Bool.{Bool}
use Prim.Native.Nat.{suc, ◌+◌, ◌-◌, ◌*◌, ◌≤◌}
use lib.Dec.{leb}
use lib.ListN.{length}
use Rattle.gerg_file.specs.Bytes.{byte}
use Rattle.gerg_file.specs.File.{passed}
use Rattle.gerg_file.proofs.Chain.{go, stop, done}
use Rattle.gerg_file.proofs.Heads.{met, unmet, room}
use Rattle.gerg_file.proofs.records.numbered_inside.Goals as goal

pub returns-then-head-kind : goal.returns-then-head-kind
returns-then-head-kind c =
    let a = c.args in
    let s = a.s.now in
    let at = a.at + a.kind.size * (c.loop-number.number - a.first) in
    let h = c.head.ensures in
    sym
    (stop _ _ _ _ c.loop-number-test.true
    (ap (λ (b : Bool). passed b a.kind.size at)
    (sym
    (unmet (leb (at + a.kind.size) (length s)) (byte s at) (byte s (at + 1)) (byte s (at + 2)) a.kind.kind a.lead c.loop-number.number
    h.1.0 h.1.1 (omega arith) (omega arith) (λ e. c.if-head-kind.true (h.0 ∙ e)))))
    refl c.loop-number.invariant)

pub loop-number-preserved : goal.loop-number-preserved
loop-number-preserved c =
    let a = c.args in
    let s = a.s.now in
    let at = a.at + a.kind.size * (c.loop-number.number - a.first) in
    let h = c.head.ensures in
    let r = room a.at a.kind.size (c.loop-number.number - a.first) a.count (length s) (omega arith) c.requires.room in
    let n : c.loop-number.number + 1 - a.first ≡ suc (c.loop-number.number - a.first) = omega arith in
    let next : a.at + a.kind.size * (c.loop-number.number + 1 - a.first) ≡ at + a.kind.size = rw n (omega (arith, mul-suc a.kind.size (c.loop-number.number - a.first))) in
    let fits : at + a.kind.size ≤ length s = omega arith in
    rw next
    (go _ _ _ _ _ c.loop-number-test.true
    (ap (λ (b : Bool). passed b a.kind.size at)
    (sym
    (met (leb (at + a.kind.size) (length s)) (byte s at) (byte s (at + 1)) (byte s (at + 2)) a.kind.kind a.lead c.loop-number.number
    h.1.0 h.1.1 (omega arith) (omega arith) (le-leb _ _ fits) (sym h.0 ∙ c.if-head-kind.false))))
    refl c.loop-number.invariant)

pub returns : goal.returns
returns c =
    let e : c.loop-number.number - c.args.first ≡ c.args.count = omega arith in
    rw e at (sym (done _ _ _ _ c.loop-number-test.false c.loop-number.invariant))
