use mathlib.Core.Path.{◌≡◌, sym, ap, subst, ◌∙◌}
use mathlib.Core.Bool.{Bool, not}
use Prim.Native.Nat.{ℕ, ◌+◌, ◌*◌, ◌%◌, ◌≤◌}
use native.Mathlib.Omega.{arith}
use borrow.Author.Tests.{le-ltb}
use lib.Dec.{T}
use lib.Ieee.{binary64}
use lib.Ieee.Bits.{nan_bits_above}
use Rattle.numerics.specs.Double.{bits}
use Rattle.gerg_file.specs.Bytes.{double_at}
use Rattle.gerg_coefficients.proofs.Put.{no_doubles, double_on, doubles_rest}
use Rattle.gerg_coefficients.proofs.Finite.{finite_on, finite_double}
use Rattle.gerg_coefficients.proofs.store.put_doubles.Goals as goal

pub loop-k-init : goal.loop-k-init
loop-k-init c = (no_doubles _ _ _ _, λ j h. absurd (omega arith))

pub returns-then-w-ge18437736874454810624 : goal.returns-then-w-ge18437736874454810624
returns-then-w-ge18437736874454810624 c =
    (doubles_rest _ _ _ _ _ _ (omega arith) c.loop-k.invariant.0 c.put_any_doubles.ensures, λ e. absurd (let z : ◌≡◌ {A = ℕ} 0 1 = cc in omega arith))

pub float_from_bits-out : goal.float_from_bits-out
float_from_bits-out c =
    let w = c.word_inside-w.result in
    let h : w % 0x8000_0000_0000_0000 ≤ 0x7ff0_0000_0000_0000 = omega arith in
    subst (λ (b : Bool). T (not b)) (sym (nan_bits_above binary64 w ∙ le-ltb _ _ h)) tt

pub loop-k-preserved : goal.loop-k-preserved
unfolding double_at
loop-k-preserved c =
    let k = c.loop-k in
    let a = c.args in
    let s = a.s.now in (
      double_on _ _ _ _ _ k.invariant.0 (ap (λ (w : ℕ). bits w) c.word_inside-w.ensures),
      finite_on s a.at k.k k.invariant.1 (finite_double s (a.at + 8 * k.k) c.word_inside-w.result c.word_inside-w.ensures (omega arith)),
    )

pub returns : goal.returns
returns c = let e : c.loop-k.k ≡ c.args.n = omega arith in (rw e at c.loop-k.invariant.0, λ z. rw e at c.loop-k.invariant.1)
