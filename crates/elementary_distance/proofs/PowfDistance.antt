-- The distance of powf from those of ln and exp and from the rounding of the product between them (`powf_distance`), all three as parameters. Assumes nothing.
use mathlib.Core.Path.{◌≡◌, refl, sym, subst}
use mathlib.Core.Bool.{Bool, true, false, true≢false}
use Prim.Native.Nat.{ℕ, ◌+◌, ◌*◌, ◌^◌, ◌≤◌, ◌<◌}
use native.Mathlib.Nat.{mul-pos, mul-le-mul_right, le_of_mul-le-mul_right, lt_of_le_of_lt, mul-lt-mul_of_pos_right}
use native.Mathlib.Omega.{arith}
use lib.Dec.{T, lit≤, eqb, eqb→eq, ltb, lt→ltb}
use lib.IntN.{ℤ}
use lib.Pow.{pow_pos}
use lib.Ieee.{Float, nan, inf, fin, binary64, up, down, neg, le, lt, eq, of_bits}
use lib.Ieee.Bits.{of_bits-fits}
use lib.Ieee.Fits.{and_l, down_pos}
use lib.Ieee.Scale.{finite}
use lib.Ieee.Positive.{num, den}
use Rattle.numerics.specs.Double.{+0, one, ◌⊗◌, positive_finite}
use Rattle.numerics.specs.Frac.{Frac, ◌⊑◌, ◌⊞◌, ◌⊠◌, nat}
use Rattle.numerics.specs.Fraction.{part, val}
use Rattle.numerics.specs.Tests.{lt→le}
use Rattle.numerics.specs.Order.{positive_of_tests}
use Rattle.numerics.specs.Exponential.{signed, size}
use Rattle.numerics.specs.Power.{PowerWithin, ProductWithin}
use Rattle.numerics.proofs.PowerExponents.{magnitude}
use Rattle.numerics.proofs.SmallExponent.{exp_upper}
use Rattle.numerics.proofs.PowerNear.{power_near, power_zero}
use Rattle.numerics.proofs.PowerArgument.{magnitude_is, spread, product_few}
use Rattle.numerics.proofs.RoundedProduct.{Rounds, product_near}
use Rattle.elementary_exp.specs.Exp.{exp_of, most}
use Rattle.elementary_ln.specs.Ln.{ln_of}
use Rattle.elementary.specs.Power.{powf_of, powf_from}
use Rattle.elementary_exp.proofs.ExpLaws.{exp_double}
use Rattle.elementary.proofs.Laws.{powf_from_zero, powf_from_positive}
use Rattle.elementary_distance.specs.Distances.{ExpDistance, LnDistance, PowerDistance, WithinOfLn, WithinOfPower}

-- ---- t = ±0: the power is 1
clear : (a b : ℕ) → a * 1 ≡ 0 * b → a ≡ 0
clear a b h = omega arith

none_of : (t : Float) → eq t +0 ≡ true → ((signed t).plus ≡ 0) × ((signed t).minus ≡ 0)
unfolding eq of_bits
none_of nan e = absurd (true≢false (sym e))
none_of (inf s) e = absurd (true≢false (sym e))
none_of (fin false m d) e = (clear (m * up d) (down d) (eqb→eq (m * up d * 1) (0 * down d) (and_l (eqb (m * up d * 1) (0 * down d)) _ (subst T (sym e) tt))), refl)
none_of (fin true m d) e = (refl, clear (m * up d) (down d) (eqb→eq (m * up d * 1) (0 * down d) (and_l (eqb (m * up d * 1) (0 * down d)) _ (subst T (sym e) tt))))

pub one_exact : (x t : Float) → eq t +0 ≡ true → (ε : Frac) → PowerWithin ε (val x) (signed t) (val one)
unfolding of_bits
one_exact x t e ε = let w = power_zero ε (val x) (signed t) (none_of t e).0 (none_of t e).1 in record { high = w.high; low = w.low }

one_at : (k : ℕ) (x t : Float) → eq t +0 ≡ true → WithinOfPower k x t one
unfolding of_bits
one_at k x t e = record { double = of_bits-fits binary64 0x3ff0_0000_0000_0000; pos = tt; near = one_exact x t e (part k) }

-- ---- a size below 700 is in exp's range
module _ (c : ℕ) (C : c < 700) where
  less : (m : ℕ) (e : ℤ) → m * up e * 1 ≤ c * down e → T (ltb (m * up e * 1) (700 * down e))
  less m e h = lt→ltb (m * up e * 1) (700 * down e) (lt_of_le_of_lt h (mul-lt-mul_of_pos_right C (down_pos e)))

  above_zero : (a : ℕ) (e : ℤ) → (T (ltb 0 (700 * down e + a))) × T (ltb 0 (a + 700 * down e))
  above_zero a e = let p : 0 < 700 * down e = mul-pos (lit≤ tt) (down_pos e) in (lt→ltb 0 (700 * down e + a) (omega arith), lt→ltb 0 (a + 700 * down e) (omega arith))

  inside : (z : Float) → T (finite z) → val z ⊑ nat c → T (lt (neg most) z) × T (lt z most)
  unfolding lt neg of_bits
  inside nan f h = absurd f
  inside (inf s) f h = absurd f
  inside (fin false m e) f h = ((above_zero (m * up e * 1) e).0, less m e h)
  inside (fin true m e) f h = (less m e h, (above_zero (m * up e * 1) e).1)

  in_range : (z : Float) → T (finite z) → val z ⊑ nat c → T (le (neg most) z) × T (le z most)
  in_range z f h = let k = inside z f h in (lt→le (neg most) z k.0, lt→le z most k.1)

-- ---- by the three distances: 2 ^ -p × max(1, |ln x|) of ln, 2 ^ -r of the product, 2 ^ -e of exp
-- the error of exp's argument: b / 2 ^ p + 2 ^ -r
abbrev pub argument_error : ℕ → ℕ → ℕ → Frac
argument_error b r p = record { top = b * 2 ^ r + 2 ^ p; bot = 2 ^ p * 2 ^ r; good = mul-pos (pow_pos p) (pow_pos r) }

-- what has to be computed for a distance of 2 ^ -k: with s the error of the argument, (1 + s + s ^ 2) (1 + 2 ^ -e) ≤ 1 + 2 ^ -k
pub record Figures (b r p e k : ℕ) : Type 0 where
  pub rounds : Rounds (b + 1) r
  pub range : b + 2 < 700
  pub fine : b ≤ 2 ^ p
  pub half : 2 * (argument_error b r p).top ≤ (argument_error b r p).bot
  pub room : exp_upper (argument_error b r p) ⊠ (nat 1 ⊞ part e) ⊑ nat 1 ⊞ part k

module _ (b r p e k : ℕ) (w : Figures b r p e k) where
  steps : (x t y : Float) → T (finite t) → size (signed t) ⊑ nat b → ProductWithin (val x) (signed t) (nat b) → WithinOfLn p x y → ExpDistance e → WithinOfPower k x t (exp_of (t ⊗ y))
  steps x t y f few far ln exp =
      let n = ln.near in
      let d = n.d in
      let s = spread b (val x) t far p (signed y) few n in
      let c : num t * d.top ≤ den t * d.bot = small (num t) (den t) d.top d.bot (2 ^ p) (pow_pos p) w.fine s in
      let z = t ⊗ y in
      let m = product_near (b + 1) r w.rounds t y f ln.number (product_few b (val x) t far d y ln.number n.within c) in
      let i = in_range (b + 1 + 1) (more b w.range) z m.number m.size in
      let v = exp z i.0 i.1 in
      record {
        double = exp_double z;
        pos = v.pos;
        near = power_near (part k) (part e) d (part r) (argument_error b r p) (val x) (signed t) (signed y) (signed z) (val (exp_of z)) (total d s) w.half w.room n.within m.above m.below v.near;
      }
    where
      more : (b : ℕ) → b + 2 < 700 → b + 1 + 1 < 700
      more b h = omega arith

      small : (T B D E P : ℕ) → 0 < P → b ≤ P → T * D * P ≤ b * (B * E) → T * D ≤ B * E
      small T B D E P Q h k = le_of_mul-le-mul_right {k = P} (omega (arith, mul-le-mul_right (B * E) h, k)) Q

      sum : (T B D E P F : ℕ) → T * D * P ≤ b * (B * E) → (T * D * F + 1 * (B * E)) * (P * F) ≤ (b * F + P) * (B * E * F)
      sum T B D E P F h = omega (arith, mul-le-mul_right (F * F) h)

      total : (d : Frac) → num t * d.top * 2 ^ p ≤ b * (den t * d.bot) → magnitude (signed t) ⊠ d ⊞ part r ⊑ argument_error b r p
      total d s = rw ((magnitude_is t).0, (magnitude_is t).1) (sum (num t) (den t) d.top d.bot (2 ^ p) (2 ^ r) s)

  -- with a logarithm of x at hand
  from : (x l t : Float) → positive_finite x ≡ true → T (finite t) → size (signed t) ⊑ nat b → ProductWithin (val x) (signed t) (nat b) → WithinOfLn p x l → ExpDistance e → WithinOfPower k x t (powf_from x l t)
  from x l t g f few far ln exp = go (eq t +0) refl
    where
      go : (z : Bool) → eq t +0 ≡ z → WithinOfPower k x t (powf_from x l t)
      go true q = rw (powf_from_zero x l t q) (one_at k x t q)
      go false q = rw (powf_from_positive x l t q g) (steps x t l f few far ln exp)

  pub powf_distance : LnDistance p → ExpDistance e → PowerDistance b k
  unfolding powf_of
  powf_distance ln exp x t h g f few far = from x (ln_of x) t g f few far (ln x h (positive_of_tests x g)) exp
