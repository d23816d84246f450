-- The product of two finite doubles, |t y| ≤ c, rounded: it is finite, at most c + 1 in size and within 2 ^ -r of the exact one, subnormal products and zeros included (`product_near`). Assumes nothing.
use Rattle.std.specs.Prelude.{◌≡◌, refl, Bool, true, false, ℕ, ◌+◌, ◌-◌, ◌*◌, ◌/◌, ◌^◌, ◌≤◌, ◌<◌, T, ℤ, Float}
use Rattle.std.proofs.Common.{sym, true≢false, le_trans, mul-pos, mul-le-mul_right, mul-le-mul_left, le_of_mul-le-mul_right, mul-lt-mul_of_pos_right, not-le_of_lt, le-div_iff_mul-le, arith, pow_pos, pow_mono}
use Rattle.std.specs.Float.{nan, inf, fin, binary64}
use Rattle.std.specs.Float.Ieee.{mul, round, unlike}
use Rattle.std.specs.Float.Ieee as ieee
use Rattle.std.specs.Float.Ieee.Digits.{size-le}
use Rattle.std.specs.Float.Ieee.Order.{drop, kept}
use Rattle.std.specs.Float.Ieee.Scale.{grid, overflow, finite, round_val}
use Rattle.std.specs.Float.Ieee.Positive.{num, den}
use Rattle.numerics.specs.Frac.{Frac, ◌⊑◌, ◌⊞◌, nat, part, ⊑_trans, add_mono, ⊑_refl}
use Rattle.numerics.specs.Round.{val, closest_above}
use Rattle.numerics.specs.Rounding.{HasSign, half_unit, round_half_unit, times, exact}
use Rattle.numerics.specs.EitherSign.{round_neg, finite_neg, finite_of_value}
use Rattle.numerics.proofs.ExpBoundLaws.{split}
use Rattle.numerics.proofs.ExpBoundSums.{◌≼◌}
use Rattle.numerics.specs.Exponential.{Signed, signed, plus_of, minus_of, raised, lowered}
use Rattle.numerics.proofs.PowerExponents.{product}

-- a result of at most c has at most 1128 - r digits in units of 2 ^ -1074, and drops 1075 - r of them, so that half a unit in its last place is at most 2 ^ -r. Each line is computed
pub record Rounds (c r : ℕ) : Type 0 where
  pub digits : c * 2 ^ 1074 < 2 ^ (1128 - r)
  pub half : 2 ^ (1075 - r) * 2 ^ r ≤ 2 ^ 1075
  pub below_one : 2 ^ (1075 - r) ≤ 2 ^ 1074
  pub under : (c + 2) * 2 ^ 1074 ≤ overflow binary64

-- ---- a / b ≤ c, rounded
module _ (c r : ℕ) (w : Rounds c r) (a b : ℕ) (B : 0 < b) (few : a ≤ c * b) where
  quotient : a * 2 ^ 1074 / b < 2 ^ (1128 - r)
  quotient = split (2 ^ (1128 - r)) (a * 2 ^ 1074 / b) (a * 2 ^ 1074 / b < 2 ^ (1128 - r)) (λ h. absurd (none (2 ^ 1074) (2 ^ (1128 - r)) w.digits ((le-div_iff_mul-le B).0 h))) (λ h. h)
    where
      turn : (W : ℕ) → c * b * W ≤ c * W * b
      turn W = omega arith

      none : (W D : ℕ) → c * W < D → D * b ≤ a * W → ⊥
      none W D d h = not-le_of_lt (mul-lt-mul_of_pos_right d B) (le_trans h (le_trans (mul-le-mul_right W few) (turn W)))

  dropped : 2 ^ drop 53 (a * 2 ^ 1074) b ≤ 2 ^ (1075 - r)
  dropped = pow_mono {i = drop 53 (a * 2 ^ 1074) b} {j = 1075 - r} (less (ieee.size (a * 2 ^ 1074 / b)) (size-le (a * 2 ^ 1074 / b) (1128 - r) quotient))
    where
      less : (n : ℕ) → n ≤ 1128 - r → n - 53 ≤ 1075 - r
      less n h = omega arith

  under : grid binary64 a b < overflow binary64
  under =
      let k = drop 53 (a * 2 ^ 1074) b in
      clear (kept 53 (a * 2 ^ 1074) b) (2 ^ k) (2 ^ 1074) (overflow binary64) (pow_pos 1074) (closest_above (a * 2 ^ 1074) (b * 2 ^ k) (mul-pos B (pow_pos k))) (le_trans dropped w.below_one) w.under
    where
      clear : (K P W O : ℕ) → 0 < W → 2 * (K * (b * P)) ≤ 2 * (a * W) + b * P → P ≤ W → (c + 2) * W ≤ O → K * P < O
      clear K P W O p h q o =
          let l : 2 * (K * P) ≤ (2 * c + 1) * W = le_of_mul-le-mul_right {k = b} (omega (arith, h, mul-le-mul_right (2 * W) few, mul-le-mul_left b q)) B in
          omega (arith, l, o, p)

  upright : T (finite (round binary64 false a b))
  upright = finite_of_value (round binary64 false a b) false (grid binary64 a b) (2 ^ 1074) (round_val binary64 a b under)

  number : (s : Bool) → T (finite (round binary64 s a b))
  number false = upright
  number true = rw (round_neg binary64 a b) (finite_neg (round binary64 false a b) upright)

  close : half_unit (record { top = a; bot = b; good = B }) ⊑ part r
  close = le_trans (mul-le-mul_right (2 ^ r) dropped) (le_trans w.half (once (2 ^ 1075)))
    where
      once : (n : ℕ) → n ≤ 1 * n
      once n = omega arith

-- v is finite with the sign s, and within 2 ^ -r of q
record Close (r : ℕ) (s : Bool) (q : Frac) (v : Float) : Type 0 where
  number : T (finite v)
  sign : HasSign s v
  high : val v ⊑ q ⊞ part r
  low : q ⊑ val v ⊞ part r

rounded : (c r : ℕ) → Rounds c r → (s : Bool) (q : Frac) → q.top ≤ c * q.bot → Close r s q (round binary64 s q.top q.bot)
rounded c r w s q few =
    let n = number c r w q.top q.bot q.good few s in
    let h = round_half_unit s q n in
    let v = round binary64 s q.top q.bot in
    let d : half_unit q ⊑ part r = close c r w q.top q.bot q.good few in
    record {
      number = n;
      sign = h.sign;
      high = ⊑_trans (val v) (q ⊞ half_unit q) (q ⊞ part r) h.high (add_mono q q (half_unit q) (part r) (⊑_refl q) d);
      low = ⊑_trans q (val v ⊞ half_unit q) (val v ⊞ part r) h.low (add_mono (val v) (val v) (half_unit q) (part r) (⊑_refl (val v)) d);
    }

size_of : (c r : ℕ) (q v : Frac) → q.top ≤ c * q.bot → v ⊑ q ⊞ part r → v ⊑ nat (c + 1)
size_of c r q v few h = clear v.top v.bot q.top q.bot (2 ^ r) q.good (pow_pos r) few h
  where
    clear : (n d a e P : ℕ) → 0 < e → 0 < P → a ≤ c * e → n * (e * P) ≤ (a * P + 1 * e) * d → n * 1 ≤ (c + 1) * d
    clear n d a e P E p few h = le_of_mul-le-mul_right {k = e * P} (omega (arith, h, mul-le-mul_right (P * d) few, mul-le-mul_right (e * d) p)) (mul-pos E p)

-- ---- as fractions with signs
abbrev with_sign : Bool → Frac → Signed
with_sign false q = plus_of q
with_sign true q = minus_of q

signed_is : (s : Bool) (v : Float) → HasSign s v → signed v ≡ with_sign s (val v)
signed_is s nan g = absurd g
signed_is s (inf t) g = absurd g
signed_is false (fin false m e) g = refl
signed_is false (fin true m e) g = absurd (true≢false g)
signed_is true (fin false m e) g = absurd (true≢false (sym g))
signed_is true (fin true m e) g = refl

record Same (x y : Signed) : Type 0 where
  plus : x.plus ≡ y.plus
  minus : x.minus ≡ y.minus
  bot : x.bot ≡ y.bot

-- the exact product of two doubles
parts : (s s' : Bool) (m : ℕ) (e : ℤ) (n : ℕ) (d : ℤ) → Same (product (signed (fin s m e)) (signed (fin s' n d))) (with_sign (unlike s s') (exact times (fin s m e) (fin s' n d) tt))
parts false false m e n d = record { plus = omega arith; minus = omega arith; bot = refl }
parts false true m e n d = record { plus = omega arith; minus = omega arith; bot = refl }
parts true false m e n d = record { plus = omega arith; minus = omega arith; bot = refl }
parts true true m e n d = record { plus = omega arith; minus = omega arith; bot = refl }

apart : (s : Bool) (w : Signed) (q v η : Frac) → Same w (with_sign s q) → v ⊑ q ⊞ η → q ⊑ v ⊞ η → (with_sign s v ≼ raised w η) × (lowered w η ≼ with_sign s v)
apart false w q v η c h k = (rw (c.plus, c.minus, c.bot) (omega (arith, h)), rw (c.plus, c.minus, c.bot) (omega (arith, k)))
apart true w q v η c h k = (rw (c.plus, c.minus, c.bot) (omega (arith, k)), rw (c.plus, c.minus, c.bot) (omega (arith, h)))

-- ---- the product
pub record ProductNear (c r : ℕ) (t y z : Float) : Type 0 where
  pub number : T (finite z)
  pub size : val z ⊑ nat (c + 1)
  pub above : signed z ≼ raised (product (signed t) (signed y)) (part r)
  pub below : lowered (product (signed t) (signed y)) (part r) ≼ signed z

pub product_near : (c r : ℕ) → Rounds c r → (t y : Float) → T (finite t) → T (finite y) → num t * num y ≤ c * (den t * den y) → ProductNear c r t y (mul binary64 t y)
unfolding mul
product_near c r w nan y p q few = absurd p
product_near c r w (inf s) y p q few = absurd p
product_near c r w (fin s m e) nan p q few = absurd q
product_near c r w (fin s m e) (inf s') p q few = absurd q
product_near c r w (fin s m e) (fin s' n d) p q few =
    let u = exact times (fin s m e) (fin s' n d) tt in
    let z = round binary64 (unlike s s') u.top u.bot in
    let k = rounded c r w (unlike s s') u few in
    let a = apart (unlike s s') (product (signed (fin s m e)) (signed (fin s' n d))) u (val z) (part r) (parts s s' m e n d) k.high k.low in
    record { number = k.number; size = size_of c r u (val z) few k.high; above = rw (signed_is (unlike s s') z k.sign) a.0; below = rw (signed_is (unlike s s') z k.sign) a.1 }
