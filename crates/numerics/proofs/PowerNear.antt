-- A power by three steps: L near ln x, z near t L, r near e ^ z. With d, η and ε' the three distances, r is within ε of x ^ t where s = |t| d + η and (1 + s + s ^ 2) (1 + ε') ≤ 1 + ε (`power_near`).
-- x ^ 0 is 1 to any distance (`power_zero`). Nothing here is about floats. Assumes nothing.
use Rattle.std.specs.Prelude.{◌≡◌, ℕ, ◌+◌, ◌*◌, ◌≤◌, ◌<◌}
use Rattle.std.proofs.Common.{le_refl, mul-pos, mul-le-mul_right, mul-le-mul_left, le_of_mul-le-mul_right, arith}
use Rattle.numerics.specs.Frac.{Frac, ◌⊑◌, ◌⊞◌, ◌⊠◌, nat, ⊑_refl, ⊑_trans}
use Rattle.numerics.specs.Law.{mono-⊠}
use Rattle.numerics.specs.Exponential.{Signed, plus_of, minus_of, raised, lowered, Within, LnWithin}
use Rattle.numerics.proofs.ExpBounds.{below_above_exp}
use Rattle.numerics.proofs.ExpBoundLaws.{exp_zero}
use Rattle.numerics.proofs.ExpBoundSums.{◌≼◌, sum_of}
use Rattle.numerics.proofs.ExponentialLaws.{exp_above_arg, exp_below_arg, exp_above_sum, exp_below_sum}
use Rattle.numerics.specs.Power.{product_bound, AbovePower, BelowPower, PowerWithin}
use Rattle.numerics.proofs.ExponentOrder.{≼_trans, raised_mono, raised_is}
use Rattle.numerics.proofs.LnBounds.{ln_order}
use Rattle.numerics.proofs.SmallExponent.{exp_upper, exp_lower, exp_upper_above, exp_lower_below, lower_rest}
use Rattle.numerics.proofs.PowerExponents.{product, magnitude, product_bound_mono, product_raised, product_lowered}

-- ---- the exponents, from a + c ≤ s
apart : (y : Signed) (a c s : Frac) → a ⊞ c ⊑ s → raised y c ≼ raised (lowered y a) s
apart y a c s h = plain y.plus y.minus y.bot a.top a.bot c.top c.bot s.top s.bot h
  where
    plain : (p m b at ab ct cb st sb : ℕ) → (at * cb + ct * ab) * sb ≤ st * (ab * cb)
        → (p * cb + ct * b) * (b * ab * sb) + (m * ab + at * b) * sb * (b * cb) ≤ (p * ab * sb + st * (b * ab)) * (b * cb) + m * cb * (b * ab * sb)
    plain p m b at ab ct cb st sb h = omega (arith, mul-le-mul_right (b * b) h)

module _ (t L : Signed) (d η s : Frac) (few : magnitude t ⊠ d ⊞ η ⊑ s) where
  -- t L + η ≤ t L - |t| d + s
  down : raised (product t L) η ≼ raised (product_bound t (lowered L d) (raised L d)) s
  down =
      ≼_trans (raised (product t L) η) (raised (lowered (product t L) (magnitude t ⊠ d)) s) (raised (product_bound t (lowered L d) (raised L d)) s) (apart (product t L) (magnitude t ⊠ d) η s few)
      (raised_mono (lowered (product t L) (magnitude t ⊠ d)) (product_bound t (lowered L d) (raised L d)) s (product_lowered t L d).ge)

  -- t L + |t| d ≤ t L - η + s
  up : product_bound t (raised L d) (lowered L d) ≼ raised (lowered (product t L) η) s
  up =
      ≼_trans (product_bound t (raised L d) (lowered L d)) (raised (product t L) (magnitude t ⊠ d)) (raised (lowered (product t L) η) s) (product_raised t L d).le
      (apart (product t L) η (magnitude t ⊠ d) s (⊑_trans (η ⊞ magnitude t ⊠ d) (magnitude t ⊠ d ⊞ η) s (swap η (magnitude t ⊠ d)) few))
    where
      swap : (p q : Frac) → p ⊞ q ⊑ q ⊞ p
      swap p q = omega arith

-- ---- factors of q
-- r ≤ (1 + ε') g q and (1 + ε') g ≤ 1 + ε
high_fits : (ε ε' g q r : Frac) → g ⊠ (nat 1 ⊞ ε') ⊑ nat 1 ⊞ ε → r ⊑ q ⊠ g ⊞ ε' ⊠ (q ⊠ g) → r ⊑ q ⊞ ε ⊠ q
high_fits ε ε' g q r room h =
    ⊑_trans r (q ⊠ g ⊞ ε' ⊠ (q ⊠ g)) (q ⊞ ε ⊠ q) h
    (⊑_trans (q ⊠ g ⊞ ε' ⊠ (q ⊠ g)) (q ⊠ (g ⊠ (nat 1 ⊞ ε'))) (q ⊞ ε ⊠ q) (gather q g ε')
    (⊑_trans (q ⊠ (g ⊠ (nat 1 ⊞ ε'))) (q ⊠ (nat 1 ⊞ ε)) (q ⊞ ε ⊠ q) (mono-⊠ q q (g ⊠ (nat 1 ⊞ ε')) (nat 1 ⊞ ε) (⊑_refl q) room) (open_up q ε)))
  where
    gather : (q g e : Frac) → q ⊠ g ⊞ e ⊠ (q ⊠ g) ⊑ q ⊠ (g ⊠ (nat 1 ⊞ e))
    gather q g e = omega arith

    open_up : (q e : Frac) → q ⊠ (nat 1 ⊞ e) ⊑ q ⊞ e ⊠ q
    open_up q e = omega arith

-- (1 - u) q ≤ r + ε' (1 - u) q and u + ε' ≤ ε, with u = g / f and 1 - u = e / f
low_fits : (a b c d e f g h i j k : ℕ) → 0 < b → 0 < f → 0 < i → e + g ≡ f → (g * i + h * f) * k ≤ j * (f * i) → a * e * (d * (i * (b * f))) ≤ (c * (i * (b * f)) + h * (a * e) * d) * (b * f)
    → a * (d * (k * b)) ≤ (c * (k * b) + j * a * d) * b
low_fits a b c d e f g h i j k B F I s room l =
    let l1 : a * e * d * i ≤ c * i * b * f + h * a * e * d = le_of_mul-le-mul_right {k = b * f} (omega (arith, l)) (mul-pos B F) in
    let l2 : a * d * (e + g) * i ≤ c * i * b * f + a * d * (g * i + h * (e + g)) = omega (arith, l1, le_refl (h * a * d * g)) in
    let l3 : a * d * f * i ≤ c * i * b * f + a * d * (g * i + h * f) = rw s at l2 in
    let l4 : a * d * k ≤ c * b * k + a * d * j = le_of_mul-le-mul_right {k = f * i} (omega (arith, mul-le-mul_right k l3, mul-le-mul_left (a * d) room)) (mul-pos F I) in
    omega (arith, mul-le-mul_right b l4)

-- (1 + u) (1 + ε') ≤ 1 + ε gives u + ε' ≤ ε
room_low : (f g h i j k : ℕ) → 0 < f → 0 < i → (f + g) * (1 * i + h * 1) * (1 * k) ≤ (1 * k + j * 1) * (f * (1 * i)) → (g * i + h * f) * k ≤ j * (f * i)
room_low f g h i j k F I l = omega (arith, l)

-- ---- the power
pub power_near : (ε ε' d η s x : Frac) (t L z : Signed) (r : Frac) → magnitude t ⊠ d ⊞ η ⊑ s → 2 * s.top ≤ s.bot → exp_upper s ⊠ (nat 1 ⊞ ε') ⊑ nat 1 ⊞ ε
    → LnWithin d x L → z ≼ raised (product t L) η → lowered (product t L) η ≼ z → Within ε' z r → PowerWithin ε x t r
power_near ε ε' d η s x t L z r few half room w above below e = record { high = high; low = low }
  where
    high : (q : Frac) → AbovePower x t q → r ⊑ q ⊞ ε ⊠ q
    high q (l, (k, (a, (b, c)))) =
        let far = raised (product_bound t l k) s in
        high_fits ε ε' (exp_upper s) q r room
        (e.high (q ⊠ exp_upper s)
        (exp_above_arg z far (q ⊠ exp_upper s)
        (≼_trans z (raised (product t L) η) far above
        (≼_trans (raised (product t L) η) (raised (product_bound t (lowered L d) (raised L d)) s) far (down t L d η s few)
        (raised_mono (product_bound t (lowered L d) (raised L d)) (product_bound t l k) s (product_bound_mono t (lowered L d) (raised L d) l k (ln_order x (lowered L d) l w.low a) (ln_order x k (raised L d) b w.high)))))
        (exp_above_arg far (sum_of (product_bound t l k) (plus_of s)) (q ⊠ exp_upper s) (raised_is (product_bound t l k) s).ge (exp_above_sum (product_bound t l k) (plus_of s) q (exp_upper s) c (exp_upper_above s half)))))

    low : (q : Frac) → BelowPower x t q → q ⊑ r ⊞ ε ⊠ q
    low q (l, (k, (a, (b, c)))) =
        let v = product_bound t k l in
        low_fits q.top q.bot r.top r.bot (exp_lower s).top (s.bot * s.bot) (s.top * s.bot + s.top * s.top) ε'.top ε'.bot ε.top ε.bot q.good (mul-pos s.good s.good) ε'.good
        (turn (exp_lower s).top (s.top * s.bot + s.top * s.top) (s.bot * s.bot) (lower_rest s.top s.bot half))
        (room_low (s.bot * s.bot) (s.top * s.bot + s.top * s.top) ε'.top ε'.bot ε.top ε.bot (mul-pos s.good s.good) ε'.good room)
        (e.low (q ⊠ exp_lower s)
        (exp_below_arg (sum_of v (minus_of s)) z (q ⊠ exp_lower s)
        (fits v.plus v.minus v.bot s.top s.bot z.plus z.minus z.bot
        (≼_trans v (raised (lowered (product t L) η) s) (raised z s)
        (≼_trans v (product_bound t (raised L d) (lowered L d)) (raised (lowered (product t L) η) s)
        (product_bound_mono t k l (raised L d) (lowered L d) (ln_order x k (raised L d) b w.high) (ln_order x (lowered L d) l w.low a)) (up t L d η s few))
        (raised_mono (lowered (product t L) η) z s below)))
        (exp_below_sum v (minus_of s) q (exp_lower s) c (exp_lower_below s half))))
      where
        turn : (e g f : ℕ) → g + e ≡ f → e + g ≡ f
        turn e g f h = omega arith

        fits : (p m b t s p' m' b' : ℕ) → p * (b' * s) + m' * s * b ≤ (p' * s + t * b') * b + m * (b' * s) → (p * s + 0 * b) * b' + m' * (b * s) ≤ p' * (b * s) + (m * s + t * b) * b'
        fits p m b t s p' m' b' h = omega (arith, h)

-- x ^ 0 is 1
pub power_zero : (ε x : Frac) (t : Signed) → t.plus ≡ 0 → t.minus ≡ 0 → PowerWithin ε x t (nat 1)
power_zero ε x t p m = record {
  high = λ q a. let w = product_bound t a.0 a.1.0 in one_above q (below_above_exp w (nat 1) q (exp_zero w (flat w a.0 a.1.0)).1 a.1.1.1.1);
  low = λ q a. let w = product_bound t a.1.0 a.0 in one_below q (below_above_exp w q (nat 1) a.1.1.1.1 (exp_zero w (flat w a.1.0 a.0)).0);
}
  where
    flat : (w l k : Signed) → (product_bound t l k).plus ≡ (product_bound t l k).minus
    flat w l k = rw (p, m) (omega arith)

    one_above : (q : Frac) → nat 1 ⊑ q → nat 1 ⊑ q ⊞ ε ⊠ q
    one_above q h = ⊑_trans (nat 1) q (q ⊞ ε ⊠ q) h (omega arith)

    one_below : (q : Frac) → q ⊑ nat 1 → q ⊑ nat 1 ⊞ ε ⊠ q
    one_below q h = ⊑_trans q (nat 1) (nat 1 ⊞ ε ⊠ q) h (omega arith)
