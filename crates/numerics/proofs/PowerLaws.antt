-- What the exact power means. t = (P - M) / B is of either sign, and x is above zero.
--   power_order                          nothing below x ^ t exceeds anything above it
--   power_bounds                         there are bounds within a factor (1 + s) (1 + s + s ^ 2) of each other, for each s > 0 up to 1 / 2
--   power_above_more, power_below_less   a bound may be loosened
--   power_above_sum, power_below_sum     bounds of x ^ s and x ^ t multiply to bounds of x ^ (s + t)
--   power_above, power_below             q above x ^ t gives x ^ P ≤ q ^ B x ^ M, q below gives q ^ B x ^ M ≤ x ^ P
--   power_above_back, power_below_back   and back, from the strict order
--   power_none                           x ^ 0 = 1
-- A double t is such a fraction, with a power of two as B. `PowerAlgebra` has these at t = 1, 2, 1 / 2, -1. Assumes nothing.
use Rattle.std.specs.Prelude.{ℕ, ◌*◌, ◌≤◌, ◌<◌}
use Rattle.std.proofs.Common.{le_refl, le_of_lt, arith}
use Rattle.numerics.specs.Frac.{Frac, ◌⊑◌, ◌⊏◌, ◌⊞◌, ◌⊠◌, nat, ⊑_refl, ⊑_trans, ⊏-not}
use Rattle.numerics.specs.Law.{mono-⊠, power}
use Rattle.numerics.specs.Exponential.{Signed, plus_of, raised, AboveExp, BelowExp, AboveLn, BelowLn}
use Rattle.numerics.proofs.ExpBounds.{at_most, at_least, least_most, below_above_exp}
use Rattle.numerics.proofs.ExpBoundLaws.{split, exp_zero}
use Rattle.numerics.proofs.ExpBoundSums.{sum_of, times_of, most_arg, least_arg, most_sum, least_sum, most_times, least_times}
use Rattle.numerics.proofs.ExponentialRoom.{exp_above_more, exp_below_less}
use Rattle.numerics.proofs.ExponentialLaws.{exp_above_arg, exp_below_arg, exp_above_sum, exp_below_sum}
use Rattle.numerics.specs.Power.{product_bound, AbovePower, BelowPower}
use Rattle.numerics.proofs.ExponentOrder.{raised_is, exp_enclosed}
use Rattle.numerics.proofs.LnBounds.{ln_order, ln_bounds, lesser, greater, ln_least, ln_most}
use Rattle.numerics.proofs.SmallExponent.{exp_upper, exp_upper_above, power_mono, power_times, shared, power_exp_upper, room_for}
use Rattle.numerics.proofs.PowerExponents.{product_bound_mono, product_bound_sum, product_bound_times, step, Apart, apart, gap_above, gap_below, gap_product}

-- ---- order
pub power_order : (x : Frac) (t : Signed) (p q : Frac) → BelowPower x t p → AbovePower x t q → p ⊑ q
power_order x t p q (l, (k, (a, (b, c)))) (l', (k', (a', (b', c')))) =
    below_above_exp (product_bound t l' k') p q (exp_below_arg (product_bound t k l) (product_bound t l' k') p (product_bound_mono t k l l' k' (ln_order x k l' b a') (ln_order x k' l b' a)) c) c'

pub power_above_more : (x : Frac) (t : Signed) (p q : Frac) → p ⊑ q → AbovePower x t p → AbovePower x t q
power_above_more x t p q h (l, (k, (a, (b, c)))) = (l, (k, (a, (b, exp_above_more (product_bound t l k) p q h c))))

pub power_below_less : (x : Frac) (t : Signed) (p q : Frac) → q ⊑ p → BelowPower x t p → BelowPower x t q
power_below_less x t p q h (l, (k, (a, (b, c)))) = (l, (k, (a, (b, exp_below_less (product_bound t k l) p q h c))))

-- ---- x ^ (s + t)
pub power_above_sum : (x : Frac) (s t : Signed) (p q : Frac) → AbovePower x s p → AbovePower x t q → AbovePower x (sum_of s t) (p ⊠ q)
power_above_sum x s t p q (l, (k, (a, (b, c)))) (l', (k', (a', (b', c')))) =
    let m = lesser x l l' a a' in
    let n = greater x k k' b b' in
    let u = m.0 in
    let v = n.0 in
    let first = exp_above_arg (product_bound s u v) (product_bound s l k) p (product_bound_mono s u v l k m.1.1.0 n.1.1.0) c in
    let second = exp_above_arg (product_bound t u v) (product_bound t l' k') q (product_bound_mono t u v l' k' m.1.1.1 n.1.1.1) c' in
    let both = exp_above_sum (product_bound s u v) (product_bound t u v) p q first second in
    (u, (v, (m.1.0, (n.1.0, exp_above_arg (product_bound (sum_of s t) u v) (sum_of (product_bound s u v) (product_bound t u v)) (p ⊠ q) (product_bound_sum s t u v).le both))))

pub power_below_sum : (x : Frac) (s t : Signed) (p q : Frac) → BelowPower x s p → BelowPower x t q → BelowPower x (sum_of s t) (p ⊠ q)
power_below_sum x s t p q (l, (k, (a, (b, c)))) (l', (k', (a', (b', c')))) =
    let m = lesser x l l' a a' in
    let n = greater x k k' b b' in
    let u = m.0 in
    let v = n.0 in
    let first = exp_below_arg (product_bound s k l) (product_bound s v u) p (product_bound_mono s k l v u n.1.1.0 m.1.1.0) c in
    let second = exp_below_arg (product_bound t k' l') (product_bound t v u) q (product_bound_mono t k' l' v u n.1.1.1 m.1.1.1) c' in
    let both = exp_below_sum (product_bound s v u) (product_bound t v u) p q first second in
    (u, (v, (m.1.0, (n.1.0, exp_below_arg (sum_of (product_bound s v u) (product_bound t v u)) (product_bound (sum_of s t) v u) (p ⊠ q) (product_bound_sum s t v u).ge both))))

-- ---- q ^ B against x ^ P and x ^ M
pub power_above : (x : Frac) (t : Signed) (q : Frac) → AbovePower x t q → power t.plus x ⊑ power t.bot q ⊠ power t.minus x
power_above x t q (l, (k, (a, (b, c)))) =
    let P = times_of t.plus l in
    let y = product_bound t l k in
    let all = sum_of (times_of t.bot y) (times_of t.minus k) in
    least_most P (power t.plus x) (power t.bot q ⊠ power t.minus x) (least_times t.plus l x (ln_least x l a))
    (most_arg P all (power t.bot q ⊠ power t.minus x) (product_bound_times t l k).le
    (most_sum (times_of t.bot y) (times_of t.minus k) (power t.bot q) (power t.minus x) (most_times t.bot y q (at_most y q c)) (most_times t.minus k x (ln_most x k b))))

pub power_below : (x : Frac) (t : Signed) (q : Frac) → BelowPower x t q → power t.bot q ⊠ power t.minus x ⊑ power t.plus x
power_below x t q (l, (k, (a, (b, c)))) =
    let P = times_of t.plus k in
    let y = product_bound t k l in
    let all = sum_of (times_of t.bot y) (times_of t.minus l) in
    least_most P (power t.bot q ⊠ power t.minus x) (power t.plus x)
    (least_arg all P (power t.bot q ⊠ power t.minus x) (product_bound_times t k l).ge
    (least_sum (times_of t.bot y) (times_of t.minus l) (power t.bot q) (power t.minus x) (least_times t.bot y q (at_least y q c)) (least_times t.minus l x (ln_least x l a))))
    (most_times t.plus k x (ln_most x k b))

-- ---- and back: with ln x enclosed closely, a bound of e ^ (t ln x) that is close itself
-- p ^ B w ≤ u g and q ≤ (1 + δ) p, with (1 + δ) ^ B ≤ g
closed : (n : ℕ) (N : 0 < n) (s p q w u : Frac) → 2 * s.top ≤ s.bot → q ⊑ p ⊠ (nat 1 ⊞ shared s n N) → power n p ⊠ w ⊑ u ⊠ exp_upper s → power n q ⊠ w ⊑ u ⊠ (exp_upper s ⊠ exp_upper s)
closed n N s p q w u half h k =
    let o = nat 1 ⊞ shared s n N in
    let g = exp_upper s in
    ⊑_trans (power n q ⊠ w) (power n p ⊠ g ⊠ w) (u ⊠ (g ⊠ g))
    (mono-⊠ (power n q) (power n p ⊠ g) w w
    (⊑_trans (power n q) (power n (p ⊠ o)) (power n p ⊠ g) (power_mono n q (p ⊠ o) h)
    (⊑_trans (power n (p ⊠ o)) (power n p ⊠ power n o) (power n p ⊠ g) (power_times n p o) (mono-⊠ (power n p) (power n p) (power n o) g (⊑_refl (power n p)) (power_exp_upper n N s half)))) (⊑_refl w))
    (⊑_trans (power n p ⊠ g ⊠ w) (power n p ⊠ w ⊠ g) (u ⊠ (g ⊠ g)) (turn (power n p) g w)
    (⊑_trans (power n p ⊠ w ⊠ g) (u ⊠ g ⊠ g) (u ⊠ (g ⊠ g)) (mono-⊠ (power n p ⊠ w) (u ⊠ g) g g k (⊑_refl g)) (gather u g)))
  where
    turn : (a b c : Frac) → a ⊠ b ⊠ c ⊑ a ⊠ c ⊠ b
    turn a b c = omega arith

    gather : (a b : Frac) → a ⊠ b ⊠ b ⊑ a ⊠ (b ⊠ b)
    gather a b = omega arith

module _ (x : Frac) (X : 0 < x.top) (t : Signed) where
  -- k and l near ln x: the products of bounds, up to 1 + s + s ^ 2
  near_above : (s : Frac) (l k : Signed) (p : Frac) → 2 * s.top ≤ s.bot → Apart t s l k → AboveLn x l → BelowLn x k → BelowExp (product_bound t l k) p → power t.bot p ⊠ power t.minus x ⊑ power t.plus x ⊠ exp_upper s
  near_above s l k p half h a b c =
      let y = product_bound t l k in
      let u = sum_of (times_of t.bot y) (times_of t.minus l) in
      let w = sum_of (times_of t.plus k) (plus_of s) in
      least_most w (power t.bot p ⊠ power t.minus x) (power t.plus x ⊠ exp_upper s)
      (least_arg u w (power t.bot p ⊠ power t.minus x) (gap_above t s l k h)
      (least_sum (times_of t.bot y) (times_of t.minus l) (power t.bot p) (power t.minus x) (least_times t.bot y p (at_least y p c)) (least_times t.minus l x (ln_least x l a))))
      (most_sum (times_of t.plus k) (plus_of s) (power t.plus x) (exp_upper s) (most_times t.plus k x (ln_most x k b)) (at_most (plus_of s) (exp_upper s) (exp_upper_above s half)))

  near_below : (s : Frac) (l k : Signed) (q : Frac) → 2 * s.top ≤ s.bot → Apart t s l k → AboveLn x l → BelowLn x k → AboveExp (product_bound t k l) q → power t.plus x ⊑ power t.bot q ⊠ power t.minus x ⊠ exp_upper s
  near_below s l k q half h a b c =
      let y = product_bound t k l in
      let u = sum_of (times_of t.bot y) (times_of t.minus k) in
      let P = times_of t.plus l in
      least_most P (power t.plus x) (power t.bot q ⊠ power t.minus x ⊠ exp_upper s) (least_times t.plus l x (ln_least x l a))
      (most_arg P (sum_of u (plus_of s)) (power t.bot q ⊠ power t.minus x ⊠ exp_upper s) (gap_below t s l k h)
      (most_sum u (plus_of s) (power t.bot q ⊠ power t.minus x) (exp_upper s)
      (most_sum (times_of t.bot y) (times_of t.minus k) (power t.bot q) (power t.minus x) (most_times t.bot y q (at_most y q c)) (most_times t.minus k x (ln_most x k b))) (at_most (plus_of s) (exp_upper s) (exp_upper_above s half))))

  pub power_above_back : (q : Frac) → power t.plus x ⊏ power t.bot q ⊠ power t.minus x → AbovePower x t q
  power_above_back q h =
      let r = room_for (power t.plus x) (power t.bot q ⊠ power t.minus x) h in
      let s = r.0 in
      let half = r.1.1.0 in
      let n = ln_bounds x (step t s) X r.1.0 in
      let k = n.0 in
      let l = raised (raised k (step t s)) (step t s) in
      let e = exp_enclosed (product_bound t l k) (shared s t.bot t.good) r.1.0 in
      let p = e.0 in
      let w = e.1.0 in
      split (w.top * q.bot) (q.top * w.bot) (AbovePower x t q) (λ o. (l, (k, (n.1.1, (n.1.0, exp_above_more (product_bound t l k) w q o e.1.1.1.0)))))
      (λ o. absurd (⊏-not (power t.plus x ⊠ (exp_upper s ⊠ exp_upper s)) (power t.bot q ⊠ power t.minus x) r.1.1.1
      (closed t.bot t.good s p q (power t.minus x) (power t.plus x) half (⊑_trans q w (p ⊠ (nat 1 ⊞ shared s t.bot t.good)) (le_of_lt o) (le_of_lt e.1.1.1.1))
      (near_above s l k p half (apart t s k) n.1.1 n.1.0 e.1.1.0))))

  pub power_below_back : (q : Frac) → power t.bot q ⊠ power t.minus x ⊏ power t.plus x → BelowPower x t q
  power_below_back q h =
      let u = power t.bot q ⊠ power t.minus x in
      let r = room_for u (power t.plus x) h in
      let s = r.0 in
      let half = r.1.1.0 in
      let n = ln_bounds x (step t s) X r.1.0 in
      let k = n.0 in
      let l = raised (raised k (step t s)) (step t s) in
      let d = shared s t.bot t.good in
      let e = exp_enclosed (product_bound t k l) d r.1.0 in
      let p = e.0 in
      let w = e.1.0 in
      split (q.top * p.bot) (p.top * q.bot) (BelowPower x t q) (λ o. (l, (k, (n.1.1, (n.1.0, exp_below_less (product_bound t k l) p q o e.1.1.0)))))
      (λ o. absurd (⊏-not (u ⊠ (exp_upper s ⊠ exp_upper s)) (power t.plus x) r.1.1.1
      (⊑_trans (power t.plus x) (power t.bot w ⊠ power t.minus x ⊠ exp_upper s) (u ⊠ (exp_upper s ⊠ exp_upper s)) (near_below s l k w half (apart t s k) n.1.1 n.1.0 e.1.1.1.0)
      (⊑_trans (power t.bot w ⊠ power t.minus x ⊠ exp_upper s) (power t.bot w ⊠ (power t.minus x ⊠ exp_upper s)) (u ⊠ (exp_upper s ⊠ exp_upper s)) (turn (power t.bot w) (power t.minus x) (exp_upper s))
      (closed t.bot t.good s q w (power t.minus x ⊠ exp_upper s) u half
      (⊑_trans w (p ⊠ (nat 1 ⊞ d)) (q ⊠ (nat 1 ⊞ d)) (le_of_lt e.1.1.1.1) (mono-⊠ p q (nat 1 ⊞ d) (nat 1 ⊞ d) (le_of_lt o) (⊑_refl (nat 1 ⊞ d)))) (turn' (power t.bot q) (power t.minus x) (exp_upper s)))))))
    where
      turn : (a b c : Frac) → a ⊠ b ⊠ c ⊑ a ⊠ (b ⊠ c)
      turn a b c = omega arith

      turn' : (a b c : Frac) → a ⊠ (b ⊠ c) ⊑ a ⊠ b ⊠ c
      turn' a b c = omega arith

  -- bounds as close as one likes
  pub power_bounds : (s : Frac) → 0 < s.top → 2 * s.top ≤ s.bot → (p : Frac) × ((q : Frac) × (BelowPower x t p × (AbovePower x t q × (q ⊑ p ⊠ (nat 1 ⊞ s) ⊠ exp_upper s))))
  power_bounds s S half =
      let n = ln_bounds x (step t s) X S in
      let k = n.0 in
      let l = raised (raised k (step t s)) (step t s) in
      let y = product_bound t k l in
      let e = exp_enclosed y s S in
      let p = e.0 in
      let w = e.1.0 in
      let q = w ⊠ exp_upper s in
      let up = exp_above_arg (raised y s) (sum_of y (plus_of s)) q (raised_is y s).ge (exp_above_sum y (plus_of s) w (exp_upper s) e.1.1.1.0 (exp_upper_above s half)) in
      let below : BelowPower x t p = (l, (k, (n.1.1, (n.1.0, e.1.1.0)))) in
      let above : AbovePower x t q = (l, (k, (n.1.1, (n.1.0, exp_above_arg (product_bound t l k) (raised y s) q (gap_product t s l k (apart t s k)) up)))) in
      (p, (q, (below, (above, mono-⊠ w (p ⊠ (nat 1 ⊞ s)) (exp_upper s) (exp_upper s) (le_of_lt e.1.1.1.1) (⊑_refl (exp_upper s))))))

-- ---- x ^ 0 = 1: nothing below exceeds 1, nothing above is less, and 1 itself is both
pub power_none : (x : Frac) → 0 < x.top → AbovePower x (plus_of (nat 0)) (nat 1) × BelowPower x (plus_of (nat 0)) (nat 1)
power_none x X =
    let n = ln_bounds x (nat 1) X (le_refl 1) in
    let k = n.0 in
    let l = raised (raised k (nat 1)) (nat 1) in
    ((l, (k, (n.1.1, (n.1.0, (exp_zero (product_bound (plus_of (nat 0)) l k) (omega arith)).0)))), (l, (k, (n.1.1, (n.1.0, (exp_zero (product_bound (plus_of (nat 0)) k l) (omega arith)).1)))))
