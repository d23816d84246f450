-- Order among exponents of either sign.
--   ≼_trans, raised_mono   laws of the order
--   Equal                  the order both ways: exponents of one value (`equal_of`, `equal_scaled`, `raised_is`)
--   exp_enclosed           bounds of e ^ l within a factor 1 + g of each other, for each g > 0
--   exp_one_more           1 + g ≤ e ^ g
--   exp_below_raised       p ≤ e ^ l gives p (1 + g) ≤ e ^ (l + g)
--   exp_order              k ≤ l where nothing below e ^ k exceeds anything above e ^ l
-- Assumes nothing.
use Rattle.std.specs.Prelude.{◌≡◌, ℕ, ◌+◌, ◌-◌, ◌*◌, ◌≤◌, ◌<◌}
use Rattle.std.proofs.Common.{sym, subst, le_refl, le_trans, le_of_eq, le_of_lt, mul-pos, mul-le-mul_right, mul-le-mul_left, le_of_mul-le-mul_right, lt_of_mul-lt-mul_right, add-sub_of_le, pow-suc, arith}
use Rattle.std.proofs.Math.Nat.{pow-zero}
use Rattle.numerics.specs.Frac.{Frac, ◌⊑◌, ◌⊏◌, ◌⊞◌, ◌⊠◌, nat, ⊏-not}
use Rattle.numerics.specs.Series.{sum_top, sum_bot}
use Rattle.numerics.specs.Exponential.{Signed, plus_of, raised, AboveExp, BelowExp}
use Rattle.numerics.proofs.ExpBounds.{at_most, least_most}
use Rattle.numerics.proofs.ExpBoundLaws.{split, squeeze, least_some}
use Rattle.numerics.proofs.ExpBoundSums.{◌≼◌, sum_of}
use Rattle.numerics.proofs.ExponentialRoom.{exp_above_pos}
use Rattle.numerics.proofs.ExponentialLaws.{exp_below_arg, exp_below_sum}
use Rattle.numerics.proofs.Equivalence.{below_nonneg}

-- ---- laws of the order
chained : (p m b p' m' b' p'' m'' b'' : ℕ) → 0 < b' → p * b' + m' * b ≤ p' * b + m * b' → p' * b'' + m'' * b' ≤ p'' * b' + m' * b'' → p * b'' + m'' * b ≤ p'' * b + m * b''
chained p m b p' m' b' p'' m'' b'' B h k = le_of_mul-le-mul_right {k = b'} (omega (arith, mul-le-mul_right b'' h, mul-le-mul_right b k)) B

pub ≼_trans : (x y z : Signed) → x ≼ y → y ≼ z → x ≼ z
≼_trans x y z = chained x.plus x.minus x.bot y.plus y.minus y.bot z.plus z.minus z.bot y.good

pub raised_mono : (x y : Signed) (s : Frac) → x ≼ y → raised x s ≼ raised y s
raised_mono x y s h = fit x.plus x.minus x.bot y.plus y.minus y.bot s.top s.bot h
  where
    fit : (p m b p' m' b' t s : ℕ) → p * b' + m' * b ≤ p' * b + m * b' → (p * s + t * b) * (b' * s) + m' * s * (b * s) ≤ (p' * s + t * b') * (b * s) + m * s * (b' * s)
    fit p m b p' m' b' t s h = omega (arith, mul-le-mul_right (s * s) h)

-- ---- exponents of one value
pub record Equal (x y : Signed) : Type 0 where
  pub le : x ≼ y
  pub ge : y ≼ x

pub equal_of : (x y : Signed) → x.plus * y.bot + y.minus * x.bot ≡ y.plus * x.bot + x.minus * y.bot → Equal x y
equal_of x y e = record { le = le_of_eq e; ge = le_of_eq (sym e) }

-- y is x over a denominator that is z times as large
pub equal_scaled : (x y : Signed) (z : ℕ) → y.plus ≡ x.plus * z → y.minus ≡ x.minus * z → y.bot ≡ x.bot * z → Equal x y
equal_scaled x y z e f g = equal_of x y (scaled x.plus y.plus x.minus y.minus x.bot y.bot e f g)
  where
    scaled : (A A' N N' B B' : ℕ) → A' ≡ A * z → N' ≡ N * z → B' ≡ B * z → A * B' + N' * B ≡ A' * B + N * B'
    scaled A A' N N' B B' e f g = rw (e, f, g) (omega arith)

pub raised_is : (x : Signed) (s : Frac) → Equal (sum_of x (plus_of s)) (raised x s)
raised_is x s = record { le = omega arith; ge = omega arith }

-- ---- bounds of e ^ l within a factor 1 + g of each other
pub exp_enclosed : (l : Signed) (g : Frac) → 0 < g.top → (p : Frac) × ((q : Frac) × (BelowExp l p × (AboveExp l q × (q ⊏ p ⊠ (nat 1 ⊞ g)))))
exp_enclosed l g G =
    let f = least_some l in
    let N = (g.bot + g.top) * f.0.bot + 1 in
    let s = squeeze l N (omega arith) in
    let p = s.0 in
    let q = s.1.0 in
    let a = s.1.1.1.0 in
    (p, (q, (s.1.1.0, (a, near q.top q.bot p.top p.bot g.top g.bot f.0.top f.0.bot (exp_above_pos l q a) p.good G f.1.0 s.1.1.1.1 (least_most l f.0 q f.1.1 (at_most l q a))))))
  where
    near : (a b c d u v s w : ℕ) → 0 < a → 0 < d → 0 < u → 0 < s → a * (d * ((v + u) * w + 1)) ≤ (c * ((v + u) * w + 1) + 1 * d) * b → s * b ≤ a * w → a * (d * (1 * v)) < c * (1 * v + u * 1) * b
    near a b c d u v s w A D P Q h k =
        let k2 : b ≤ a * w = le_trans (le_trans (omega arith) (mul-le-mul_right b Q)) k in
        lt_of_mul-lt-mul_right ((v + u) * w + 1) (omega (arith, mul-le-mul_right (v + u) h, mul-le-mul_left (d * (v + u)) k2, mul-le-mul_left (a * d * (v + u) * w) P, mul-pos (mul-pos A D) P))

-- 1 + g ≤ e ^ g
pub exp_one_more : (g : Frac) → BelowExp (plus_of g) (nat 1 ⊞ g)
exp_one_more g = (below_nonneg g (nat 1 ⊞ g)).1 (1, unfold sum_top sum_bot in rw (pow-suc g.top 0, pow-zero g.top) (omega arith))

pub exp_below_raised : (l : Signed) (g p : Frac) → BelowExp l p → BelowExp (raised l g) (p ⊠ (nat 1 ⊞ g))
exp_below_raised l g p b = exp_below_arg (sum_of l (plus_of g)) (raised l g) (p ⊠ (nat 1 ⊞ g)) (raised_is l g).le (exp_below_sum l (plus_of g) p (nat 1 ⊞ g) b (exp_one_more g))

-- ---- exponents are ordered as the bounds are
pub exp_order : (k l : Signed) → ((p q : Frac) → BelowExp k p → AboveExp l q → p ⊑ q) → k ≼ l
exp_order k l f = split (k.plus * l.bot + l.minus * k.bot) (l.plus * k.bot + k.minus * l.bot) (k ≼ l) (λ h. h) (λ h. absurd (clash h))
  where
    clash : l.plus * k.bot + k.minus * l.bot < k.plus * l.bot + l.minus * k.bot → ⊥
    clash h =
        let d = k.plus * l.bot + l.minus * k.bot - (l.plus * k.bot + k.minus * l.bot) in
        let e : l.plus * k.bot + k.minus * l.bot + d ≡ k.plus * l.bot + l.minus * k.bot = add-sub_of_le (le_of_lt h) in
        let g : Frac = record { top = d; bot = l.bot * k.bot; good = mul-pos l.good k.good } in
        let s = exp_enclosed l g (some (l.plus * k.bot + k.minus * l.bot) (k.plus * l.bot + l.minus * k.bot) h) in
        let p = s.0 in
        let q = s.1.0 in
        ⊏-not q (p ⊠ (nat 1 ⊞ g)) s.1.1.1.1
        (f (p ⊠ (nat 1 ⊞ g)) q (exp_below_arg (raised l g) k (p ⊠ (nat 1 ⊞ g)) (same l.plus l.minus l.bot k.plus k.minus k.bot d e) (exp_below_raised l g p s.1.1.0)) s.1.1.1.0)
      where
        some : (m n : ℕ) → m < n → 0 < n - m
        some m n h = omega arith

        same : (p m b r n c d : ℕ) → p * c + n * b + d ≡ r * b + m * c → (p * (b * c) + d * b) * c + n * (b * (b * c)) ≤ r * (b * (b * c)) + m * (b * c) * c
        same p m b r n c d e = omega (arith, subst (λ (z : ℕ). (p * c + n * b + d) * (b * c) ≤ z * (b * c)) e (le_refl ((p * c + n * b + d) * (b * c))))
