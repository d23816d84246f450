-- ln ((1 + s) / (1 - s)) for s up to 1/256, by the polynomial 2 * s + 2 * s ^ 3 / 3 + 2 * s ^ 5 / 5 + 2 * s ^ 7 / 7: e to that power is (1 + s) / (1 - s) to 2 roundings.
-- The sum S 8 of the exponential at the polynomial is a polynomial in s, worked out by computing, and compared with (1 + s) / (1 - s) by `dominates`. Assumes nothing.
use mathlib.Core.Path.{◌≡◌, refl}
use mathlib.Core.List.{List, [], ◌∷◌}
use Prim.Native.Nat.{ℕ, zero, suc, ◌+◌, ◌*◌, ◌^◌, ◌≤◌, ◌<◌}
use native.Mathlib.Nat.{mul-pos, mul-le-mul_right, mul-le-mul_left, le_of_mul-le-mul_right, lt_of_lt_of_le, le-add_left}
use native.Mathlib.Omega.{arith}
use lib.Dec.{T, lit≤}
use Rattle.numerics.specs.Frac.{Frac, ◌⊑◌, ◌⊞◌, ◌⊠◌, nat, ⊑_refl, ⊑_trans, big, small, Under, le_of_under}
use Rattle.numerics.specs.Series.{sum_bot, S, U, Above, Below, above_by}
use Rattle.numerics.specs.Law.{mono-⊠}
use Rattle.numerics.specs.Horner.{fact, fact_pos, one_over, taylor, taylor_is}
use Rattle.numerics.specs.Tail.{rho, under_rho, rho_mul, tail_under, rho⁻}
use Rattle.numerics.specs.Poly.{Eq, eq_sym, eq_trans, eq-⊞, eq-⊠, ev, padd, pscale, pmul, ev_add, ev_scale, ev_mul, dominates, dominated, le_of_Eq}

abbrev pub whole_over : (n : ℕ) → 0 < n → Frac
whole_over n h = record { top = 1; bot = n; good = h }

-- ---- the exponential's sum at g(s) / G, as a polynomial in s over a whole number
module _ (g : List ℕ) (G : ℕ) (G0 : 0 < G) where
  unfoldable pub low : ℕ → ℕ → ℕ
  unfolding fact
  low k zero = fact k
  low k (suc j) = fact k * (G * low (suc k) j)

  unfoldable pub poly : ℕ → ℕ → List ℕ
  unfolding low padd pscale pmul fact
  poly k zero = 1 ∷ []
  poly k (suc j) = padd (G * low (suc k) j ∷ []) (pscale (fact k) (pmul g (poly (suc k) j)))

  pub low_pos : (k j : ℕ) → 0 < low k j
  unfolding low
  low_pos k zero = fact_pos k
  low_pos k (suc j) = mul-pos (fact_pos k) (mul-pos G0 (low_pos (suc k) j))

  abbrev pub part : Frac → Frac
  part s = ev g s ⊠ whole_over G G0

  mix : (F G D et eb tt tb st sb : ℕ) → (1 * (eb * G * (tb * D)) + et * 1 * (tt * 1) * F) * (1 * (sb * 1) * (1 * (eb * tb)) * (F * (G * D))) ≡ ((G * D * (sb * 1) + st * 0 * 1) * (1 * (eb * tb)) + F * (et * tt) * (1 * (sb * 1))) * 1 * (F * (eb * G * (tb * D)))
  mix F G D et eb tt tb st sb = omega arith

  start : (F a b : ℕ) → 1 * (1 * (b * 1) * F) ≡ (1 * (b * 1) + a * 0 * 1) * 1 * F
  start F a b = omega arith

  pub taylor_poly : (k j : ℕ) (s : Frac) → Eq (taylor k j (part s)) (ev (poly k j) s ⊠ whole_over (low k j) (low_pos k j))
  unfolding taylor poly low ev
  taylor_poly k zero s = start (fact k) s.top s.bot
  taylor_poly k (suc j) s =
      let e = ev g s in
      let t = ev (poly (suc k) j) s in
      let D = low (suc k) j in
      let D0 = low_pos (suc k) j in
      let F = fact k in
      let x = part s in
      let body = (nat (G * D) ⊞ s ⊠ nat 0) ⊞ nat F ⊠ (e ⊠ t) in
      let w = whole_over (F * (G * D)) (mul-pos (fact_pos k) (mul-pos G0 D0)) in
      let p = poly (suc k) j in
      eq_trans (one_over k ⊞ x ⊠ taylor (suc k) j x) (one_over k ⊞ x ⊠ (t ⊠ whole_over D D0)) (ev (padd (G * D ∷ []) (pscale F (pmul g p))) s ⊠ w)
      (eq-⊞ (one_over k) (one_over k) (x ⊠ taylor (suc k) j x) (x ⊠ (t ⊠ whole_over D D0)) refl (eq-⊠ x x (taylor (suc k) j x) (t ⊠ whole_over D D0) refl (taylor_poly (suc k) j s)))
      (eq_trans (one_over k ⊞ x ⊠ (t ⊠ whole_over D D0)) (body ⊠ w) (ev (padd (G * D ∷ []) (pscale F (pmul g p))) s ⊠ w)
      (mix F G D e.top e.bot t.top t.bot s.top s.bot)
      (eq-⊠ body (ev (padd (G * D ∷ []) (pscale F (pmul g p))) s) w w
      (eq_sym (ev (padd (G * D ∷ []) (pscale F (pmul g p))) s) body
      (eq_trans (ev (padd (G * D ∷ []) (pscale F (pmul g p))) s) (ev (G * D ∷ []) s ⊞ ev (pscale F (pmul g p)) s) body (ev_add (G * D ∷ []) (pscale F (pmul g p)) s)
      (eq-⊞ (ev (G * D ∷ []) s) (nat (G * D) ⊞ s ⊠ nat 0) (ev (pscale F (pmul g p)) s) (nat F ⊠ (e ⊠ t)) refl
      (eq_trans (ev (pscale F (pmul g p)) s) (nat F ⊠ ev (pmul g p) s) (nat F ⊠ (e ⊠ t)) (ev_scale F (pmul g p) s) (eq-⊠ (nat F) (nat F) (ev (pmul g p) s) (e ⊠ t) refl (ev_mul g p s))))))
      refl))

  -- so the sum itself is that
  pub sum_up : (n : ℕ) (s : Frac) → S n (part s) ⊑ ev (poly 0 n) s ⊠ whole_over (low 0 n) (low_pos 0 n)
  sum_up n s = ⊑_trans (S n (part s)) (taylor 0 n (part s)) (ev (poly 0 n) s ⊠ whole_over (low 0 n) (low_pos 0 n))
      (le_of_under (S n (part s)) (taylor 0 n (part s)) (taylor_is n (part s)).ge) (le_of_Eq (taylor 0 n (part s)) (ev (poly 0 n) s ⊠ whole_over (low 0 n) (low_pos 0 n)) (taylor_poly 0 n s))

  pub sum_down : (n : ℕ) (s : Frac) → ev (poly 0 n) s ⊠ whole_over (low 0 n) (low_pos 0 n) ⊑ S n (part s)
  sum_down n s = ⊑_trans (ev (poly 0 n) s ⊠ whole_over (low 0 n) (low_pos 0 n)) (taylor 0 n (part s)) (S n (part s))
      (le_of_Eq (ev (poly 0 n) s ⊠ whole_over (low 0 n) (low_pos 0 n)) (taylor 0 n (part s)) (eq_sym (taylor 0 n (part s)) (ev (poly 0 n) s ⊠ whole_over (low 0 n) (low_pos 0 n)) (taylor_poly 0 n s)))
      (le_of_under (taylor 0 n (part s)) (S n (part s)) (taylor_is n (part s)).le)

-- ---- (1 - s) * t ≤ (1 + s) * K1 / M, and the other way round, from polynomials
from_above : (M K : ℕ) (t s : Frac) → nat M ⊠ t ⊑ nat M ⊠ (nat 0 ⊞ s ⊠ t) ⊞ (nat K ⊞ s ⊠ (nat K ⊞ s ⊠ nat 0)) → M * t.top * s.bot ≤ M * s.top * t.top + K * (s.bot + s.top) * t.bot
from_above M K t s h = clear M K t.top t.bot s.top s.bot t.good s.good h
  where
    clear : (M K t u a b : ℕ) → 0 < u → 0 < b → M * t * (1 * (1 * (b * u)) * (1 * (b * (1 * (b * 1))))) ≤ (M * (0 * (b * u) + a * t * 1) * (1 * (b * (1 * (b * 1)))) + (K * (b * (1 * (b * 1))) + a * (K * (b * 1) + a * 0 * 1) * 1) * (1 * (1 * (b * u)))) * (1 * u)
        → M * t * b ≤ M * a * t + K * (b + a) * u
    clear M K t u a b U B h = le_of_mul-le-mul_right {k = u * b * b} (omega (arith, h)) (mul-pos (mul-pos U B) B)

from_below : (M K N : ℕ) (t s : Frac) → (nat K ⊞ s ⊠ (nat K ⊞ s ⊠ nat 0)) ⊞ nat N ⊠ (nat 0 ⊞ s ⊠ t) ⊑ nat N ⊠ t → K * (s.bot + s.top) * t.bot + N * s.top * t.top ≤ N * t.top * s.bot
from_below M K N t s h = clear K N t.top t.bot s.top s.bot t.good s.good h
  where
    clear : (K N t u a b : ℕ) → 0 < u → 0 < b → ((K * (b * (1 * (b * 1))) + a * (K * (b * 1) + a * 0 * 1) * 1) * (1 * (1 * (b * u))) + N * (0 * (b * u) + a * t * 1) * (1 * (b * (1 * (b * 1))))) * (1 * u) ≤ N * t * (1 * (b * (1 * (b * 1))) * (1 * (1 * (b * u))))
        → K * (b + a) * u + N * a * t ≤ N * t * b
    clear K N t u a b U B h = le_of_mul-le-mul_right {k = u * b * b} (omega (arith, h)) (mul-pos (mul-pos U B) B)

-- ---- the polynomial, 105 times
abbrev pub g7 : List ℕ
g7 = 0 ∷ 210 ∷ 0 ∷ 70 ∷ 0 ∷ 42 ∷ 0 ∷ 30 ∷ []

pub G0 : 0 < 105
G0 = lit≤ tt

abbrev pub log_part : Frac → Frac
log_part s = part g7 105 G0 s

top8 : List ℕ
unfolding poly
top8 = poly g7 105 G0 0 8

low8 : ℕ
unfolding low
low8 = low g7 105 G0 0 8

test_above : T (dominates 256 (pscale (2 ^ 60) top8) (padd (pscale (2 ^ 60) (0 ∷ top8)) (low8 * (2 ^ 60 + 1) ∷ low8 * (2 ^ 60 + 1) ∷ [])))
unfolding dominates pscale padd top8 low8
test_above = tt

test_below : T (dominates 256 (padd (low8 * 2 ^ 60 ∷ low8 * 2 ^ 60 ∷ []) (pscale (2 ^ 60 + 1) (0 ∷ top8))) (pscale (2 ^ 60 + 1) top8))
unfolding dominates pscale padd top8 low8
test_below = tt

-- the two polynomials' values by those of top8
above_at : (s : Frac) → s.top * 256 ≤ s.bot → 2 ^ 60 * (ev top8 s).top * s.bot ≤ 2 ^ 60 * s.top * (ev top8 s).top + low8 * (2 ^ 60 + 1) * (s.bot + s.top) * (ev top8 s).bot
unfolding ev
above_at s h =
    let M = 2 ^ 60 in
    let K = low8 * (2 ^ 60 + 1) in
    let t = ev top8 s in
    let tail = K ∷ K ∷ [] in
    from_above M K t s
    (⊑_trans (nat M ⊠ t) (ev (pscale M top8) s) (nat M ⊠ (nat 0 ⊞ s ⊠ t) ⊞ ev tail s) (le_of_Eq (nat M ⊠ t) (ev (pscale M top8) s) (eq_sym (ev (pscale M top8) s) (nat M ⊠ t) (ev_scale M top8 s)))
    (⊑_trans (ev (pscale M top8) s) (ev (padd (pscale M (0 ∷ top8)) tail) s) (nat M ⊠ (nat 0 ⊞ s ⊠ t) ⊞ ev tail s)
    (dominated 256 (pscale M top8) (padd (pscale M (0 ∷ top8)) tail) s (lit≤ tt) h test_above)
    (le_of_Eq (ev (padd (pscale M (0 ∷ top8)) tail) s) (nat M ⊠ (nat 0 ⊞ s ⊠ t) ⊞ ev tail s)
    (eq_trans (ev (padd (pscale M (0 ∷ top8)) tail) s) (ev (pscale M (0 ∷ top8)) s ⊞ ev tail s) (nat M ⊠ (nat 0 ⊞ s ⊠ t) ⊞ ev tail s) (ev_add (pscale M (0 ∷ top8)) tail s)
    (eq-⊞ (ev (pscale M (0 ∷ top8)) s) (nat M ⊠ (nat 0 ⊞ s ⊠ t)) (ev tail s) (ev tail s) (ev_scale M (0 ∷ top8) s) refl)))))

below_at : (s : Frac) → s.top * 256 ≤ s.bot → low8 * 2 ^ 60 * (s.bot + s.top) * (ev top8 s).bot + (2 ^ 60 + 1) * s.top * (ev top8 s).top ≤ (2 ^ 60 + 1) * (ev top8 s).top * s.bot
unfolding ev
below_at s h =
    let N = 2 ^ 60 + 1 in
    let K = low8 * 2 ^ 60 in
    let t = ev top8 s in
    let tail = K ∷ K ∷ [] in
    from_below 0 K N t s
    (⊑_trans (ev tail s ⊞ nat N ⊠ (nat 0 ⊞ s ⊠ t)) (ev (padd tail (pscale N (0 ∷ top8))) s) (nat N ⊠ t)
    (le_of_Eq (ev tail s ⊞ nat N ⊠ (nat 0 ⊞ s ⊠ t)) (ev (padd tail (pscale N (0 ∷ top8))) s)
    (eq_sym (ev (padd tail (pscale N (0 ∷ top8))) s) (ev tail s ⊞ nat N ⊠ (nat 0 ⊞ s ⊠ t))
    (eq_trans (ev (padd tail (pscale N (0 ∷ top8))) s) (ev tail s ⊞ ev (pscale N (0 ∷ top8)) s) (ev tail s ⊞ nat N ⊠ (nat 0 ⊞ s ⊠ t)) (ev_add tail (pscale N (0 ∷ top8)) s)
    (eq-⊞ (ev tail s) (ev tail s) (ev (pscale N (0 ∷ top8)) s) (nat N ⊠ (nat 0 ⊞ s ⊠ t)) refl (ev_scale N (0 ∷ top8) s)))))
    (⊑_trans (ev (padd tail (pscale N (0 ∷ top8))) s) (ev (pscale N top8) s) (nat N ⊠ t)
    (dominated 256 (padd tail (pscale N (0 ∷ top8))) (pscale N top8) s (lit≤ tt) h test_below) (le_of_Eq (ev (pscale N top8) s) (nat N ⊠ t) (ev_scale N top8 s))))

-- ---- s = a / (a + d), so that (1 + s) / (1 - s) = (2 * a + d) / d
abbrev pub ratio_of : (a d : ℕ) → 0 < d → Frac
ratio_of a d D = record { top = a; bot = a + d; good = lt_of_lt_of_le D (le-add_left d a) }

abbrev pub quotient_of : (a d : ℕ) → 0 < d → Frac
quotient_of a d D = record { top = 2 * a + d; bot = d; good = D }

module _ (a d : ℕ) (D : 0 < d) (few : a * 256 ≤ a + d) where
  sum_above : S 8 (log_part (ratio_of a d D)) ⊑ quotient_of a d D ⊠ rho 1
  unfolding top8 low8
  sum_above =
      let s = ratio_of a d D in
      let t = ev top8 s in
      ⊑_trans (S 8 (log_part s)) (t ⊠ whole_over low8 (low_pos g7 105 G0 0 8)) (quotient_of a d D ⊠ rho 1) (sum_up g7 105 G0 8 s)
      (fin t.top t.bot a d low8 (2 ^ 60) (small ^ 1) (big ^ 1) (lit≤ tt) (above_at s few) slack)
    where
      slack : (2 ^ 60 + 1) * small ^ 1 ≤ 2 ^ 60 * big ^ 1
      slack = unfold small big in lit≤ tt

      fin : (t u a d K M s b : ℕ) → 0 < M → M * t * (a + d) ≤ M * a * t + K * (M + 1) * (a + d + a) * u → (M + 1) * s ≤ M * b → t * 1 * (d * s) ≤ (2 * a + d) * b * (u * K)
      fin t u a d K M s b P h k = le_of_mul-le-mul_right {k = M} (omega (arith, mul-le-mul_right s h, mul-le-mul_left (K * (2 * a + d) * u) k)) P

  sum_below : quotient_of a d D ⊠ rho⁻ 1 ⊑ S 8 (log_part (ratio_of a d D))
  unfolding top8 low8
  sum_below =
      let s = ratio_of a d D in
      let t = ev top8 s in
      ⊑_trans (quotient_of a d D ⊠ rho⁻ 1) (t ⊠ whole_over low8 (low_pos g7 105 G0 0 8)) (S 8 (log_part s))
      (fin t.top t.bot a d low8 (2 ^ 60) (small ^ 1) (big ^ 1) (lit≤ tt) (below_at s few) slack) (sum_down g7 105 G0 8 s)
    where
      slack : (2 ^ 60 + 1) * small ^ 1 ≤ 2 ^ 60 * big ^ 1
      slack = unfold small big in lit≤ tt

      fin : (t u a d K M s b : ℕ) → 0 < M → K * M * (a + d + a) * u + (M + 1) * a * t ≤ (M + 1) * t * (a + d) → (M + 1) * s ≤ M * b → (2 * a + d) * s * (u * K) ≤ t * 1 * (d * b)
      fin t u a d K M s b P h k = le_of_mul-le-mul_right {k = M} (omega (arith, mul-le-mul_right s h, mul-le-mul_left (t * d) k)) P

  -- the exponent is at most 1/100
  pub log_part_small : log_part (ratio_of a d D) ⊑ whole_over 100 (lit≤ tt)
  unfolding ev
  log_part_small =
      let s = ratio_of a d D in
      let e = ev g7 s in
      hundredth e.top e.bot (a + d) (ratio_of a d D).good
      (⊑_trans (nat 100 ⊠ e) (ev (pscale 100 g7) s) (nat 105 ⊞ s ⊠ nat 0) (le_of_Eq (nat 100 ⊠ e) (ev (pscale 100 g7) s) (eq_sym (ev (pscale 100 g7) s) (nat 100 ⊠ e) (ev_scale 100 g7 s)))
      (dominated 256 (pscale 100 g7) (105 ∷ []) s (lit≤ tt) few (unfold dominates pscale in tt)))
    where
      hundredth : (e f b : ℕ) → 0 < b → 100 * e * (1 * (b * 1)) ≤ (105 * (b * 1) + a * 0 * 1) * (1 * f) → e * 1 * 100 ≤ 1 * (f * 105)
      hundredth e f b B h = le_of_mul-le-mul_right {k = b} (omega (arith, h)) B

  cut : Under 1 (U 8 (log_part (ratio_of a d D))) (S 8 (log_part (ratio_of a d D)))
  cut = tail_under 8 1 (log_part (ratio_of a d D)) (whole_over 100 (lit≤ tt)) log_part_small (unfold sum_bot small big in lit≤ tt)

  -- e to the polynomial is (1 + s) / (1 - s), to 2 roundings
  pub log_above : Above (log_part (ratio_of a d D)) (quotient_of a d D ⊠ rho 2)
  log_above =
      let x = log_part (ratio_of a d D) in
      let q = quotient_of a d D in
      above_by 8 x (q ⊠ rho 2) (ten x.top x.bot log_part_small)
      (⊑_trans (U 8 x) (S 8 x ⊠ rho 1) (q ⊠ rho 2) (under_rho 1 (U 8 x) (S 8 x) cut)
      (⊑_trans (S 8 x ⊠ rho 1) (q ⊠ rho 1 ⊠ rho 1) (q ⊠ rho 2) (mono-⊠ (S 8 x) (q ⊠ rho 1) (rho 1) (rho 1) sum_above (⊑_refl (rho 1)))
      (⊑_trans (q ⊠ rho 1 ⊠ rho 1) (q ⊠ (rho 1 ⊠ rho 1)) (q ⊠ rho 2) (omega arith) (mono-⊠ q q (rho 1 ⊠ rho 1) (rho 2) (⊑_refl q) (rho_mul 1 1)))))
    where
      ten : (t b : ℕ) → t * 100 ≤ 1 * b → 2 * t ≤ b * 10
      ten t b h = omega arith

  pub log_below : Below (log_part (ratio_of a d D)) (quotient_of a d D ⊠ rho⁻ 1)
  log_below = (8, sum_below)
