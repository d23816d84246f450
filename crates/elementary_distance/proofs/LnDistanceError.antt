-- The error of ln's last two operations, as an absolute one: with a 26 roundings from A ≤ 0.7 and b 2 roundings from N, a rounded b + a, a - b or b - a differs from N + A, A - N or N - A
-- by at most `error y` = (21 + 5 y) / 2^53, y the rounded one. Assumes nothing.
use mathlib.Core.Path.{◌≡◌, ap}
use Prim.Native.Nat.{ℕ, ◌+◌, ◌-◌, ◌*◌, ◌^◌, ◌≤◌, ◌<◌}
use native.Mathlib.Nat.{mul-pos, mul-le-mul_right, mul-le-mul_left, le_of_mul-le-mul_right, one-le-pow, sub-add_cancel}
use native.Mathlib.Omega.{arith}
use lib.Dec.{lit≤}
use lib.Pow.{pow_pos}
use Rattle.numerics.specs.Frac.{Frac, ◌⊑◌, ◌⊞◌, big, small, small_pos, Under, Close}
use Rattle.numerics.specs.Rel.{less}
use Rattle.numerics.specs.Common.{On, on_le, le_on, on_add, on_less}

abbrev pub error : Frac → Frac
error y = record { top = 168 * y.bot + 40 * y.top; bot = y.bot * 2 ^ 56; good = mul-pos y.good (pow_pos 56) }

-- ---- whole numbers over one denominator P, in units of 1 / U: w is 8 for a rounding, and one more
-- e roundings, as a linear inequality
on_near : (P e U w : ℕ) (p q : Frac) (n m : ℕ) → On P p n → On P q m → U * big ^ e ≤ (U + w) * small ^ e → Under e p q → n * U ≤ m * (U + w)
on_near P e U w p q n m a b s h =
    le_of_mul-le-mul_right {k = small ^ e} (omega (arith, mul-le-mul_right U (cross (small ^ e) (big ^ e) h), mul-le-mul_left m s)) (one-le-pow e small small_pos)
  where
    cross : (s b : ℕ) → p.top * q.bot * s ≤ q.top * p.bot * b → n * s ≤ m * b
    cross s b' h = le_of_mul-le-mul_right {k = p.bot * q.bot} (omega (arith, mul-le-mul_right P h, ap (λ (z : ℕ). z * q.bot * s) a, ap (λ (z : ℕ). z * p.bot * b') b)) (mul-pos p.good q.good)

-- and so one is at most 65/64 of the other
nearly : (U w n m : ℕ) → 0 < U → 64 * w ≤ U → n * U ≤ m * (U + w) → 64 * n ≤ 65 * m
nearly U w n m P s h = le_of_mul-le-mul_right {k = U} (omega (arith, mul-le-mul_left m s)) P

record NearUnits (U w n m : ℕ) : Type 0 where
  up : n * U ≤ m * (U + w)
  down : m * U ≤ n * (U + w)
  up_most : 64 * n ≤ 65 * m
  down_most : 64 * m ≤ 65 * n

near_of : (P e U w : ℕ) (p q : Frac) (n m : ℕ) → 0 < U → 64 * w ≤ U → U * big ^ e ≤ (U + w) * small ^ e → On P p n → On P q m → Close e p q → NearUnits U w n m
near_of P e U w p q n m U0 s t a b c =
    let f = on_near P e U w p q n m a b t c.le in
    let g = on_near P e U w q p m n b a t c.ge in
    record { up = f; down = g; up_most = nearly U w n m U0 s f; down_most = nearly U w m n U0 s g }

sum_case : (U P y b a N A : ℕ) → NearUnits U 9 y (b + a) → NearUnits U 17 b N → NearUnits U 209 a A → A * 10 ≤ 7 * P → (y * U ≤ N * U + A * U + (168 * P + 40 * y)) × (N * U + A * U ≤ y * U + (168 * P + 40 * y))
sum_case U P y b a N A r s t h = (omega arith, omega arith)

over_case : (U P y b a N A D : ℕ) → D + b ≡ a → NearUnits U 9 y D → NearUnits U 17 b N → NearUnits U 209 a A → A * 10 ≤ 7 * P → (y * U + N * U ≤ A * U + (168 * P + 40 * y)) × (A * U ≤ y * U + N * U + (168 * P + 40 * y))
over_case U P y b a N A D e r s t h = let k : (D + b) * U ≡ a * U = ap (λ (z : ℕ). z * U) e in (omega arith, omega arith)

under_case : (U P y b a N A D : ℕ) → D + a ≡ b → NearUnits U 9 y D → NearUnits U 17 b N → NearUnits U 209 a A → A * 10 ≤ 7 * P → (A * U + y * U ≤ N * U + (168 * P + 40 * y)) × (N * U ≤ A * U + y * U + (168 * P + 40 * y))
under_case U P y b a N A D e r s t h = let k : (D + a) * U ≡ b * U = ap (λ (z : ℕ). z * U) e in (omega arith, omega arith)

-- ---- fractions
on_times : (P U : ℕ) (p : Frac) (n : ℕ) → On P p n → On (P * U) p (n * U)
on_times P U p n a = omega (arith, ap (λ (z : ℕ). z * U) a)

module _ (y b a N A : Frac) (near-b : Close 2 b N) (near-a : Close 26 a A) (most : A.top * 10 ≤ 7 * A.bot) where
  abbrev P : ℕ
  P = y.bot * b.bot * a.bot * N.bot * A.bot

  abbrev y0 : ℕ
  y0 = y.top * (b.bot * a.bot * N.bot * A.bot)

  abbrev b0 : ℕ
  b0 = b.top * (y.bot * a.bot * N.bot * A.bot)

  abbrev a0 : ℕ
  a0 = a.top * (y.bot * b.bot * N.bot * A.bot)

  abbrev N0 : ℕ
  N0 = N.top * (y.bot * b.bot * a.bot * A.bot)

  abbrev A0 : ℕ
  A0 = A.top * (y.bot * b.bot * a.bot * N.bot)

  on_y : On P y y0
  on_y = omega arith

  on_b : On P b b0
  on_b = omega arith

  on_a : On P a a0
  on_a = omega arith

  on_N : On P N N0
  on_N = omega arith

  on_A : On P A A0
  on_A = omega arith

  P_pos : 0 < P
  P_pos = mul-pos (mul-pos (mul-pos (mul-pos y.good b.good) a.good) N.good) A.good

  abbrev U : ℕ
  U = 2 ^ 56

  Q-pos : 0 < P * U
  Q-pos = mul-pos P_pos (pow_pos 56)

  on_error : On (P * U) (error y) (168 * P + 40 * y0)
  on_error = turn y.top y.bot (b.bot * a.bot * N.bot * A.bot) P U (assoc y.bot b.bot a.bot N.bot A.bot)
    where
      assoc : (y b a N A : ℕ) → y * b * a * N * A ≡ y * (b * a * N * A)
      assoc y b a N A = omega arith

      turn : (t d r P U : ℕ) → P ≡ d * r → (168 * d + 40 * t) * (P * U) ≡ (168 * P + 40 * (t * r)) * (d * U)
      turn t d r P U e = rw e (omega arith)

  A-most : A0 * 10 ≤ 7 * P
  A-most = omega (arith, mul-le-mul_right (y.bot * b.bot * a.bot * N.bot) most)

  b_near : NearUnits U 17 b0 N0
  b_near = near_of P 2 U 17 b N b0 N0 (pow_pos 56) (lit≤ tt) (unfold small big in lit≤ tt) on_b on_N near-b

  a_near : NearUnits U 209 a0 A0
  a_near = near_of P 26 U 209 a A a0 A0 (pow_pos 56) (lit≤ tt) (unfold small big in lit≤ tt) on_a on_A near-a

  y_near : (z : Frac) (z0 : ℕ) → On P z z0 → Close 1 y z → NearUnits U 9 y0 z0
  y_near z z0 o c = near_of P 1 U 9 y z y0 z0 (pow_pos 56) (lit≤ tt) (unfold small big in lit≤ tt) on_y o c

  pub sum_error : Close 1 y (b ⊞ a) → (y ⊑ N ⊞ A ⊞ error y) × (N ⊞ A ⊑ y ⊞ error y)
  sum_error c =
      let r = sum_case U P y0 b0 a0 N0 A0 (y_near (b ⊞ a) (b0 + a0) (on_add P b a b0 a0 on_b on_a) c) b_near a_near A-most in
      let oy = on_times P U y y0 on_y in
      let oNA = on_add (P * U) N A (N0 * U) (A0 * U) (on_times P U N N0 on_N) (on_times P U A A0 on_A) in (
        le_on (P * U) y (N ⊞ A ⊞ error y) (y0 * U) (N0 * U + A0 * U + (168 * P + 40 * y0)) Q-pos oy (on_add (P * U) (N ⊞ A) (error y) (N0 * U + A0 * U) (168 * P + 40 * y0) oNA on_error) r.0,
        le_on (P * U) (N ⊞ A) (y ⊞ error y) (N0 * U + A0 * U) (y0 * U + (168 * P + 40 * y0)) Q-pos oNA (on_add (P * U) y (error y) (y0 * U) (168 * P + 40 * y0) oy on_error) r.1,
      )

  pub over_error : b ⊑ a → Close 1 y (less a b) → (y ⊞ N ⊑ A ⊞ error y) × (A ⊑ y ⊞ N ⊞ error y)
  over_error h c =
      let d : a0 - b0 + b0 ≡ a0 = sub-add_cancel (on_le P b a b0 a0 on_b on_a h) in
      let r = over_case U P y0 b0 a0 N0 A0 (a0 - b0) d (y_near (less a b) (a0 - b0) (on_less P a b a0 b0 on_a on_b) c) b_near a_near A-most in
      let oyN = on_add (P * U) y N (y0 * U) (N0 * U) (on_times P U y y0 on_y) (on_times P U N N0 on_N) in
      let oA = on_times P U A A0 on_A in (
        le_on (P * U) (y ⊞ N) (A ⊞ error y) (y0 * U + N0 * U) (A0 * U + (168 * P + 40 * y0)) Q-pos oyN (on_add (P * U) A (error y) (A0 * U) (168 * P + 40 * y0) oA on_error) r.0,
        le_on (P * U) A (y ⊞ N ⊞ error y) (A0 * U) (y0 * U + N0 * U + (168 * P + 40 * y0)) Q-pos oA (on_add (P * U) (y ⊞ N) (error y) (y0 * U + N0 * U) (168 * P + 40 * y0) oyN on_error) r.1,
      )

  pub under_error : a ⊑ b → Close 1 y (less b a) → (A ⊞ y ⊑ N ⊞ error y) × (N ⊑ A ⊞ y ⊞ error y)
  under_error h c =
      let d : b0 - a0 + a0 ≡ b0 = sub-add_cancel (on_le P a b a0 b0 on_a on_b h) in
      let r = under_case U P y0 b0 a0 N0 A0 (b0 - a0) d (y_near (less b a) (b0 - a0) (on_less P b a b0 a0 on_b on_a) c) b_near a_near A-most in
      let oAy = on_add (P * U) A y (A0 * U) (y0 * U) (on_times P U A A0 on_A) (on_times P U y y0 on_y) in
      let oN = on_times P U N N0 on_N in (
        le_on (P * U) (A ⊞ y) (N ⊞ error y) (A0 * U + y0 * U) (N0 * U + (168 * P + 40 * y0)) Q-pos oAy (on_add (P * U) N (error y) (N0 * U) (168 * P + 40 * y0) oN on_error) r.0,
        le_on (P * U) N (A ⊞ y ⊞ error y) (N0 * U) (A0 * U + y0 * U + (168 * P + 40 * y0)) Q-pos oN (on_add (P * U) (A ⊞ y) (error y) (A0 * U + y0 * U) (168 * P + 40 * y0) oAy on_error) r.1,
      )
