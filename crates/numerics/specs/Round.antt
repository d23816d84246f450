-- What `round` gives is within half a unit in the last place of the fraction, and so, in the normal range, within one part in 2 ^ prec (`grid_near`).
-- For binary64: `round-close`. Then the sums, products, quotients and differences of values above zero. Assumes nothing.
use Rattle.std.specs.Prelude.{◌≡◌, false, not, T, Float}
use Rattle.std.proofs.Common.{ap, ◌∙◌, arith, leb→le, eqb→eq, lit≤, pow-add, pow_pos}
use Prim.Native.Nat.{ℕ, suc, ◌+◌, ◌-◌, ◌*◌, ◌/◌, ◌%◌, ◌^◌, ◌≤◌, ◌<◌, compare, Ordering}
use native.Mathlib.Nat.{le_trans, le_of_eq, le_of_lt, lt_of_lt_of_le, mul-pos, one-mul, mul-le-mul_right, mul-le-mul_left, le_of_mul-le-mul_right, lt_of_mul-lt-mul_right, div-add-mod', mod-lt, le-div_iff_mul-le, pow-suc}
use Rattle.std.proofs.Math.Dec.{is_le, compare_is_eq, nleb→lt}
use Rattle.std.specs.Float.{Format, binary64}
use Rattle.std.specs.Float.Ieee.{prec, low, size, nearest, round}
use Rattle.std.specs.Float.Ieee.Digits.{size_reaches}
use Rattle.std.specs.Float.Ieee.Nearest.{closest}
use Rattle.std.specs.Float.Ieee.Order.{drop, kept}
use Rattle.std.specs.Float.Ieee.Exact.{HasValue}
use Rattle.std.specs.Float.Ieee.Scale.{grid, overflow, round_val, normal_of_fraction}
use Rattle.std.specs.Float.Ieee.Positive.{num, den, positive, den_pos, own_value, value_pos, value→cross, positive_of_value, first_pos}
pub use Rattle.numerics.specs.Fraction.{val}
use Rattle.numerics.specs.Frac.{Frac, big, small, small_suc, small_pos, Close}

-- ---- closest n u * u is within half of u of n
abbrev Half : Ordering → ℕ → ℕ → Type 0
Half Ordering.lt r u = r * 2 ≤ u
Half Ordering.eq r u = r * 2 ≡ u
Half Ordering.gt r u = u ≤ r * 2

half : (r u : ℕ) → Half (compare (r * 2) u) r u
half r u = go (compare (r * 2) u) (leb→le (r * 2) u) (nleb→lt (r * 2) u) (eqb→eq (r * 2) u)
  where
    go : (o : Ordering) → (T (is_le o) → r * 2 ≤ u) → (T (not (is_le o)) → u < r * 2) → (T (compare_is_eq o) → r * 2 ≡ u) → Half o r u
    go Ordering.lt h k e = h tt
    go Ordering.eq h k e = e tt
    go Ordering.gt h k e = le_of_lt (k tt)

parity : (q u : ℕ) → q % 2 * u ≤ u
parity q u = le_trans (mul-le-mul_right u (bit q)) (le_of_eq (one-mul u))
  where
    bit : (q : ℕ) → q % 2 ≤ 1
    bit q = omega arith

nearest_above : (o : Ordering) (n q r u : ℕ) → Half o r u → r < u → q * u + r ≡ n → 2 * (nearest q o * u) ≤ 2 * n + u
nearest_above Ordering.lt n q r u h l e = omega arith
nearest_above Ordering.eq n q r u h l e = omega (arith, parity q u)
nearest_above Ordering.gt n q r u h l e = omega arith

nearest_below : (o : Ordering) (n q r u : ℕ) → Half o r u → r < u → q * u + r ≡ n → 2 * n ≤ 2 * (nearest q o * u) + u
nearest_below Ordering.lt n q r u h l e = omega arith
nearest_below Ordering.eq n q r u h l e = omega arith
nearest_below Ordering.gt n q r u h l e = omega arith

pub closest_above : (n u : ℕ) → 0 < u → 2 * (closest n u * u) ≤ 2 * n + u
closest_above n u U = nearest_above (compare (n % u * 2) u) n (n / u) (n % u) u (half (n % u) u) (mod-lt n U) (div-add-mod' n u)

pub closest_below : (n u : ℕ) → 0 < u → 2 * n ≤ 2 * (closest n u * u) + u
closest_below n u U = nearest_below (compare (n % u * 2) u) n (n / u) (n % u) u (half (n % u) u) (mod-lt n U) (div-add-mod' n u)

-- ---- in the normal range the unit 2 ^ drop is at most one part in 2 ^ (prec - 1)
first : (z p : ℕ) → 0 < p → p ≤ z → p - 1 + (z - p) < z
first z p P h = omega arith

unit_small : (p n c : ℕ) → 0 < p → 0 < c → p ≤ size (n / c) → 2 ^ (p - 1) * (c * 2 ^ drop p n c) ≤ n
unit_small p n c P C N =
    let k = drop p n c in
    let h : 2 ^ (p - 1 + k) * c ≤ n = (le-div_iff_mul-le C).0 (size_reaches (n / c) (p - 1 + k) (first (size (n / c)) p P N)) in
    omega (arith, rw pow-add at h)

near_above : (P k u n : ℕ) → P * u ≤ n → 2 * (k * u) ≤ 2 * n + u → k * u * (2 * P) ≤ n * (2 * P + 1)
near_above P k u n h l = omega (arith, mul-le-mul_left P l)

near_below : (P k u n : ℕ) → P * u ≤ n → 2 * n ≤ 2 * (k * u) + u → n * (2 * P) ≤ k * u * (2 * P) + n
near_below P k u n h l = omega (arith, mul-le-mul_left P l)

-- ---- the rounded value in units of the format's smallest, for a / c that is 2 ^ (prec - 1) units at least
pub record NearGrid (f : Format) (a c : ℕ) : Type 0 where
  pub above : grid f a c * c * (2 * 2 ^ (prec f - 1)) ≤ a * 2 ^ low f * (2 * 2 ^ (prec f - 1) + 1)
  pub below : a * 2 ^ low f * (2 * 2 ^ (prec f - 1)) ≤ grid f a c * c * (2 * 2 ^ (prec f - 1)) + a * 2 ^ low f

pub grid_near : (f : Format) (a c : ℕ) → 0 < prec f → 0 < c → prec f ≤ size (a * 2 ^ low f / c) → NearGrid f a c
grid_near f a c P C N =
    let n = a * 2 ^ low f in
    let k = drop (prec f) n c in
    let u = c * 2 ^ k in
    let U : 0 < u = mul-pos C (pow_pos k) in
    let K = kept (prec f) n c in
    let e : K * 2 ^ k * c ≡ K * u = omega arith in
    let s : 2 ^ (prec f - 1) * u ≤ n = unit_small (prec f) n c P C N in
    record {
      above = rw e (near_above (2 ^ (prec f - 1)) K u n s (closest_above n u U));
      below = rw e (near_below (2 ^ (prec f - 1)) K u n s (closest_below n u U));
    }

-- a value above zero has a top above zero
pub num_pos : (x : Float) → T (positive x) → 0 < num x
num_pos x p = value_pos x (num x) (den x) p (den_pos x) (own_value x p)

-- v is finite, above zero, and e roundings away from q
pub record Rel (e : ℕ) (v : Float) (q : Frac) : Type 0 where
  pub pos : T (positive v)
  pub near : Close e (val v) q

-- between 2 ^ -1022 and 2 ^ 1023: no subnormal result, no overflow
pub record Normal (q : Frac) : Type 0 where
  pub least : q.bot ≤ q.top * 2 ^ 1022
  pub most : q.top ≤ q.bot * 2 ^ 1023

-- ---- from units to the value: x / d is g / l
to_above : (x d g l a c B : ℕ) → 0 < l → x * l ≡ g * d → g * c * suc B ≤ a * l * (suc B + 1) → x * c * B ≤ a * d * suc B
to_above x d g l a c B L e h =
    le_of_mul-le-mul_right (le_of_mul-le-mul_right {k = suc B} (omega (arith, ap (λ (z : ℕ). z * (c * B * suc B)) e, mul-le-mul_right (d * B) h)) (omega arith)) L

to_below : (x d g l a c B : ℕ) → 0 < l → x * l ≡ g * d → a * l * suc B ≤ g * c * suc B + a * l → a * d * B ≤ x * c * suc B
to_below x d g l a c B L e h =
    le_of_mul-le-mul_right (omega (arith, ap (λ (z : ℕ). z * (c * suc B)) e, mul-le-mul_right d h)) L

one_up : (x y : ℕ) → x * small ≤ y * big → x * small ^ 1 ≤ y * big ^ 1
one_up x y h = rw (pow_one small, pow_one big) h
  where
    pow_one : (n : ℕ) → n ^ 1 ≡ n
    pow_one n = pow-suc n 0 ∙ ap (λ (z : ℕ). z * n) (native.Mathlib.Nat.pow-zero n) ∙ one-mul n

fits_up : (g c a l P M : ℕ) → 0 < c → 0 < l → 0 < M → 0 < P → g * c * (2 * P) ≤ a * l * (2 * P + 1) → a ≤ c * M → g < l * (2 * M)
fits_up g c a l P M C L M0 P0 h k =
    let ml : 0 < M * l = mul-pos M0 L in
    let big1 : g * (2 * P) ≤ M * l * (2 * P + 1) = le_of_mul-le-mul_right (omega (arith, h, mul-le-mul_right (l * (2 * P + 1)) k)) C in
    lt_of_mul-lt-mul_right (2 * P) (omega (arith, big1, mul-le-mul_left (M * l) P0, ml))

floor_up : (a c Q M : ℕ) → c ≤ a * M → Q * c ≤ a * (Q * M)
floor_up a c Q M h = omega (arith, mul-le-mul_left Q h)

-- ---- rounding to binary64
pub near_of : (a c : ℕ) → 0 < c → c ≤ a * 2 ^ 1022 → NearGrid binary64 a c
near_of a c C h = grid_near binary64 a c (lit≤ tt) C (normal_of_fraction binary64 a c C (floor_up a c (2 ^ 52) (2 ^ 1022) h))

pub inside : (a c : ℕ) → 0 < c → c ≤ a * 2 ^ 1022 → a ≤ c * 2 ^ 1023 → grid binary64 a c < overflow binary64
inside a c C h k = fits_up (grid binary64 a c) c a (2 ^ 1074) (2 ^ 52) (2 ^ 1023) C (pow_pos 1074) (pow_pos 1023) (pow_pos 52) (near_of a c C h).above k

-- the two bounds with 2 ^ 53 written as suc small
above_64 : (a c : ℕ) → 0 < c → c ≤ a * 2 ^ 1022 → grid binary64 a c * c * suc small ≤ a * 2 ^ 1074 * (suc small + 1)
unfolding small
above_64 a c C h = (near_of a c C h).above

below_64 : (a c : ℕ) → 0 < c → c ≤ a * 2 ^ 1022 → a * 2 ^ 1074 * suc small ≤ grid binary64 a c * c * suc small + a * 2 ^ 1074
unfolding small
below_64 a c C h = (near_of a c C h).below

not_none : (g c n B : ℕ) → 0 < n → 0 < B → n * suc B ≤ g * c * suc B + n → 0 < g
not_none g c n B N B0 h = first_pos g c (first_pos (g * c) (suc B) (omega (arith, mul-le-mul_left n B0)))

pub round_rel : (q : Frac) → Normal q → Rel 1 (round binary64 false q.top q.bot) q
round_rel q n =
    let a = q.top in
    let c = q.bot in
    let v = round binary64 false a c in
    let g = grid binary64 a c in
    let w : HasValue v false g (2 ^ 1074) = round_val binary64 a c (inside a c q.good n.least n.most) in
    let x : num v * 2 ^ 1074 ≡ g * den v = value→cross v g (2 ^ 1074) w in
    let hi : num v * c * small ≤ a * den v * suc small = to_above (num v) (den v) g (2 ^ 1074) a c small (pow_pos 1074) x (above_64 a c q.good n.least) in
    let lo : a * den v * small ≤ num v * c * suc small = to_below (num v) (den v) g (2 ^ 1074) a c small (pow_pos 1074) x (below_64 a c q.good n.least) in
    record {
      pos = positive_of_value v g (2 ^ 1074) w (not_none g c (a * 2 ^ 1074) small (mul-pos (first_pos a (2 ^ 1022) (lt_of_lt_of_le q.good n.least)) (pow_pos 1074)) small_pos (below_64 a c q.good n.least));
      near = record { le = one_up (num v * c) (a * den v) (rw small_suc at hi); ge = one_up (a * den v) (num v * c) (rw small_suc at lo) };
    }
