-- Doubles on a grid: a fraction that a double holds is rounded to itself; any other is rounded to a multiple of a power of two, at most half of it away. Assumes nothing.
use Rattle.std.specs.Prelude.{◌≡◌, ℕ, suc, ◌+◌, ◌-◌, ◌*◌, ◌/◌, ◌^◌, ◌≤◌, ◌<◌, false, T}
use Rattle.std.proofs.Common.{sym, ap, ◌∙◌, subst, le_antisymm, le_of_eq, lt_of_lt_of_le, lt_of_le_of_lt, mul-pos, mul-lt-mul_of_pos_right, le_of_mul-le-mul_right, lt_of_not-le, not-le_of_lt, le_of_suc-le-suc, add-sub_of_le, mul-div_cancel, pow-suc, arith, lit<, pow-add, pow_pos, pow_mono}
use Rattle.std.proofs.Math.Nat.{eq_of_mul-eq-mul_right}
use lib.Ieee.{Float, binary64, round, size}
use Rattle.std.specs.Float.Ieee.Digits.{size-lt, size_reaches}
use Rattle.std.specs.Float.Ieee.Fits.{round-fits}
use Rattle.std.specs.Float.Ieee.Exact.{HasValue, round_exact}
use Rattle.std.specs.Float.Ieee.Order.{drop, kept}
use Rattle.std.specs.Float.Ieee.Scale.{grid, round_val, round_under}
use lib.Ieee.Positive.{num, den, positive, den_pos, positive_of_value, positive-finite, value→cross}
use Rattle.numerics.specs.Frac.{Frac}
use Rattle.numerics.specs.Round.{val, closest_above, closest_below}
use Rattle.numerics.specs.Common.{On, on_le}
use Rattle.numerics.specs.Spacing.{unit, count, counted, digits_of, Good, shifted}

-- ---- a fraction that is a whole number of the smallest double with at most 53 digits is rounded to itself
exact_value : (q : Frac) (n d j : ℕ) → On unit q n → n ≡ d * 2 ^ j → d < 2 ^ 53 → n ≤ unit * 2 ^ 200 → HasValue (round binary64 false q.top q.bot) false q.top q.bot
unfolding unit
exact_value q n d j o e s m =
    round_exact binary64 false q.top q.bot d j q.good s (subst (λ (z : ℕ). z < 2 ^ 2098) e (lt_of_le_of_lt m (lit< tt))) (subst (λ (z : ℕ). q.top * 2 ^ 1074 ≡ z * q.bot) e o)

pub exact : (q : Frac) (n d j : ℕ) → On unit q n → n ≡ d * 2 ^ j → d < 2 ^ 53 → n ≤ unit * 2 ^ 200 → 0 < n → count (round binary64 false q.top q.bot) ≡ n
exact q n d j o e s m p =
    let v = round binary64 false q.top q.bot in
    let h : HasValue v false q.top q.bot = exact_value q n d j o e s m in
    let g : T (positive v) = positive_of_value v q.top q.bot h (top_pos q.top q.bot unit n q.good p o) in
    let k = counted v g (round-fits binary64 false q.top q.bot) in
    let c : num v * q.bot ≡ q.top * den v = value→cross v q.top q.bot h in
    le_antisymm (on_le unit (val v) q (count v) n k o (le_of_eq c)) (on_le unit q (val v) n (count v) o k (le_of_eq (sym c)))
  where
    top_pos : (t b u n : ℕ) → 0 < b → 0 < n → t * u ≡ n * b → 0 < t
    top_pos t b u n B N e = lib.Ieee.Positive.first_pos t u (subst (λ (z : ℕ). 0 < z) (sym e) (mul-pos N B))

-- ---- a rounded fraction is a multiple of a power of two, half of which it is away from the fraction at most
pub record OnGrid (Z R : ℕ) : Type 0 where
  pub shift : ℕ
  pub times : ℕ
  pub is : R ≡ times * 2 ^ shift
  pub above : 2 * R ≤ 2 * Z + 2 ^ shift
  pub below : 2 * Z ≤ 2 * R + 2 ^ shift
  pub normal : 2 ^ 52 * 2 ^ shift ≤ Z

pub on_grid : (q : Frac) (Z : ℕ) → On unit q Z → 2 ^ 52 ≤ Z → Good (round binary64 false q.top q.bot) → OnGrid Z (count (round binary64 false q.top q.bot))
unfolding unit
on_grid q Z o h g =
    let a = q.top in
    let c = q.bot in
    let n = a * 2 ^ 1074 in
    let v = round binary64 false a c in
    let k = drop 53 n c in
    let K = kept 53 n c in
    let whole : n / c ≡ Z = ap (λ (z : ℕ). z / c) o ∙ mul-div_cancel Z q.good in
    let x : num v * 2 ^ 1074 ≡ grid binary64 a c * den v = value→cross v (grid binary64 a c) (2 ^ 1074) (round_val binary64 a c (round_under binary64 a c (positive-finite v g.above))) in
    let is : count v ≡ K * 2 ^ k = eq_of_mul-eq-mul_right (den v) (den_pos v) (count v) (K * 2 ^ k) (sym (counted v g.above g.held) ∙ x) in
    let hi : 2 * (K * (c * 2 ^ k)) ≤ 2 * n + c * 2 ^ k = closest_above n (c * 2 ^ k) (mul-pos q.good (pow_pos k)) in
    let lo : 2 * n ≤ 2 * (K * (c * 2 ^ k)) + c * 2 ^ k = closest_below n (c * 2 ^ k) (mul-pos q.good (pow_pos k)) in
    record {
      shift = k;
      times = K;
      is = is;
      above = subst (λ (z : ℕ). 2 * z ≤ 2 * Z + 2 ^ k) (sym is) (cancel_above K c (2 ^ k) Z n q.good o hi);
      below = subst (λ (z : ℕ). 2 * Z ≤ 2 * z + 2 ^ k) (sym is) (cancel_below K c (2 ^ k) Z n q.good o lo);
      normal = subst (λ (w : ℕ). 2 ^ 52 * 2 ^ (size w - 53) ≤ Z) (sym whole) (leading Z h);
    }
  where
    cancel_above : (K c P Z n : ℕ) → 0 < c → n ≡ Z * c → 2 * (K * (c * P)) ≤ 2 * n + c * P → 2 * (K * P) ≤ 2 * Z + P
    cancel_above K c P Z n C e h = le_of_mul-le-mul_right {k = c} (omega (arith, h, e)) C

    cancel_below : (K c P Z n : ℕ) → 0 < c → n ≡ Z * c → 2 * n ≤ 2 * (K * (c * P)) + c * P → 2 * Z ≤ 2 * (K * P) + P
    cancel_below K c P Z n C e h = le_of_mul-le-mul_right {k = c} (omega (arith, h, e)) C

    -- 53 digits are kept, so the first of them is at 52 + shift
    enough : (Z : ℕ) → 2 ^ 52 ≤ Z → 53 ≤ size Z
    enough Z h = lt_of_not-le (λ (g : size Z ≤ 52). not-le_of_lt (lt_of_lt_of_le (size-lt Z) (pow_mono g)) h)

    inside : (z : ℕ) → 53 ≤ z → 52 + (z - 53) < z
    inside z h = omega arith

    leading : (Z : ℕ) → 2 ^ 52 ≤ Z → 2 ^ 52 * 2 ^ (size Z - 53) ≤ Z
    leading Z h = subst (λ (w : ℕ). w ≤ Z) (pow-add 2 52 (size Z - 53)) (size_reaches Z (52 + (size Z - 53)) (inside (size Z) (enough Z h)))

-- ---- a double that is 2 ^ 52 times a power of two, or more, is a multiple of it
pub multiple : (y : Float) → Good y → (k : ℕ) → 2 ^ 52 * 2 ^ k ≤ count y → (t : ℕ) × (count y ≡ t * 2 ^ k)
multiple y g k h =
    let d = digits_of y g.above g.held in
    go d.digits d.shift d.small d.is
  where
    go : (q j : ℕ) → q < 2 ^ 53 → count y ≡ q * 2 ^ j → (t : ℕ) × (count y ≡ t * 2 ^ k)
    go q j s e = (q * 2 ^ (j - k), e ∙ shifted q k (j - k) j (add-sub_of_le reach))
      where
        less_than : 2 ^ 52 * 2 ^ k < 2 ^ 53 * 2 ^ j
        less_than = lt_of_le_of_lt h (subst (λ (z : ℕ). z < 2 ^ 53 * 2 ^ j) (sym e) (mul-lt-mul_of_pos_right s (pow_pos j)))

        halve : (x y : ℕ) → 2 ^ 52 * x < 2 ^ 53 * y → x < y * 2
        halve x y h = omega arith

        reach : k ≤ j
        reach = le_of_suc-le-suc (lt_of_not-le (λ (n : suc j ≤ k). not-le_of_lt (halve (2 ^ k) (2 ^ j) less_than) (subst (λ (z : ℕ). z ≤ 2 ^ k) (pow-suc 2 j) (pow_mono n))))
