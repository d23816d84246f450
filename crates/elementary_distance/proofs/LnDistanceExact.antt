-- x = m 2^i / 2^j with m = 1 + t / 2^52, against the exact sum i ln2 + log_of t - j ln2: what is at most that sum has an exponential at most x, and what is at least it one at
-- least x, up to a tiny `slack` in the exponent. Exponents of either sign are differences u - v (`Le u q v` is e^u ≤ q e^v), so no case is made of signs. Assumes nothing.
use mathlib.Core.Path.{◌≡◌}
use Prim.Native.Nat.{ℕ, ◌+◌, ◌*◌, ◌^◌, ◌≤◌, ◌<◌}
use native.Mathlib.Nat.{le_trans, le_of_eq, mul-pos, mul-le-mul, mul-le-mul_right, le_of_mul-le-mul_right, one-le-pow, lt_of_lt_of_le, le-add_right, pow-suc, pow-zero}
use native.Mathlib.Omega.{arith}
use lib.Dec.{lit≤}
use lib.Pow.{pow_pos}
use Rattle.numerics.specs.Frac.{Frac, ◌⊑◌, ◌⊞◌, ◌⊠◌, nat, ⊑_refl, ⊑_trans, big, small, small_pos, big_pos}
use Rattle.numerics.specs.Series.{sum_top, sum_bot, S, Above}
use Rattle.numerics.specs.Law.{mono-⊠, law_upper, times, power, zero_sum}
use Rattle.numerics.specs.Exp.{Le, none, exp_above, exp_below, above_of_LE}
use Rattle.numerics.specs.Tail.{rho, rho_mul, S-one, rho⁻}
use Rattle.elementary_ln.proofs.LnConstants.{log_two, two⁻, ln2_above, ln2_below}
use Rattle.elementary_distance.proofs.LnDistanceTwo.{power_above, power_below}
use Rattle.elementary_distance.proofs.LnDistanceSignificand.{m_of, log_of, log_of_above, log_of_below}

pub top_pos : (t i : ℕ) → 0 < (2 ^ 52 + t) * 2 ^ i
top_pos t i = mul-pos (lt_of_lt_of_le (pow_pos 52) (le-add_right (2 ^ 52) t)) (pow_pos i)

-- m 2^i / 2^j, and its reciprocal
abbrev pub scaled : ℕ → ℕ → ℕ → Frac
scaled t i j = record { top = (2 ^ 52 + t) * 2 ^ i; bot = 2 ^ 52 * 2 ^ j; good = mul-pos (pow_pos 52) (pow_pos j) }

abbrev pub flipped : ℕ → ℕ → ℕ → Frac
flipped t i j = record { top = 2 ^ 52 * 2 ^ j; bot = (2 ^ 52 + t) * 2 ^ i; good = top_pos t i }

none_above : Above none (nat 1)
none_above m = omega (arith, zero_sum m 1)

module _ (t i j : ℕ) (t-few : t < 2 ^ 52) (i-few : i ≤ 1074) (j_few : j ≤ 1074) where
  -- four roundings above
  rise : (u v : Frac) → u ⊞ times j log_two ⊑ v ⊞ times i log_two ⊞ log_of t → Le u (scaled t i j ⊠ rho 4) v
  rise u v h =
      exp_above log_two two⁻ (nat 2) (lit≤ tt) ln2_below ln2_above i j u v (log_of t) none (nat 1) none_above (m_of t ⊠ rho 3) (scaled t i j ⊠ rho 4) (log_of_above t t-few)
      (⊑_trans (u ⊞ times j log_two) (v ⊞ times i log_two ⊞ log_of t) (v ⊞ times i log_two ⊞ log_of t ⊞ none) h (plus_none (v ⊞ times i log_two ⊞ log_of t)))
      (fit (power i (nat 2)) (power j two⁻) (2 ^ 52 + t) (2 ^ 52) (2 ^ i) (2 ^ j) (small ^ 1) (big ^ 1) (small ^ 3) (big ^ 3) (small ^ 4) (big ^ 4) (one-le-pow 1 small small_pos) (one-le-pow 1 big big_pos)
      (power_above i) (power_below j j_few) (rho_mul 3 1))
    where
      plus_none : (p : Frac) → p ⊑ p ⊞ none
      plus_none p = omega arith

      fit : (p q : Frac) (m d I J s1 b1 s3 b3 s4 b4 : ℕ) → 0 < s1 → 0 < b1 → p.top * 1 ≤ I * p.bot → J * (q.bot * s1) ≤ q.top * b1 * 1 → b3 * b1 * s4 ≤ b4 * (s3 * s1)
          → p.top * (m * b3) * 1 * (d * J * s4 * q.bot) ≤ m * I * b4 * q.top * (p.bot * (d * s3) * 1)
      fit p q m d I J s1 b1 s3 b3 s4 b4 S B f g h =
          le_of_mul-le-mul_right {k = s1 * b1}
          (le_trans (le_of_eq (left p.top q.bot m d J s1 b1 b3 s4)) (le_trans (mul-le-mul (mul-le-mul f g) (mul-le-mul_right (m * d) h)) (le_of_eq (right p.bot q.top m d I s1 b1 s3 b4)))) (mul-pos S B)
        where
          left : (p q m d J s1 b1 b3 s4 : ℕ) → p * (m * b3) * 1 * (d * J * s4 * q) * (s1 * b1) ≡ p * 1 * (J * (q * s1)) * (b3 * b1 * s4 * (m * d))
          left p q m d J s1 b1 b3 s4 = omega arith

          right : (p q m d I s1 b1 s3 b4 : ℕ) → I * p * (q * b1 * 1) * (b4 * (s3 * s1) * (m * d)) ≡ m * I * b4 * q * (p * (d * s3) * 1) * (s1 * b1)
          right p q m d I s1 b1 s3 b4 = omega arith

  -- and below
  fall : (u v : Frac) → v ⊞ times i log_two ⊞ log_of t ⊑ u ⊞ times j log_two → Le v (flipped t i j ⊠ rho 4) u
  fall u v h =
      exp_below log_two two⁻ (nat 2) (lit≤ tt) ln2_below ln2_above i j u v (log_of t) none (nat 1) none_above (m_of t ⊠ rho⁻ 2) (flipped t i j ⊠ rho 4)
      (mul-pos (lt_of_lt_of_le (pow_pos 52) (le-add_right (2 ^ 52) t)) (one-le-pow 2 small small_pos)) (log_of_below t t-few)
      (⊑_trans (v ⊞ times i log_two ⊞ log_of t) (u ⊞ times j log_two) (u ⊞ times j log_two ⊞ none) h (plus_none (u ⊞ times j log_two)))
      (fit (power j (nat 2)) (power i two⁻) (2 ^ 52 + t) (2 ^ 52) (2 ^ i) (2 ^ j) (small ^ 1) (big ^ 1) (small ^ 2) (big ^ 2) (small ^ 4) (big ^ 4) (one-le-pow 1 small small_pos) (one-le-pow 1 big big_pos)
      (power_above j) (power_below i i-few) three)
    where
      plus_none : (p : Frac) → p ⊑ p ⊞ none
      plus_none p = omega arith

      three : big ^ 2 * big ^ 1 * small ^ 4 ≤ big ^ 4 * (small ^ 2 * small ^ 1)
      three = unfold small big in lit≤ tt

      fit : (p q : Frac) (m d I J s1 b1 s2 b2 s4 b4 : ℕ) → 0 < s1 → 0 < b1 → p.top * 1 ≤ J * p.bot → I * (q.bot * s1) ≤ q.top * b1 * 1 → b2 * b1 * s4 ≤ b4 * (s2 * s1)
          → p.top * 1 * (m * I * s4 * (q.bot * (d * b2))) ≤ d * J * b4 * (q.top * (m * s2)) * (p.bot * 1)
      fit p q m d I J s1 b1 s2 b2 s4 b4 S B f g h =
          le_of_mul-le-mul_right {k = s1 * b1}
          (le_trans (le_of_eq (left p.top q.bot m d I s1 b1 b2 s4)) (le_trans (mul-le-mul (mul-le-mul f g) (mul-le-mul_right (m * d) h)) (le_of_eq (right p.bot q.top m d J s1 b1 s2 b4)))) (mul-pos S B)
        where
          left : (p q m d I s1 b1 b2 s4 : ℕ) → p * 1 * (m * I * s4 * (q * (d * b2))) * (s1 * b1) ≡ p * 1 * (I * (q * s1)) * (b2 * b1 * s4 * (m * d))
          left p q m d I s1 b1 b2 s4 = omega arith

          right : (p q m d J s1 b1 s2 b4 : ℕ) → J * p * (q * b1 * 1) * (b4 * (s2 * s1) * (m * d)) ≡ d * J * b4 * (q * (m * s2)) * (p * 1) * (s1 * b1)
          right p q m d J s1 b1 s2 b4 = omega arith

-- ---- four roundings of x are a slack of 4.25 / 2^53 in the exponent
abbrev pub slack : Frac
slack = record { top = 17; bot = 2 ^ 55; good = pow_pos 55 }

four : rho 4 ⊑ S 1 slack
four = ⊑_trans (rho 4) (nat 1 ⊞ slack) (S 1 slack) (unfold small big in lit≤ tt) (one_up slack)
  where
    one_up : (θ : Frac) → nat 1 ⊞ θ ⊑ S 1 θ
    one_up θ = unfold sum_top sum_bot in rw (pow-suc θ.top 0, pow-zero θ.top) (omega arith)

absorbed : (u q v : Frac) → Le u (q ⊠ rho 4) v → Le u q (v ⊞ slack)
absorbed u q v h m =
    let a = h m in
    let n = a.0 in (
      1 + n,
      ⊑_trans (S m u) (q ⊠ rho 4 ⊠ S n v) (q ⊠ S (1 + n) (v ⊞ slack)) a.1
          (⊑_trans (q ⊠ rho 4 ⊠ S n v) (q ⊠ S 1 slack ⊠ S n v) (q ⊠ S (1 + n) (v ⊞ slack)) (mono-⊠ (q ⊠ rho 4) (q ⊠ S 1 slack) (S n v) (S n v) (mono-⊠ q q (rho 4) (S 1 slack) (⊑_refl q) four) (⊑_refl (S n v)))
          (⊑_trans (q ⊠ S 1 slack ⊠ S n v) (q ⊠ (S n v ⊠ S 1 slack)) (q ⊠ S (1 + n) (v ⊞ slack)) (turn q (S 1 slack) (S n v))
          (mono-⊠ q q (S n v ⊠ S 1 slack) (S (1 + n) (v ⊞ slack)) (⊑_refl q) (law_upper n 1 v slack)))),
    )
  where
    turn : (p q r : Frac) → p ⊠ q ⊠ r ⊑ p ⊠ (r ⊠ q)
    turn p q r = omega arith

-- an exponent that keeps the slack itself is one with a true bound
dropped : (l q : Frac) → Le (l ⊞ slack) (q ⊠ rho 4) none → Above l q
dropped l q h m =
    cancel (S m l) (S 1 slack) q (lt_of_lt_of_le (S 1 slack).good (S-one 1 slack))
    (⊑_trans (S m l ⊠ S 1 slack) (S (1 + m) (l ⊞ slack)) (q ⊠ S 1 slack) (law_upper m 1 l slack)
    (⊑_trans (S (1 + m) (l ⊞ slack)) (q ⊠ rho 4) (q ⊠ S 1 slack) (above_of_LE (l ⊞ slack) (q ⊠ rho 4) h (1 + m)) (mono-⊠ q q (rho 4) (S 1 slack) (⊑_refl q) four)))
  where
    cancel : (s t x : Frac) → 0 < t.top → s ⊠ t ⊑ x ⊠ t → s ⊑ x
    cancel s t x P h = le_of_mul-le-mul_right {k = t.top * t.bot} (omega (arith, h)) (mul-pos P t.good)

module _ (t i j : ℕ) (t-few : t < 2 ^ 52) (i-few : i ≤ 1074) (j_few : j ≤ 1074) where
  -- e^(u - v) ≤ x, and x ≤ e^(u - v), but for the slack
  pub at_most : (u v : Frac) → u ⊞ times j log_two ⊑ v ⊞ times i log_two ⊞ log_of t → Le u (scaled t i j) (v ⊞ slack)
  at_most u v h = absorbed u (scaled t i j) v (rise t i j t-few i-few j_few u v h)

  pub at_least : (u v : Frac) → v ⊞ times i log_two ⊞ log_of t ⊑ u ⊞ times j log_two → Le v (flipped t i j) (u ⊞ slack)
  at_least u v h = absorbed v (flipped t i j) u (fall t i j t-few i-few j_few u v h)

  -- e^l ≤ x, and e^l ≤ 1 / x
  pub under : (l : Frac) → l ⊞ slack ⊞ times j log_two ⊑ none ⊞ times i log_two ⊞ log_of t → Above l (scaled t i j)
  under l h = dropped l (scaled t i j) (rise t i j t-few i-few j_few (l ⊞ slack) none h)

  pub under_flipped : (l : Frac) → l ⊞ slack ⊞ times i log_two ⊞ log_of t ⊑ none ⊞ times j log_two → Above l (flipped t i j)
  under_flipped l h = dropped l (flipped t i j) (fall t i j t-few i-few j_few none (l ⊞ slack) h)
