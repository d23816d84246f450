-- What `ln_parts` gives of x = 2^k m: where the answer y is not negative, y is ln x within 2^-lnBits times a size that is 1 or at most ln x; where it is negative, -y is that of 1 / x.
-- Assumes nothing.
use mathlib.Core.Path.{◌≡◌, refl}
use mathlib.Core.Logic.{◌⊎◌, inl, inr}
use Prim.Native.Nat.{ℕ, ◌+◌, ◌-◌, ◌*◌, ◌^◌, ◌≤◌, ◌<◌}
use native.Mathlib.Nat.{le_refl, le_of_lt, mul-pos, mul-le-mul_right, mul-le-mul_left, le_of_mul-le-mul_right}
use native.Mathlib.Omega.{arith}
use mathlib.Core.Bool.{Bool, true, false, not}
use lib.Dec.{T, leb, leb→le, nleb→lt, lit≤}
use lib.Pow.{pow_pos}
use lib.Ieee.{Float, binary64, add}
use lib.Ieee.Positive.{num, den}
use Rattle.numerics.specs.Frac.{Frac, ◌⊑◌, ◌⊞◌, nat, ⊑_refl, ⊑_trans}
use Rattle.numerics.specs.Series.{Above, Below}
use Rattle.numerics.specs.Law.{times}
use Rattle.numerics.specs.Exp.{Le, none, inv, LE-arg, below_of_LE}
use Rattle.numerics.specs.Round.{val}
use Rattle.elementary_ln.specs.Ln.{ln_significand}
use Rattle.elementary_ln.proofs.LnConstants.{log_two}
use Rattle.elementary_distance.proofs.LnDistanceSignificand.{log_of, log_of_most, significand_rel}
use Rattle.elementary_distance.proofs.LnDistanceExact.{scaled, flipped, top_pos, slack, at_most, at_least, under, under_flipped}
use Rattle.elementary_distance.proofs.LnDistanceError.{error, sum_error, over_error, under_error}
use Rattle.elementary_distance.proofs.LnDistanceSum as sum
use Rattle.elementary_distance.specs.Distances.{ln_bits}

-- e^(y - δ) ≤ x ≤ e^(y + δ), for y and δ that are not negative
pub record IsLn (x y δ : Frac) : Type 0 where
  pub low : Le y x δ
  pub high : Below (y ⊞ δ) x

-- l / 2^p
abbrev pub share : ℕ → Frac → Frac
share p l = record { top = l.top; bot = l.bot * 2 ^ p; good = mul-pos l.good (pow_pos p) }

-- y is ln x within 2^-lnBits times `size`, which is at most 1, or at most ln x
pub record NearLog (x y : Frac) : Type 0 where
  pub size : Frac
  pub modest : (size ⊑ nat 1) ⊎ Above size x
  pub near : IsLn x y (share ln_bits size)

-- ---- sums of fractions
cancel : (p q e : Frac) → p ⊞ e ⊑ q ⊞ e → p ⊑ q
cancel p q e h = le_of_mul-le-mul_right {k = e.bot * e.bot} (omega (arith, h)) (mul-pos e.good e.good)

mono : (p q r s : Frac) → p ⊑ q → r ⊑ s → p ⊞ r ⊑ q ⊞ s
mono p q r s h k = omega (arith, mul-le-mul_right (r.bot * s.bot) h, mul-le-mul_right (p.bot * q.bot) k)

right_zero : (p z : Frac) → z.top ≡ 0 → p ⊞ z ⊑ p
right_zero p z e = rw e (omega arith)

to_zero : (p z : Frac) → p ⊑ p ⊞ z
to_zero p z = omega arith

left_zero : (p z : Frac) → z.top ≡ 0 → none ⊞ z ⊞ p ⊑ p
left_zero p z e = rw e (omega arith)

from_zero : (p z : Frac) → p ⊑ none ⊞ z ⊞ p
from_zero p z = omega arith

-- ---- from the bounds to `NearLog`
module _ (x y : Frac) (X : 0 < x.top) (low : Le y x (error y ⊞ slack)) (high : Le none (inv x X) (y ⊞ error y ⊞ slack)) (deep : (l : Frac) → l ⊞ slack ⊞ error y ⊑ y → Above l x) where
  within : (δ : Frac) → error y ⊞ slack ⊑ δ → IsLn x y δ
  within δ h = record {
    low = LE-arg y y x (error y ⊞ slack) δ (⊑_refl y) h low;
    high = below_of_LE (y ⊞ δ) x X
        (LE-arg none none (inv x X) (y ⊞ error y ⊞ slack) (y ⊞ δ) (⊑_refl none) (⊑_trans (y ⊞ error y ⊞ slack) (y ⊞ (error y ⊞ slack)) (y ⊞ δ) (regroup y (error y) slack) (mono y y (error y ⊞ slack) δ (⊑_refl y) h)) high);
  }
    where
      regroup : (p q r : Frac) → p ⊞ q ⊞ r ⊑ p ⊞ (q ⊞ r)
      regroup p q r = omega arith

  pub near_of : NearLog x y
  near_of = go (leb y.top y.bot) (leb→le y.top y.bot) (nleb→lt y.top y.bot)
    where
      -- 2^56 and 2^55 stand under the error and the slack
      small : (n d q e s : ℕ) → 256 * q ≤ e → 128 * q ≤ s → n ≤ d → ((168 * d + 40 * n) * s + 17 * (d * e)) * (1 * q) ≤ 1 * (d * e * s)
      small n d q e s E S h = omega (arith, mul-le-mul_right (40 * (s * q)) h, mul-le-mul_left (d * s) E, mul-le-mul_left (d * e) S)

      large : (n d q e s : ℕ) → 256 * q ≤ e → 128 * q ≤ s → d ≤ n → ((168 * d + 40 * n) * s + 17 * (d * e)) * (32 * d * q) ≤ 31 * n * (d * e * s)
      large n d q e s E S h = omega (arith, mul-le-mul_right (5376 * (d * q * s)) h, mul-le-mul_right (544 * (d * e * q)) h, mul-le-mul_left (n * d * s) E, mul-le-mul_left (n * d * e) S)

      room : (n d e s : ℕ) → 7936 ≤ e → 3968 ≤ s → d ≤ n → ((31 * n * s + 17 * (32 * d)) * (d * e) + (168 * d + 40 * n) * (32 * d * s)) * d ≤ n * (32 * d * s * (d * e))
      room n d e s E S h =
          omega (arith, mul-le-mul_right (544 * (d * d * e)) h, mul-le-mul_right (5376 * (d * d * s)) h, mul-le-mul_left (n * d * d * s) E, mul-le-mul_left (n * d * d * e) S)

      most : Frac
      most = record { top = 31 * y.top; bot = 32 * y.bot; good = mul-pos (lit≤ tt) y.good }

      go : (c : Bool) → (T c → y.top ≤ y.bot) → (T (not c) → y.bot < y.top) → NearLog x y
      go true p q = record { size = nat 1; modest = inl (le_refl 1); near = within (share ln_bits (nat 1)) (small y.top y.bot (2 ^ ln_bits) (2 ^ 56) (2 ^ 55) (lit≤ tt) (lit≤ tt) (p tt)) }
      go false p q = record {
        size = most;
        modest = inr (deep most (room y.top y.bot (2 ^ 56) (2 ^ 55) (lit≤ tt) (lit≤ tt) (le_of_lt (q tt))));
        near = within (share ln_bits most) (large y.top y.bot (2 ^ ln_bits) (2 ^ 56) (2 ^ 55) (lit≤ tt) (lit≤ tt) (le_of_lt (q tt)));
      }

-- ---- the three ways: k from 0 up; k below 0 with an answer from 0 up; k below 0 with an answer below 0
module _ (n t : ℕ) (n-few : n ≤ 1074) (t-few : t < 2 ^ 52) where
  abbrev N : Frac
  N = times n log_two

  abbrev Z : Frac
  Z = times 0 log_two

  abbrev A : Frac
  A = log_of t

  abbrev b : Float
  b = sum.shift n

  abbrev a : Float
  a = ln_significand t

  few0 : 0 ≤ 1074
  few0 = Prim.Native.Nat.zero-le

  pub from_one : NearLog (scaled t n 0) (val (add binary64 b a))
  from_one =
      let y = val (add binary64 b a) in
      let E = error y in
      let h = sum_error y (val b) (val a) N A (sum.shift_close n n-few) (significand_rel t t-few).near (log_of_most t t-few) (sum.sum_rel n t n-few t-few).near in
      near_of (scaled t n 0) y (top_pos t n)
      (at_most t n 0 t-few n-few few0 y E (⊑_trans (y ⊞ Z) y (E ⊞ N ⊞ A) (right_zero y Z refl) (⊑_trans y (N ⊞ A ⊞ E) (E ⊞ N ⊞ A) h.0 (turn N A E))))
      (at_least t n 0 t-few n-few few0 (y ⊞ E) none
      (⊑_trans (none ⊞ N ⊞ A) (N ⊞ A) (y ⊞ E ⊞ Z) (unit N A) (⊑_trans (N ⊞ A) (y ⊞ E) (y ⊞ E ⊞ Z) h.1 (to_zero (y ⊞ E) Z))))
      (λ l k. under t n 0 t-few n-few few0 l
      (⊑_trans (l ⊞ slack ⊞ Z) (l ⊞ slack) (none ⊞ N ⊞ A) (right_zero (l ⊞ slack) Z refl)
      (⊑_trans (l ⊞ slack) (N ⊞ A) (none ⊞ N ⊞ A) (cancel (l ⊞ slack) (N ⊞ A) E (⊑_trans (l ⊞ slack ⊞ E) y (N ⊞ A ⊞ E) k h.0)) (unit' N A))))
    where
      turn : (p q r : Frac) → p ⊞ q ⊞ r ⊑ r ⊞ p ⊞ q
      turn p q r = omega arith

      unit : (p q : Frac) → none ⊞ p ⊞ q ⊑ p ⊞ q
      unit p q = omega arith

      unit' : (p q : Frac) → p ⊞ q ⊑ none ⊞ p ⊞ q
      unit' p q = omega arith

  pub over_one : num b * den a ≤ num a * den b → NearLog (scaled t 0 n) (val (sum.over n t n-few t-few))
  over_one o =
      let y = val (sum.over n t n-few t-few) in
      let E = error y in
      let h = over_error y (val b) (val a) N A (sum.shift_close n n-few) (significand_rel t t-few).near (log_of_most t t-few) o (sum.over_rel n t n-few t-few).near in
      near_of (scaled t 0 n) y (top_pos t 0)
      (at_most t 0 n t-few few0 n-few y E (⊑_trans (y ⊞ N) (A ⊞ E) (E ⊞ Z ⊞ A) h.0 (turn A E Z)))
      (at_least t 0 n t-few few0 n-few (y ⊞ E) none (⊑_trans (none ⊞ Z ⊞ A) A (y ⊞ E ⊞ N) (left_zero A Z refl) (⊑_trans A (y ⊞ N ⊞ E) (y ⊞ E ⊞ N) h.1 (swap y N E))))
      (λ l k. under t 0 n t-few few0 n-few l
      (⊑_trans (l ⊞ slack ⊞ N) A (none ⊞ Z ⊞ A)
      (cancel (l ⊞ slack ⊞ N) A E
      (⊑_trans (l ⊞ slack ⊞ N ⊞ E) (y ⊞ N) (A ⊞ E) (⊑_trans (l ⊞ slack ⊞ N ⊞ E) (l ⊞ slack ⊞ E ⊞ N) (y ⊞ N) (swap (l ⊞ slack) N E) (mono (l ⊞ slack ⊞ E) y N N k (⊑_refl N))) h.0))
      (from_zero A Z)))
    where
      turn : (p q z : Frac) → p ⊞ q ⊑ q ⊞ z ⊞ p
      turn p q z = ⊑_trans (p ⊞ q) (p ⊞ q ⊞ z) (q ⊞ z ⊞ p) (to_zero (p ⊞ q) z) (rotate p q z)
        where
          rotate : (p q z : Frac) → p ⊞ q ⊞ z ⊑ q ⊞ z ⊞ p
          rotate p q z = omega arith

      swap : (p q r : Frac) → p ⊞ q ⊞ r ⊑ p ⊞ r ⊞ q
      swap p q r = omega arith

  pub under_one : num a * den b < num b * den a → NearLog (flipped t 0 n) (val (sum.under n t n-few t-few))
  under_one o =
      let y = val (sum.under n t n-few t-few) in
      let E = error y in
      let h = under_error y (val b) (val a) N A (sum.shift_close n n-few) (significand_rel t t-few).near (log_of_most t t-few) (le_of_lt o) (sum.under_rel n t n-few t-few).near in
      near_of (flipped t 0 n) y (scaled t 0 n).good
      (at_least t 0 n t-few few0 n-few E y
      (⊑_trans (y ⊞ Z ⊞ A) (A ⊞ y) (E ⊞ N) (⊑_trans (y ⊞ Z ⊞ A) (y ⊞ A) (A ⊞ y) (mono (y ⊞ Z) y A A (right_zero y Z refl) (⊑_refl A)) (swap y A)) (⊑_trans (A ⊞ y) (N ⊞ E) (E ⊞ N) h.0 (swap N E))))
      (at_most t 0 n t-few few0 n-few none (y ⊞ E)
      (⊑_trans (none ⊞ N) N (y ⊞ E ⊞ Z ⊞ A) (unit N) (⊑_trans N (A ⊞ y ⊞ E) (y ⊞ E ⊞ Z ⊞ A) h.1 (turn A y E Z))))
      (λ l k. under_flipped t 0 n t-few few0 n-few l
      (⊑_trans (l ⊞ slack ⊞ Z ⊞ A) (l ⊞ slack ⊞ A) (none ⊞ N) (mono (l ⊞ slack ⊞ Z) (l ⊞ slack) A A (right_zero (l ⊞ slack) Z refl) (⊑_refl A))
      (⊑_trans (l ⊞ slack ⊞ A) N (none ⊞ N)
      (cancel (l ⊞ slack ⊞ A) N E
      (⊑_trans (l ⊞ slack ⊞ A ⊞ E) (A ⊞ y) (N ⊞ E)
      (⊑_trans (l ⊞ slack ⊞ A ⊞ E) (A ⊞ (l ⊞ slack ⊞ E)) (A ⊞ y) (pull (l ⊞ slack) A E) (mono A A (l ⊞ slack ⊞ E) y (⊑_refl A) k)) h.0))
      (unit' N))))
    where
      swap : (p q : Frac) → p ⊞ q ⊑ q ⊞ p
      swap p q = omega arith

      pull : (p q r : Frac) → p ⊞ q ⊞ r ⊑ q ⊞ (p ⊞ r)
      pull p q r = omega arith

      unit : (p : Frac) → none ⊞ p ⊑ p
      unit p = omega arith

      unit' : (p : Frac) → p ⊑ none ⊞ p
      unit' p = omega arith

      turn : (p q r z : Frac) → p ⊞ q ⊞ r ⊑ q ⊞ r ⊞ z ⊞ p
      turn p q r z = ⊑_trans (p ⊞ q ⊞ r) (p ⊞ q ⊞ r ⊞ z) (q ⊞ r ⊞ z ⊞ p) (to_zero (p ⊞ q ⊞ r) z) (rotate p q r z)
        where
          rotate : (p q r z : Frac) → p ⊞ q ⊞ r ⊞ z ⊑ q ⊞ r ⊞ z ⊞ p
          rotate p q r z = omega arith
