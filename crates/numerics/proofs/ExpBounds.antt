-- Bounds of e ^ x by the two parts of x. With x = u - v, `AtMost x h` says e ^ u ≤ h * e ^ v and `AtLeast x l` says l * e ^ v ≤ e ^ u, by the least upper bounds of the partial sums
-- at u and v, which are not negative: no case is made of signs. What lies above e ^ x is `AtMost` (`at_most`), what lies below is `AtLeast` (`at_least`), and so nothing below exceeds
-- anything above (`below_above_exp`). Assumes nothing.
use Rattle.std.specs.Prelude.{◌≡◌, refl, Bool, true, false, not, T, leb}
use Rattle.std.proofs.Math.Path.{ap}
use Rattle.std.proofs.Common.{subst, arith, leb→le}
use Prim.Native.Nat.{ℕ, zero, suc, ◌+◌, ◌-◌, ◌*◌, ◌^◌, ◌≤◌, ◌<◌}
use native.Mathlib.Nat.{le_of_lt, lt_of_lt_of_le, mul-pos, mul-le-mul_right, mul-le-mul_left, le_of_mul-le-mul_right, pow-suc, pow-zero, add-sub_of_le}
use Rattle.std.proofs.Math.Dec.{nleb→lt}
use Rattle.numerics.specs.Frac.{Frac, ◌⊑◌, ◌⊞◌, ◌⊠◌, nat, ⊑_refl, ⊑_trans}
use Rattle.numerics.specs.Series.{sum_top, sum_bot, sum_bot_pos, S, U, Above, S-arg, above_by, above_arg}
use Rattle.numerics.specs.Law.{mono-⊠, law_lower, law_upper, above_mul, over, above_div}
use Rattle.numerics.specs.Limit.{cut, Far, limit}
use Rattle.numerics.specs.Alternating.{even, odd, reciprocal_above, reciprocal_below}
use Rattle.numerics.specs.Exponential.{Signed, powers, sums, gain, loss, tail, AboveExp, BelowExp}
use Rattle.numerics.specs.Tail.{S-one}

abbrev pub positives : Signed → Frac
positives x = record { top = x.plus; bot = x.bot; good = x.good }

abbrev pub negatives : Signed → Frac
negatives x = record { top = x.minus; bot = x.bot; good = x.good }

abbrev pub AtMost : Signed → Frac → Type 0
AtMost x h = (A : Frac) → Above (negatives x) A → Above (positives x) (h ⊠ A)

abbrev pub AtLeast : Signed → Frac → Type 0
AtLeast x l = (A : Frac) → Above (positives x) A → (m : ℕ) → l ⊠ S m (negatives x) ⊑ A

-- ---- a partial sum depends on plus - minus only: where plus = minus + d
pub powers_up : (n m d : ℕ) → (powers n (m + d) m).0 ≡ (powers n (m + d) m).1 + d ^ n
unfolding powers
powers_up zero m d = rw (pow-zero d) refl
powers_up (suc n) m d = rw (pow-suc d n) (omega (arith, ap (λ (z : ℕ). z * d) (powers_up n m d)))

sums_up : (n m d b : ℕ) → (sums n (m + d) m b).0 ≡ (sums n (m + d) m b).1 + sum_top n d b
unfolding sums sum_top
sums_up zero m d b = refl
sums_up (suc n) m d b = omega (arith, ap (λ (z : ℕ). z * (b * suc n)) (sums_up n m d b), powers_up (suc n) m d)

-- where minus = plus + d
pub powers_down : (n p d : ℕ) → (powers n p (p + d)).0 + (powers n 0 d).1 ≡ (powers n p (p + d)).1 + (powers n 0 d).0
unfolding powers
powers_down zero p d = refl
powers_down (suc n) p d = omega (arith, ap (λ (z : ℕ). z * d) (powers_down n p d))

sums_down : (n p d b : ℕ) → (sums n p (p + d) b).0 + (sums n 0 d b).1 ≡ (sums n p (p + d) b).1 + (sums n 0 d b).0
unfolding sums
sums_down zero p d b = refl
sums_down (suc n) p d b = omega (arith, ap (λ (z : ℕ). z * (b * suc n)) (sums_down n p d b), powers_down (suc n) p d)

-- ---- so a bound of e ^ x is one of e ^ d or of 1 / e ^ d
pub size_up : (m d : ℕ) → m + d - m + (m - (m + d)) ≡ d
size_up m d = omega arith

pub size_down : (p d : ℕ) → p - (p + d) + (p + d - p) ≡ d
size_down p d = omega arith

abbrev pub up : (m d b : ℕ) → 0 < b → Signed
up m d b B = record { plus = m + d; minus = m; bot = b; good = B }

abbrev pub down : (p d b : ℕ) → 0 < b → Signed
down p d b B = record { plus = p; minus = p + d; bot = b; good = B }

abbrev pub frac : (d b : ℕ) → 0 < b → Frac
frac d b B = record { top = d; bot = b; good = B }

module _ (m d b : ℕ) (B : 0 < b) (q : Frac) where
  up_above : (n : ℕ) → gain n (up m d b B) ⊞ tail n (up m d b B) ⊑ q ⊞ loss n (up m d b B) → U n (frac d b B) ⊑ q
  unfolding sum_bot
  up_above n h =
      plain (sums n (m + d) m b).0 (sums n (m + d) m b).1 (sum_top n d b) (sum_bot n b) (b * suc n) (2 * d ^ suc n) q.top q.bot (sum_bot_pos n b B) (sums_up n m d b)
      (subst (λ (z : ℕ). ((sums n (m + d) m b).0 * (sum_bot n b * (b * suc n)) + 2 * z ^ suc n * sum_bot n b) * (q.bot * sum_bot n b) ≤ (q.top * sum_bot n b + (sums n (m + d) m b).1 * q.bot) * (sum_bot n b * (sum_bot n b * (b * suc n)))) (size_up m d) h)
    where
      plain : (g l s B k t qt qb : ℕ) → 0 < B → g ≡ l + s → (g * (B * k) + t * B) * (qb * B) ≤ (qt * B + l * qb) * (B * (B * k)) → (s * k + t) * qb ≤ qt * (B * k)
      plain g l s B k t qt qb P e h = le_of_mul-le-mul_right {k = B * B} (omega (arith, h, ap (λ (z : ℕ). z * (B * B * k * qb)) e)) (mul-pos P P)

  pub up_below : (n : ℕ) → q ⊞ loss n (up m d b B) ⊞ tail n (up m d b B) ⊑ gain n (up m d b B) → q ⊑ S n (frac d b B)
  unfolding sum_bot
  up_below n h =
      plain (sums n (m + d) m b).0 (sums n (m + d) m b).1 (sum_top n d b) (sum_bot n b) (b * suc n) (tail n (up m d b B)).top q.top q.bot (sum_bot_pos n b B) (mul-pos B (native.Mathlib.Nat.zero-lt-suc n)) (sums_up n m d b) h
    where
      plain : (g l s B k t qt qb : ℕ) → 0 < B → 0 < k → g ≡ l + s → ((qt * B + l * qb) * (B * k) + t * (qb * B)) * B ≤ g * (qb * B * (B * k)) → qt * B ≤ s * qb
      plain g l s B k t qt qb P K e h = le_of_mul-le-mul_right {k = B * B * k} (omega (arith, h, ap (λ (z : ℕ). z * (qb * B * (B * k))) e)) (mul-pos (mul-pos P P) K)

  down_above : (n : ℕ) → gain n (down m d b B) ⊞ tail n (down m d b B) ⊑ q ⊞ loss n (down m d b B) → even n (frac d b B) ⊞ cut n (frac d b B) ⊑ q ⊞ odd n (frac d b B)
  unfolding sum_bot
  down_above n h =
      plain (sums n m (m + d) b).0 (sums n m (m + d) b).1 (sums n 0 d b).0 (sums n 0 d b).1 (sum_bot n b) (b * suc n) (2 * d ^ suc n) q.top q.bot (sums_down n m d b)
      (subst (λ (z : ℕ). ((sums n m (m + d) b).0 * (sum_bot n b * (b * suc n)) + 2 * z ^ suc n * sum_bot n b) * (q.bot * sum_bot n b) ≤ (q.top * sum_bot n b + (sums n m (m + d) b).1 * q.bot) * (sum_bot n b * (sum_bot n b * (b * suc n)))) (size_down m d) h)
    where
      plain : (g l e o B k t qt qb : ℕ) → g + o ≡ l + e → (g * (B * k) + t * B) * (qb * B) ≤ (qt * B + l * qb) * (B * (B * k)) → (e * (B * k) + t * B) * (qb * B) ≤ (qt * B + o * qb) * (B * (B * k))
      plain g l e o B k t qt qb s h = omega (arith, h, ap (λ (z : ℕ). z * (B * B * k * qb)) s)

  down_below : (n : ℕ) → q ⊞ loss n (down m d b B) ⊞ tail n (down m d b B) ⊑ gain n (down m d b B) → q ⊞ odd n (frac d b B) ⊞ cut n (frac d b B) ⊑ even n (frac d b B)
  unfolding sum_bot
  down_below n h =
      plain (sums n m (m + d) b).0 (sums n m (m + d) b).1 (sums n 0 d b).0 (sums n 0 d b).1 (sum_bot n b) (b * suc n) (2 * d ^ suc n) q.top q.bot (sums_down n m d b)
      (subst (λ (z : ℕ). ((q.top * sum_bot n b + (sums n m (m + d) b).1 * q.bot) * (sum_bot n b * (b * suc n)) + 2 * z ^ suc n * (q.bot * sum_bot n b)) * sum_bot n b ≤ (sums n m (m + d) b).0 * (q.bot * sum_bot n b * (sum_bot n b * (b * suc n)))) (size_down m d) h)
    where
      plain : (g l e o B k t qt qb : ℕ) → g + o ≡ l + e → ((qt * B + l * qb) * (B * k) + t * (qb * B)) * B ≤ g * (qb * B * (B * k)) → ((qt * B + o * qb) * (B * k) + t * (qb * B)) * B ≤ e * (qb * B * (B * k))
      plain g l e o B k t qt qb s h = omega (arith, h, ap (λ (z : ℕ). z * (B * B * k * qb)) s)

  -- ---- bounds of e ^ x between the two parts of x
  most_up : AboveExp (up m d b B) q → AtMost (up m d b B) q
  most_up (n, h) A a =
      above_arg (frac (m + d) b B) (frac d b B ⊞ frac m b B) (q ⊠ A) (omega arith)
      (above_mul (frac d b B) (frac m b B) q A (above_by n (frac d b B) q (rw size_up at h.0) (up_above n h.1)) a)

  most_down : AboveExp (down m d b B) q → AtMost (down m d b B) q
  most_down (n, h) A a j =
      let s = S j (frac m b B) in
      let P : 0 < s.top = lt_of_lt_of_le s.good (S-one j (frac m b B)) in
      turn s A q
      (reciprocal_above (frac d b B) q (over A s P) n (rw size_down at h.0) (down_above n h.1)
      (above_div (frac d b B) (frac m b B) A s P (above_arg (frac d b B ⊞ frac m b B) (frac (m + d) b B) A (omega arith) a) (j, ⊑_refl s)))
    where
      turn : (s A q : Frac) → 1 * (q.bot * (s.top * A.bot)) ≤ q.top * (A.top * s.bot) * 1 → s ⊑ q ⊠ A
      turn s A q h = omega arith

  least_up : BelowExp (up m d b B) q → AtLeast (up m d b B) q
  least_up (n, h) A a j =
      let x = frac d b B in
      let v = frac m b B in
      ⊑_trans (q ⊠ S j v) (S n x ⊠ S j v) A (mono-⊠ q (S n x) (S j v) (S j v) (up_below n h.1) (⊑_refl (S j v)))
      (⊑_trans (S n x ⊠ S j v) (S (j + n) (x ⊞ v)) A (law_upper n j x v)
      (⊑_trans (S (j + n) (x ⊞ v)) (S (j + n) (frac (m + d) b B)) A (S-arg (j + n) (x ⊞ v) (frac (m + d) b B) (omega arith)) (a (j + n))))

  least_down : BelowExp (down m d b B) q → AtLeast (down m d b B) q
  least_down (n, h) A a j =
      let x = frac d b B in
      let u = frac m b B in
      let r : q ⊠ S j x ⊑ nat 1 = reciprocal_below x q n (rw size_down at h.0) (down_below n h.1) j in
      ⊑_trans (q ⊠ S j (frac (m + d) b B)) (q ⊠ (S j x ⊠ S j u)) A
      (mono-⊠ q q (S j (frac (m + d) b B)) (S j x ⊠ S j u) (⊑_refl q) (⊑_trans (S j (frac (m + d) b B)) (S j (x ⊞ u)) (S j x ⊠ S j u) (S-arg j (frac (m + d) b B) (x ⊞ u) (omega arith)) (law_lower j x u)))
      (⊑_trans (q ⊠ (S j x ⊠ S j u)) (S j u) A (turn q (S j x) (S j u) r) (a j))
    where
      turn : (q s t : Frac) → q ⊠ s ⊑ nat 1 → q ⊠ (s ⊠ t) ⊑ t
      turn q s t h = omega (arith, mul-le-mul_right (t.top * t.bot) h)

-- ---- for any x
pub by_sign : (P : ℕ → ℕ → Type 0) → ((m d : ℕ) → P (m + d) m) → ((p d : ℕ) → P p (p + d)) → (p m : ℕ) → P p m
by_sign P f g p m = go (leb m p) (leb→le m p) (nleb→lt m p)
  where
    go : (t : Bool) → (T t → m ≤ p) → (T (not t) → p < m) → P p m
    go true h k = subst (λ (z : ℕ). P z m) (add-sub_of_le (h tt)) (f m (p - m))
    go false h k = subst (λ (z : ℕ). P p z) (add-sub_of_le (le_of_lt (k tt))) (g p (m - p))

abbrev pub of : (p m b : ℕ) → 0 < b → Signed
of p m b B = record { plus = p; minus = m; bot = b; good = B }

pub at_most : (x : Signed) (q : Frac) → AboveExp x q → AtMost x q
at_most x q =
    by_sign (λ p m. AboveExp (of p m x.bot x.good) q → AtMost (of p m x.bot x.good) q) (λ m d. most_up m d x.bot x.good q) (λ p d. most_down p d x.bot x.good q) x.plus x.minus

pub at_least : (x : Signed) (q : Frac) → BelowExp x q → AtLeast x q
at_least x q =
    by_sign (λ p m. BelowExp (of p m x.bot x.good) q → AtLeast (of p m x.bot x.good) q) (λ m d. least_up m d x.bot x.good q) (λ p d. least_down p d x.bot x.good q) x.plus x.minus

-- p * e ^ v ≤ q * e ^ v only where p ≤ q
pub cancel_exp : (v p q : Frac) → ((A : Frac) → Above v A → (m : ℕ) → p ⊠ S m v ⊑ q ⊠ A) → p ⊑ q
cancel_exp v p q h = limit v p q q each
  where
    clear : (pt pb qt qb s B k t : ℕ) → 0 < B → B ≤ s → pt * s * (qb * (B * k)) ≤ qt * (s * k + t) * (pb * B) → pt * (qb * (qb * (B * k))) ≤ (qt * (qb * (B * k)) + qt * t * qb) * pb
    clear pt pb qt qb s B k t P l h =
        le_of_mul-le-mul_right {k = s} (omega (arith, mul-le-mul_right (qb) h, mul-le-mul_left (qt * t * pb * qb) l)) (lt_of_lt_of_le P l)

    each : (l : ℕ) → Far l v → p ⊑ q ⊞ q ⊠ cut l v
    each l f = unfold sum_bot in clear p.top p.bot q.top q.bot (sum_top l v.top v.bot) (sum_bot l v.bot) (v.bot * suc l) (2 * v.top ^ suc l) (sum_bot_pos l v.bot v.good) (S-one l v) (h (U l v) (above_by l v (U l v) f (⊑_refl (U l v))) l)

-- l ≤ e ^ x and e ^ x ≤ h
pub least_most : (x : Signed) (l h : Frac) → AtLeast x l → AtMost x h → l ⊑ h
least_most x l h a b = cancel_exp (negatives x) l h (λ A k m. a (h ⊠ A) (b A k) m)

-- nothing below e ^ x exceeds anything above it
pub below_above_exp : (x : Signed) (p q : Frac) → BelowExp x p → AboveExp x q → p ⊑ q
below_above_exp x p q h k = least_most x p q (at_least x p h) (at_most x q k)
