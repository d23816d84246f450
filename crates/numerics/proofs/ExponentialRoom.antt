-- What lies above or below e ^ x by a partial sum lies there with room to spare: `room_above`, `room_below`; and the bounds may be loosened. Assumes nothing.
use Rattle.std.specs.Prelude.{◌≡◌, refl, ◌⊎◌, ℕ, suc, ◌+◌, ◌-◌, ◌*◌, ◌^◌, ◌≤◌, ◌<◌}
use Rattle.std.proofs.Common.{ap, inl, inr, arith}
use native.Mathlib.Nat.{le_trans, le_of_eq, mul-pos, mul-le-mul_right, mul-le-mul_left, le_of_mul-le-mul_right, pow-suc, one-le-pow, add-sub_of_le, eq-zero-or-pos}
use Rattle.numerics.specs.Frac.{Frac, ◌⊑◌, ◌⊏◌, ◌⊞◌, nat, ⊑_refl, ⊑_trans, add_mono}
use Rattle.numerics.specs.Series.{sum_bot, sum_bot_pos, S}
use Rattle.numerics.specs.Alternating.{both_powers}
use Rattle.numerics.specs.Exponential.{Signed, size, powers, sums, gain, loss, tail, Enough, AboveExp, BelowExp}
use Rattle.numerics.proofs.ExpBounds.{AtMost, AtLeast, at_most, at_least, least_most, below_above_exp, by_sign, powers_up, powers_down, size_up, size_down}
use Rattle.numerics.proofs.ExpBoundLaws.{G, L, t, on, above_plain, below_plain, split, monus, least_some, exp_zero}

-- ---- a power's two parts differ by |x| ^ k
powers_near : (k p m : ℕ) → ((powers k p m).0 ≤ (powers k p m).1 + (p - m + (m - p)) ^ k) × ((powers k p m).1 ≤ (powers k p m).0 + (p - m + (m - p)) ^ k)
powers_near k = by_sign (λ p m. ((powers k p m).0 ≤ (powers k p m).1 + (p - m + (m - p)) ^ k) × ((powers k p m).1 ≤ (powers k p m).0 + (p - m + (m - p)) ^ k)) upward downward
  where
    upward : (m d : ℕ) → ((powers k (m + d) m).0 ≤ (powers k (m + d) m).1 + (m + d - m + (m - (m + d))) ^ k) × ((powers k (m + d) m).1 ≤ (powers k (m + d) m).0 + (m + d - m + (m - (m + d))) ^ k)
    upward m d = let e = powers_up k m d in rw (size_up m d) (omega arith, omega arith)

    downward : (p d : ℕ) → ((powers k p (p + d)).0 ≤ (powers k p (p + d)).1 + (p - (p + d) + (p + d - p)) ^ k) × ((powers k p (p + d)).1 ≤ (powers k p (p + d)).0 + (p - (p + d) + (p + d - p)) ^ k)
    downward p d = let e = powers_down k p d in let f = both_powers d k in rw (size_down p d) (omega arith, omega arith)

-- ---- one term more
-- the sum and what it loses over the next denominator
next_G : (n : ℕ) (x : Signed) → G (suc n) x ≡ (G n x + (powers (suc n) x.plus x.minus).0) * (x.bot * suc (suc n))
unfolding sums
next_G n x = refl

next_L : (n : ℕ) (x : Signed) → L (suc n) x ≡ (L n x + (powers (suc n) x.plus x.minus).1) * (x.bot * suc (suc n))
unfolding sums
next_L n x = refl

next_D : (n : ℕ) (x : Signed) → sum_bot (suc (suc n)) x.bot ≡ sum_bot (suc n) x.bot * (x.bot * suc (suc n))
unfolding sum_bot
next_D n x = refl

-- the tail's bound falls by more than the term that is added; by `w` more where n + 2 is over 2 |x| by w
fall : (P M s s' k w : ℕ) → P ≤ M + s → s' * 2 + w * s ≤ k * s → P * k + 2 * s' + w * s ≤ 2 * s * k + M * k
fall P M s s' k w h l = omega (arith, mul-le-mul_right k h, l)

tail_falls : (n : ℕ) (x : Signed) (w : ℕ) → 2 * (size x).top + w ≤ x.bot * suc (suc n) → (size x).top ^ suc (suc n) * 2 + w * (size x).top ^ suc n ≤ x.bot * suc (suc n) * (size x).top ^ suc n
tail_falls n x w h = rw (pow-suc (size x).top (suc n)) (turn (size x).top ((size x).top ^ suc n) w (x.bot * suc (suc n)) h)
  where
    turn : (a s w k : ℕ) → 2 * a + w ≤ k → s * a * 2 + w * s ≤ k * s
    turn a s w k h = omega (arith, mul-le-mul_right s h)

-- an order G + t ≤ Q + L over D, one term later, with w |x| ^ (n + 1) to spare
later_above : (n : ℕ) (x : Signed) (q : Frac) (w : ℕ) → 2 * (size x).top + w ≤ x.bot * suc (suc n) → (G n x + t n x) * q.bot ≤ q.top * sum_bot (suc n) x.bot + L n x * q.bot
    → (G (suc n) x + t (suc n) x) * q.bot + w * (size x).top ^ suc n * q.bot ≤ q.top * sum_bot (suc (suc n)) x.bot + L (suc n) x * q.bot
later_above n x q w e h =
    rw (next_G n x, next_L n x, next_D n x)
    (turn (G n x) (L n x) (powers (suc n) x.plus x.minus).0 (powers (suc n) x.plus x.minus).1 ((size x).top ^ suc n) ((size x).top ^ suc (suc n)) (x.bot * suc (suc n)) w q.top q.bot (sum_bot (suc n) x.bot) h
    (fall (powers (suc n) x.plus x.minus).0 (powers (suc n) x.plus x.minus).1 ((size x).top ^ suc n) ((size x).top ^ suc (suc n)) (x.bot * suc (suc n)) w (powers_near (suc n) x.plus x.minus).0 (tail_falls n x w e)))
  where
    turn : (g l P M s s' k w qt qb D : ℕ) → (g + 2 * s) * qb ≤ qt * D + l * qb → P * k + 2 * s' + w * s ≤ 2 * s * k + M * k
        → ((g + P) * k + 2 * s') * qb + w * s * qb ≤ qt * (D * k) + (l + M) * k * qb
    turn g l P M s s' k w qt qb D h f = omega (arith, mul-le-mul_right k h, mul-le-mul_right qb f)

later_below : (n : ℕ) (x : Signed) (q : Frac) (w : ℕ) → 2 * (size x).top + w ≤ x.bot * suc (suc n) → q.top * sum_bot (suc n) x.bot + (L n x + t n x) * q.bot ≤ G n x * q.bot
    → q.top * sum_bot (suc (suc n)) x.bot + (L (suc n) x + t (suc n) x) * q.bot + w * (size x).top ^ suc n * q.bot ≤ G (suc n) x * q.bot
later_below n x q w e h =
    rw (next_G n x, next_L n x, next_D n x)
    (turn (G n x) (L n x) (powers (suc n) x.plus x.minus).0 (powers (suc n) x.plus x.minus).1 ((size x).top ^ suc n) ((size x).top ^ suc (suc n)) (x.bot * suc (suc n)) w q.top q.bot (sum_bot (suc n) x.bot) h
    (fall (powers (suc n) x.plus x.minus).1 (powers (suc n) x.plus x.minus).0 ((size x).top ^ suc n) ((size x).top ^ suc (suc n)) (x.bot * suc (suc n)) w (powers_near (suc n) x.plus x.minus).1 (tail_falls n x w e)))
  where
    turn : (g l P M s s' k w qt qb D : ℕ) → qt * D + (l + 2 * s) * qb ≤ g * qb → M * k + 2 * s' + w * s ≤ 2 * s * k + P * k
        → qt * (D * k) + ((l + M) * k + 2 * s') * qb + w * s * qb ≤ (g + P) * k * qb
    turn g l P M s s' k w qt qb D h f = omega (arith, mul-le-mul_right k h, mul-le-mul_right qb f)

-- ---- back from the fractions
plain_above : (n : ℕ) (x : Signed) (q : Frac) → gain n x ⊞ tail n x ⊑ q ⊞ loss n x → (G n x + t n x) * q.bot ≤ q.top * sum_bot (suc n) x.bot + L n x * q.bot
unfolding sum_bot
plain_above n x q h = thin (sums n x.plus x.minus x.bot).0 (sums n x.plus x.minus x.bot).1 (sum_bot n x.bot) (x.bot * suc n) (t n x) q.top q.bot (sum_bot_pos n x.bot x.good) h
  where
    thin : (g l B k t qt qb : ℕ) → 0 < B → (g * (B * k) + t * B) * (qb * B) ≤ (qt * B + l * qb) * (B * (B * k)) → (g * k + t) * qb ≤ qt * (B * k) + l * k * qb
    thin g l B k t qt qb P h = le_of_mul-le-mul_right {k = B * B} (omega (arith, h)) (mul-pos P P)

plain_below : (n : ℕ) (x : Signed) (q : Frac) → q ⊞ loss n x ⊞ tail n x ⊑ gain n x → q.top * sum_bot (suc n) x.bot + (L n x + t n x) * q.bot ≤ G n x * q.bot
unfolding sum_bot
plain_below n x q h = thin (sums n x.plus x.minus x.bot).0 (sums n x.plus x.minus x.bot).1 (sum_bot n x.bot) (x.bot * suc n) (t n x) q.top q.bot (sum_bot_pos n x.bot x.good) h
  where
    thin : (g l B k t qt qb : ℕ) → 0 < B → ((qt * B + l * qb) * (B * k) + t * (qb * B)) * B ≤ g * (qb * B * (B * k)) → qt * (B * k) + (l * k + t) * qb ≤ g * k * qb
    thin g l B k t qt qb P h = le_of_mul-le-mul_right {k = B * B} (omega (arith, h)) (mul-pos P P)

-- ---- what lies above is not 0
pub exp_above_pos : (x : Signed) (q : Frac) → AboveExp x q → 0 < q.top
exp_above_pos x q h =
    let f = least_some x in
    some f.0 q f.1.0 (least_most x f.0 q f.1.1 (at_most x q h))
  where
    some : (f q : Frac) → 0 < f.top → f ⊑ q → 0 < q.top
    some f q P h = go (eq-zero-or-pos q.top)
      where
        go : (q.top ≡ 0) ⊎ (0 < q.top) → 0 < q.top
        go (inr p) = p
        go (inl z) = absurd (none (f.top * q.bot) f.bot (mul-pos P q.good) (rw z at h))
          where
            none : (a b : ℕ) → 0 < a → a ≤ 0 * b → ⊥
            none a b p h = omega arith

pub exp_above_more : (x : Signed) (p q : Frac) → p ⊑ q → AboveExp x p → AboveExp x q
exp_above_more x p q h (n, k) = (n, (k.0, ⊑_trans (gain n x ⊞ tail n x) (p ⊞ loss n x) (q ⊞ loss n x) k.1 (add_mono p q (loss n x) (loss n x) h (⊑_refl (loss n x)))))

pub exp_below_less : (x : Signed) (p q : Frac) → q ⊑ p → BelowExp x p → BelowExp x q
exp_below_less x p q h (n, k) = (n, (k.0, ⊑_trans (q ⊞ loss n x ⊞ tail n x) (p ⊞ loss n x ⊞ tail n x) (gain n x) (add_mono (q ⊞ loss n x) (p ⊞ loss n x) (tail n x) (tail n x) (add_mono q p (loss n x) (loss n x) h (⊑_refl (loss n x))) (⊑_refl (tail n x))) k.1))

-- ---- two terms more leave room
enough_next : (n : ℕ) (x : Signed) → Enough n x → 2 * (size x).top + 1 ≤ x.bot * suc (suc (suc n))
enough_next n x e = go (size x).top x.bot x.good e
  where
    go : (s b : ℕ) → 0 < b → 2 * s ≤ b * suc (suc n) → 2 * s + 1 ≤ b * suc (suc (suc n))
    go s b B h = omega (arith, h, B)

enough_later : (n : ℕ) (x : Signed) → Enough n x → Enough (suc (suc n)) x
enough_later n x e = le_trans e (mul-le-mul_left x.bot (omega arith))

pub room_above : (x : Signed) (q : Frac) → 0 < (size x).top → AboveExp x q → (p : Frac) × ((p ⊏ q) × AtMost x p)
room_above x q s a =
    let n = a.0 in
    let e = a.1.0 in
    let one = later_above n x q 0 (le_trans (le_of_eq (native.Mathlib.Nat.add-zero (2 * (size x).top))) e) (plain_above n x q a.1.1) in
    let two = later_above (suc n) x q 1 (enough_next n x e) (le_trans (first ((G (suc n) x + t (suc n) x) * q.bot) ((size x).top ^ suc n) q.bot) one) in
    let m = suc (suc n) in
    let D = sum_bot (suc m) x.bot in
    let r = G m x + t m x - L m x in
    let f : Enough m x = enough_later n x e in
    (on m x r, (strict (G m x + t m x) (L m x) q.top q.bot D ((size x).top ^ suc (suc n)) (one-le-pow (suc (suc n)) (size x).top s) q.good (mul-pos (exp_above_pos x q a) (sum_bot_pos (suc m) x.bot x.good)) two, at_most x (on m x r) (m, (f, above_plain m x (on m x r) (monus (G m x + t m x) (L m x) D)))))
  where
    first : (a s b : ℕ) → a ≤ a + 0 * s * b
    first a s b = omega arith

    strict : (a l qt qb D s : ℕ) → 0 < s → 0 < qb → 0 < qt * D → a * qb + 1 * s * qb ≤ qt * D + l * qb → (a - l) * qb < qt * D
    strict a l qt qb D s S B P h =
        split l a ((a - l) * qb < qt * D) (λ k. omega (arith, h, mul-pos S B, ap (λ (z : ℕ). z * qb) (add-sub_of_le k)))
        (λ k. rw (none a l k) (omega arith))
      where
        none : (a l : ℕ) → a < l → a - l ≡ 0
        none a l k = omega arith

pub room_below : (x : Signed) (q : Frac) → 0 < (size x).top → BelowExp x q → (p : Frac) × ((q ⊏ p) × AtLeast x p)
room_below x q s a =
    let n = a.0 in
    let e = a.1.0 in
    let one = later_below n x q 0 (le_trans (le_of_eq (native.Mathlib.Nat.add-zero (2 * (size x).top))) e) (plain_below n x q a.1.1) in
    let two = later_below (suc n) x q 1 (enough_next n x e) (le_trans (first (q.top * sum_bot (suc (suc n)) x.bot + (L (suc n) x + t (suc n) x) * q.bot) ((size x).top ^ suc n) q.bot) one) in
    let m = suc (suc n) in
    let D = sum_bot (suc m) x.bot in
    let r = G m x - (L m x + t m x) in
    let c : L m x + t m x ≤ G m x = le_of_mul-le-mul_right {k = q.bot} (le_trans (part (q.top * D) ((L m x + t m x) * q.bot) (1 * (size x).top ^ suc (suc n) * q.bot)) two) q.good in
    (on m x r, (strict (G m x) (L m x + t m x) q.top q.bot D ((size x).top ^ suc (suc n)) (one-le-pow (suc (suc n)) (size x).top s) q.good c two, at_least x (on m x r) (m, (enough_later n x e, below_plain m x (on m x r) (whole (G m x) (L m x + t m x) D c)))))
  where
    first : (a s b : ℕ) → a ≤ a + 0 * s * b
    first a s b = omega arith

    part : (a b c : ℕ) → b ≤ a + b + c
    part a b c = omega arith

    whole : (g a D : ℕ) → a ≤ g → (g - a) * D + a * D ≤ g * D
    whole g a D h = omega (arith, ap (λ (z : ℕ). z * D) (add-sub_of_le h))

    strict : (g a qt qb D s : ℕ) → 0 < s → 0 < qb → a ≤ g → qt * D + a * qb + 1 * s * qb ≤ g * qb → qt * D < (g - a) * qb
    strict g a qt qb D s S B k h = omega (arith, h, mul-pos S B, ap (λ (z : ℕ). z * qb) (add-sub_of_le k))

-- ---- x = 0
pub zero_of : (x : Signed) → (size x).top ≡ 0 → x.plus ≡ x.minus
zero_of x z = go x.plus x.minus z
  where
    go : (p m : ℕ) → p - m + (m - p) ≡ 0 → p ≡ m
    go p m z = omega arith

pub one_below : (x : Signed) (q : Frac) → (size x).top ≡ 0 → AboveExp x q → nat 1 ⊑ q
one_below x q z a = below_above_exp x (nat 1) q (exp_zero x (zero_of x z)).1 a

pub one_above : (x : Signed) (q : Frac) → (size x).top ≡ 0 → BelowExp x q → q ⊑ nat 1
one_above x q z a = below_above_exp x q (nat 1) a (exp_zero x (zero_of x z)).0
