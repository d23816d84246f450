-- Laws of `AboveExp` and `BelowExp` themselves, for x and y of either sign:
--   below_above_exp (ExpBounds), squeeze, exp_zero (ExpBoundLaws)   nothing below exceeds anything above; the two come arbitrarily close; e ^ 0 = 1
--   exp_above_pos                    what lies above e ^ x is not 0
--   exp_above_more, exp_below_less   a bound may be loosened
--   exp_above_sum, exp_below_sum     bounds of e ^ x and e ^ y multiply to bounds of e ^ (x + y)
--   exp_above_arg, exp_below_arg     monotony
--   exp_above_times, exp_below_times   powers of a bound are bounds of e ^ (n x)
-- They rest on this: where x is not 0 there is a smaller q below each q above e ^ x (`room_above`), and a larger above each q below it (`room_below`), since with two terms more the sum
-- with the tail's bound falls and the sum less it grows. Assumes nothing.
use Rattle.std.specs.Prelude.{◌≡◌, ◌⊎◌, ℕ, zero, suc, ◌+◌, ◌-◌, ◌*◌, ◌≤◌, ◌<◌}
use Rattle.std.proofs.Common.{ap, inl, inr, arith}
use native.Mathlib.Nat.{le_trans, lt_of_lt_of_le, mul-pos, mul-le-mul_right, le_of_mul-le-mul_right, mul-lt-mul_of_pos_right, pow-suc, add-sub_of_le, eq-zero-or-pos}
use Rattle.numerics.specs.Frac.{Frac, ◌⊑◌, ◌⊏◌, ◌⊞◌, ◌⊠◌, nat, ⊑_trans}
use Rattle.numerics.specs.Series.{sum_top, sum_bot, S, S-arg}
use Rattle.numerics.specs.Law.{mono-⊠, law_upper, power}
use Rattle.numerics.specs.Exponential.{Signed, size, AboveExp, BelowExp}
use Rattle.numerics.proofs.ExpBounds.{positives, negatives, AtMost, AtLeast, at_most, at_least}
use Rattle.numerics.proofs.ExpBoundLaws.{t, above_of_most, below_of_least, least_some, exp_zero}
use Rattle.numerics.proofs.ExpBoundSums.{◌≼◌, most_arg, least_arg, sum_of, most_sum, least_sum, times_of, next}
use Rattle.numerics.proofs.ExponentialRoom.{exp_above_pos, exp_above_more, exp_below_less, room_above, room_below, zero_of, one_below, one_above}

-- ---- e ^ (x + y)
times_less : (p p' q : Frac) → 0 < q.top → p ⊏ p' → p ⊠ q ⊏ p' ⊠ q
times_less p p' q Q h = turn p.top p.bot p'.top p'.bot q.top q.bot (mul-lt-mul_of_pos_right h (mul-pos Q q.good))
  where
    turn : (a b c d e f : ℕ) → a * d * (e * f) < c * b * (e * f) → a * e * (d * f) < c * e * (b * f)
    turn a b c d e f h = omega (arith, h)

swap_less : (p p' q : Frac) → p ⊠ q ⊏ p' ⊠ q → q ⊠ p ⊏ q ⊠ p'
swap_less p p' q h = omega (arith, h)

flat_sum : (x y : Signed) → (size x).top ≡ 0 → (size y).top ≡ 0 → (sum_of x y).plus ≡ (sum_of x y).minus
flat_sum x y z w = let e = zero_of x z in let f = zero_of y w in omega (arith, ap (λ (k : ℕ). k * y.bot) e, ap (λ (k : ℕ). k * x.bot) f)

pub exp_above_sum : (x y : Signed) (p q : Frac) → AboveExp x p → AboveExp y q → AboveExp (sum_of x y) (p ⊠ q)
exp_above_sum x y p q a b = go (eq-zero-or-pos (size x).top) (eq-zero-or-pos (size y).top)
  where
    go : ((size x).top ≡ 0) ⊎ (0 < (size x).top) → ((size y).top ≡ 0) ⊎ (0 < (size y).top) → AboveExp (sum_of x y) (p ⊠ q)
    go (inr s) k =
        let r = room_above x p s a in
        above_of_most (sum_of x y) (r.0 ⊠ q) (p ⊠ q) (most_sum x y r.0 q r.1.1 (at_most y q b)) (times_less r.0 p q (exp_above_pos y q b) r.1.0)
    go (inl z) (inr s) =
        let r = room_above y q s b in
        above_of_most (sum_of x y) (p ⊠ r.0) (p ⊠ q) (most_sum x y p r.0 (at_most x p a) r.1.1) (swap_less r.0 q p (times_less r.0 q p (exp_above_pos x p a) r.1.0))
    go (inl z) (inl w) =
        exp_above_more (sum_of x y) (nat 1) (p ⊠ q) (mono-⊠ (nat 1) p (nat 1) q (one_below x p z a) (one_below y q w b)) (exp_zero (sum_of x y) (flat_sum x y z w)).0

-- 0 lies below every e ^ x
none_below : (x : Signed) (q : Frac) → q.top ≡ 0 → BelowExp x q
none_below x q z = let f = least_some x in below_of_least x f.0 q f.1.1 (rw z (less f.0.bot f.0.top q.bot (mul-pos f.1.0 q.good)))
  where
    less : (b t c : ℕ) → 0 < t * c → 0 * b < t * c
    less b t c h = omega arith

pub exp_below_sum : (x y : Signed) (p q : Frac) → BelowExp x p → BelowExp y q → BelowExp (sum_of x y) (p ⊠ q)
exp_below_sum x y p q a b = go (eq-zero-or-pos (size x).top) (eq-zero-or-pos (size y).top) (eq-zero-or-pos p.top) (eq-zero-or-pos q.top)
  where
    go : ((size x).top ≡ 0) ⊎ (0 < (size x).top) → ((size y).top ≡ 0) ⊎ (0 < (size y).top) → (p.top ≡ 0) ⊎ (0 < p.top) → (q.top ≡ 0) ⊎ (0 < q.top) → BelowExp (sum_of x y) (p ⊠ q)
    go i j (inl e) l = none_below (sum_of x y) (p ⊠ q) (rw e (omega arith))
    go i j (inr P) (inl e) = none_below (sum_of x y) (p ⊠ q) (rw e (omega arith))
    go (inr s) j (inr P) (inr Q) =
        let r = room_below x p s a in
        below_of_least (sum_of x y) (r.0 ⊠ q) (p ⊠ q) (least_sum x y r.0 q r.1.1 (at_least y q b)) (times_less p r.0 q Q r.1.0)
    go (inl z) (inr s) (inr P) (inr Q) =
        let r = room_below y q s b in
        below_of_least (sum_of x y) (p ⊠ r.0) (p ⊠ q) (least_sum x y p r.0 (at_least x p a) r.1.1) (swap_less q r.0 p (times_less q r.0 p P r.1.0))
    go (inl z) (inl w) (inr P) (inr Q) =
        exp_below_less (sum_of x y) (nat 1) (p ⊠ q) (mono-⊠ p (nat 1) q (nat 1) (one_above x p z a) (one_above y q w b)) (exp_zero (sum_of x y) (flat_sum x y z w)).1

-- ---- monotony
-- e ^ -a ≤ 1 / (1 + a) and 1 + a ≤ e ^ a
one_more : (d b : ℕ) (B : 0 < b) → ((S 1 (record { top = d; bot = b; good = B })).top ≡ b + d) × ((S 1 (record { top = d; bot = b; good = B })).bot ≡ b)
unfolding sum_top sum_bot
one_more d b B = (rw (pow-suc d 0, native.Mathlib.Nat.pow-zero d) (omega arith), omega arith)

most_negative : (x : Signed) → x.plus ≤ x.minus → AtMost x (record { top = x.bot; bot = x.bot + (x.minus - x.plus); good = le_trans x.good (native.Mathlib.Nat.le-add_right x.bot (x.minus - x.plus)) })
most_negative x h A o m =
    let d = x.minus - x.plus in
    let a : Frac = record { top = d; bot = x.bot; good = x.good } in
    let u = positives x in
    let e = one_more d x.bot x.good in
    let k : S m u ⊠ S 1 a ⊑ A = ⊑_trans (S m u ⊠ S 1 a) (S (1 + m) (u ⊞ a)) A (law_upper m 1 u a) (⊑_trans (S (1 + m) (u ⊞ a)) (S (1 + m) (negatives x)) A (S-arg (1 + m) (u ⊞ a) (negatives x) (fits x.plus x.minus d x.bot (add-sub_of_le h))) (o (1 + m))) in
    turn (S m u).top (S m u).bot A.top A.bot x.bot (x.bot + d) (rw (e.0, e.1) at k)
  where
    fits : (p m d b : ℕ) → p + d ≡ m → (p * b + d * b) * b ≤ m * (b * b)
    fits p m d b e = omega (arith, ap (λ (z : ℕ). z * (b * b)) e)

    turn : (s s' A A' b c : ℕ) → s * c * A' ≤ A * (s' * b) → s * (c * A') ≤ b * A * s'
    turn s s' A A' b c h = omega (arith, h)

least_positive : (x : Signed) → x.minus ≤ x.plus → AtLeast x (record { top = x.bot + (x.plus - x.minus); bot = x.bot; good = x.good })
least_positive x h A o m =
    let d = x.plus - x.minus in
    let a : Frac = record { top = d; bot = x.bot; good = x.good } in
    let v = negatives x in
    let e = one_more d x.bot x.good in
    let k : S 1 a ⊠ S m v ⊑ A = ⊑_trans (S 1 a ⊠ S m v) (S (m + 1) (a ⊞ v)) A (law_upper 1 m a v) (⊑_trans (S (m + 1) (a ⊞ v)) (S (m + 1) (positives x)) A (S-arg (m + 1) (a ⊞ v) (positives x) (fits x.minus x.plus d x.bot (add-sub_of_le h))) (o (m + 1))) in
    rw (e.0, e.1) at k
  where
    fits : (m p d b : ℕ) → m + d ≡ p → (d * b + m * b) * b ≤ p * (b * b)
    fits m p d b e = omega (arith, ap (λ (z : ℕ). z * (b * b)) e)

-- against an argument that is 0
low_zero : (x y : Signed) → x ≼ y → y.plus ≡ y.minus → x.plus ≤ x.minus
low_zero x y l e = clear x.plus x.minus x.bot y.plus y.minus y.bot y.good e l
  where
    clear : (p m b r n c : ℕ) → 0 < c → r ≡ n → p * c + n * b ≤ r * b + m * c → p ≤ m
    clear p m b r n c C e h = le_of_mul-le-mul_right {k = c} (omega (arith, h, ap (λ (z : ℕ). z * b) e)) C

zero_low : (x y : Signed) → x ≼ y → x.plus ≡ x.minus → y.minus ≤ y.plus
zero_low x y l e = clear x.plus x.minus x.bot y.plus y.minus y.bot x.good e l
  where
    clear : (p m b r n c : ℕ) → 0 < b → p ≡ m → p * c + n * b ≤ r * b + m * c → n ≤ r
    clear p m b r n c B e h = le_of_mul-le-mul_right {k = b} (omega (arith, h, ap (λ (z : ℕ). z * c) e)) B

pub exp_above_arg : (x y : Signed) (q : Frac) → x ≼ y → AboveExp y q → AboveExp x q
exp_above_arg x y q l a = go (eq-zero-or-pos (size y).top) (eq-zero-or-pos (size x).top)
  where
    go : ((size y).top ≡ 0) ⊎ (0 < (size y).top) → ((size x).top ≡ 0) ⊎ (0 < (size x).top) → AboveExp x q
    go (inr s) k = let r = room_above y q s a in above_of_most x r.0 q (most_arg x y r.0 l r.1.1) r.1.0
    go (inl z) (inl w) = exp_above_more x (nat 1) q (one_below y q z a) (exp_zero x (zero_of x w)).0
    go (inl z) (inr s) =
        let h = low_zero x y l (zero_of y z) in
        above_of_most x (record { top = x.bot; bot = x.bot + (x.minus - x.plus); good = le_trans x.good (native.Mathlib.Nat.le-add_right x.bot (x.minus - x.plus)) }) q (most_negative x h) (less x.plus x.minus x.bot q.top q.bot h s q.good (one_below y q z a))
      where
        less : (p m b qt qb : ℕ) → p ≤ m → 0 < p - m + (m - p) → 0 < qb → 1 * qb ≤ qt * 1 → b * qb < qt * (b + (m - p))
        less p m b qt qb h s Q k =
            let d : 0 < m - p = omega arith in
            let w : qb ≤ qt = omega arith in
            omega (arith, mul-le-mul_right b w, mul-pos (lt_of_lt_of_le Q w) d)

pub exp_below_arg : (x y : Signed) (q : Frac) → x ≼ y → BelowExp x q → BelowExp y q
exp_below_arg x y q l a = go (eq-zero-or-pos (size x).top) (eq-zero-or-pos (size y).top)
  where
    go : ((size x).top ≡ 0) ⊎ (0 < (size x).top) → ((size y).top ≡ 0) ⊎ (0 < (size y).top) → BelowExp y q
    go (inr s) k = let r = room_below x q s a in below_of_least y r.0 q (least_arg x y r.0 l r.1.1) r.1.0
    go (inl z) (inl w) = exp_below_less y (nat 1) q (one_above x q z a) (exp_zero y (zero_of y w)).1
    go (inl z) (inr s) =
        let h = zero_low x y l (zero_of x z) in
        below_of_least y (record { top = y.bot + (y.plus - y.minus); bot = y.bot; good = y.good }) q (least_positive y h) (less y.plus y.minus y.bot q.top q.bot h s q.good (one_above x q z a))
      where
        less : (p m b qt qb : ℕ) → m ≤ p → 0 < p - m + (m - p) → 0 < qb → qt * 1 ≤ 1 * qb → qt * b < (b + (p - m)) * qb
        less p m b qt qb h s Q k =
            let d : 0 < p - m = omega arith in
            let w : qt ≤ qb = omega arith in
            omega (arith, mul-le-mul_right b w, mul-pos d Q)

-- ---- e ^ (n x)
pub exp_above_times : (n : ℕ) (x : Signed) (q : Frac) → AboveExp x q → AboveExp (times_of n x) (power n q)
unfolding power
exp_above_times zero x q a = (exp_zero (times_of 0 x) (omega arith)).0
exp_above_times (suc n) x q a = exp_above_arg (times_of (suc n) x) (sum_of x (times_of n x)) (q ⊠ power n q) (next n x).0 (exp_above_sum x (times_of n x) q (power n q) a (exp_above_times n x q a))

pub exp_below_times : (n : ℕ) (x : Signed) (q : Frac) → BelowExp x q → BelowExp (times_of n x) (power n q)
unfolding power
exp_below_times zero x q a = (exp_zero (times_of 0 x) (omega arith)).1
exp_below_times (suc n) x q a = exp_below_arg (sum_of x (times_of n x)) (times_of (suc n) x) (q ⊠ power n q) (next n x).1 (exp_below_sum x (times_of n x) q (power n q) a (exp_below_times n x q a))
