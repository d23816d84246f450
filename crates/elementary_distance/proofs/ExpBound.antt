-- The exponential's steps for x from -700 to 700 and not smaller than 2 ^ -54: the answer, or for a negative x its inverse, is e ^ |x| to 29 roundings. Assumes nothing.
use mathlib.Core.Path.{◌≡◌, refl, subst}
use Prim.Native.Nat.{ℕ, ◌+◌, ◌-◌, ◌*◌, ◌/◌, ◌%◌, ◌^◌, ◌≤◌, ◌<◌}
use native.Mathlib.Nat.{le_refl, le_trans, le_of_eq, lt_of_lt_of_le, mul-pos, mul-le-mul_right}
use native.Mathlib.Omega.{arith}
use mathlib.Core.Bool.{true, false}
use lib.IntN.{ℤ}
use lib.Dec.{lit≤}
use lib.Pow.{pow_pos}
use lib.Ieee.{Float, fin, down}
use lib.Ieee.Positive.{num, den, den_pos}
use Rattle.numerics.specs.Frac.{Frac, ◌⊑◌, ◌⊞◌, ◌⊠◌, nat, ⊑_trans, big, small, Close, close_same, close_trans}
use Rattle.numerics.specs.Round.{val, Rel}
use Rattle.numerics.specs.Rel.{num_pos}
use Rattle.numerics.specs.Series.{sum_top, sum_bot, S}
use Rattle.numerics.specs.Law.{times, over}
use Rattle.numerics.specs.Exp.{inv}
use Rattle.numerics.specs.Tail.{S-one}
use Rattle.numerics.specs.EitherSign.{plus, minus}
use Rattle.numerics.specs.Bound.{Bound, off, bound_near, bound_div, bound_close}
use Rattle.elementary_exp.specs.Exp.{counted_of, steps_of, within_of}
use Rattle.elementary_exp.specs.Range.{InRange}
use Rattle.elementary_exp.proofs.ExpEntries.{table_entry}
use Rattle.elementary_exp.proofs.ExpSteps.{Reach, steps_reach}
use Rattle.elementary_distance.proofs.ExpParts.{over_den}
use Rattle.elementary_distance.proofs.ExpRemainder.{reduced, reduced_rel, r_hi, r_lo, remainder_is}
use Rattle.elementary_distance.proofs.ExpGap.{reduce_up, reduce_down}
use Rattle.elementary_exp.proofs.ExpConstants.{least_power, most_power, powers, step, zero_power, zero_steps}
use Rattle.elementary_exp.proofs.ExpTableGood.{Entry, entry_good}
use Rattle.elementary_distance.proofs.ExpSum.{powers_of_two, steps_bound}
use Rattle.elementary_distance.proofs.ExpPower.{scale}
use Rattle.elementary_distance.proofs.ExpFloat.{answer_rel}
use Rattle.elementary_distance.proofs.ExpEarlier.{earlier_within_of}
use Rattle.elementary_distance.proofs.ExpKept.{within_kept}

-- ---- k steps more on each side
mono : (p q r : Frac) → p ⊑ q → p ⊞ r ⊑ q ⊞ r
mono p q r h = omega (arith, mul-le-mul_right (r.bot * r.bot) h)

turned : (p q r : Frac) → p ⊞ q ⊞ r ⊑ p ⊞ r ⊞ q
turned p q r = go p.top p.bot q.top q.bot r.top r.bot
  where
    go : (p P q Q r R : ℕ) → ((p * Q + q * P) * R + r * (P * Q)) * (P * R * Q) ≤ ((p * R + r * P) * Q + q * (P * R)) * (P * Q * R)
    go p P q Q r R = le_of_eq (omega arith)

split : (p L : Frac) (i k : ℕ) → p ⊞ times (i + k) L ⊑ p ⊞ times i L ⊞ times k L
split p L i k = go p.top p.bot L.top L.bot i k
  where
    go : (p P l d i k : ℕ) → (p * d + (i + k) * l * P) * (P * d * d) ≤ ((p * d + i * l * P) * d + k * l * (P * d)) * (P * d)
    go p P l d i k = le_of_eq (omega arith)

join : (p L : Frac) (i k : ℕ) → p ⊞ times i L ⊞ times k L ⊑ p ⊞ times (i + k) L
join p L i k = go p.top p.bot L.top L.bot i k
  where
    go : (p P l d i k : ℕ) → ((p * d + i * l * P) * d + k * l * (P * d)) * (P * d) ≤ (p * d + (i + k) * l * P) * (P * d * d)
    go p P l d i k = le_of_eq (omega arith)

-- p + i L + r and k L more
carried : (p r L : Frac) (i k : ℕ) → p ⊞ times i L ⊞ r ⊞ times k L ⊑ p ⊞ times (i + k) L ⊞ r
carried p r L i k =
    ⊑_trans (p ⊞ times i L ⊞ r ⊞ times k L) (p ⊞ times i L ⊞ times k L ⊞ r) (p ⊞ times (i + k) L ⊞ r) (turned (p ⊞ times i L) r (times k L))
    (mono (p ⊞ times i L ⊞ times k L) (p ⊞ times (i + k) L) r (join p L i k))

spread : (p r L : Frac) (i k : ℕ) → p ⊞ times (i + k) L ⊞ r ⊑ p ⊞ times i L ⊞ r ⊞ times k L
spread p r L i k =
    ⊑_trans (p ⊞ times (i + k) L ⊞ r) (p ⊞ times i L ⊞ times k L ⊞ r) (p ⊞ times i L ⊞ r ⊞ times k L)
    (mono (p ⊞ times (i + k) L) (p ⊞ times i L ⊞ times k L) r (split p L i k)) (turned (p ⊞ times i L) (times k L) r)

more_left : (p q r o L : Frac) (i j k : ℕ) → p ⊞ times i L ⊑ q ⊞ times j L ⊞ r ⊞ o → p ⊞ times (i + k) L ⊑ q ⊞ times (j + k) L ⊞ r ⊞ o
more_left p q r o L i j k h =
    ⊑_trans (p ⊞ times (i + k) L) (p ⊞ times i L ⊞ times k L) (q ⊞ times (j + k) L ⊞ r ⊞ o) (split p L i k)
    (⊑_trans (p ⊞ times i L ⊞ times k L) (q ⊞ times j L ⊞ r ⊞ o ⊞ times k L) (q ⊞ times (j + k) L ⊞ r ⊞ o) (mono (p ⊞ times i L) (q ⊞ times j L ⊞ r ⊞ o) (times k L) h)
    (⊑_trans (q ⊞ times j L ⊞ r ⊞ o ⊞ times k L) (q ⊞ times j L ⊞ r ⊞ times k L ⊞ o) (q ⊞ times (j + k) L ⊞ r ⊞ o) (turned (q ⊞ times j L ⊞ r) o (times k L))
    (mono (q ⊞ times j L ⊞ r ⊞ times k L) (q ⊞ times (j + k) L ⊞ r) o (carried q r L j k))))

more_right : (p q r o L : Frac) (i j k : ℕ) → q ⊞ times j L ⊞ r ⊑ p ⊞ times i L ⊞ o → q ⊞ times (j + k) L ⊞ r ⊑ p ⊞ times (i + k) L ⊞ o
more_right p q r o L i j k h =
    ⊑_trans (q ⊞ times (j + k) L ⊞ r) (q ⊞ times j L ⊞ r ⊞ times k L) (p ⊞ times (i + k) L ⊞ o) (spread q r L j k)
    (⊑_trans (q ⊞ times j L ⊞ r ⊞ times k L) (p ⊞ times i L ⊞ o ⊞ times k L) (p ⊞ times (i + k) L ⊞ o) (mono (q ⊞ times j L ⊞ r) (p ⊞ times i L ⊞ o) (times k L) h)
    (carried p o L i k))

module _ (x : Float) (range : InRange x) where
  abbrev u : ℕ
  u = steps_of (counted_of x)

  abbrev r : Float
  r = reduced x range

  abbrev x⁺ : Frac
  x⁺ = over_den (plus x) x

  abbrev x⁻ : Frac
  x⁻ = over_den (minus x) x

  reach : Reach (plus x) (minus x) (den x) u
  reach = steps_reach x range

  pub steps_up : x⁺ ⊞ times zero_steps step ⊑ x⁻ ⊞ times u step ⊞ val r ⊞ off
  steps_up =
      let k = zero_steps - (zero_steps - u) in
      let a : zero_steps - u + k ≡ zero_steps = omega arith in
      let b : u - zero_steps + k ≡ u = omega arith in
      subst (λ (n : ℕ). x⁺ ⊞ times zero_steps step ⊑ x⁻ ⊞ times n step ⊞ val r ⊞ off) b
      (subst (λ (n : ℕ). x⁺ ⊞ times n step ⊑ x⁻ ⊞ times (u - zero_steps + k) step ⊞ val r ⊞ off) a
      (more_left x⁺ x⁻ (val r) off step (zero_steps - u) (u - zero_steps) k (reduce_up x range)))

  pub steps_down : x⁻ ⊞ times u step ⊞ val r ⊑ x⁺ ⊞ times zero_steps step ⊞ off
  steps_down =
      let k = zero_steps - (zero_steps - u) in
      let a : zero_steps - u + k ≡ zero_steps = omega arith in
      let b : u - zero_steps + k ≡ u = omega arith in
      subst (λ (n : ℕ). x⁻ ⊞ times n step ⊞ val r ⊑ x⁺ ⊞ times zero_steps step ⊞ off) b
      (subst (λ (n : ℕ). x⁻ ⊞ times (u - zero_steps + k) step ⊞ val r ⊑ x⁺ ⊞ times n step ⊞ off) a
      (more_right x⁺ x⁻ (val r) off step (zero_steps - u) (u - zero_steps) k (reduce_down x range)))

  fewer : (least_power ≤ u / 64) × (u / 64 ≤ most_power)
  fewer = powers u reach.some reach.few

  abbrev t : Float
  t = table_entry (u % 64)

  entry : Entry (u % 64) t
  entry = entry_good (u % 64) (omega arith)

  abbrev product : Frac
  product = nat (2 ^ (u / 64)) ⊠ val t ⊠ S 6 (val r)

  abbrev two_at_zero : Frac
  two_at_zero = nat (2 ^ zero_power)

  pub product_bound : Bound 4 (times u step ⊞ val r) product
  product_bound = steps_bound u (val r) (le_trans fewer.1 (lit≤ tt)) (omega (arith, r_hi x range))

  pub product_pos : 0 < product.top
  product_pos = mul-pos (mul-pos (pow_pos (u / 64)) (num_pos t entry.pos)) (lt_of_lt_of_le (Rattle.numerics.specs.Series.sum_bot_pos 6 (den r) (den_pos r)) (S-one 6 (val r)))

  pub origin_bound : Bound 1 (times zero_steps step) two_at_zero
  origin_bound = powers_of_two zero_power (lit≤ tt)

  pub answer_near : Rel 15 (within_of x) (val t ⊠ S 6 (val r) ⊠ scale (u / 64))
  unfolding earlier_within_of
  answer_near = rw (within_kept x range, remainder_is x range) (answer_rel r t (reduced_rel x range).pos (omega (arith, r_hi x range)) (omega (arith, r_lo x range)) (u % 64) entry (u / 64) fewer.0 fewer.1)

  -- the answer is product / 2 ^ zero_power
  pub answer_close : Close 15 (val (within_of x)) (over product two_at_zero (pow_pos zero_power))
  answer_close =
      close_trans 15 0 (val (within_of x)) (val t ⊠ S 6 (val r) ⊠ scale (u / 64)) (over product two_at_zero (pow_pos zero_power)) answer_near.near
      (close_same (val t ⊠ S 6 (val r) ⊠ scale (u / 64)) (over product two_at_zero (pow_pos zero_power))
      (turn (num t) (den t) (sum_top 6 (num r) (den r)) (sum_bot 6 (den r)) (2 ^ (u / 64)) (2 ^ zero_power)))
    where
      turn : (t d s b n p : ℕ) → t * s * n * (p * (1 * d * b)) ≡ n * t * s * 1 * (d * b * p)
      turn t d s b n p = omega arith

-- ---- x above zero
drop_zero : (d : ℕ) (D : 0 < d) (a r o : Frac) → record { top = 0; bot = d; good = D } ⊞ a ⊞ r ⊞ o ⊑ a ⊞ r ⊞ o
drop_zero d D a r o = go a.top a.bot r.top r.bot o.top o.bot d
  where
    go : (a A r R o O d : ℕ) → (((0 * A + a * d) * R + r * (d * A)) * O + o * (d * A * R)) * (A * R * O) ≤ ((a * R + r * A) * O + o * (A * R)) * (d * A * R * O)
    go a A r R o O d = le_of_eq (omega arith)

keep_zero : (d : ℕ) (D : 0 < d) (a r : Frac) → a ⊞ r ⊑ record { top = 0; bot = d; good = D } ⊞ a ⊞ r
keep_zero d D a r = go a.top a.bot r.top r.bot d
  where
    go : (a A r R d : ℕ) → (a * R + r * A) * (d * A * R) ≤ ((0 * A + a * d) * R + r * (d * A)) * (A * R)
    go a A r R d = le_of_eq (omega arith)

pub plus_bound_at : (m : ℕ) (e : ℤ) → InRange (fin false m e) → Bound 29 (val (fin false m e)) (val (within_of (fin false m e)))
plus_bound_at m e range =
    let x = fin false m e in
    let u = steps_of (counted_of x) in
    let r = val (reduced x range) in
    let E = times u step ⊞ r in
    let F = times zero_steps step in
    let zero⁻ = over_den 0 x in
    let a : val x ⊞ F ⊑ E ⊞ off = ⊑_trans (val x ⊞ F) (zero⁻ ⊞ times u step ⊞ r ⊞ off) (E ⊞ off) (steps_up x range) (drop_zero (down e) (den_pos x) (times u step) r off) in
    let b : E ⊑ val x ⊞ F ⊞ off = ⊑_trans E (zero⁻ ⊞ times u step ⊞ r) (val x ⊞ F ⊞ off) (keep_zero (down e) (den_pos x) (times u step) r) (steps_down x range) in
    bound_close 15 14 (val x) (over (product x range) (nat (2 ^ zero_power)) (pow_pos zero_power)) (val (within_of x)) (answer_close x range)
    (bound_div 13 1 (val x) F (product x range) (nat (2 ^ zero_power)) (pow_pos zero_power) (bound_near 4 (val x ⊞ F) E (product x range) a b (product_bound x range)) (origin_bound x range))

-- ---- x below zero: the inverse
inverse_close : (e : ℕ) (p q : Frac) (P : 0 < p.top) (Q : 0 < q.top) → Close e p q → Close e (inv p P) (inv q Q)
inverse_close e p q P Q c = record { le = go q.top p.bot p.top q.bot (small ^ e) (big ^ e) c.ge; ge = go p.top q.bot q.top p.bot (small ^ e) (big ^ e) c.le }
  where
    go : (a b c d s t : ℕ) → a * b * s ≤ c * d * t → b * a * s ≤ d * c * t
    go a b c d s t h = omega arith

drop_first : (d : ℕ) (D : 0 < d) (f o : Frac) → record { top = 0; bot = d; good = D } ⊞ f ⊞ o ⊑ f ⊞ o
drop_first d D f o = go f.top f.bot o.top o.bot d
  where
    go : (a A o O d : ℕ) → ((0 * A + a * d) * O + o * (d * A)) * (A * O) ≤ (a * O + o * A) * (d * A * O)
    go a A o O d = le_of_eq (omega arith)

keep_first : (d : ℕ) (D : 0 < d) (f : Frac) → f ⊑ record { top = 0; bot = d; good = D } ⊞ f
keep_first d D f = go f.top f.bot d
  where
    go : (a A d : ℕ) → a * (d * A) ≤ (0 * A + a * d) * A
    go a A d = le_of_eq (omega arith)

grouped : (p q r : Frac) → p ⊞ q ⊞ r ⊑ p ⊞ (q ⊞ r)
grouped p q r = go p.top p.bot q.top q.bot r.top r.bot
  where
    go : (p P q Q r R : ℕ) → ((p * Q + q * P) * R + r * (P * Q)) * (P * (Q * R)) ≤ (p * (Q * R) + (q * R + r * Q) * P) * (P * Q * R)
    go p P q Q r R = le_of_eq (omega arith)

ungrouped : (p q r : Frac) → p ⊞ (q ⊞ r) ⊑ p ⊞ q ⊞ r
ungrouped p q r = go p.top p.bot q.top q.bot r.top r.bot
  where
    go : (p P q Q r R : ℕ) → (p * (Q * R) + (q * R + r * Q) * P) * (P * Q * R) ≤ ((p * Q + q * P) * R + r * (P * Q)) * (P * (Q * R))
    go p P q Q r R = le_of_eq (omega arith)

pub minus_bound_at : (m : ℕ) (e : ℤ) (range : InRange (fin true m e)) → Bound 29 (val (fin true m e)) (inv (val (within_of (fin true m e))) (num_pos (within_of (fin true m e)) (answer_near (fin true m e) range).pos))
minus_bound_at m e range =
    let x = fin true m e in
    let u = steps_of (counted_of x) in
    let r = val (reduced x range) in
    let E = times u step ⊞ r in
    let F = times zero_steps step in
    let W = product x range in
    let W0 = product_pos x range in
    let v = within_of x in
    let v0 = num_pos v (answer_near x range).pos in
    let zero⁺ = over_den 0 x in
    let a : val x ⊞ E ⊑ F ⊞ off =
    ⊑_trans (val x ⊞ E) (val x ⊞ times u step ⊞ r) (F ⊞ off) (ungrouped (val x) (times u step) r)
    (⊑_trans (val x ⊞ times u step ⊞ r) (zero⁺ ⊞ F ⊞ off) (F ⊞ off) (steps_down x range) (drop_first (down e) (den_pos x) F off)) in
    let b : F ⊑ val x ⊞ E ⊞ off =
    ⊑_trans F (zero⁺ ⊞ F) (val x ⊞ E ⊞ off) (keep_first (down e) (den_pos x) F)
    (⊑_trans (zero⁺ ⊞ F) (val x ⊞ times u step ⊞ r ⊞ off) (val x ⊞ E ⊞ off) (steps_up x range) (mono (val x ⊞ times u step ⊞ r) (val x ⊞ E) off (grouped (val x) (times u step) r))) in
    bound_close 15 14 (val x) (over (nat (2 ^ zero_power)) W W0) (inv (val v) v0)
    (close_trans 15 0 (inv (val v) v0) (inv (over W (nat (2 ^ zero_power)) (pow_pos zero_power)) (mul-pos W0 (le_refl 1))) (over (nat (2 ^ zero_power)) W W0)
    (inverse_close 15 (val v) (over W (nat (2 ^ zero_power)) (pow_pos zero_power)) v0 (mul-pos W0 (le_refl 1)) (answer_close x range))
    (close_same (inv (over W (nat (2 ^ zero_power)) (pow_pos zero_power)) (mul-pos W0 (le_refl 1))) (over (nat (2 ^ zero_power)) W W0) (turn W.top W.bot (2 ^ zero_power))))
    (bound_div 10 4 (val x) E (nat (2 ^ zero_power)) W W0 (bound_near 1 (val x ⊞ E) F (nat (2 ^ zero_power)) a b (origin_bound x range)) (product_bound x range))
  where
    turn : (t b p : ℕ) → p * b * (t * 1) ≡ p * b * (t * 1)
    turn t b p = refl
