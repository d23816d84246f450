-- Laws of `AtMost` and `AtLeast` in the exponent: monotony, e ^ (x + y) and e ^ (n x). Assumes nothing.
use Rattle.std.specs.Prelude.{◌≡◌, ◌⊎◌, ℕ, zero, suc, ◌+◌, ◌*◌, ◌≤◌, ◌<◌}
use Rattle.std.proofs.Common.{inl, inr, lt_of_lt_of_le, mul-pos, mul-le-mul_right, eq-zero-or-pos, arith}
use Rattle.numerics.specs.Frac.{Frac, ◌⊑◌, ◌⊞◌, ◌⊠◌, nat, ⊑_refl, ⊑_trans}
use Rattle.numerics.specs.Series.{S, Above, S-arg, above_arg}
use Rattle.numerics.specs.Law.{mono-⊠, law_lower, law_upper, above_mul, over, above_div, power}
use Rattle.numerics.specs.Exponential.{Signed}
use Rattle.numerics.proofs.ExpBounds.{positives, negatives, AtMost, AtLeast, at_most, at_least, cancel_exp}
use Rattle.numerics.specs.Tail.{S-one}
use Rattle.numerics.proofs.ExpBoundLaws.{t, exp_zero}

-- ---- monotony
infix 4 ◌≼◌
-- x ≤ y
abbrev pub ◌≼◌ : Signed → Signed → Type 0
x ≼ y = x.plus * y.bot + y.minus * x.bot ≤ y.plus * x.bot + x.minus * y.bot

-- as an order of two sums
sums_ordered : (x y : Signed) → x ≼ y → positives x ⊞ negatives y ⊑ positives y ⊞ negatives x
sums_ordered x y h = omega (arith, mul-le-mul_right (x.bot * y.bot) h)

pub most_arg : (x y : Signed) (h : Frac) → x ≼ y → AtMost y h → AtMost x h
most_arg x y h l a A o m = cancel_exp (negatives y) (S m (positives x)) (h ⊠ A) each
  where
    each : (B : Frac) → Above (negatives y) B → (k : ℕ) → S m (positives x) ⊠ S k (negatives y) ⊑ h ⊠ A ⊠ B
    each B b k =
        let s = S m (positives x) ⊠ S k (negatives y) in
        let w = positives x ⊞ negatives y in
        let z = positives y ⊞ negatives x in
        ⊑_trans s (S (k + m) w) (h ⊠ A ⊠ B) (law_upper m k (positives x) (negatives y))
        (⊑_trans (S (k + m) w) (S (k + m) z) (h ⊠ A ⊠ B) (S-arg (k + m) w z (sums_ordered x y l))
        (⊑_trans (S (k + m) z) (h ⊠ B ⊠ A) (h ⊠ A ⊠ B) (above_mul (positives y) (negatives x) (h ⊠ B) A (a B b) o (k + m)) (omega arith)))

pub least_arg : (x y : Signed) (l : Frac) → x ≼ y → AtLeast x l → AtLeast y l
least_arg x y f l a A o m = cancel_exp (negatives x) (f ⊠ S m (negatives y)) A each
  where
    turn : (f s t A B : Frac) (P : 0 < t.top) → f ⊠ s ⊑ over (A ⊠ B) t P → f ⊠ t ⊠ s ⊑ A ⊠ B
    turn f s t A B P h = omega (arith, h)

    each : (B : Frac) → Above (negatives x) B → (k : ℕ) → f ⊠ S m (negatives y) ⊠ S k (negatives x) ⊑ A ⊠ B
    each B b k =
        let s = S m (negatives y) in
        let P : 0 < s.top = lt_of_lt_of_le s.good (S-one m (negatives y)) in
        let w : Above (positives x ⊞ negatives y) (A ⊠ B) = above_arg (positives x ⊞ negatives y) (positives y ⊞ negatives x) (A ⊠ B) (sums_ordered x y l) (above_mul (positives y) (negatives x) A B o b) in
        turn f (S k (negatives x)) s A B P (a (over (A ⊠ B) s P) (above_div (positives x) (negatives y) (A ⊠ B) s P w (m, ⊑_refl s)) k)

-- ---- e ^ (x + y)
abbrev pub sum_of : Signed → Signed → Signed
sum_of x y = record { plus = x.plus * y.bot + y.plus * x.bot; minus = x.minus * y.bot + y.minus * x.bot; bot = x.bot * y.bot; good = mul-pos x.good y.good }

swap : (p q : Frac) → p ⊞ q ⊑ q ⊞ p
swap p q = omega arith

module _ (x y : Signed) where
  pub most_sum : (h k : Frac) → AtMost x h → AtMost y k → AtMost (sum_of x y) (h ⊠ k)
  most_sum h k a b A o m =
      let u = positives x in
      let s = S m u in
      let P : 0 < s.top = lt_of_lt_of_le s.good (S-one m u) in
      ⊑_trans (S m (u ⊞ positives y)) (s ⊠ S m (positives y)) (h ⊠ k ⊠ A) (law_lower m u (positives y)) (turn (S m (positives y)) s P (b (over (h ⊠ A) s P) (other s P (⊑_refl s)) m))
    where
      turn : (q s : Frac) (P : 0 < s.top) → q ⊑ k ⊠ over (h ⊠ A) s P → s ⊠ q ⊑ h ⊠ k ⊠ A
      turn q s P g = omega (arith, g)

      side : (j : ℕ) → S m (positives x) ⊠ S j (negatives y) ⊑ h ⊠ A
      side j =
          let r = S j (negatives y) in
          let R : 0 < r.top = lt_of_lt_of_le r.good (S-one j (negatives y)) in
          back (S m (positives x)) r R (a (over A r R) (above_div (negatives x) (negatives y) A r R o (j, ⊑_refl r)) m)
        where
          back : (s r : Frac) (R : 0 < r.top) → s ⊑ h ⊠ over A r R → s ⊠ r ⊑ h ⊠ A
          back s r R g = omega (arith, g)

      other : (s : Frac) (P : 0 < s.top) → s ⊑ S m (positives x) → Above (negatives y) (over (h ⊠ A) s P)
      other s P g j = back (S j (negatives y)) (⊑_trans (s ⊠ S j (negatives y)) (S m (positives x) ⊠ S j (negatives y)) (h ⊠ A) (mono-⊠ s (S m (positives x)) (S j (negatives y)) (S j (negatives y)) g (⊑_refl (S j (negatives y)))) (side j))
        where
          back : (r : Frac) → s ⊠ r ⊑ h ⊠ A → r ⊑ over (h ⊠ A) s P
          back r g = omega (arith, g)

  pub least_sum : (f g : Frac) → AtLeast x f → AtLeast y g → AtLeast (sum_of x y) (f ⊠ g)
  least_sum f g a b A o m =
      ⊑_trans (f ⊠ g ⊠ S m (negatives x ⊞ negatives y)) (f ⊠ g ⊠ (S m (negatives x) ⊠ S m (negatives y))) A
      (mono-⊠ (f ⊠ g) (f ⊠ g) (S m (negatives x ⊞ negatives y)) (S m (negatives x) ⊠ S m (negatives y)) (⊑_refl (f ⊠ g)) (law_lower m (negatives x) (negatives y)))
      (by_size (eq-zero-or-pos f.top))
    where
      side : (j : ℕ) → f ⊠ S m (negatives x) ⊠ S j (positives y) ⊑ A
      side j =
          let r = S j (positives y) in
          let R : 0 < r.top = lt_of_lt_of_le r.good (S-one j (positives y)) in
          back (S m (negatives x)) r R (a (over A r R) (above_div (positives x) (positives y) A r R o (j, ⊑_refl r)) m)
        where
          back : (s r : Frac) (R : 0 < r.top) → f ⊠ s ⊑ over A r R → f ⊠ s ⊠ r ⊑ A
          back s r R h = omega (arith, h)

      by_size : (f.top ≡ 0) ⊎ (0 < f.top) → f ⊠ g ⊠ (S m (negatives x) ⊠ S m (negatives y)) ⊑ A
      by_size (inl z) = rw z (nothing g.top ((S m (negatives x)).top * (S m (negatives y)).top) A.bot (A.top * (f.bot * g.bot * ((S m (negatives x)).bot * (S m (negatives y)).bot))))
        where
          nothing : (g p q y : ℕ) → 0 * g * p * q ≤ y
          nothing g p q y = omega arith
      by_size (inr P) =
          let s = S m (negatives x) in
          let Q : 0 < s.top = lt_of_lt_of_le s.good (S-one m (negatives x)) in
          let F = f ⊠ s in
          let W : 0 < F.top = mul-pos P Q in
          turn s (S m (negatives y)) W (b (over A F W) (λ j. back s (S j (positives y)) W (side j)) m)
        where
          back : (s r : Frac) (W : 0 < f.top * s.top) → f ⊠ s ⊠ r ⊑ A → r.top * (f.top * s.top * A.bot) ≤ A.top * (f.bot * s.bot) * r.bot
          back s r W h = omega (arith, h)

          turn : (s r : Frac) (W : 0 < f.top * s.top) → g.top * r.top * (f.top * s.top * A.bot) ≤ A.top * (f.bot * s.bot) * (g.bot * r.bot) → f ⊠ g ⊠ (s ⊠ r) ⊑ A
          turn s r W h = omega (arith, h)

-- ---- e ^ (n x)
abbrev pub times_of : ℕ → Signed → Signed
times_of n x = record { plus = n * x.plus; minus = n * x.minus; bot = x.bot; good = x.good }

pub next : (n : ℕ) (x : Signed) → (times_of (suc n) x ≼ sum_of x (times_of n x)) × (sum_of x (times_of n x) ≼ times_of (suc n) x)
next n x = (omega arith, omega arith)

pub most_times : (n : ℕ) (x : Signed) (h : Frac) → AtMost x h → AtMost (times_of n x) (power n h)
unfolding power
most_times zero x h a = at_most (times_of 0 x) (nat 1) (exp_zero (times_of 0 x) (omega arith)).0
most_times (suc n) x h a =
    most_arg (times_of (suc n) x) (sum_of x (times_of n x)) (h ⊠ power n h) (next n x).0 (most_sum x (times_of n x) h (power n h) a (most_times n x h a))

pub least_times : (n : ℕ) (x : Signed) (l : Frac) → AtLeast x l → AtLeast (times_of n x) (power n l)
unfolding power
least_times zero x l a = at_least (times_of 0 x) (nat 1) (exp_zero (times_of 0 x) (omega arith)).1
least_times (suc n) x l a =
    least_arg (sum_of x (times_of n x)) (times_of (suc n) x) (l ⊠ power n l) (next n x).1 (least_sum x (times_of n x) l (power n l) a (least_times n x l a))
