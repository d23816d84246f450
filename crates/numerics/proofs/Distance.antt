-- Ways to show `Within` and `LnWithin`, from bounds of the convenient forms.
--   within_of         from AtMost x h and AtLeast x l, for x of either sign, where (1 - ε) h ≤ r ≤ (1 + ε) l
--   within_nonneg     the same from Above a h and Below a l, x = a
--   within_neg        from Above a h and Below a l, x = -a, where r h ≤ 1 + ε and 1 - ε ≤ r l
--   within_factor_of  from AtMost x (r c) and AtLeast x (r / c), for x of either sign, where c ≤ 1 + ε
--   within_factor     from Above a (r c) and Below a (r / c), x = a, where c ≤ 1 + ε
--   within_factor_neg from Above a (w c) and Below a (w / c), x = -a and r = 1 / w, where c ≤ 1 + ε
--   most_quotient, least_quotient   bounds of e ^ s and of e ^ c as AtMost and AtLeast of x = s - c
--   most_of_LE, least_of_LE    e ^ u ≤ h e ^ v and e ^ v ≤ h e ^ u (`Le` of module Exp) as AtMost and AtLeast of u - v
--   ln_within_of      from Le y x δ and Below (y + δ) x: y is within δ of ln x
--   ln_within_neg     from Le y (1 / x) δ and Below (y + δ) (1 / x): -y is within δ of ln x
-- Assumes nothing.
use Rattle.std.specs.Prelude.{◌≡◌, ℕ, ◌+◌, ◌*◌, ◌≤◌, ◌<◌}
use Rattle.std.proofs.Common.{ap, ◌∙◌}
use native.Mathlib.Nat.{mul-pos, mul-le-mul_right, mul-le-mul_left, le_of_mul-le-mul_right}
use native.Mathlib.Omega.{arith}
use Rattle.numerics.specs.Frac.{Frac, ◌⊑◌, ◌⊞◌, ◌⊠◌, nat, ⊑_refl, ⊑_trans, add_mono}
use Rattle.numerics.specs.Series.{sum_top, sum_bot, S, Above, Below, S-arg, above_arg, below_above}
use Rattle.numerics.specs.Law.{mono-⊠, zero_sum}
use Rattle.numerics.specs.Exp.{Le, inv}
use Rattle.numerics.specs.Exponential.{Signed, plus_of, minus_of, raised, lowered, Within, LnWithin}
use Rattle.numerics.proofs.ExpBoundSums.{◌≼◌, most_arg, least_arg}
use Rattle.numerics.proofs.ExpBounds.{positives, negatives, AtMost, AtLeast, at_most, at_least, least_most}

-- ---- e ^ x
above_pos : (a h : Frac) → Above a h → 0 < h.top
above_pos a h k = unfold sum_top sum_bot in first h.top h.bot h.good (k 0)
  where
    first : (t b : ℕ) → 0 < b → 1 * b ≤ t * 1 → 0 < t
    first t b B h = omega arith

-- l ≤ q and r ≤ (1 + ε) l give r ≤ (1 + ε) q
grown : (ε r l q : Frac) → r ⊑ l ⊞ ε ⊠ l → l ⊑ q → r ⊑ q ⊞ ε ⊠ q
grown ε r l q h k = ⊑_trans r (l ⊞ ε ⊠ l) (q ⊞ ε ⊠ q) h (add_mono l q (ε ⊠ l) (ε ⊠ q) k (mono-⊠ ε ε l q (⊑_refl ε) k))

-- q ≤ h and (1 - ε) h ≤ r give (1 - ε) q ≤ r
shrunk : (ε r h q : Frac) → 0 < h.top → h ⊑ r ⊞ ε ⊠ h → q ⊑ h → q ⊑ r ⊞ ε ⊠ q
shrunk ε r h q P k l = clear q.top q.bot h.top h.bot r.top r.bot ε.top ε.bot P h.good k l
  where
    clear : (qt qb ht hb rt rb et eb : ℕ) → 0 < ht → 0 < hb → ht * (rb * (eb * hb)) ≤ (rt * (eb * hb) + et * ht * rb) * hb → qt * hb ≤ ht * qb → qt * (rb * (eb * qb)) ≤ (rt * (eb * qb) + et * qt * rb) * qb
    clear qt qb ht hb rt rb et eb P Q k l =
        le_of_mul-le-mul_right {k = ht * hb} (omega (arith, mul-le-mul_right (qt * qb) k, mul-le-mul_right (rt * eb * qb * hb) l)) (mul-pos P Q)

pub within_of : (ε : Frac) (x : Signed) (r h l : Frac) → 0 < h.top → AtMost x h → h ⊑ r ⊞ ε ⊠ h → AtLeast x l → r ⊑ l ⊞ ε ⊠ l → Within ε x r
within_of ε x r h l P a b c d = record {
  high = λ q k. grown ε r l q d (least_most x l q c (at_most x q k));
  low = λ q k. shrunk ε r h q P b (least_most x q h (at_least x q k) a);
}

-- ---- x = a
one_above : (v A : Frac) → Above v A → nat 1 ⊑ A
one_above v A h = unfold sum_top sum_bot in flat A.top A.bot (h 0)
  where
    flat : (t b : ℕ) → 1 * b ≤ t * 1 → 1 * b ≤ t * 1
    flat t b h = h

pub zero_one : (m b : ℕ) (B : 0 < b) (A : Frac) → nat 1 ⊑ A → S m (record { top = 0; bot = b; good = B }) ⊑ A
zero_one m b B A h = rw (zero_sum m b) (omega (arith, mul-le-mul_right (sum_bot m b) h))

pub most_plus : (a h : Frac) → Above a h → AtMost (plus_of a) h
most_plus a h k A o m = ⊑_trans (S m a) h (h ⊠ A) (k m) (omega (arith, mul-le-mul_right (h.top * h.bot) (one_above (negatives (plus_of a)) A o)))

pub least_plus : (a l : Frac) → Below a l → AtLeast (plus_of a) l
least_plus a l k A o m =
    ⊑_trans (l ⊠ S m (negatives (plus_of a))) l A (rw (zero_sum m a.bot) (omega arith)) (below_above a l A k o)

pub within_nonneg : (ε a r h l : Frac) → Above a h → h ⊑ r ⊞ ε ⊠ h → Below a l → r ⊑ l ⊞ ε ⊠ l → Within ε (plus_of a) r
within_nonneg ε a r h l k b c d = within_of ε (plus_of a) r h l (above_pos a h k) (most_plus a h k) b (least_plus a l c) d

-- ---- x = -a
pub most_minus : (a h l : Frac) → Below a l → nat 1 ⊑ h ⊠ l → AtMost (minus_of a) h
most_minus a h l k b A o m =
    zero_one m a.bot a.good (h ⊠ A) (⊑_trans (nat 1) (h ⊠ l) (h ⊠ A) b (mono-⊠ h h l A (⊑_refl h) (below_above a l A k o)))

pub least_minus : (a h l : Frac) → Above a h → l ⊠ h ⊑ nat 1 → AtLeast (minus_of a) l
least_minus a h l k b A o m =
    ⊑_trans (l ⊠ S m a) (l ⊠ h) A (mono-⊠ l l (S m a) h (⊑_refl l) (k m)) (⊑_trans (l ⊠ h) (nat 1) A b (one_above (positives (minus_of a)) A o))

pub within_neg : (ε a r h l : Frac) → Above a h → r ⊠ h ⊑ nat 1 ⊞ ε → Below a l → nat 1 ⊑ r ⊠ l ⊞ ε → Within ε (minus_of a) r
within_neg ε a r h l k b c d = record {
  high = λ q o. larger ε r h q b (one_most q (at_most (minus_of a) q o));
  low = λ q o. smaller ε r l q d (one_least q (at_least (minus_of a) q o));
}
  where
    one_most : (q : Frac) → AtMost (minus_of a) q → nat 1 ⊑ q ⊠ h
    one_most q f = one_above (positives (minus_of a)) (q ⊠ h) (f h k)

    one_least : (q : Frac) → AtLeast (minus_of a) q → q ⊠ l ⊑ nat 1
    one_least q f =
        let n = c.0 in
        ⊑_trans (q ⊠ l) (q ⊠ S n a) (nat 1) (mono-⊠ q q l (S n a) (⊑_refl q) c.1) (f (nat 1) (λ m. zero_one m a.bot a.good (nat 1) (⊑_refl (nat 1))) n)

    larger : (ε r h q : Frac) → r ⊠ h ⊑ nat 1 ⊞ ε → nat 1 ⊑ q ⊠ h → r ⊑ q ⊞ ε ⊠ q
    larger ε r h q b f =
        ⊑_trans r (r ⊠ (q ⊠ h)) (q ⊞ ε ⊠ q) (omega (arith, mul-le-mul_right (r.top * r.bot) f))
        (⊑_trans (r ⊠ (q ⊠ h)) ((nat 1 ⊞ ε) ⊠ q) (q ⊞ ε ⊠ q) (omega (arith, mul-le-mul_right (q.top * q.bot) b)) (omega arith))

    smaller : (ε r l q : Frac) → nat 1 ⊑ r ⊠ l ⊞ ε → q ⊠ l ⊑ nat 1 → q ⊑ r ⊞ ε ⊠ q
    smaller ε r l q d f =
        ⊑_trans q ((r ⊠ l ⊞ ε) ⊠ q) (r ⊞ ε ⊠ q) (omega (arith, mul-le-mul_right (q.top * q.bot) d))
        (⊑_trans ((r ⊠ l ⊞ ε) ⊠ q) (r ⊠ (q ⊠ l) ⊞ ε ⊠ q) (r ⊞ ε ⊠ q) (omega arith)
        (add_mono (r ⊠ (q ⊠ l)) r (ε ⊠ q) (ε ⊠ q) (omega (arith, mul-le-mul_right (r.top * r.bot) f)) (⊑_refl (ε ⊠ q))))

-- ---- a result within a factor c of e ^ a or of its inverse
upper : (rt rb t s et eb : ℕ) → s ≤ t → t * (1 * eb) ≤ (1 * eb + et * 1) * s → rt * t * (rb * (eb * (rb * s))) ≤ (rt * (eb * (rb * s)) + et * (rt * t) * rb) * (rb * s)
upper rt rb t s et eb l h = omega (arith, mul-le-mul_right (rt * rb * rb * s) h, mul-le-mul_right (et * rt * rb * rb * s) l)

lower : (rt rb t s et eb : ℕ) → t * (1 * eb) ≤ (1 * eb + et * 1) * s → rt * (rb * t * (eb * (rb * t))) ≤ (rt * s * (eb * (rb * t)) + et * (rt * s) * (rb * t)) * rb
lower rt rb t s et eb h = omega (arith, mul-le-mul_right (rt * rb * rb * t) h)

-- for x of either sign, from the convenient forms
pub within_factor_of : (ε c : Frac) (C : 0 < c.top) → c.bot ≤ c.top → c ⊑ nat 1 ⊞ ε → (x : Signed) (r : Frac) → 0 < r.top → AtMost x (r ⊠ c) → AtLeast x (r ⊠ inv c C) → Within ε x r
within_factor_of ε c C from_one room x r R k b =
    within_of ε x r (r ⊠ c) (r ⊠ inv c C) (mul-pos R C) k (upper r.top r.bot c.top c.bot ε.top ε.bot from_one room) b (lower r.top r.bot c.top c.bot ε.top ε.bot room)

module _ (ε a c : Frac) (C : 0 < c.top) (from_one : c.bot ≤ c.top) (room : c ⊑ nat 1 ⊞ ε) where
  pub within_factor : (r : Frac) → Above a (r ⊠ c) → Below a (r ⊠ inv c C) → Within ε (plus_of a) r
  within_factor r k b =
      within_nonneg ε a r (r ⊠ c) (r ⊠ inv c C) k (upper r.top r.bot c.top c.bot ε.top ε.bot from_one room) b (lower r.top r.bot c.top c.bot ε.top ε.bot room)

  -- w is close to e ^ a, and r = 1 / w
  pub within_factor_neg : (w r : Frac) → r ⊠ w ⊑ nat 1 → nat 1 ⊑ r ⊠ w → Above a (w ⊠ c) → Below a (w ⊠ inv c C) → Within ε (minus_of a) r
  within_factor_neg w r p q k b =
      within_neg ε a r (w ⊠ c) (w ⊠ inv c C) k (⊑_trans (r ⊠ (w ⊠ c)) c (nat 1 ⊞ ε) (omega (arith, mul-le-mul_right (c.top * c.bot) p)) room) b
      (⊑_trans (nat 1) (inv c C ⊞ ε) (r ⊠ (w ⊠ inv c C) ⊞ ε) (fits c.top c.bot ε.top ε.bot from_one room)
      (add_mono (inv c C) (r ⊠ (w ⊠ inv c C)) ε ε (omega (arith, mul-le-mul_right (c.top * c.bot) q)) (⊑_refl ε)))
    where
      fits : (t s et eb : ℕ) → s ≤ t → t * (1 * eb) ≤ (1 * eb + et * 1) * s → 1 * (t * eb) ≤ (s * eb + et * t) * 1
      fits t s et eb l h = omega (arith, mul-le-mul_left et l)

-- a wider distance
pub within_weaken : (ε η : Frac) (x : Signed) (r : Frac) → ε ⊑ η → Within ε x r → Within η x r
within_weaken ε η x r h w = record {
  high = λ q k. ⊑_trans r (q ⊞ ε ⊠ q) (q ⊞ η ⊠ q) (w.high q k) (add_mono q q (ε ⊠ q) (η ⊠ q) (⊑_refl q) (mono-⊠ ε η q q h (⊑_refl q)));
  low = λ q k. ⊑_trans q (r ⊞ ε ⊠ q) (r ⊞ η ⊠ q) (w.low q k) (add_mono r r (ε ⊠ q) (η ⊠ q) (⊑_refl r) (mono-⊠ ε η q q h (⊑_refl q)));
}

-- ---- e ^ u ≤ h * e ^ v, for x = u - v
pub most_of_LE : (x : Signed) (u h v : Frac) → positives x ⊑ u → v ⊑ negatives x → Le u h v → AtMost x h
most_of_LE x u h v p n k A o m =
    let a = k m in
    ⊑_trans (S m (positives x)) (S m u) (h ⊠ A) (S-arg m (positives x) u p)
    (⊑_trans (S m u) (h ⊠ S a.0 v) (h ⊠ A) a.1 (mono-⊠ h h (S a.0 v) A (⊑_refl h) (⊑_trans (S a.0 v) (S a.0 (negatives x)) A (S-arg a.0 v (negatives x) n) (o a.0))))

-- e ^ v ≤ h * e ^ u, with l * h ≤ 1
pub least_of_LE : (x : Signed) (u h v l : Frac) → u ⊑ positives x → negatives x ⊑ v → Le v h u → l ⊠ h ⊑ nat 1 → AtLeast x l
least_of_LE x u h v l p n k b A o m =
    let a = k m in
    let s = S a.0 u in
    ⊑_trans (l ⊠ S m (negatives x)) (l ⊠ (h ⊠ s)) A (mono-⊠ l l (S m (negatives x)) (h ⊠ s) (⊑_refl l) (⊑_trans (S m (negatives x)) (S m v) (h ⊠ s) (S-arg m (negatives x) v n) a.1))
    (⊑_trans (l ⊠ (h ⊠ s)) s A (turn l h s b) (⊑_trans s (S a.0 (positives x)) A (S-arg a.0 u (positives x) p) (o a.0)))
  where
    turn : (l h s : Frac) → l ⊠ h ⊑ nat 1 → l ⊠ (h ⊠ s) ⊑ s
    turn l h s b = omega (arith, mul-le-mul_right (s.top * s.bot) b)

-- ---- e ^ s / e ^ c by a bound of each, for x = s - c
abbrev pub difference : Frac → Frac → Signed
difference s c = record { plus = s.top * c.bot; minus = c.top * s.bot; bot = s.bot * c.bot; good = mul-pos s.good c.good }

pub most_quotient : (x : Signed) (s c P Q h : Frac) → x ≼ difference s c → Above s P → Below c Q → P ⊑ h ⊠ Q → AtMost x h
most_quotient x s c P Q h l a b k =
    most_arg x (difference s c) h l
    (λ A o m. ⊑_trans (S m (positives (difference s c))) (S m s) (h ⊠ A) (S-arg m (positives (difference s c)) s (omega arith))
    (⊑_trans (S m s) P (h ⊠ A) (a m)
    (⊑_trans P (h ⊠ Q) (h ⊠ A) k (mono-⊠ h h Q A (⊑_refl h) (below_above c Q A b (above_arg c (negatives (difference s c)) A (omega arith) o))))))

pub least_quotient : (x : Signed) (s c P Q l : Frac) → difference s c ≼ x → Below s P → Above c Q → l ⊠ Q ⊑ P → AtLeast x l
least_quotient x s c P Q f l a b k =
    least_arg (difference s c) x f l
    (λ A o m. ⊑_trans (f ⊠ S m (negatives (difference s c))) (f ⊠ Q) A
    (mono-⊠ f f (S m (negatives (difference s c))) Q (⊑_refl f) (⊑_trans (S m (negatives (difference s c))) (S m c) Q (S-arg m (negatives (difference s c)) c (omega arith)) (b m)))
    (⊑_trans (f ⊠ Q) P A k (below_above s P A a (above_arg s (positives (difference s c)) A (omega arith) o))))

-- ---- the logarithm
pub ln_within : (d x : Frac) (r : Signed) → AtMost (lowered r d) x → AtLeast (raised r d) x → LnWithin d x r
ln_within d x r a b = record {
  low = λ q k. least_most (lowered r d) q x (at_least (lowered r d) q k) a;
  high = λ q k. least_most (raised r d) x q b (at_most (raised r d) q k);
}

-- e ^ y ≤ x * e ^ δ and x ≤ e ^ (y + δ)
pub ln_within_of : (δ x y : Frac) → Le y x δ → Below (y ⊞ δ) x → LnWithin δ x (plus_of y)
ln_within_of δ x y a b =
    ln_within δ x (plus_of y) (most_of_LE (lowered (plus_of y) δ) y x δ (omega arith) (omega arith) a)
    (λ A o m. ⊑_trans (x ⊠ S m (negatives (raised (plus_of y) δ))) x A (rw (zero_sum' m δ.bot (y.bot * δ.bot)) (omega arith)) (below_above (y ⊞ δ) x A b (above_arg (y ⊞ δ) (positives (raised (plus_of y) δ)) A (omega arith) o)))
  where
    zero_sum' : (m a b : ℕ) → sum_top m (0 * a) b ≡ sum_bot m b
    zero_sum' m a b = ap (λ (z : ℕ). sum_top m z b) (native.Mathlib.Nat.zero-mul a) ∙ zero_sum m b

-- the same of 1 / x
pub ln_within_neg : (δ x y : Frac) (P : 0 < x.top) → Le y (inv x P) δ → Below (y ⊞ δ) (inv x P) → LnWithin δ x (minus_of y)
ln_within_neg δ x y P a b =
    ln_within δ x (minus_of y)
    (λ A o m. zero_one' m δ.bot (y.bot * δ.bot) (x ⊠ A) (unit x P A (below_above (y ⊞ δ) (inv x P) A b (above_arg (y ⊞ δ) (negatives (lowered (minus_of y) δ)) A (omega arith) o))))
    (least_of_LE (raised (minus_of y) δ) δ (inv x P) y x (omega arith) (omega arith) a (omega arith))
  where
    zero_one' : (m a b : ℕ) (A : Frac) → nat 1 ⊑ A → sum_top m (0 * a) b * A.bot ≤ A.top * sum_bot m b
    zero_one' m a b A h = rw (native.Mathlib.Nat.zero-mul a, zero_sum m b) (omega (arith, mul-le-mul_right (sum_bot m b) h))

    unit : (x : Frac) (P : 0 < x.top) (A : Frac) → inv x P ⊑ A → nat 1 ⊑ x ⊠ A
    unit x P A h = omega (arith, h)
