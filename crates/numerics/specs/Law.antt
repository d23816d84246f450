-- e ^ (x + y) = e ^ x * e ^ y, by partial sums: S n (x + y) ≤ S n x * S n y, and S m x * S n y ≤ S (n + m) (x + y).
-- So bounds multiply (`above_mul`, `below_mul`) and divide (`above_div`, `below_div`). Assumes nothing.
use Rattle.std.specs.Prelude.{◌≡◌, refl, ℕ, zero, suc, ◌+◌, ◌-◌, ◌*◌, ◌^◌, ◌≤◌, ◌<◌}
use Rattle.std.proofs.Common.{sym, ap, ap₂, ◌∙◌, subst, arith}
use native.Mathlib.Nat.{le_refl, le_trans, le_of_eq, le_of_suc-le, mul-pos, zero-lt-suc, mul-one, one-mul, mul-le-mul, mul-le-mul_right, mul-le-mul_left, le_of_mul-le-mul_right, pow-suc, pow-zero, sub_self, sub-zero, add-zero, zero-mul, zero-add, add-suc, suc-add, add_comm, add-sub_cancel, add-sub_cancel_left, le-add_left, le-add_right, eq_of_mul-eq-mul_left}
use Rattle.numerics.specs.Frac.{Frac, ◌⊑◌, ◌⊞◌, ◌⊠◌, ⊑_refl, ⊑_trans}
pub use Rattle.numerics.specs.Frac.{over}
use Rattle.numerics.specs.Conv.{sum, conv, D, sum_cong, sum_scale, conv_cong, conv_scale, conv_scale', leibniz, triangle_in_square, box_in_triangle}
use Rattle.numerics.specs.Series.{sum_top, sum_bot, S, Above, Below, S-arg, above_arg, below_arg}

-- ---- the terms a ^ i / (d ^ i * i!) for i up to N, times d ^ N * N!
-- d ^ j * (i + 1) * .. * (i + j)
unfoldable pub rise : ℕ → ℕ → ℕ → ℕ
rise d zero i = 1
rise d (suc j) i = d * suc i * rise d j (suc i)

unfoldable pub term : ℕ → ℕ → ℕ → ℕ → ℕ
term d N a i = a ^ i * rise d (N - i) i

pub one_more : (N i : ℕ) → i < N → N - i ≡ suc (N - suc i)
one_more N i h = omega arith

pub rise_pos : (d j i : ℕ) → 0 < d → 0 < rise d j i
unfolding rise
rise_pos d zero i P = le_refl 1
rise_pos d (suc j) i P = mul-pos (mul-pos P (zero-lt-suc i)) (rise_pos d j (suc i) P)

pub term_rule : (d N a i : ℕ) → i < N → d * (suc i * term d N a (suc i)) ≡ a * term d N a i
unfolding term rise
term_rule d N a i h = rw (one_more N i h, pow-suc a i) (omega arith)

pub rise_split : (d m n : ℕ) → rise d (m + n) 0 ≡ sum_bot n d * rise d m n
unfolding rise sum_bot
rise_split d m zero = rw add-zero (sym (one-mul (rise d m 0)))
rise_split d m (suc n) =
    let h : rise d (suc m + n) 0 ≡ sum_bot n d * (d * suc n * rise d m (suc n)) = rise_split d (suc m) n in
    let e : m + suc n ≡ suc m + n = omega arith in
    rw e (omega (arith, h))

pub sum_terms : (d N a n : ℕ) → n ≤ N → sum n (term d N a) ≡ sum_top n a d * rise d (N - n) n
unfolding sum term sum_top rise
sum_terms d N a zero h = rw pow-zero
sum_terms d N a (suc n) h =
    let s : sum n (term d N a) ≡ sum_top n a d * (d * suc n * rise d (N - suc n) (suc n)) = sum_terms d N a n (le_of_suc-le h) ∙ ap (λ (z : ℕ). sum_top n a d * rise d z n) (one_more N n h) in
    omega (arith, s)

-- ---- the product of the two sequences is the sequence of the sum, K = d ^ N * N! times
flip : (d s c x : ℕ) → d * (s * c) ≡ x → d * s * c ≡ x
flip d s c x h = omega arith

conv_terms : (d N a b k : ℕ) → 0 < d → k ≤ N → conv k (term d N a) (term d N b) ≡ rise d N 0 * term d N (a + b) k
unfolding conv term
conv_terms d N a b zero P h = rw (pow-zero a, pow-zero b, pow-zero (a + b), sub-zero N) (omega arith)
conv_terms d N a b (suc k) P h =
    let u = term d N a in
    let v = term d N b in
    let w = term d N (a + b) in
    let K = rise d N 0 in
    let ih : conv k u v ≡ K * w k = conv_terms d N a b k P (le_of_suc-le h) in
    let l : suc k * conv (suc k) u v ≡ conv k (D u) v + conv k u (D v) = leibniz k u v in
    let x : conv k (λ i. d * D u i) v ≡ conv k (λ i. a * u i) v = conv_cong k (λ i. d * D u i) (λ i. a * u i) v v (λ i g. term_rule d N a i (le_trans ((native.Mathlib.Nat.suc-le-suc_iff).1 g) h)) (λ i _. refl) in
    let y : conv k u (λ i. d * D v i) ≡ conv k u (λ i. b * v i) = conv_cong k u u (λ i. d * D v i) (λ i. b * v i) (λ i _. refl) (λ i g. term_rule d N b i (le_trans ((native.Mathlib.Nat.suc-le-suc_iff).1 g) h)) in
    let x' : d * conv k (D u) v ≡ a * conv k u v = sym (conv_scale k d (D u) v) ∙ x ∙ conv_scale k a u v in
    let y' : d * conv k u (D v) ≡ b * conv k u v = sym (conv_scale' k d u (D v)) ∙ y ∙ conv_scale' k b u v in
    let t : d * (suc k * w (suc k)) ≡ (a + b) * w k = term_rule d N (a + b) k h in
    eq_of_mul-eq-mul_left (d * suc k) (mul-pos P (zero-lt-suc k)) (conv (suc k) u v) (K * w (suc k)) (finish d (suc k) a b K (conv (suc k) u v) (conv k (D u) v) (conv k u (D v)) (conv k u v) (w (suc k)) (w k) l x' y' ih t)
  where
    finish : (d s a b K c p q r w1 w0 : ℕ) → s * c ≡ p + q → d * p ≡ a * r → d * q ≡ b * r → r ≡ K * w0 → d * (s * w1) ≡ (a + b) * w0 → d * s * c ≡ d * s * (K * w1)
    finish d s a b K c p q r w1 w0 l x y ih t =
        omega (arith, ap (λ (z : ℕ). d * z) l, ap (λ (z : ℕ). a * z) ih, ap (λ (z : ℕ). b * z) ih, ap (λ (z : ℕ). K * z) t)

-- ---- the law over one denominator d
sum_conv : (d N a b n : ℕ) → 0 < d → n ≤ N → sum n (λ k. conv k (term d N a) (term d N b)) ≡ rise d N 0 * sum n (term d N (a + b))
sum_conv d N a b n P h =
    sum_cong n (λ k. conv k (term d N a) (term d N b)) (λ k. rise d N 0 * term d N (a + b) k) (λ i g. conv_terms d N a b i P (le_trans g h))
    ∙ sum_scale n (rise d N 0) (term d N (a + b))

pub whole : (d a n : ℕ) → sum n (term d n a) ≡ sum_top n a d
unfolding rise
whole d a n = sum_terms d n a n (le_refl n) ∙ ap (λ (z : ℕ). sum_top n a d * rise d z n) (sub_self n) ∙ mul-one (sum_top n a d)

pub all : (d n : ℕ) → rise d n 0 ≡ sum_bot n d
unfolding rise
all d n = ap (λ (z : ℕ). rise d z 0) (sym (zero-add n)) ∙ rise_split d 0 n ∙ mul-one (sum_bot n d)

lower : (d a b n : ℕ) → 0 < d → sum_bot n d * sum_top n (a + b) d ≤ sum_top n a d * sum_top n b d
lower d a b n P =
    let h : sum n (λ k. conv k (term d n a) (term d n b)) ≤ sum n (term d n a) * sum n (term d n b) = triangle_in_square n (term d n a) (term d n b) in
    rw (sum_conv d n a b n P (le_refl n), whole d (a + b) n, whole d a n, whole d b n, all d n) at h

clear : (X Y K R Q B C T : ℕ) → 0 < K → K ≡ B * R → K ≡ C * Q → X * R * (Y * Q) ≤ K * T → X * Y * K ≤ T * (B * C)
clear X Y K R Q B C T P e f h =
    le_of_mul-le-mul_right (le_trans (le_of_eq (square X Y K R Q B C e f)) (le_trans (mul-le-mul_right (B * C) h) (le_of_eq (turn K T B C)))) P
  where
    square : (X Y K R Q B C : ℕ) → K ≡ B * R → K ≡ C * Q → X * Y * K * K ≡ X * R * (Y * Q) * (B * C)
    square X Y K R Q B C e f = ap₂ (λ (s t : ℕ). X * Y * s * t) e f ∙ omega arith

    turn : (K T B C : ℕ) → K * T * (B * C) ≡ T * (B * C) * K
    turn K T B C = omega arith

upper : (d a b m n : ℕ) → 0 < d → sum_top m a d * sum_top n b d * sum_bot (n + m) d ≤ sum_top (n + m) (a + b) d * (sum_bot m d * sum_bot n d)
upper d a b m n P =
    let N = n + m in
    let h : sum m (term d N a) * sum n (term d N b) ≤ sum N (λ k. conv k (term d N a) (term d N b)) = box_in_triangle m n (term d N a) (term d N b) in
    let s : sum m (term d N a) ≡ sum_top m a d * rise d n m = sum_terms d N a m (le-add_left m n) ∙ ap (λ (z : ℕ). sum_top m a d * rise d z m) (add-sub_cancel n m) in
    let t : sum n (term d N b) ≡ sum_top n b d * rise d m n = sum_terms d N b n (le-add_right n m) ∙ ap (λ (z : ℕ). sum_top n b d * rise d z n) (add-sub_cancel_left n m) in
    let g : sum_top m a d * rise d n m * (sum_top n b d * rise d m n) ≤ rise d N 0 * sum_top N (a + b) d = rw (sum_conv d N a b N P (le_refl N), whole d (a + b) N, s, t) at h in
    subst (λ (z : ℕ). sum_top m a d * sum_top n b d * z ≤ sum_top N (a + b) d * (sum_bot m d * sum_bot n d)) (all d N)
    (clear (sum_top m a d) (sum_top n b d) (rise d N 0) (rise d n m) (rise d m n) (sum_bot m d) (sum_bot n d) (sum_top N (a + b) d) (rise_pos d N 0 P)
    (rise_split d n m) (ap (λ (z : ℕ). rise d z 0) (add_comm n m) ∙ rise_split d m n) g)

-- ---- the law
-- x and y over the denominator of their sum
abbrev left : Frac → Frac → Frac
left x y = record { top = x.top * y.bot; bot = x.bot * y.bot; good = mul-pos x.good y.good }

abbrev right : Frac → Frac → Frac
right x y = record { top = y.top * x.bot; bot = x.bot * y.bot; good = mul-pos x.good y.good }

left_of : (x y : Frac) → (left x y ⊑ x) × (x ⊑ left x y)
left_of x y = omega arith

right_of : (x y : Frac) → (right x y ⊑ y) × (y ⊑ right x y)
right_of x y = omega arith

pub mono-⊠ : (p q r s : Frac) → p ⊑ q → r ⊑ s → p ⊠ r ⊑ q ⊠ s
mono-⊠ p q r s h k = omega (arith, mul-le-mul h k)

pub law_lower : (n : ℕ) (x y : Frac) → S n (x ⊞ y) ⊑ S n x ⊠ S n y
law_lower n x y =
    ⊑_trans (S n (x ⊞ y)) (S n (left x y) ⊠ S n (right x y)) (S n x ⊠ S n y) (base n x y)
    (mono-⊠ (S n (left x y)) (S n x) (S n (right x y)) (S n y) (S-arg n (left x y) x (left_of x y).0) (S-arg n (right x y) y (right_of x y).0))
  where
    widen : (T X Y B : ℕ) → B * T ≤ X * Y → T * (B * B) ≤ X * Y * B
    widen T X Y B h = omega (arith, mul-le-mul_right B h)

    base : (n : ℕ) (x y : Frac) → S n (x ⊞ y) ⊑ S n (left x y) ⊠ S n (right x y)
    base n x y =
        let d = x.bot * y.bot in
        let a = x.top * y.bot in
        let b = y.top * x.bot in
        widen (sum_top n (a + b) d) (sum_top n a d) (sum_top n b d) (sum_bot n d) (lower d a b n (mul-pos x.good y.good))

pub law_upper : (m n : ℕ) (x y : Frac) → S m x ⊠ S n y ⊑ S (n + m) (x ⊞ y)
law_upper m n x y =
    ⊑_trans (S m x ⊠ S n y) (S m (left x y) ⊠ S n (right x y)) (S (n + m) (x ⊞ y))
    (mono-⊠ (S m x) (S m (left x y)) (S n y) (S n (right x y)) (S-arg m x (left x y) (left_of x y).1) (S-arg n y (right x y) (right_of x y).1))
    (upper (x.bot * y.bot) (x.top * y.bot) (y.top * x.bot) m n (mul-pos x.good y.good))

-- ---- bounds multiply
pub above_mul : (x y p q : Frac) → Above x p → Above y q → Above (x ⊞ y) (p ⊠ q)
above_mul x y p q h k m = ⊑_trans (S m (x ⊞ y)) (S m x ⊠ S m y) (p ⊠ q) (law_lower m x y) (mono-⊠ (S m x) p (S m y) q (h m) (k m))

pub below_mul : (x y p q : Frac) → Below x p → Below y q → Below (x ⊞ y) (p ⊠ q)
below_mul x y p q (m, h) (n, k) = (n + m, ⊑_trans (p ⊠ q) (S m x ⊠ S n y) (S (n + m) (x ⊞ y)) (mono-⊠ p (S m x) q (S n y) h k) (law_upper m n x y))

-- ---- bounds divide: a bound of e ^ (x + y) and one of e ^ y give one of e ^ x
pub above_div : (x y b p : Frac) (P : 0 < p.top) → Above (x ⊞ y) b → Below y p → Above x (over b p P)
above_div x y b p P h (n, k) m =
    split (S m x) p b
    (⊑_trans (S m x ⊠ p) (S m x ⊠ S n y) b (mono-⊠ (S m x) (S m x) p (S n y) (⊑_refl (S m x)) k)
    (⊑_trans (S m x ⊠ S n y) (S (n + m) (x ⊞ y)) b (law_upper m n x y) (h (n + m))))
  where
    split : (s p b : Frac) → s ⊠ p ⊑ b → s.top * (p.top * b.bot) ≤ b.top * p.bot * s.bot
    split s p b h = omega arith

pub below_div : (x y b p : Frac) (P : 0 < p.top) → Below (x ⊞ y) b → Above y p → Below x (over b p P)
below_div x y b p P (n, h) k =
    (n, split (S n x) p b (⊑_trans b (S n (x ⊞ y)) (S n x ⊠ p) h (⊑_trans (S n (x ⊞ y)) (S n x ⊠ S n y) (S n x ⊠ p) (law_lower n x y) (mono-⊠ (S n x) (S n x) (S n y) p (⊑_refl (S n x)) (k n)))))
  where
    split : (s p b : Frac) → b ⊑ s ⊠ p → b.top * p.bot * s.bot ≤ s.top * (p.top * b.bot)
    split s p b h = omega arith

-- ---- e ^ (k * x)
abbrev pub times : ℕ → Frac → Frac
times k x = record { top = k * x.top; bot = x.bot; good = x.good }

unfoldable pub power : ℕ → Frac → Frac
power zero p = record { top = 1; bot = 1; good = le_refl 1 }
power (suc k) p = p ⊠ power k p

pub zero_sum : (m b : ℕ) → sum_top m 0 b ≡ sum_bot m b
unfolding sum_top sum_bot
zero_sum zero b = refl
zero_sum (suc m) b = omega (arith, ap (λ (z : ℕ). z * (b * suc m)) (zero_sum m b), pow-suc 0 m)

zero_sum' : (m a b : ℕ) → sum_top m (0 * a) b ≡ sum_bot m b
zero_sum' m a b = ap (λ (z : ℕ). sum_top m z b) (zero-mul a) ∙ zero_sum m b

pub above_power : (k : ℕ) (x p : Frac) → Above x p → Above (times k x) (power k p)
unfolding power
above_power zero x p h = λ m. omega (arith, zero_sum' m x.top x.bot)
above_power (suc k) x p h =
    above_arg (times (suc k) x) (x ⊞ times k x) (p ⊠ power k p) (omega arith) (above_mul x (times k x) p (power k p) h (above_power k x p h))

pub below_power : (k : ℕ) (x p : Frac) → Below x p → Below (times k x) (power k p)
unfolding power
below_power zero x p h = (0, omega (arith, zero_sum' 0 x.top x.bot))
below_power (suc k) x p h =
    below_arg (x ⊞ times k x) (times (suc k) x) (p ⊠ power k p) (omega arith) (below_mul x (times k x) p (power k p) h (below_power k x p h))
