-- The power series at -a: with `even` and `odd` the sums of the terms of even and of odd degree at a, even - odd is the partial sum at -a, and it is 1 / e ^ a up to the tail's bound.
-- The coefficients of (even - odd) * (even + odd) are 0 from the first on (`level`), by the rule of a product's derivative. So
-- 1 + odd n * S l ≤ even N * S N and even n * S l ≤ 1 + odd N * S N for N = l + n; in the limit 1 ≤ q * e ^ a for q ≥ even n - odd n + cut n (`reciprocal_above`),
-- and q * e ^ a ≤ 1 for q ≤ even n - odd n - cut n (`reciprocal_below`). Assumes nothing.
use Rattle.std.specs.Prelude.{◌≡◌, refl}
use Rattle.std.proofs.Common.{sym, ap₂, ◌∙◌, subst, arith}
use Rattle.std.proofs.Math.Path.{ap}
use Prim.Native.Nat.{ℕ, zero, suc, ◌+◌, ◌-◌, ◌*◌, ◌^◌, ◌≤◌, ◌<◌}
use native.Mathlib.Nat.{le_refl, le_trans, le_of_suc-le, mul-pos, zero-lt-suc, mul-one, mul-le-mul_right, pow-suc, pow-zero, sub_self, sub-zero, add_comm, add-sub_cancel, add-sub_cancel_left, le-add_left, le-add_right, eq_of_mul-eq-mul_left}
use Rattle.std.proofs.Math.Decide.{le_ind}
use Rattle.numerics.specs.Frac.{Frac, ◌⊑◌, ◌⊞◌, ◌⊠◌, nat, ⊑_refl, ⊑_trans, add_mono, add_cancel}
use Rattle.numerics.specs.Conv.{sum, conv, D, conv_cong, conv_scale, conv_scale', leibniz, triangle_in_square, box_in_triangle}
use Rattle.numerics.specs.Series.{sum_top, sum_bot, sum_bot_pos, S, Above, S-mono, S-below_U}
use Rattle.numerics.specs.Law.{rise, term, one_more, term_rule, rise_split, sum_terms, whole, all, mono-⊠}
use Rattle.numerics.specs.Limit.{cut, Far, far_more, tail_anti, limit}
use Rattle.numerics.specs.Exponential.{powers, sums}

-- ---- the powers of -a by their signs, and the sums of each kind
abbrev pub evens : ℕ → ℕ → ℕ
evens a i = (powers i 0 a).0

abbrev pub odds : ℕ → ℕ → ℕ
odds a i = (powers i 0 a).1

abbrev pub even : ℕ → Frac → Frac
even n a = record { top = (sums n 0 a.top a.bot).0; bot = sum_bot n a.bot; good = sum_bot_pos n a.bot a.good }

abbrev pub odd : ℕ → Frac → Frac
odd n a = record { top = (sums n 0 a.top a.bot).1; bot = sum_bot n a.bot; good = sum_bot_pos n a.bot a.good }

evens_next : (a i : ℕ) → evens a (suc i) ≡ odds a i * a
unfolding powers
evens_next a i = omega arith

odds_next : (a i : ℕ) → odds a (suc i) ≡ evens a i * a
unfolding powers
odds_next a i = omega arith

pub both_powers : (a i : ℕ) → evens a i + odds a i ≡ a ^ i
unfolding powers
both_powers a zero = sym (pow-zero a)
both_powers a (suc i) = rw (pow-suc a i) (omega (arith, ap (λ (z : ℕ). z * a) (both_powers a i)))

both_sums : (n a b : ℕ) → (sums n 0 a b).0 + (sums n 0 a b).1 ≡ sum_top n a b
unfolding sums sum_top
both_sums zero a b = refl
both_sums (suc n) a b = omega (arith, ap (λ (z : ℕ). z * (b * suc n)) (both_sums n a b), both_powers a (suc n))

-- ---- the terms over d ^ N * N!
unfoldable scaled : ℕ → ℕ → (ℕ → ℕ) → ℕ → ℕ
scaled d N w i = w i * rise d (N - i) i

scaled_rule : (d N a : ℕ) (w v : ℕ → ℕ) → ((i : ℕ) → w (suc i) ≡ v i * a) → (i : ℕ) → i < N → d * (suc i * scaled d N w (suc i)) ≡ a * scaled d N v i
unfolding scaled rise
scaled_rule d N a w v e i h = rw (one_more N i h, e i) (omega arith)

scaled_sum : (d N : ℕ) (w s : ℕ → ℕ) → s 0 ≡ w 0 → ((n : ℕ) → s (suc n) ≡ s n * (d * suc n) + w (suc n)) → (n : ℕ) → n ≤ N → sum n (scaled d N w) ≡ s n * rise d (N - n) n
unfolding sum scaled rise
scaled_sum d N w s z e zero h = rw z
scaled_sum d N w s z e (suc n) h =
    let r : sum n (scaled d N w) ≡ s n * (d * suc n * rise d (N - suc n) (suc n)) = scaled_sum d N w s z e n (le_of_suc-le h) ∙ ap (λ (k : ℕ). s n * rise d k n) (one_more N n h) in
    rw (e n) (omega (arith, r))

-- ---- the products with the series of a agree from the first on
module _ (d N a : ℕ) (P : 0 < d) where
  abbrev E : ℕ → ℕ
  E = scaled d N (evens a)

  abbrev O : ℕ → ℕ
  O = scaled d N (odds a)

  abbrev u : ℕ → ℕ
  u = term d N a

  half : (w v : ℕ → ℕ) → ((i : ℕ) → w (suc i) ≡ v i * a) → (k : ℕ) → suc k ≤ N → d * (suc k * conv (suc k) (scaled d N w) u) ≡ a * conv k (scaled d N v) u + a * conv k (scaled d N w) u
  half w v e k h =
      let W = scaled d N w in
      let V' = scaled d N v in
      let l : suc k * conv (suc k) W u ≡ conv k (D W) u + conv k W (D u) = leibniz k W u in
      let x : conv k (λ i. d * D W i) u ≡ conv k (λ i. a * V' i) u = conv_cong k (λ i. d * D W i) (λ i. a * V' i) u u (λ i g. scaled_rule d N a w v e i (le_trans ((native.Mathlib.Nat.suc-le-suc_iff).1 g) h)) (λ i _. refl) in
      let y : conv k W (λ i. d * D u i) ≡ conv k W (λ i. a * u i) = conv_cong k W W (λ i. d * D u i) (λ i. a * u i) (λ i _. refl) (λ i g. term_rule d N a i (le_trans ((native.Mathlib.Nat.suc-le-suc_iff).1 g) h)) in
      let x' : d * conv k (D W) u ≡ a * conv k V' u = sym (conv_scale k d (D W) u) ∙ x ∙ conv_scale k a V' u in
      let y' : d * conv k W (D u) ≡ a * conv k W u = sym (conv_scale' k d W (D u)) ∙ y ∙ conv_scale' k a W u in
      omega (arith, ap (λ (z : ℕ). d * z) l, x', y')

  level : (k : ℕ) → suc k ≤ N → conv (suc k) E u ≡ conv (suc k) O u
  level k h =
      eq_of_mul-eq-mul_left (d * suc k) (mul-pos P (zero-lt-suc k)) (conv (suc k) E u) (conv (suc k) O u)
      (same d (suc k) (conv (suc k) E u) (conv (suc k) O u) (a * conv k O u) (a * conv k E u) (half (evens a) (odds a) (evens_next a) k h) (half (odds a) (evens a) (odds_next a) k h))
    where
      same : (d s x y p q : ℕ) → d * (s * x) ≡ p + q → d * (s * y) ≡ q + p → d * s * x ≡ d * s * y
      same d s x y p q h k = omega arith

  -- K = d ^ N * N!
  abbrev K : ℕ
  K = rise d N 0

  total : (M : ℕ) → M ≤ N → sum M (λ k. conv k E u) ≡ K * K + sum M (λ k. conv k O u)
  unfolding sum conv scaled term powers
  total zero h = rw (pow-zero a, sub-zero N) (omega arith)
  total (suc M) h = omega (arith, total M (le_of_suc-le h), level M h)

-- ---- the two orders between products of sums, over one denominator
abbrev one : Frac
one = nat 1

sums_of : (n N a b : ℕ) → n ≤ N → (sum n (scaled b N (evens a)) ≡ (sums n 0 a b).0 * rise b (N - n) n) × (sum n (scaled b N (odds a)) ≡ (sums n 0 a b).1 * rise b (N - n) n)
unfolding sums powers
sums_of n N a b h = (
  scaled_sum b N (evens a) (λ m. (sums m 0 a b).0) refl (λ m. refl) n h,
  scaled_sum b N (odds a) (λ m. (sums m 0 a b).1) refl (λ m. refl) n h,
)

module _ (l n : ℕ) (x : Frac) where
  abbrev N : ℕ
  N = l + n

  abbrev b : ℕ
  b = x.bot

  split_n : sum_bot N b ≡ sum_bot n b * rise b l n
  split_n = sym (all b N) ∙ rise_split b l n

  split_l : sum_bot N b ≡ sum_bot l b * rise b n l
  split_l = sym (all b N) ∙ ap (λ (z : ℕ). rise b z 0) (add_comm l n) ∙ rise_split b n l

  few : (sum n (scaled b N (evens x.top)) ≡ (sums n 0 x.top b).0 * rise b l n) × (sum n (scaled b N (odds x.top)) ≡ (sums n 0 x.top b).1 * rise b l n)
  few = subst (λ (z : ℕ). (sum n (scaled b N (evens x.top)) ≡ (sums n 0 x.top b).0 * rise b z n) × (sum n (scaled b N (odds x.top)) ≡ (sums n 0 x.top b).1 * rise b z n)) (add-sub_cancel l n) (sums_of n N x.top b (le-add_left n l))

  many : (sum N (scaled b N (evens x.top)) ≡ (sums N 0 x.top b).0) × (sum N (scaled b N (odds x.top)) ≡ (sums N 0 x.top b).1)
  unfolding rise
  many =
      let h = sums_of N N x.top b (le_refl N) in
      let g : (s : ℕ) → s * rise b (N - N) N ≡ s = λ s. ap (λ (z : ℕ). s * rise b z N) (sub_self N) ∙ mul-one s in
      (h.0 ∙ g (sums N 0 x.top b).0, h.1 ∙ g (sums N 0 x.top b).1)

  terms_l : sum l (term b N x.top) ≡ sum_top l x.top b * rise b n l
  terms_l = sum_terms b N x.top l (le-add_right l n) ∙ ap (λ (z : ℕ). sum_top l x.top b * rise b z l) (add-sub_cancel_left l n)

  pub odd_in_even : one ⊞ odd n x ⊠ S l x ⊑ even N x ⊠ S N x
  odd_in_even =
      let a = x.top in
      let E = scaled b N (evens a) in
      let O = scaled b N (odds a) in
      let u = term b N a in
      let h : sum n O * sum l u ≤ sum N (λ k. conv k O u) = box_in_triangle n l O u in
      let g : sum N (λ k. conv k E u) ≤ sum N E * sum N u = triangle_in_square N E u in
      let t : sum N (λ k. conv k E u) ≡ rise b N 0 * rise b N 0 + sum N (λ k. conv k O u) = total b N a x.good N (le_refl N) in
      let k : rise b N 0 * rise b N 0 + sum n O * sum l u ≤ sum N E * sum N u = omega arith in
      clear (sums n 0 a b).1 (sum_top l a b) (sum_bot n b) (sum_bot l b) (rise b l n) (rise b n l) (sum_bot N b) (sums N 0 a b).0 (sum_top N a b) split_n split_l
      (rw (few.1, terms_l, many.0, whole b a N, all b N) at k)
    where
      clear : (o s Bn Bl Rn Rl K e t : ℕ) → K ≡ Bn * Rn → K ≡ Bl * Rl → K * K + o * Rn * (s * Rl) ≤ e * t → (1 * (Bn * Bl) + o * s * 1) * (K * K) ≤ e * t * (1 * (Bn * Bl))
      clear o s Bn Bl Rn Rl K e t p q h = omega (arith, mul-le-mul_right (Bn * Bl) h, ap (λ (z : ℕ). o * s * z) (ap₂ ◌*◌ p q))

  pub even_in_odd : even n x ⊠ S l x ⊑ one ⊞ odd N x ⊠ S N x
  even_in_odd =
      let a = x.top in
      let E = scaled b N (evens a) in
      let O = scaled b N (odds a) in
      let u = term b N a in
      let h : sum n E * sum l u ≤ sum N (λ k. conv k E u) = box_in_triangle n l E u in
      let g : sum N (λ k. conv k O u) ≤ sum N O * sum N u = triangle_in_square N O u in
      let t : sum N (λ k. conv k E u) ≡ rise b N 0 * rise b N 0 + sum N (λ k. conv k O u) = total b N a x.good N (le_refl N) in
      let k : sum n E * sum l u ≤ rise b N 0 * rise b N 0 + sum N O * sum N u = omega arith in
      clear (sums n 0 a b).0 (sum_top l a b) (sum_bot n b) (sum_bot l b) (rise b l n) (rise b n l) (sum_bot N b) (sums N 0 a b).1 (sum_top N a b) split_n split_l
      (rw (few.0, terms_l, many.1, whole b a N, all b N) at k)
    where
      clear : (o s Bn Bl Rn Rl K e t : ℕ) → K ≡ Bn * Rn → K ≡ Bl * Rl → o * Rn * (s * Rl) ≤ K * K + e * t → o * s * (1 * (K * K)) ≤ (1 * (K * K) + e * t * 1) * (Bn * Bl)
      clear o s Bn Bl Rn Rl K e t p q h = omega (arith, mul-le-mul_right (Bn * Bl) h, ap (λ (z : ℕ). o * s * z) (ap₂ ◌*◌ p q))

-- ---- what the later terms add is at most the tail's bound
both_grow : (n : ℕ) (x : Frac) → (even n x ⊑ even (suc n) x) × (odd n x ⊑ odd (suc n) x)
unfolding sums sum_bot
both_grow n x = (
  more (sums n 0 x.top x.bot).0 (sum_bot n x.bot) (x.bot * suc n) (powers (suc n) 0 x.top).0,
  more (sums n 0 x.top x.bot).1 (sum_bot n x.bot) (x.bot * suc n) (powers (suc n) 0 x.top).1,
)
  where
    more : (E Q k P : ℕ) → E * (Q * k) ≤ (E * k + P) * Q
    more E Q k P = omega arith

both_mono : (m n : ℕ) (x : Frac) → m ≤ n → (even m x ⊑ even n x) × (odd m x ⊑ odd n x)
both_mono m n x h =
    le_ind (λ k. (even m x ⊑ even k x) × (odd m x ⊑ odd k x)) (⊑_refl (even m x), ⊑_refl (odd m x))
    (λ k _ ih. (⊑_trans (even m x) (even k x) (even (suc k) x) ih.0 (both_grow k x).0, ⊑_trans (odd m x) (odd k x) (odd (suc k) x) ih.1 (both_grow k x).1)) n h

both_tail : (n m : ℕ) (x : Frac) → Far n x → n ≤ m → (even m x ⊑ even n x ⊞ cut n x) × (odd m x ⊑ odd n x ⊞ cut n x)
unfolding sum_bot
both_tail n m x h l =
    let a = x.top in
    let b = x.bot in
    let u : sum_top m a b * sum_bot (suc n) b ≤ (sum_top n a b * (b * suc n) + 2 * a ^ suc n) * sum_bot m b = S-below_U n m x h in
    let v : ((sums m 0 a b).0 + (sums m 0 a b).1) * (sum_bot n b * (b * suc n)) ≤ (((sums n 0 a b).0 + (sums n 0 a b).1) * (b * suc n) + 2 * a ^ suc n) * sum_bot m b = rw (both_sums m a b, both_sums n a b) u in
    let g = both_mono n m x l in (
      part (sums m 0 a b).0 (sums m 0 a b).1 (sums n 0 a b).0 (sums n 0 a b).1 (sum_bot n b) (b * suc n) (2 * a ^ suc n) (sum_bot m b) v g.1,
      part (sums m 0 a b).1 (sums m 0 a b).0 (sums n 0 a b).1 (sums n 0 a b).0 (sum_bot n b) (b * suc n) (2 * a ^ suc n) (sum_bot m b) (swap (sums m 0 a b).0 (sums m 0 a b).1 (sums n 0 a b).0 (sums n 0 a b).1 (sum_bot n b) (b * suc n) (2 * a ^ suc n) (sum_bot m b) v) g.0,
    )
  where
    part : (eM oM e o B k t M : ℕ) → (eM + oM) * (B * k) ≤ ((e + o) * k + t) * M → o * M ≤ oM * B → eM * (B * (B * k)) ≤ (e * (B * k) + t * B) * M
    part eM oM e o B k t M h g = omega (arith, mul-le-mul_right B h, mul-le-mul_right (B * k) g)

    swap : (eM oM e o B k t M : ℕ) → (eM + oM) * (B * k) ≤ ((e + o) * k + t) * M → (oM + eM) * (B * k) ≤ ((o + e) * k + t) * M
    swap eM oM e o B k t M h = omega arith

-- ---- the limits
S-tail : (n m : ℕ) (x : Frac) → Far n x → S m x ⊑ S n x ⊞ cut n x
unfolding sum_bot
S-tail n m x h = wide (sum_top m x.top x.bot) (sum_bot m x.bot) (sum_top n x.top x.bot) (sum_bot n x.bot) (x.bot * suc n) (2 * x.top ^ suc n) (S-below_U n m x h)
  where
    wide : (s M e B k t : ℕ) → s * (B * k) ≤ (e * k + t) * M → s * (B * (B * k)) ≤ (e * (B * k) + t * B) * M
    wide s M e B k t h = omega (arith, mul-le-mul_right B h)

spread : (q o t : Frac) → (q ⊞ o) ⊠ t ⊑ q ⊠ t ⊞ o ⊠ t
spread q o t = omega arith

join : (q o s : Frac) → q ⊠ s ⊞ o ⊠ s ⊑ (q ⊞ o) ⊠ s
join q o s = omega arith

gather : (p o s t : Frac) → p ⊞ o ⊠ (s ⊞ t) ⊑ p ⊞ o ⊠ t ⊞ o ⊠ s
gather p o s t = omega arith

assoc : (p q r : Frac) → p ⊞ (q ⊞ r) ⊑ p ⊞ q ⊞ r
assoc p q r = omega arith

-- 1 ≤ q * e ^ a
pub reciprocal_above : (a q B : Frac) (n : ℕ) → Far n a → even n a ⊞ cut n a ⊑ q ⊞ odd n a → Above a B → one ⊑ q ⊠ B
reciprocal_above a q B n h k A = limit a one (q ⊠ B) (odd n a) each
  where
    each : (l : ℕ) → Far l a → one ⊑ q ⊠ B ⊞ odd n a ⊠ cut l a
    each l f =
        let N = l + n in
        let o = odd n a in
        let s = S l a in
        let t = S N a in
        let x : even N a ⊑ q ⊞ o = ⊑_trans (even N a) (even n a ⊞ cut n a) (q ⊞ o) (both_tail n N a h (le-add_left n l)).0 k in
        let y : one ⊞ o ⊠ s ⊑ (q ⊞ o) ⊠ t = ⊑_trans (one ⊞ o ⊠ s) (even N a ⊠ t) ((q ⊞ o) ⊠ t) (odd_in_even l n a) (mono-⊠ (even N a) (q ⊞ o) t t x (⊑_refl t)) in
        let z : q ⊠ t ⊞ o ⊠ t ⊑ q ⊠ B ⊞ o ⊠ (s ⊞ cut l a) = add_mono (q ⊠ t) (q ⊠ B) (o ⊠ t) (o ⊠ (s ⊞ cut l a)) (mono-⊠ q q t B (⊑_refl q) (A N)) (mono-⊠ o o t (s ⊞ cut l a) (⊑_refl o) (S-tail l N a f)) in
        let w : one ⊞ o ⊠ s ⊑ q ⊠ B ⊞ o ⊠ cut l a ⊞ o ⊠ s =
        ⊑_trans (one ⊞ o ⊠ s) ((q ⊞ o) ⊠ t) (q ⊠ B ⊞ o ⊠ cut l a ⊞ o ⊠ s) y
        (⊑_trans ((q ⊞ o) ⊠ t) (q ⊠ t ⊞ o ⊠ t) (q ⊠ B ⊞ o ⊠ cut l a ⊞ o ⊠ s) (spread q o t)
        (⊑_trans (q ⊠ t ⊞ o ⊠ t) (q ⊠ B ⊞ o ⊠ (s ⊞ cut l a)) (q ⊠ B ⊞ o ⊠ cut l a ⊞ o ⊠ s) z (gather (q ⊠ B) o s (cut l a)))) in
        add_cancel one (q ⊠ B ⊞ o ⊠ cut l a) (o ⊠ s) w

-- q * e ^ a ≤ 1
pub reciprocal_below : (a q : Frac) (n : ℕ) → Far n a → q ⊞ odd n a ⊞ cut n a ⊑ even n a → (m : ℕ) → q ⊠ S m a ⊑ one
reciprocal_below a q n h k m = limit a (q ⊠ S m a) one (odd n a ⊞ cut n a) each
  where
    -- for every l from m on; below that m itself serves
    each : (l : ℕ) → Far l a → q ⊠ S m a ⊑ one ⊞ (odd n a ⊞ cut n a) ⊠ cut l a
    each l f =
        let o = odd n a ⊞ cut n a in
        let p = l + m in
        let g : Far p a = far_more l m a f in
        let N = p + n in
        let s = S p a in
        let t = S N a in
        let x : (q ⊞ o) ⊠ s ⊑ one ⊞ odd N a ⊠ t = ⊑_trans ((q ⊞ o) ⊠ s) (even n a ⊠ s) (one ⊞ odd N a ⊠ t) (mono-⊠ (q ⊞ o) (even n a) s s (⊑_trans (q ⊞ o) (q ⊞ odd n a ⊞ cut n a) (even n a) (assoc q (odd n a) (cut n a)) k) (⊑_refl s)) (even_in_odd p n a) in
        let y : odd N a ⊠ t ⊑ o ⊠ (s ⊞ cut p a) = mono-⊠ (odd N a) o t (s ⊞ cut p a) (both_tail n N a h (le-add_left n p)).1 (S-tail p N a g) in
        let z : q ⊠ s ⊞ o ⊠ s ⊑ one ⊞ o ⊠ cut p a ⊞ o ⊠ s =
        ⊑_trans (q ⊠ s ⊞ o ⊠ s) ((q ⊞ o) ⊠ s) (one ⊞ o ⊠ cut p a ⊞ o ⊠ s) (join q o s)
        (⊑_trans ((q ⊞ o) ⊠ s) (one ⊞ odd N a ⊠ t) (one ⊞ o ⊠ cut p a ⊞ o ⊠ s) x
        (⊑_trans (one ⊞ odd N a ⊠ t) (one ⊞ o ⊠ (s ⊞ cut p a)) (one ⊞ o ⊠ cut p a ⊞ o ⊠ s) (add_mono one one (odd N a ⊠ t) (o ⊠ (s ⊞ cut p a)) (⊑_refl one) y) (gather one o s (cut p a)))) in
        let w : q ⊠ s ⊑ one ⊞ o ⊠ cut p a = add_cancel (q ⊠ s) (one ⊞ o ⊠ cut p a) (o ⊠ s) z in
        ⊑_trans (q ⊠ S m a) (q ⊠ s) (one ⊞ o ⊠ cut l a) (mono-⊠ q q (S m a) s (⊑_refl q) (S-mono m p a (le-add_left m l)))
        (⊑_trans (q ⊠ s) (one ⊞ o ⊠ cut p a) (one ⊞ o ⊠ cut l a) w (add_mono one one (o ⊠ cut p a) (o ⊠ cut l a) (⊑_refl one) (mono-⊠ o o (cut p a) (cut l a) (⊑_refl o) (tail_anti l m a f))))
