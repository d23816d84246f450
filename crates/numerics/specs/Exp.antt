-- `Le u q v` says that e ^ u ≤ q * e ^ v, for u, v and q that are not negative: each partial sum on the left is below q times some partial sum on the right.
-- An exponent of either sign is u - v, so no case is made of signs. From the reduction u + j * L = v + i * L + r up to δ, with e ^ L near 2, come bounds on
-- e ^ (u - v) by 2 ^ i / 2 ^ j and bounds on e ^ r (`exp_above`, `exp_below`). Assumes nothing.
use Rattle.std.specs.Prelude.{ℕ, zero, suc, ◌+◌, ◌*◌, ◌≤◌, ◌<◌}
use Rattle.std.proofs.Common.{ap, le_refl, mul-pos, mul-le-mul_right, arith}
use Rattle.numerics.specs.Frac.{Frac, ◌⊑◌, ◌⊞◌, ◌⊠◌, nat, ⊑_refl, ⊑_trans}
use Rattle.numerics.specs.Series.{sum_top, sum_bot, S, Above, Below, S-arg}
use Rattle.numerics.specs.Law.{mono-⊠, law_lower, law_upper, times, power, zero_sum, above_power, below_power}

abbrev pub Le : Frac → Frac → Frac → Type 0
Le u q v = (m : ℕ) → (n : ℕ) × (S m u ⊑ q ⊠ S n v)

abbrev pub none : Frac
none = nat 0

abbrev pub one : Frac
one = nat 1

abbrev pub inv : (q : Frac) → 0 < q.top → Frac
inv q Q = record { top = q.bot; bot = q.top; good = Q }

pub LE-refl : (u : Frac) → Le u one u
LE-refl u m = (m, omega arith)

pub LE-trans : (u p v q w : Frac) → Le u p v → Le v q w → Le u (p ⊠ q) w
LE-trans u p v q w h k m =
    let a = h m in
    let b = k a.0 in
    (b.0, ⊑_trans (S m u) (p ⊠ S a.0 v) (p ⊠ q ⊠ S b.0 w) a.1 (join p q (S a.0 v) (S b.0 w) b.1))
  where
    join : (p q s t : Frac) → s ⊑ q ⊠ t → p ⊠ s ⊑ p ⊠ q ⊠ t
    join p q s t h = omega (arith, mul-le-mul_right (p.top * p.bot) h)

pub LE-mul : (u p v u' q v' : Frac) → Le u p v → Le u' q v' → Le (u ⊞ u') (p ⊠ q) (v ⊞ v')
LE-mul u p v u' q v' h k m =
    let a = h m in
    let b = k m in
    let s = S a.0 v in
    let t = S b.0 v' in (
      b.0 + a.0,
      ⊑_trans (S m (u ⊞ u')) (S m u ⊠ S m u') (p ⊠ q ⊠ S (b.0 + a.0) (v ⊞ v')) (law_lower m u u')
          (⊑_trans (S m u ⊠ S m u') ((p ⊠ s) ⊠ (q ⊠ t)) (p ⊠ q ⊠ S (b.0 + a.0) (v ⊞ v')) (mono-⊠ (S m u) (p ⊠ s) (S m u') (q ⊠ t) a.1 b.1)
          (turn p q s t (S (b.0 + a.0) (v ⊞ v')) (law_upper a.0 b.0 v v'))),
    )
  where
    turn : (p q s t w : Frac) → s ⊠ t ⊑ w → (p ⊠ s) ⊠ (q ⊠ t) ⊑ p ⊠ q ⊠ w
    turn p q s t w h = omega (arith, mul-le-mul_right (p.top * p.bot * (q.top * q.bot)) h)

pub LE-arg : (u u' q v v' : Frac) → u' ⊑ u → v ⊑ v' → Le u q v → Le u' q v'
LE-arg u u' q v v' h k l m =
    let a = l m in (
      a.0,
      ⊑_trans (S m u') (S m u) (q ⊠ S a.0 v') (S-arg m u' u h)
          (⊑_trans (S m u) (q ⊠ S a.0 v) (q ⊠ S a.0 v') a.1 (mono-⊠ q q (S a.0 v) (S a.0 v') (⊑_refl q) (S-arg a.0 v v' k))),
    )

pub LE-more : (u p q v : Frac) → p ⊑ q → Le u p v → Le u q v
LE-more u p q v h l m =
    let a = l m in
    (a.0, ⊑_trans (S m u) (p ⊠ S a.0 v) (q ⊠ S a.0 v) a.1 (mono-⊠ p q (S a.0 v) (S a.0 v) h (⊑_refl (S a.0 v))))

-- ---- between these and bounds of e ^ x itself
pub LE-of_above : (x q : Frac) → Above x q → Le x q none
unfolding sum_top sum_bot
LE-of_above x q h m = (0, omega (arith, h m))

pub above_of_LE : (x q : Frac) → Le x q none → Above x q
above_of_LE x q h m =
    let a = h m in
    ⊑_trans (S m x) (q ⊠ S a.0 none) q a.1 (unit a.0)
  where
    unit : (n : ℕ) → q ⊠ S n none ⊑ q
    unit n = omega (arith, ap (λ (z : ℕ). q.top * z * q.bot) (zero_sum n 1))

pub LE-of_below : (x q : Frac) (Q : 0 < q.top) → Below x q → Le none (inv q Q) x
LE-of_below x q Q h m = (h.0, ⊑_trans (S m none) one (inv q Q ⊠ S h.0 x) (omega (arith, zero_sum m 1)) (omega (arith, h.1)))

pub below_of_LE : (x q : Frac) (Q : 0 < q.top) → Le none (inv q Q) x → Below x q
unfolding sum_top sum_bot
below_of_LE x q Q h = let a = h 0 in (a.0, omega (arith, a.1))

-- ---- the reduction
pub power_pos : (k : ℕ) (p : Frac) → 0 < p.top → 0 < (power k p).top
unfolding power
power_pos zero p P = le_refl 1
power_pos (suc k) p P = mul-pos P (power_pos k p P)

plus_none : (x : Frac) → (x ⊑ x ⊞ none) × (x ⊞ none ⊑ x)
plus_none x = omega arith

module _ (L lo hi : Frac) (lo-pos : 0 < lo.top) (below : Below L lo) (above : Above L hi) (i j : ℕ) (u v r δ E : Frac) (small : Above δ E) where
  -- e ^ u ≤ q * e ^ v
  pub exp_above : (R q : Frac) → Above r R → u ⊞ times j L ⊑ v ⊞ times i L ⊞ r ⊞ δ → power i hi ⊠ R ⊠ E ⊑ q ⊠ power j lo → Le u q v
  exp_above R q hr eq fits =
      let P = power_pos j lo lo-pos in
      let w = v ⊞ times i L ⊞ r ⊞ δ in
      let a : Le u (one ⊠ inv (power j lo) P) w =
      LE-arg (u ⊞ none) u (one ⊠ inv (power j lo) P) (u ⊞ times j L) w (plus_none u).0 eq
      (LE-mul u one u none (inv (power j lo) P) (times j L) (LE-refl u) (LE-of_below (times j L) (power j lo) P (below_power j L lo below))) in
      let b : Le w (one ⊠ power i hi ⊠ R ⊠ E) (v ⊞ none ⊞ none ⊞ none) =
      LE-mul (v ⊞ times i L ⊞ r) (one ⊠ power i hi ⊠ R) (v ⊞ none ⊞ none) δ E none
      (LE-mul (v ⊞ times i L) (one ⊠ power i hi) (v ⊞ none) r R none
      (LE-mul v one v (times i L) (power i hi) none (LE-refl v) (LE-of_above (times i L) (power i hi) (above_power i L hi above))) (LE-of_above r R hr))
      (LE-of_above δ E small) in
      let c : Le w (one ⊠ power i hi ⊠ R ⊠ E) v = LE-arg w w (one ⊠ power i hi ⊠ R ⊠ E) (v ⊞ none ⊞ none ⊞ none) v (⊑_refl w) (omega arith) b in
      LE-more u (one ⊠ inv (power j lo) P ⊠ (one ⊠ power i hi ⊠ R ⊠ E)) q v (clear (power i hi) R E (power j lo) q fits) (LE-trans u (one ⊠ inv (power j lo) P) w (one ⊠ power i hi ⊠ R ⊠ E) v a c)
    where
      clear : (h R E l q : Frac) → h ⊠ R ⊠ E ⊑ q ⊠ l → 1 * l.bot * (1 * h.top * R.top * E.top) * q.bot ≤ q.top * (1 * l.top * (1 * h.bot * R.bot * E.bot))
      clear h R E l q f = omega arith

  -- e ^ v ≤ q * e ^ u
  pub exp_below : (R q : Frac) → 0 < R.top → Below r R → v ⊞ times i L ⊞ r ⊑ u ⊞ times j L ⊞ δ → power j hi ⊠ E ⊑ q ⊠ (power i lo ⊠ R) → Le v q u
  exp_below R q R0 hr eq fits =
      let P = power_pos i lo lo-pos in
      let w = u ⊞ times j L ⊞ δ in
      let p = one ⊠ inv (power i lo) P ⊠ inv R R0 in
      let a : Le v p w =
      LE-arg (v ⊞ none ⊞ none) v p (v ⊞ times i L ⊞ r) w (omega arith) eq
      (LE-mul (v ⊞ none) (one ⊠ inv (power i lo) P) (v ⊞ times i L) none (inv R R0) r
      (LE-mul v one v none (inv (power i lo) P) (times i L) (LE-refl v) (LE-of_below (times i L) (power i lo) P (below_power i L lo below))) (LE-of_below r R R0 hr)) in
      let b : Le w (one ⊠ power j hi ⊠ E) (u ⊞ none ⊞ none) =
      LE-mul (u ⊞ times j L) (one ⊠ power j hi) (u ⊞ none) δ E none
      (LE-mul u one u (times j L) (power j hi) none (LE-refl u) (LE-of_above (times j L) (power j hi) (above_power j L hi above))) (LE-of_above δ E small) in
      let c : Le w (one ⊠ power j hi ⊠ E) u = LE-arg w w (one ⊠ power j hi ⊠ E) (u ⊞ none ⊞ none) u (⊑_refl w) (omega arith) b in
      LE-more v (p ⊠ (one ⊠ power j hi ⊠ E)) q u (clear (power j hi) E (power i lo) R q fits) (LE-trans v p w (one ⊠ power j hi ⊠ E) u a c)
    where
      clear : (h E l R q : Frac) → h ⊠ E ⊑ q ⊠ (l ⊠ R) → 1 * l.bot * R.bot * (1 * h.top * E.top) * q.bot ≤ q.top * (1 * l.top * R.top * (1 * h.bot * E.bot))
      clear h E l R q f = omega arith
