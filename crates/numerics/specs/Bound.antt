-- `Bound e a p` says that e ^ a is p to e roundings, for fractions a and p: every partial sum of the series at a is at most p * rho e, and some partial sum is at least p / rho e.
-- Bounds multiply, divide, and bear a small error in a (`bound_mul`, `bound_div`, `bound_near`). Assumes nothing.
use Rattle.std.specs.Prelude.{◌≡◌, ℕ, ◌+◌, ◌-◌, ◌*◌, ◌^◌, ◌≤◌, ◌<◌}
use native.Mathlib.Nat.{le_refl, le_of_eq, mul-pos, mul-le-mul_right, mul-le-mul_left, one-le-pow}
use Rattle.std.proofs.Common.{arith, pow-add}
use Rattle.std.proofs.Math.Dec.{lit≤}
use Rattle.numerics.specs.Frac.{Frac, ◌⊑◌, ◌⊞◌, ◌⊠◌, nat, ⊑_refl, ⊑_trans, big, small, small_pos, big_pos, Close}
use Rattle.numerics.specs.Series.{S, Above, Below, above_more, below_less, above_arg, below_arg}
use Rattle.numerics.specs.Law.{mono-⊠, above_mul, below_mul, above_div, below_div, over}
use Rattle.numerics.specs.Tail.{rho, rho⁻, tiny_above}

pub record Bound (e : ℕ) (a p : Frac) : Type 0 where
  pub above : Above a (p ⊠ rho e)
  pub below : Below a (p ⊠ rho⁻ e)

-- ---- e ^ (a + b)
regroup : (p q b b' P Q s s' : ℕ) → p * b * (q * b') * (P * Q * (s * s')) ≤ p * q * (b * b') * (P * s * (Q * s'))
regroup p q b b' P Q s s' = le_of_eq (omega arith)

pub bound_mul : (i j : ℕ) (a b p q : Frac) → Bound i a p → Bound j b q → Bound (i + j) (a ⊞ b) (p ⊠ q)
bound_mul i j a b p q x y = record {
  above = above_more (a ⊞ b) (p ⊠ rho i ⊠ (q ⊠ rho j)) (p ⊠ q ⊠ rho (i + j))
      (rw (pow-add big i j, pow-add small i j) (regroup p.top q.top (big ^ i) (big ^ j) p.bot q.bot (small ^ i) (small ^ j)))
      (above_mul a b (p ⊠ rho i) (q ⊠ rho j) x.above y.above);
  below = below_less (a ⊞ b) (p ⊠ rho⁻ i ⊠ (q ⊠ rho⁻ j)) (p ⊠ q ⊠ rho⁻ (i + j))
      (rw (pow-add big i j, pow-add small i j) (back p.top q.top (small ^ i) (small ^ j) p.bot q.bot (big ^ i) (big ^ j)))
      (below_mul a b (p ⊠ rho⁻ i) (q ⊠ rho⁻ j) x.below y.below);
}
  where
    back : (p q b b' P Q s s' : ℕ) → p * q * (b * b') * (P * s * (Q * s')) ≤ p * b * (q * b') * (P * Q * (s * s'))
    back p q b b' P Q s s' = le_of_eq (omega arith)

-- ---- e ^ a from e ^ (a + b) and e ^ b
scaled_pos : (t s e : ℕ) → 0 < t → 0 < s → 0 < t * s ^ e
scaled_pos t s e T S = mul-pos T (one-le-pow e s S)

pub bound_div : (i j : ℕ) (a b p q : Frac) (Q : 0 < q.top) → Bound i (a ⊞ b) p → Bound j b q → Bound (i + j) a (over p q Q)
bound_div i j a b p q Q x y = record {
  above = above_more a (over (p ⊠ rho i) (q ⊠ rho⁻ j) (scaled_pos q.top small j Q small_pos)) (over p q Q ⊠ rho (i + j))
      (rw (pow-add big i j, pow-add small i j) (up p.top p.bot q.top q.bot (big ^ i) (big ^ j) (small ^ i) (small ^ j)))
      (above_div a b (p ⊠ rho i) (q ⊠ rho⁻ j) (scaled_pos q.top small j Q small_pos) x.above y.below);
  below = below_less a (over (p ⊠ rho⁻ i) (q ⊠ rho j) (scaled_pos q.top big j Q big_pos)) (over p q Q ⊠ rho⁻ (i + j))
      (rw (pow-add big i j, pow-add small i j) (down p.top p.bot q.top q.bot (big ^ i) (big ^ j) (small ^ i) (small ^ j)))
      (below_div a b (p ⊠ rho⁻ i) (q ⊠ rho j) (scaled_pos q.top big j Q big_pos) x.below y.above);
}
  where
    up : (p P q Q b b' s s' : ℕ) → p * b * (Q * b') * (q * P * (s * s')) ≤ p * Q * (b * b') * (q * s' * (P * s))
    up p P q Q b b' s s' = le_of_eq (omega arith)

    down : (p P q Q b b' s s' : ℕ) → p * Q * (s * s') * (q * b' * (P * b)) ≤ p * s * (Q * s') * (q * P * (b * b'))
    down p P q Q b b' s s' = le_of_eq (omega arith)

-- ---- more roundings
pub bound_weaken : (i j : ℕ) (a p : Frac) → i ≤ j → Bound i a p → Bound j a p
bound_weaken i j a p h x = record {
  above = above_more a (p ⊠ rho i) (p ⊠ rho j) (mono-⊠ p p (rho i) (rho j) (⊑_refl p) (rho_mono i j h)) x.above;
  below = below_less a (p ⊠ rho⁻ i) (p ⊠ rho⁻ j) (mono-⊠ p p (rho⁻ j) (rho⁻ i) (⊑_refl p) (down i j (rho_mono i j h))) x.below;
}
  where
    rho_mono : (i j : ℕ) → i ≤ j → rho i ⊑ rho j
    rho_mono i j h = go (j - i) (native.Mathlib.Nat.add-sub_of_le h)
      where
        grow : (x y c d : ℕ) → d ≤ c → x * (y * d) ≤ x * c * y
        grow x y c d h = omega (arith, mul-le-mul_left (x * y) h)

        go : (d : ℕ) → i + d ≡ j → big ^ i * small ^ j ≤ big ^ j * small ^ i
        go d e = rw (← e, pow-add big i d, pow-add small i d) (grow (big ^ i) (small ^ i) (big ^ d) (small ^ d) (native.Mathlib.Nat.pow-le-pow_left Rattle.numerics.specs.Frac.small_le d))

    down : (i j : ℕ) → rho i ⊑ rho j → rho⁻ j ⊑ rho⁻ i
    down i j h = omega arith

-- ---- a close to b, by 4 / (2 ^ 53 - 1) at most
abbrev pub off : Frac
off = record { top = 4; bot = small; good = small_pos }

abbrev spare : Frac
spare = record { top = small + 2 * 4; bot = small; good = small_pos }

off_above : Above off spare
off_above = tiny_above off four
  where
    four : 4 ≤ small
    four = unfold small in lit≤ tt

spare_rho : spare ⊑ rho 9
unfolding small big
spare_rho = lit≤ tt

off_bound : Bound 9 off (nat 1)
off_bound = record {
  above = above_more off spare (nat 1 ⊠ rho 9) (⊑_trans spare (rho 9) (nat 1 ⊠ rho 9) spare_rho (omega arith)) off_above;
  below = (0, one_below);
}
  where
    one_below : nat 1 ⊠ rho⁻ 9 ⊑ S 0 off
    one_below = unfold Rattle.numerics.specs.Series.sum_top Rattle.numerics.specs.Series.sum_bot in unfold small big in lit≤ tt

pub bound_near : (e : ℕ) (a b p : Frac) → a ⊑ b ⊞ off → b ⊑ a ⊞ off → Bound e b p → Bound (e + 9) a p
bound_near e a b p h k x = record {
  above = above_more a (p ⊠ nat 1 ⊠ rho (e + 9)) (p ⊠ rho (e + 9)) (unit p (rho (e + 9))) (above_arg a (b ⊞ off) (p ⊠ nat 1 ⊠ rho (e + 9)) h (bound_mul e 9 b off p (nat 1) x off_bound).above);
  below = below_less a (over p (nat 1) (le_refl 1) ⊠ rho⁻ (e + 9)) (p ⊠ rho⁻ (e + 9)) (unit' p (rho⁻ (e + 9)))
      (below_of e a p (below_arg b (a ⊞ off) (p ⊠ rho⁻ e) k x.below));
}
  where
    unit : (p r : Frac) → p ⊠ nat 1 ⊠ r ⊑ p ⊠ r
    unit p r = le_of_eq (omega arith)

    unit' : (p r : Frac) → p ⊠ r ⊑ over p (nat 1) (le_refl 1) ⊠ r
    unit' p r = le_of_eq (omega arith)

    below_of : (e : ℕ) (a p : Frac) → Below (a ⊞ off) (p ⊠ rho⁻ e) → Below a (over p (nat 1) (le_refl 1) ⊠ rho⁻ (e + 9))
    below_of e a p h =
        below_less a (over (p ⊠ rho⁻ e) (nat 1 ⊠ rho 9) (scaled_pos 1 big 9 (le_refl 1) big_pos)) (over p (nat 1) (le_refl 1) ⊠ rho⁻ (e + 9))
        (rw (pow-add big e 9, pow-add small e 9) (down p.top p.bot (big ^ e) (big ^ 9) (small ^ e) (small ^ 9)))
        (below_div a off (p ⊠ rho⁻ e) (nat 1 ⊠ rho 9) (scaled_pos 1 big 9 (le_refl 1) big_pos) h off_bound.above)
      where
        down : (p P b b' s s' : ℕ) → p * 1 * (s * s') * (1 * b' * (P * b)) ≤ p * s * (1 * s') * (1 * P * (b * b'))
        down p P b b' s s' = le_of_eq (omega arith)

-- ---- equal, or within some roundings of it
pub bound_close : (i j : ℕ) (a p q : Frac) → Close i q p → Bound j a p → Bound (i + j) a q
bound_close i j a p q c x = record {
  above = above_more a (p ⊠ rho j) (q ⊠ rho (i + j)) (rw (pow-add big i j, pow-add small i j) (up q p (big ^ i) (small ^ i) (big ^ j) (small ^ j) c.ge)) x.above;
  below = below_less a (p ⊠ rho⁻ j) (q ⊠ rho⁻ (i + j)) (rw (pow-add big i j, pow-add small i j) (down q p (big ^ i) (small ^ i) (big ^ j) (small ^ j) c.le)) x.below;
}
  where
    up : (v q : Frac) (b s b' s' : ℕ) → q.top * v.bot * s ≤ v.top * q.bot * b → q.top * b' * (v.bot * (s * s')) ≤ v.top * (b * b') * (q.bot * s')
    up v q b s b' s' h = omega (arith, mul-le-mul_right (b' * s') h)

    down : (v q : Frac) (b s b' s' : ℕ) → v.top * q.bot * s ≤ q.top * v.bot * b → v.top * (s * s') * (q.bot * b') ≤ q.top * s' * (v.bot * (b * b'))
    down v q b s b' s' h = omega (arith, mul-le-mul_right (s' * b') h)

pub bound_arg : (e : ℕ) (a b p : Frac) → a ⊑ b → b ⊑ a → Bound e a p → Bound e b p
bound_arg e a b p h k x = record { above = above_arg b a (p ⊠ rho e) k x.above; below = below_arg a b (p ⊠ rho⁻ e) h x.below }
