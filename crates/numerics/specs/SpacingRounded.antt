-- Sums, differences and parts of doubles as whole numbers of the smallest double, each rounded once. Assumes nothing.
use Rattle.std.specs.Prelude.{◌≡◌, ℕ, ◌+◌, ◌-◌, ◌*◌, ◌^◌, ◌≤◌, ◌<◌, T, Float}
use Rattle.std.proofs.Common.{ap, le_trans, mul-pos, mul-le-mul_right, mul-le-mul_left, le_of_mul-le-mul_right, arith, lit≤}
use Rattle.std.specs.Float.{binary64}
use Rattle.std.specs.Float.Ieee.{add, sub, mul}
use Rattle.std.specs.Float.Ieee.Fits.{add-fits, sub-fits, mul-fits}
use Rattle.std.specs.Float.Ieee.Positive.{num, den, positive}
use Rattle.numerics.specs.Frac.{Frac, ◌⊞◌, ◌⊠◌, big, small}
use Rattle.numerics.specs.Round.{val, Rel, Normal}
use Rattle.numerics.specs.Rel.{less, add_rel, mul_rel, sub_rel}
use Rattle.numerics.specs.Common.{On, le_on, on_add, on_less, on_under}
use Rattle.numerics.specs.Spacing.{unit, unit_pos, count, counted, Good}

-- one rounding apart
pub record OneRounding (a b : ℕ) : Type 0 where
  pub above : a * small ≤ b * big
  pub below : b * small ≤ a * big

-- a millionth apart at most
pub rough : (a b : ℕ) → a * small ≤ b * big → a * 999999 ≤ b * 1000000
unfolding small big
rough a b h = omega arith

-- ---- a fraction of n parts in Q is in the normal range
normal_by : (Q q d n K : ℕ) → 0 < Q → q * Q ≡ n * d → Q ≤ n * K → n ≤ Q * K → (d ≤ q * K) × (q ≤ d * K)
normal_by Q q d n K P e l m = (
  le_of_mul-le-mul_right {k = Q} (omega (arith, ap (λ (z : ℕ). z * K) e, mul-le-mul_right d l)) P,
  le_of_mul-le-mul_right {k = Q} (omega (arith, e, mul-le-mul_right d m)) P,
)

pub normal_on : (Q : ℕ) (q : Frac) (n : ℕ) → 0 < Q → On Q q n → Q ≤ n * 2 ^ 200 → n ≤ Q * 2 ^ 200 → Normal q
normal_on Q q n P o l m =
    let b = normal_by Q q.top q.bot n (2 ^ 200) P o l m in
    record { least = le_trans b.0 (mul-le-mul_left q.top (lit≤ tt)); most = le_trans b.1 (mul-le-mul_left q.bot (lit≤ tt)) }

-- a rounded fraction of n parts in Q, itself k parts in Q
pub near_on : (Q : ℕ) (v : Float) (q : Frac) (k n : ℕ) → On Q (val v) k → On Q q n → Rel 1 v q → OneRounding k n
near_on Q v q k n a b r = record { above = on_under Q (val v) q k n a b r.near.le; below = on_under Q q (val v) n k b a r.near.ge }

-- ---- a bracket within the range: 2 ^ -10 at least and 2 ^ 15 at most
pub record Ranged (lo hi : Float) : Type 0 where
  pub low : Good lo
  pub high : Good hi
  pub rises : count lo < count hi
  pub least : unit ≤ count lo * 2 ^ 10
  pub most : count hi ≤ unit * 2 ^ 15

-- a sum of doubles
module _ (x y : Float) (g : Good x) (h : Good y) (l : unit ≤ (count x + count y) * 2 ^ 200) (m : count x + count y ≤ unit * 2 ^ 200) where
  sum_on : On unit (val x ⊞ val y) (count x + count y)
  sum_on = on_add unit (val x) (val y) (count x) (count y) (counted x g.above g.held) (counted y h.above h.held)

  sum_rel : Rel 1 (add binary64 x y) (val x ⊞ val y)
  sum_rel = add_rel x y g.above h.above (normal_on unit (val x ⊞ val y) (count x + count y) unit_pos sum_on l m)

  pub sum_good : Good (add binary64 x y)
  sum_good = record { above = sum_rel.pos; held = add-fits binary64 x y }

  pub sum_near : OneRounding (count (add binary64 x y)) (count x + count y)
  sum_near = near_on unit (add binary64 x y) (val x ⊞ val y) (count (add binary64 x y)) (count x + count y) (counted (add binary64 x y) sum_good.above sum_good.held) sum_on sum_rel

-- a difference of doubles
module _ (x y : Float) (g : Good x) (h : Good y) (o : count y ≤ count x) (l : unit ≤ (count x - count y) * 2 ^ 200) (m : count x - count y ≤ unit * 2 ^ 200) where
  less_on : On unit (less (val x) (val y)) (count x - count y)
  less_on = on_less unit (val x) (val y) (count x) (count y) (counted x g.above g.held) (counted y h.above h.held)

  less_rel : Rel 1 (sub binary64 x y) (less (val x) (val y))
  less_rel =
      sub_rel x y g.above h.above
      (le_on unit (val y) (val x) (count y) (count x) unit_pos (counted y h.above h.held) (counted x g.above g.held) o)
      (normal_on unit (less (val x) (val y)) (count x - count y) unit_pos less_on l m)

  pub less_good : Good (sub binary64 x y)
  less_good = record { above = less_rel.pos; held = sub-fits binary64 x y }

  pub less_near : OneRounding (count (sub binary64 x y)) (count x - count y)
  less_near = near_on unit (sub binary64 x y) (less (val x) (val y)) (count (sub binary64 x y)) (count x - count y) (counted (sub binary64 x y) less_good.above less_good.held) less_on less_rel

-- n / D of a double, for a constant n / D
module _ (c x : Float) (n D : ℕ) (p : T (positive c)) (cn : num c ≡ n) (cd : den c ≡ D) (d : 0 < D) (g : Good x) (l : D * unit ≤ n * count x * 2 ^ 200) (m : n * count x ≤ D * unit * 2 ^ 200) where
  part_on : On (D * unit) (val c ⊠ val x) (n * count x)
  part_on = rw (cn, cd) (regroup (num x) (den x) (count x) unit (counted x g.above g.held))
    where
      regroup : (a b k u : ℕ) → a * u ≡ k * b → n * a * (D * u) ≡ n * k * (D * b)
      regroup a b k u e = omega (arith, ap (λ (z : ℕ). n * D * z) e)

  part_rel : Rel 1 (mul binary64 c x) (val c ⊠ val x)
  part_rel = mul_rel c x p g.above (normal_on (D * unit) (val c ⊠ val x) (n * count x) (mul-pos d unit_pos) part_on l m)

  pub part_good : Good (mul binary64 c x)
  part_good = record { above = part_rel.pos; held = mul-fits binary64 c x }

  pub part_near : OneRounding (D * count (mul binary64 c x)) (n * count x)
  part_near =
      let y = mul binary64 c x in
      near_on (D * unit) y (val c ⊠ val x) (D * count y) (n * count x) (regroup (num y) (den y) (count y) unit (counted y part_good.above part_good.held)) part_on part_rel
    where
      regroup : (a b k u : ℕ) → a * u ≡ k * b → a * (D * u) ≡ D * k * b
      regroup a b k u e = omega (arith, ap (λ (z : ℕ). D * z) e)
