-- The operators of binary64 on values above zero, as one rounding of the exact fraction (`add_is`, `mul_is`, `div_is`, `sub_is`),
-- and how the count of roundings goes through them (`rel_add`, `rel_mul`, `rel-div`). Assumes nothing.
use Rattle.std.specs.Prelude.{◌≡◌, ℕ, ◌+◌, ◌-◌, ◌*◌, ◌^◌, ◌≤◌, ◌<◌, false, T, Float}
use native.Mathlib.Nat.{mul-pos, mul-le-mul_right, mul-le-mul_left, le_of_mul-le-mul_right}
use Rattle.std.proofs.Common.{arith, lit≤}
use Rattle.std.specs.Float.{Format, binary64}
use Rattle.std.specs.Float.Ieee.{round, add, sub, mul, div}
use Rattle.std.specs.Float.Ieee.Positive.{num, den, positive, positive-finite}
use Rattle.numerics.specs.Frac.{Frac, ◌⊑◌, ◌⊞◌, ◌⊠◌, big, small, Under, Close, under_weaken, close_trans, close_weaken, close_mul, close_add, close_refl}
use Rattle.numerics.specs.Round.{val, Rel, Normal, round_rel}
use Rattle.numerics.specs.Sign.{negative, nonneg_positive, no_sign}
use Rattle.numerics.specs.Rounding.{add_upright, mul_upright, div_upright, sub_upright}
pub use Rattle.numerics.specs.Frac.{over, less}
pub use Rattle.numerics.specs.Round.{num_pos}

-- ---- each operator is one rounding: `Rounding`, where neither operand has a sign
plain : (x : Float) → T (positive x) → negative x ≡ false
plain x p = no_sign x (nonneg_positive x p)

pub add_is : (f : Format) (x y : Float) → T (positive x) → T (positive y) → add f x y ≡ round f false (num x * den y + num y * den x) (den x * den y)
add_is f x y p q = add_upright f x y (positive-finite x p) (positive-finite y q) (plain x p) (plain y q)

pub mul_is : (f : Format) (x y : Float) → T (positive x) → T (positive y) → mul f x y ≡ round f false (num x * num y) (den x * den y)
mul_is f x y p q = mul_upright f x y (positive-finite x p) (positive-finite y q) (plain x p) (plain y q)

pub div_is : (f : Format) (x y : Float) → T (positive x) → T (positive y) → div f x y ≡ round f false (num x * den y) (num y * den x)
div_is f x y p q = div_upright f x y (positive-finite x p) (positive-finite y q) (plain x p) (plain y q) (num_pos y q)

pub sub_is : (f : Format) (x y : Float) → T (positive x) → T (positive y) → num y * den x ≤ num x * den y → sub f x y ≡ round f false (num x * den y - num y * den x) (den x * den y)
sub_is f x y p q h = sub_upright f x y (positive-finite x p) (positive-finite y q) (plain x p) (plain y q) h

-- ---- one operation on exact operands
pub add_rel : (x y : Float) → T (positive x) → T (positive y) → Normal (val x ⊞ val y) → Rel 1 (add binary64 x y) (val x ⊞ val y)
add_rel x y p q n = rw (add_is binary64 x y p q) (round_rel (val x ⊞ val y) n)

pub mul_rel : (x y : Float) → T (positive x) → T (positive y) → Normal (val x ⊠ val y) → Rel 1 (mul binary64 x y) (val x ⊠ val y)
mul_rel x y p q n = rw (mul_is binary64 x y p q) (round_rel (val x ⊠ val y) n)

pub div_rel : (x y : Float) → T (positive x) → (q : T (positive y)) → Normal (over (val x) (val y) (num_pos y q)) → Rel 1 (div binary64 x y) (over (val x) (val y) (num_pos y q))
div_rel x y p q n = rw (div_is binary64 x y p q) (round_rel (over (val x) (val y) (num_pos y q)) n)

pub sub_rel : (x y : Float) → T (positive x) → T (positive y) → val y ⊑ val x → Normal (less (val x) (val y)) → Rel 1 (sub binary64 x y) (less (val x) (val y))
sub_rel x y p q h n = rw (sub_is binary64 x y p q h) (round_rel (less (val x) (val y)) n)

-- ---- counts through the operations
pub rel_exact : (x : Float) → T (positive x) → Rel 0 x (val x)
rel_exact x p = record { pos = p; near = close_refl (val x) }

pub rel_weaken : (i j : ℕ) (x : Float) (p : Frac) → i ≤ j → Rel i x p → Rel j x p
rel_weaken i j x p h r = record { pos = r.pos; near = close_weaken i j (val x) p h r.near }

-- x is close to p, and p to q
pub rel_trans : (i j : ℕ) (x : Float) (p q : Frac) → Rel i x p → Close j p q → Rel (i + j) x q
rel_trans i j x p q r c = record { pos = r.pos; near = close_trans i j (val x) p q r.near c }

pub rel_mul_at : (i j : ℕ) (x y : Float) (p q : Frac) → Rel i x p → Rel j y q → Normal (val x ⊠ val y) → Rel (1 + (i + j)) (mul binary64 x y) (p ⊠ q)
rel_mul_at i j x y p q r s n = rel_trans 1 (i + j) (mul binary64 x y) (val x ⊠ val y) (p ⊠ q) (mul_rel x y r.pos s.pos n) (close_mul i j (val x) p (val y) q r.near s.near)

pub rel_add_at : (e : ℕ) (x y : Float) (p q : Frac) → Rel e x p → Rel e y q → Normal (val x ⊞ val y) → Rel (1 + e) (add binary64 x y) (p ⊞ q)
rel_add_at e x y p q r s n = rel_trans 1 e (add binary64 x y) (val x ⊞ val y) (p ⊞ q) (add_rel x y r.pos s.pos n) (close_add e (val x) p (val y) q r.near s.near)

-- ---- in range by what the operands are close to: with at most 1000 roundings the factor is 2 at most
double : big ^ 1000 ≤ 2 * small ^ 1000
unfolding big small
double = lit≤ tt

pub under_double : (e : ℕ) (p q : Frac) → e ≤ 1000 → Under e p q → p.top * q.bot ≤ 2 * (q.top * p.bot)
under_double e p q h u =
    let k : p.top * q.bot * small ^ 1000 ≤ q.top * p.bot * big ^ 1000 = under_weaken e 1000 p q h u in
    halve (p.top * q.bot) (q.top * p.bot) (small ^ 1000) (big ^ 1000) small_power double k
  where
    small_power : 0 < small ^ 1000
    small_power = native.Mathlib.Nat.one-le-pow 1000 small Rattle.numerics.specs.Frac.small_pos

    halve : (x y s b : ℕ) → 0 < s → b ≤ 2 * s → x * s ≤ y * b → x ≤ 2 * y
    halve x y s b S h k = le_of_mul-le-mul_right (omega (arith, k, mul-le-mul_left y h)) S

-- q between 2 ^ -1021 and 2 ^ 1022
pub record Ample (q : Frac) : Type 0 where
  pub least : q.bot ≤ q.top * 2 ^ 1021
  pub most : q.top ≤ q.bot * 2 ^ 1022

-- p / c ≤ 2 q / d, and the other way round
room : (x c y d M : ℕ) → 0 < d → x * d ≤ 2 * (y * c) → y ≤ d * M → x ≤ c * (2 * M)
room x c y d M D h k = le_of_mul-le-mul_right (omega (arith, mul-le-mul_right (2 * c) k)) D

pub normal_of_close : (e : ℕ) (p q : Frac) → e ≤ 1000 → Close e p q → Ample q → Normal p
normal_of_close e p q h c a = record {
  least = floor p.top p.bot q.top q.bot (2 ^ 1021) q.good (under_double e q p h c.ge) a.least;
  most = room p.top p.bot q.top q.bot (2 ^ 1022) q.good (under_double e p q h c.le) a.most;
}
  where
    floor : (x c y d M : ℕ) → 0 < d → y * c ≤ 2 * (x * d) → d ≤ y * M → c ≤ x * (2 * M)
    floor x c y d M D h k = le_of_mul-le-mul_right (omega (arith, mul-le-mul_right c k, mul-le-mul_right M h)) D

pub rel_mul : (i j : ℕ) (x y : Float) (p q : Frac) → Rel i x p → Rel j y q → i + j ≤ 1000 → Ample (p ⊠ q) → Rel (1 + (i + j)) (mul binary64 x y) (p ⊠ q)
rel_mul i j x y p q r s h a = rel_mul_at i j x y p q r s (normal_of_close (i + j) (val x ⊠ val y) (p ⊠ q) h (close_mul i j (val x) p (val y) q r.near s.near) a)

pub rel_add : (e : ℕ) (x y : Float) (p q : Frac) → Rel e x p → Rel e y q → e ≤ 1000 → Ample (p ⊞ q) → Rel (1 + e) (add binary64 x y) (p ⊞ q)
rel_add e x y p q r s h a = rel_add_at e x y p q r s (normal_of_close e (val x ⊞ val y) (p ⊞ q) h (close_add e (val x) p (val y) q r.near s.near) a)
