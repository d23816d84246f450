-- Sums, differences and products of doubles of either sign. A finite double is plus x / den x less minus x / den x, one of the two tops being 0; so a law
-- on the two tops makes no case of signs. Assumes nothing.
use Rattle.std.specs.Prelude.{◌≡◌, refl, ℕ, ◌+◌, ◌-◌, ◌*◌, ◌≤◌, ◌<◌, Bool, true, false, cond, T, ltb, ℤ, Float}
use Rattle.std.proofs.Common.{sym, ap, ◌∙◌, subst, le_of_lt, le_antisymm, lt-ltb, le-ltb, ltb-false, arith}
use Rattle.std.specs.Float.{nan, inf, fin, Format}
use Rattle.std.specs.Float.Ieee.{up, down, round, sum, add, sub, mul, neg}
use Rattle.std.specs.Float.Ieee.Scale.{finite}
use Rattle.std.specs.Float.Ieee.Exact.{HasValue}
use Rattle.std.specs.Float.Ieee.Positive.{num, den, positive}
use Rattle.numerics.specs.Sign.{nonneg, of_nonneg, of_positive, finite_neg_is}
pub use Rattle.numerics.specs.Sign.{round_neg}
pub use Rattle.numerics.specs.Rounding.{finite_of_value}

-- a top where the sign is plus, and where it is minus
abbrev pub up_part : Bool → ℕ → ℕ
up_part false a = a
up_part true a = 0

abbrev pub down_part : Bool → ℕ → ℕ
down_part false a = 0
down_part true a = a

abbrev pub plus : Float → ℕ
plus nan = 0
plus (inf s) = 0
plus (fin s m e) = up_part s (m * up e)

abbrev pub minus : Float → ℕ
minus nan = 0
minus (inf s) = 0
minus (fin s m e) = down_part s (m * up e)

pub plus_positive : (x : Float) → T (positive x) → plus x ≡ num x
plus_positive x p = of_positive (λ (v : Float). plus v ≡ num v) (λ m e M. refl) x p

pub minus_positive : (x : Float) → T (positive x) → minus x ≡ 0
minus_positive x p = of_positive (λ (v : Float). minus v ≡ 0) (λ m e M. refl) x p

-- ---- a sum above zero is one rounding of the difference of its two parts
pub taken : (A : Type 0) (a b : ℕ) (u v : A) → a < b → cond (ltb a b) u v ≡ u
taken A a b u v h = ap (λ (t : Bool). cond t u v) (lt-ltb a b h)

pub left : (A : Type 0) (a b : ℕ) (u v : A) → b ≤ a → cond (ltb a b) u v ≡ v
left A a b u v h = ap (λ (t : Bool). cond t u v) (le-ltb a b h)

pub add_signed : (f : Format) (x y : Float) → T (finite x) → T (finite y) → minus x * den y + minus y * den x < plus x * den y + plus y * den x
    → add f x y ≡ round f false (plus x * den y + plus y * den x - (minus x * den y + minus y * den x)) (den x * den y)
unfolding add sum
add_signed f nan y p q h = absurd p
add_signed f (inf s) y p q h = absurd p
add_signed f (fin s m e) nan p q h = absurd q
add_signed f (fin s m e) (inf t) p q h = absurd q
add_signed f (fin false m e) (fin false n d) p q h = ap (λ (z : ℕ). round f false z (down e * down d)) (whole (m * up e * down d) (n * up d * down e) (down d) (down e))
  where
    whole : (a b c d : ℕ) → a + b ≡ a + b - (0 * c + 0 * d)
    whole a b c d = omega arith
add_signed f (fin false m e) (fin true n d) p q h =
    let a = m * up e * down d in
    let b = n * up d * down e in
    left Float a b (round f true (b - a) (down e * down d)) (round f false (a - b) (down e * down d)) (order a b (down d) (down e) h)
    ∙ ap (λ (z : ℕ). round f false z (down e * down d)) (whole a b (down d) (down e))
  where
    order : (a b c d : ℕ) → 0 * c + b < a + 0 * d → b ≤ a
    order a b c d h = omega arith

    whole : (a b c d : ℕ) → a - b ≡ a + 0 * d - (0 * c + b)
    whole a b c d = omega arith
add_signed f (fin true m e) (fin false n d) p q h =
    let a = m * up e * down d in
    let b = n * up d * down e in
    taken Float a b (round f false (b - a) (down e * down d)) (round f (ltb b a) (a - b) (down e * down d)) (order a b (down d) (down e) h)
    ∙ ap (λ (z : ℕ). round f false z (down e * down d)) (whole a b (down d) (down e))
  where
    order : (a b c d : ℕ) → a + 0 * d < 0 * c + b → a < b
    order a b c d h = omega arith

    whole : (a b c d : ℕ) → b - a ≡ 0 * c + b - (a + 0 * d)
    whole a b c d = omega arith
add_signed f (fin true m e) (fin true n d) p q h = absurd (never (m * up e * down d + n * up d * down e) (down d) (down e) h)
  where
    never : (a c d : ℕ) → a < 0 * c + 0 * d → ⊥
    never a c d h = omega arith

pub sub_signed : (f : Format) (x y : Float) → T (finite x) → T (finite y) → minus x * den y + plus y * den x < plus x * den y + minus y * den x
    → sub f x y ≡ round f false (plus x * den y + minus y * den x - (minus x * den y + plus y * den x)) (den x * den y)
unfolding sub neg
sub_signed f x nan p q h = absurd q
sub_signed f x (inf t) p q h = absurd q
sub_signed f x (fin false n d) p q h = add_signed f x (fin true n d) p tt h
sub_signed f x (fin true n d) p q h = add_signed f x (fin false n d) p tt h

-- ---- the sign goes through a product
-- two values without a sign
module _ (P : Float → Float → Type 0) (h : (m : ℕ) (e : ℤ) (n : ℕ) (d : ℤ) → P (fin false m e) (fin false n d)) where
  both : (x y : Float) → T (nonneg x) → T (nonneg y) → P x y
  both x y p q = of_nonneg (λ (v : Float). P v y) (λ m e. of_nonneg (λ (w : Float). P (fin false m e) w) (λ n d. h m e n d) y q) x p

pub mul_neg : (f : Format) (x y : Float) → T (nonneg x) → T (nonneg y) → mul f (neg x) y ≡ neg (mul f x y)
unfolding mul neg
mul_neg f x y p q = both (λ v w. mul f (neg v) w ≡ neg (mul f v w)) (λ m e n d. round_neg f (m * up e * (n * up d)) (down e * down d)) x y p q

pub plus_neg : (x : Float) → plus (neg x) ≡ minus x
unfolding neg
plus_neg nan = refl
plus_neg (inf s) = refl
plus_neg (fin false m e) = refl
plus_neg (fin true m e) = refl

pub minus_neg : (x : Float) → minus (neg x) ≡ plus x
unfolding neg
minus_neg nan = refl
minus_neg (inf s) = refl
minus_neg (fin false m e) = refl
minus_neg (fin true m e) = refl

pub den_neg : (x : Float) → den (neg x) ≡ den x
unfolding neg
den_neg nan = refl
den_neg (inf s) = refl
den_neg (fin s m e) = refl

pub finite_neg : (x : Float) → T (finite x) → T (finite (neg x))
finite_neg x p = subst T (sym (finite_neg_is x)) p

-- ---- a known value, in parts
pub parts_of_value : (x : Float) (s : Bool) (a c : ℕ) → HasValue x s a c → (plus x * c ≡ up_part s a * den x) × (minus x * c ≡ down_part s a * den x)
parts_of_value nan s a c h = absurd h
parts_of_value (inf t) s a c h = absurd h
parts_of_value (fin t m e) s a c h = subst (λ (z : Bool). (up_part z (m * up e) * c ≡ up_part s a * down e) × (down_part z (m * up e) * c ≡ down_part s a * down e)) (sym h.0) (go s)
  where
    go : (s : Bool) → (up_part s (m * up e) * c ≡ up_part s a * down e) × (down_part s (m * up e) * c ≡ down_part s a * down e)
    go false = (h.1, omega arith)
    go true = (omega arith, h.1)

-- ---- a sum or difference of values that are not negative, one of them with its sign turned
-- -a / c + b / c, for a ≤ b and for b < a; and a / c - b / c for a < b
sum_over : (f : Format) (a b c : ℕ) → a ≤ b → sum f true a false b c ≡ round f false (b - a) c
unfolding sum
sum_over f a b c h = go (ltb a b) refl
  where
    go : (t : Bool) → ltb a b ≡ t → sum f true a false b c ≡ round f false (b - a) c
    go true e = rw e
    go false e =
        let k : a ≡ b = le_antisymm h (ltb-false a b e) in
        rw (e, le-ltb b a h) (ap (λ (n : ℕ). round f false n c) (ap (λ (n : ℕ). n - b) k ∙ sym (ap (λ (n : ℕ). b - n) k)))

sum_under : (f : Format) (a b c : ℕ) → b < a → sum f true a false b c ≡ neg (round f false (a - b) c)
unfolding sum
sum_under f a b c h = rw (le-ltb a b (le_of_lt h), lt-ltb b a h) (round_neg f (a - b) c)

sum_less : (f : Format) (a b c : ℕ) → a < b → sum f false a true b c ≡ neg (round f false (b - a) c)
unfolding sum
sum_less f a b c h = rw (lt-ltb a b h) (round_neg f (b - a) c)

pub add_over : (f : Format) (x y : Float) → T (nonneg x) → T (nonneg y) → num x * den y ≤ num y * den x → add f (neg x) y ≡ round f false (num y * den x - num x * den y) (den x * den y)
unfolding add neg
add_over f x y p q =
    both (λ v w. num v * den w ≤ num w * den v → add f (neg v) w ≡ round f false (num w * den v - num v * den w) (den v * den w))
    (λ m e n d h. sum_over f (m * up e * down d) (n * up d * down e) (down e * down d) h) x y p q

pub add_under : (f : Format) (x y : Float) → T (nonneg x) → T (nonneg y) → num y * den x < num x * den y → add f (neg x) y ≡ neg (round f false (num x * den y - num y * den x) (den x * den y))
unfolding add neg
add_under f x y p q =
    both (λ v w. num w * den v < num v * den w → add f (neg v) w ≡ neg (round f false (num v * den w - num w * den v) (den v * den w)))
    (λ m e n d h. sum_under f (m * up e * down d) (n * up d * down e) (down e * down d) h) x y p q

pub sub_less : (f : Format) (x y : Float) → T (nonneg x) → T (nonneg y) → num x * den y < num y * den x → sub f x y ≡ neg (round f false (num y * den x - num x * den y) (den x * den y))
unfolding sub add neg
sub_less f x y p q =
    both (λ v w. num v * den w < num w * den v → sub f v w ≡ neg (round f false (num w * den v - num v * den w) (den v * den w)))
    (λ m e n d h. sum_less f (m * up e * down d) (n * up d * down e) (down e * down d) h) x y p q
