-- The laws of rounding at binary64, stated once over the operation: + - × / on finite operands, at any signs.
--   is_rounded         the result is the exact one, rounded once (`rounded_at`: in any format; `add_upright` and so on: of operands without a sign)
--   round_unit         |rounded - exact| ≤ 2 ^ -53 * |exact|, and the sign is right, where the exact value is at least 2 ^ -1022 and the rounded one is finite (of an operation: `numerics: WithinUnit`)
--   normal_finite      the result is finite where the exact one is between 2 ^ -1022 and 2 ^ 1023
--   within_half_unit   |result - exact| ≤ half a unit in the last place, wherever the result is finite
--   exact_where_held, exact_zero   the result is the exact one where a double holds it
--   monotone           a larger exact result rounds to no smaller double
--   beyond_above, beyond_below   a double strictly beyond the result is strictly beyond the exact one
-- Assumes nothing.
use Rattle.std.specs.Prelude.{◌≡◌, refl, ℕ, ◌+◌, ◌-◌, ◌*◌, ◌^◌, ◌≤◌, ◌<◌, Bool, true, false, not, ◌&&◌, cond, T, ltb, eqb}
use Rattle.std.proofs.Common.{ap, ap₂, ◌∙◌, subst, mul-pos, mul-le-mul_right, le_of_mul-le-mul_right, lt_irrefl, arith, le-ltb, eqb→eq, pow_pos}
use Rattle.std.specs.Bool.{beq}
use lib.Ieee.{Float, nan, inf, fin, Format, binary64, up, down, round, add, sub, mul, div, sum, neg, le, unlike, fits}
use Rattle.std.specs.Float.Ieee.Exact.{HasValue}
use Rattle.std.specs.Float.Ieee.Order.{drop, kept, round_mono}
use Rattle.std.specs.Float.Ieee.Scale.{grid, overflow, finite, round_val, round_under, round_same}
use lib.Ieee.Positive.{num, den, positive, den_pos}
use Rattle.numerics.specs.Frac.{Frac, ◌⊑◌, ◌⊞◌, ◌⊠◌}
use Rattle.numerics.specs.Round.{val, Normal, closest_above, closest_below, near_of, inside}
use Rattle.numerics.specs.Fixed.{zero_val, round_fixes, above_round, below_round}
use Rattle.numerics.specs.Sign.{negative, finite_neg_is, round_neg}

pub data Operation : Type 0 where
  plus minus times over : Operation

abbrev pub apply_at : Format → Operation → Float → Float → Float
apply_at f plus x y = add f x y
apply_at f minus x y = sub f x y
apply_at f times x y = mul f x y
apply_at f over x y = div f x y

abbrev pub apply : Operation → Float → Float → Float
apply o x y = apply_at binary64 o x y

-- ---- the exact result: its sign, and its size as a fraction
-- a with the sign s and b with the sign t together: of one sign they add, of two the larger less the smaller has the larger's sign
abbrev pub together : Bool → ℕ → Bool → ℕ → Bool × ℕ
together s a t b = cond (beq s t) (s, a + b) (cond (ltb a b) (t, b - a) (s && ltb b a, a - b))

abbrev pub exact_sign : Operation → Float → Float → Bool
exact_sign plus x y = (together (negative x) (num x * den y) (negative y) (num y * den x)).0
exact_sign minus x y = (together (negative x) (num x * den y) (not (negative y)) (num y * den x)).0
exact_sign times x y = unlike (negative x) (negative y)
exact_sign over x y = unlike (negative x) (negative y)

abbrev pub exact_top : Operation → Float → Float → ℕ
exact_top plus x y = (together (negative x) (num x * den y) (negative y) (num y * den x)).1
exact_top minus x y = (together (negative x) (num x * den y) (not (negative y)) (num y * den x)).1
exact_top times x y = num x * num y
exact_top over x y = num x * den y

abbrev pub exact_bot : Operation → Float → Float → ℕ
exact_bot plus x y = den x * den y
exact_bot minus x y = den x * den y
exact_bot times x y = den x * den y
exact_bot over x y = num y * den x

-- a quotient is exact only by a divisor that is not zero
abbrev pub Defined : Operation → Float → Type 0
Defined plus y = Unit
Defined minus y = Unit
Defined times y = Unit
Defined over y = 0 < num y

pub exact_bot_pos : (o : Operation) (x y : Float) → Defined o y → 0 < exact_bot o x y
exact_bot_pos plus x y d = mul-pos (den_pos x) (den_pos y)
exact_bot_pos minus x y d = mul-pos (den_pos x) (den_pos y)
exact_bot_pos times x y d = mul-pos (den_pos x) (den_pos y)
exact_bot_pos over x y d = mul-pos d (den_pos x)

abbrev pub exact : (o : Operation) (x y : Float) → Defined o y → Frac
exact o x y d = record { top = exact_top o x y; bot = exact_bot o x y; good = exact_bot_pos o x y d }

-- ---- one rounding
sum_is : (f : Format) (s : Bool) (a : ℕ) (t : Bool) (b c : ℕ) → sum f s a t b c ≡ round f (together s a t b).0 (together s a t b).1 c
unfolding sum
sum_is f s a t b c = go (beq s t) (ltb a b)
  where
    go : (p q : Bool) → cond p (round f s (a + b) c) (cond q (round f t (b - a) c) (round f (s && ltb b a) (a - b) c))
        ≡ round f (cond {A = Bool × ℕ} p (s, a + b) (cond q (t, b - a) (s && ltb b a, a - b))).0 (cond {A = Bool × ℕ} p (s, a + b) (cond q (t, b - a) (s && ltb b a, a - b))).1 c
    go true q = refl
    go false true = refl
    go false false = refl

nonzero : (n : ℕ) (u v : Float) → 0 < n → cond (eqb n 0) u v ≡ v
nonzero n u v h = go (eqb n 0) (eqb→eq n 0)
  where
    go : (b : Bool) → (T b → n ≡ 0) → cond b u v ≡ v
    go true k = absurd (lt_irrefl 0 (subst (λ (z : ℕ). 0 < z) (k tt) h))
    go false k = refl

pub rounded_at : (f : Format) (o : Operation) (x y : Float) → T (finite x) → T (finite y) → Defined o y → apply_at f o x y ≡ round f (exact_sign o x y) (exact_top o x y) (exact_bot o x y)
unfolding add sub neg mul div
rounded_at f o nan y p q d = absurd p
rounded_at f o (inf s) y p q d = absurd p
rounded_at f o (fin s m e) nan p q d = absurd q
rounded_at f o (fin s m e) (inf t) p q d = absurd q
rounded_at f plus (fin s m e) (fin t n k) p q d = sum_is f s (m * up e * down k) t (n * up k * down e) (down e * down k)
rounded_at f minus (fin s m e) (fin t n k) p q d = sum_is f s (m * up e * down k) (not t) (n * up k * down e) (down e * down k)
rounded_at f times (fin s m e) (fin t n k) p q d = refl
rounded_at f over (fin s m e) (fin t n k) p q d = nonzero n (cond (eqb m 0) nan (inf (unlike s t))) (round f (unlike s t) (m * up e * down k) (n * up k * down e)) (lib.Ieee.Positive.first_pos n (up k) d)

pub is_rounded : (o : Operation) (x y : Float) → T (finite x) → T (finite y) → Defined o y → apply o x y ≡ round binary64 (exact_sign o x y) (exact_top o x y) (exact_bot o x y)
is_rounded = rounded_at binary64

-- operands without a sign
module _ (f : Format) (x y : Float) (p : T (finite x)) (q : T (finite y)) (s : negative x ≡ false) (t : negative y ≡ false) where
  pub add_upright : add f x y ≡ round f false (num x * den y + num y * den x) (den x * den y)
  add_upright =
      let a = num x * den y in
      let b = num y * den x in
      rounded_at f plus x y p q tt ∙ ap₂ (λ (u v : Bool). round f (together u a v b).0 (together u a v b).1 (den x * den y)) s t

  pub sub_upright : num y * den x ≤ num x * den y → sub f x y ≡ round f false (num x * den y - num y * den x) (den x * den y)
  sub_upright h =
      let a = num x * den y in
      let b = num y * den x in
      rounded_at f minus x y p q tt ∙ ap₂ (λ (u v : Bool). round f (together u a (not v) b).0 (together u a (not v) b).1 (den x * den y)) s t
      ∙ ap (λ (l : Bool). round f (cond {A = Bool × ℕ} l (true, b - a) (false, a - b)).0 (cond {A = Bool × ℕ} l (true, b - a) (false, a - b)).1 (den x * den y)) (le-ltb a b h)

  pub mul_upright : mul f x y ≡ round f false (num x * num y) (den x * den y)
  mul_upright = rounded_at f times x y p q tt ∙ ap₂ (λ (u v : Bool). round f (unlike u v) (num x * num y) (den x * den y)) s t

  pub div_upright : 0 < num y → div f x y ≡ round f false (num x * den y) (num y * den x)
  div_upright d = rounded_at f over x y p q d ∙ ap₂ (λ (u v : Bool). round f (unlike u v) (num x * den y) (num y * den x)) s t

-- ---- the sign passes through a rounding
turned : (v : Float) (a c : ℕ) → HasValue v false a c → HasValue (neg v) true a c
unfolding neg
turned nan a c h = absurd h
turned (inf t) a c h = absurd h
turned (fin t m e) a c h = (ap not h.0, h.1)

resign : (f : Format) (s : Bool) (n d a c : ℕ) → HasValue (round f false n d) false a c → HasValue (round f s n d) s a c
resign f false n d a c h = h
resign f true n d a c h = rw (round_neg f n d) (turned (round f false n d) a c h)

cross : (v : Float) (s : Bool) (a c : ℕ) → HasValue v s a c → num v * c ≡ a * den v
cross nan s a c h = absurd h
cross (inf t) s a c h = absurd h
cross (fin t m e) s a c h = h.1

-- a finite result is below the overflow
under : (f : Format) (s : Bool) (a c : ℕ) → T (finite (round f s a c)) → grid f a c < overflow f
under f false a c t = round_under f a c t
under f true a c t = round_under f a c (subst T (ap finite (round_neg f a c) ∙ finite_neg_is (round f false a c)) t)

-- ---- within 2 ^ -53 relatively
abbrev pub unit : Frac
unit = record { top = 1; bot = 2 ^ 53; good = pow_pos 53 }

-- v is finite and has the sign s
abbrev pub HasSign : Bool → Float → Type 0
HasSign s nan = ⊥
HasSign s (inf t) = ⊥
HasSign s (fin t m e) = t ≡ s

sign_of : (v : Float) (s : Bool) (a c : ℕ) → HasValue v s a c → HasSign s v
sign_of nan s a c h = absurd h
sign_of (inf t) s a c h = absurd h
sign_of (fin t m e) s a c h = h.0

pub record Rounded (s : Bool) (q : Frac) (v : Float) : Type 0 where
  pub sign : HasSign s v
  pub high : val v ⊑ q ⊞ unit ⊠ q
  pub low : q ⊑ val v ⊞ unit ⊠ q

-- for q from 2 ^ -1022 on whose rounding is finite: the whole normal range
pub round_unit : (s : Bool) (q : Frac) → q.bot ≤ q.top * 2 ^ 1022 → T (finite (round binary64 s q.top q.bot)) → Rounded s q (round binary64 s q.top q.bot)
round_unit s q n t =
    let a = q.top in
    let c = q.bot in
    let v = round binary64 s a c in
    let g = grid binary64 a c in
    let w : HasValue v s g (2 ^ 1074) = resign binary64 s a c g (2 ^ 1074) (round_val binary64 a c (under binary64 s a c t)) in
    let x : num v * 2 ^ 1074 ≡ g * den v = cross v s g (2 ^ 1074) w in
    let b = near_of a c q.good n in
    record {
      sign = sign_of v s g (2 ^ 1074) w;
      high = over_it (num v) (den v) g (2 ^ 1074) a c (2 ^ 53) (pow_pos 1074) x b.above;
      low = under_it (num v) (den v) g (2 ^ 1074) a c (2 ^ 53) (pow_pos 1074) x b.below;
    }
  where
    over_it : (x d g l a c P : ℕ) → 0 < l → x * l ≡ g * d → g * c * P ≤ a * l * (P + 1) → x * (c * (P * c)) ≤ (a * (P * c) + 1 * a * c) * d
    over_it x d g l a c P L e h = le_of_mul-le-mul_right {k = l} (omega (arith, mul-le-mul_right (d * c) h, ap (λ (z : ℕ). z * (c * c * P)) e)) L

    under_it : (x d g l a c P : ℕ) → 0 < l → x * l ≡ g * d → a * l * P ≤ g * c * P + a * l → a * (d * (P * c)) ≤ (x * (P * c) + 1 * a * d) * c
    under_it x d g l a c P L e h = le_of_mul-le-mul_right {k = l} (omega (arith, mul-le-mul_right (d * c) h, ap (λ (z : ℕ). z * (c * c * P)) e)) L

-- a result is finite where the exact one is at most 2 ^ 1023
pub finite_of_value : (v : Float) (s : Bool) (a c : ℕ) → HasValue v s a c → T (finite v)
finite_of_value nan s a c h = absurd h
finite_of_value (inf t) s a c h = absurd h
finite_of_value (fin t m e) s a c h = tt

pub normal_finite : (o : Operation) (x y : Float) → T (finite x) → T (finite y) → (d : Defined o y) → Normal (exact o x y d) → T (finite (apply o x y))
normal_finite o x y p q d n =
    let a = exact_top o x y in
    let c = exact_bot o x y in
    rw (is_rounded o x y p q d)
    (finite_of_value (round binary64 (exact_sign o x y) a c) (exact_sign o x y) (grid binary64 a c) (2 ^ 1074)
    (resign binary64 (exact_sign o x y) a c (grid binary64 a c) (2 ^ 1074) (round_val binary64 a c (inside a c (exact_bot_pos o x y d) n.least n.most))))

-- ---- within half a unit in the last place, subnormal results included
-- doubles at q are 2 ^ drop times 2 ^ -1074 apart: half of that
abbrev pub half_unit : Frac → Frac
half_unit q = record { top = 2 ^ drop 53 (q.top * 2 ^ 1074) q.bot; bot = 2 ^ 1075; good = pow_pos 1075 }

pub record Halved (s : Bool) (q : Frac) (v : Float) : Type 0 where
  pub sign : HasSign s v
  pub high : val v ⊑ q ⊞ half_unit q
  pub low : q ⊑ val v ⊞ half_unit q

pub round_half_unit : (s : Bool) (q : Frac) → T (finite (round binary64 s q.top q.bot)) → Halved s q (round binary64 s q.top q.bot)
round_half_unit s q t =
    let a = q.top in
    let c = q.bot in
    let v = round binary64 s a c in
    let g = grid binary64 a c in
    let k = drop 53 (a * 2 ^ 1074) c in
    let w : HasValue v s g (2 ^ 1074) = resign binary64 s a c g (2 ^ 1074) (round_val binary64 a c (under binary64 s a c t)) in
    let x : num v * 2 ^ 1074 ≡ g * den v = cross v s g (2 ^ 1074) w in
    let U : 0 < c * 2 ^ k = mul-pos q.good (pow_pos k) in
    let K = kept 53 (a * 2 ^ 1074) c in
    record {
      sign = sign_of v s g (2 ^ 1074) w;
      high = over_it (num v) (den v) K (2 ^ k) (2 ^ 1074) a c (pow_pos 1074) x (closest_above (a * 2 ^ 1074) (c * 2 ^ k) U);
      low = under_it (num v) (den v) K (2 ^ k) (2 ^ 1074) a c (pow_pos 1074) x (closest_below (a * 2 ^ 1074) (c * 2 ^ k) U);
    }
  where
    over_it : (x d K u l a c : ℕ) → 0 < l → x * l ≡ K * u * d → 2 * (K * (c * u)) ≤ 2 * (a * l) + c * u → x * (c * (2 * l)) ≤ (a * (2 * l) + u * c) * d
    over_it x d K u l a c L e h = omega (arith, mul-le-mul_right d h, ap (λ (z : ℕ). z * (2 * c)) e)

    under_it : (x d K u l a c : ℕ) → 0 < l → x * l ≡ K * u * d → 2 * (a * l) ≤ 2 * (K * (c * u)) + c * u → a * (d * (2 * l)) ≤ (x * (2 * l) + u * d) * c
    under_it x d K u l a c L e h = omega (arith, mul-le-mul_right d h, ap (λ (z : ℕ). z * (2 * c)) e)

pub within_half_unit : (o : Operation) (x y : Float) → T (finite x) → T (finite y) → (d : Defined o y) → T (finite (apply o x y)) → Halved (exact_sign o x y) (exact o x y d) (apply o x y)
within_half_unit o x y p q d t = rw (is_rounded o x y p q d) (round_half_unit (exact_sign o x y) (exact o x y d) (rw (is_rounded o x y p q d) at t))

-- ---- exact where a double z has the exact result's size
pub exact_where_held : (o : Operation) (x y z : Float) → T (finite x) → T (finite y) → (d : Defined o y) → T (positive z) → T (fits binary64 z) → exact_top o x y * den z ≡ num z * exact_bot o x y
    → HasValue (apply o x y) (exact_sign o x y) (num z) (den z)
exact_where_held o x y z p q d P F e =
    rw (is_rounded o x y p q d)
    (resign binary64 (exact_sign o x y) (exact_top o x y) (exact_bot o x y) (num z) (den z)
    (rw (round_same binary64 false (exact_top o x y) (exact_bot o x y) (num z) (den z) (exact_bot_pos o x y d) (den_pos z) e) (round_fixes binary64 z P F)))

-- and a zero stays a zero
pub exact_zero : (o : Operation) (x y : Float) → T (finite x) → T (finite y) → Defined o y → exact_top o x y ≡ 0 → HasValue (apply o x y) (exact_sign o x y) 0 (2 ^ 1074)
exact_zero o x y p q d z =
    rw (is_rounded o x y p q d, z) (resign binary64 (exact_sign o x y) 0 (exact_bot o x y) 0 (2 ^ 1074) (zero_val (exact_bot o x y) (exact_bot_pos o x y d)))

-- ---- results that are not negative: monotony, and values strictly beyond
module _ (o : Operation) (x y : Float) (p : T (finite x)) (q : T (finite y)) (d : Defined o y) (s : exact_sign o x y ≡ false) where
  upright : apply o x y ≡ round binary64 false (exact_top o x y) (exact_bot o x y)
  upright = is_rounded o x y p q d ∙ ap (λ (b : Bool). round binary64 b (exact_top o x y) (exact_bot o x y)) s

  pub monotone : (o' : Operation) (x' y' : Float) → T (finite x') → T (finite y') → (d' : Defined o' y') → exact_sign o' x' y' ≡ false → exact o x y d ⊑ exact o' x' y' d' → T (le (apply o x y) (apply o' x' y'))
  monotone o' x' y' p' q' d' s' h =
      rw (upright, is_rounded o' x' y' p' q' d' ∙ ap (λ (b : Bool). round binary64 b (exact_top o' x' y') (exact_bot o' x' y')) s')
      (round_mono binary64 (exact_top o x y) (exact_bot o x y) (exact_top o' x' y') (exact_bot o' x' y') (exact_bot_pos o x y d) (exact_bot_pos o' x' y' d') h)

  -- a double w above zero, and the result above zero
  module _ (w : Float) (P : T (positive w)) (F : T (fits binary64 w)) (R : T (positive (apply o x y))) where
    pub beyond_above : num (apply o x y) * den w < num w * den (apply o x y) → exact_top o x y * den w < num w * exact_bot o x y
    beyond_above h = above_round binary64 w P F (exact o x y d) (rw upright at R) (rw upright at h)

    pub beyond_below : num w * den (apply o x y) < num (apply o x y) * den w → num w * exact_bot o x y < exact_top o x y * den w
    beyond_below h = below_round binary64 w P F (exact o x y d) (rw upright at R) (rw upright at h)
