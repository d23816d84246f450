-- The sign of (p - target) / c, rounded, is that of p less the target, and the quotient is a number. Assumes nothing.
use Rattle.std.specs.Prelude.{◌≡◌, refl, ◌⊎◌, Bool, true, false, not, cond, ℕ, zero, suc, ◌+◌, ◌-◌, ◌*◌, ◌^◌, ◌≤◌, ◌<◌, pos, T, ltb, eqb, Float}
use Rattle.std.proofs.Common.{sym, ap, ◌∙◌, subst, inl, inr, true≢false, le_trans, mul-pos, le_of_eq, zero-lt-suc, zero-mul, eq-or-lt_of_le, arith, ne_eqb, le-ltb, ltb→lt, nltb→le, lt→ltb}
use Rattle.std.proofs.lemmas.Bool.{false≢true}
use Rattle.std.proofs.Math.Nat.{one-le-pow}
use Rattle.std.specs.Float.{nan, inf, fin, Format, binary64}
use Rattle.std.specs.Float.Ieee.{prec, low, up, down, unlike, odd, units, round, sum, add, sub, neg, div, is_nan, lt}
use Rattle.std.specs.Float.Ieee.Exact.{HasValue, odd_sign}
use Rattle.std.specs.Float.Ieee.Fits.{up_pos, down_pos, round_is}
use Rattle.std.specs.Float.Ieee.Order.{drop, kept}
use Rattle.std.specs.Float.Ieee.Scale.{finite, overflow}
use Rattle.std.specs.Float.Ieee.Positive.{num, den, positive}
use Rattle.numerics.specs.Double.{◌⊖◌, ◌⊘◌, +0}
use Rattle.numerics.specs.Frac.{Frac, small, small_pos, big}
use Rattle.numerics.specs.Nonneg.{nonneg, round_rel0}
use Rattle.numerics.specs.Zero.{zero_is}

-- a number with the sign s
abbrev WithSign : Bool → Float → Type 0
WithSign s nan = ⊥
WithSign s (inf t) = t ≡ s
WithSign s (fin t m e) = t ≡ s

sign_number : (s : Bool) (x : Float) → WithSign s x → is_nan x ≡ false
unfolding is_nan
sign_number s nan h = absurd h
sign_number s (inf t) h = refl
sign_number s (fin t m e) h = refl

-- a positive sign is not below zero, and a negative one not above
not_below : (x : Float) → WithSign false x → lt x (fin false 0 (pos 0)) ≡ false
unfolding lt
not_below nan h = absurd h
not_below (inf true) h = absurd (true≢false h)
not_below (inf false) h = refl
not_below (fin true m e) h = absurd (true≢false h)
not_below (fin false m e) h = le-ltb (m * up e * 1) (0 * 1 * down e) (omega arith)

not_above : (x : Float) → WithSign true x → lt (fin false 0 (pos 0)) x ≡ false
unfolding lt
not_above nan h = absurd h
not_above (inf true) h = refl
not_above (inf false) h = absurd (false≢true h)
not_above (fin true m e) h = refl
not_above (fin false m e) h = absurd (false≢true h)

-- ---- rounding keeps the sign that it is handed
value_keeps : (v : Float) (s : Bool) (a c : ℕ) → HasValue v s a c → WithSign s v
value_keeps nan s a c h = absurd h
value_keeps (inf t) s a c h = absurd h
value_keeps (fin t m e) s a c h = h.0

units_keeps : (f : Format) (s : Bool) (q k : ℕ) → WithSign s (units f s q k)
unfolding units
units_keeps f s q k = go (ltb (q * 2 ^ k) (overflow f))
  where
    go : (b : Bool) → WithSign s (cond b (odd (suc (prec f)) s q k (low f)) (inf s))
    go true = value_keeps (odd (suc (prec f)) s q k (low f)) s (q * 2 ^ k) (2 ^ low f) (odd_sign (suc (prec f)) s q k (low f))
    go false = refl

round_keeps : (f : Format) (s : Bool) (a c : ℕ) → WithSign s (round f s a c)
round_keeps f s a c = rw (round_is f s a c) (units_keeps f s (kept (prec f) (a * 2 ^ low f) c) (drop (prec f) (a * 2 ^ low f) c))

unlike_false : (s : Bool) → unlike s false ≡ s
unlike_false true = refl
unlike_false false = refl

suc_not_zero : (n : ℕ) → eqb (suc n) 0 ≡ false
suc_not_zero n = ne_eqb (suc n) 0 (λ e. clash n e)
  where
    clash : (n : ℕ) → suc n ≡ 0 → ⊥
    clash n e = omega arith

-- ---- so does a quotient by a number above zero
div_keeps : (s : Bool) (x c : Float) → WithSign s x → T (positive c) → WithSign s (div binary64 x c)
unfolding div
div_keeps s nan c h p = absurd h
div_keeps s (inf t) nan h p = absurd p
div_keeps s (inf t) (inf u) h p = absurd p
div_keeps s (inf t) (fin true n d) h p = absurd p
div_keeps s (inf t) (fin false n d) h p = unlike_false t ∙ h
div_keeps s (fin t m e) nan h p = absurd p
div_keeps s (fin t m e) (inf u) h p = absurd p
div_keeps s (fin t m e) (fin true n d) h p = absurd p
div_keeps s (fin t m e) (fin false zero d) h p = absurd p
div_keeps s (fin t m e) (fin false (suc n) d) h p =
    subst (λ (z : Bool). WithSign s (cond z (cond (eqb m 0) nan (inf (unlike t false))) (round binary64 (unlike t false) (m * up e * down d) (suc n * up d * down e)))) (sym (suc_not_zero n))
    (subst (λ (z : Bool). WithSign s (round binary64 z (m * up e * down d) (suc n * up d * down e))) (sym (unlike_false t ∙ h)) (round_keeps binary64 s (m * up e * down d) (suc n * up d * down e)))

-- ---- zero stays zero
zero_round : (k : ℕ) → 0 < k → T (nonneg (round binary64 false 0 k)) × (num (round binary64 false 0 k) ≡ 0)
zero_round k K =
    let q : Frac = record { top = 0; bot = k; good = K } in
    let r = round_rel0 q (inl refl) in
    (r.sign, none (num (round binary64 false 0 k)) k (small ^ 1) (den (round binary64 false 0 k)) (big ^ 1) K (one-le-pow 1 small small_pos) r.near.le)
  where
    none : (t b s x y : ℕ) → 0 < b → 0 < s → t * b * s ≤ 0 * x * y → t ≡ 0
    none zero b s x y B S h = refl
    none (suc t) b s x y B S h = absurd (clash (suc t * b * s) (mul-pos (mul-pos (zero-lt-suc t) B) S) h)
      where
        clash : (n : ℕ) → 0 < n → n ≤ 0 * x * y → ⊥
        clash n P l = omega arith

div_zero : (v c : Float) → T (nonneg v) → num v ≡ 0 → T (positive c) → (k : ℕ) × (0 < k) × (div binary64 v c ≡ round binary64 false 0 k)
unfolding div
div_zero nan c n z p = absurd n
div_zero (inf s) c n z p = absurd n
div_zero (fin true m e) c n z p = absurd n
div_zero (fin false m e) nan n z p = absurd p
div_zero (fin false m e) (inf u) n z p = absurd p
div_zero (fin false m e) (fin true j d) n z p = absurd p
div_zero (fin false m e) (fin false zero d) n z p = absurd p
div_zero (fin false m e) (fin false (suc j) d) n z p = (
  suc j * up d * down e,
  mul-pos (mul-pos (zero-lt-suc j) (up_pos d)) (down_pos e),
  ap (λ (b : Bool). cond b (cond (eqb m 0) nan (inf false)) (round binary64 false (m * up e * down d) (suc j * up d * down e))) (suc_not_zero j)
      ∙ ap (λ (a : ℕ). round binary64 false a (suc j * up d * down e)) (ap (λ (a : ℕ). a * down d) z ∙ zero-mul (down d)),
)

not_above_zero : (x : Float) → T (nonneg x) → num x ≡ 0 → lt (fin false 0 (pos 0)) x ≡ false
unfolding lt
not_above_zero nan n z = absurd n
not_above_zero (inf s) n z = absurd n
not_above_zero (fin true m e) n z = absurd n
not_above_zero (fin false m e) n z = le-ltb (0 * 1 * down e) (m * up e * 1) (le_trans (le_of_eq (ap (λ (a : ℕ). a * 1) z)) (omega arith))

quotient_zero : (k : ℕ) (c : Float) → 0 < k → T (positive c) → lt (fin false 0 (pos 0)) (div binary64 (round binary64 false 0 k) c) ≡ false
quotient_zero k c K p =
    let z = zero_round k K in
    let d = div_zero (round binary64 false 0 k) c z.0 z.1 p in
    let w = zero_round d.0 d.1 in
    subst (λ (x : Float). lt (fin false 0 (pos 0)) x ≡ false) (sym d.2) (not_above_zero (round binary64 false 0 d.0) w.0 w.1)

-- ---- the quotient of a difference by a double above zero
pub record Signs (p target f : Float) : Type 0 where
  pub number : is_nan f ≡ false
  pub below : lt f +0 ≡ true → T (lt p target)
  pub above : T (lt +0 f) → T (lt target p)

-- by a residual with the sign of a difference below zero, or not below zero
low_signs : (p target f : Float) → WithSign true f → T (lt p target) → Signs p target f
low_signs p target f h l = record {
  number = sign_number true f h;
  below = λ e. l;
  above = λ t. absurd (subst T (not_above f h) (subst (λ (z : Float). T (lt z f)) zero_is t));
}

high_signs : (p target f : Float) → WithSign false f → (T (lt +0 f) → T (lt target p)) → Signs p target f
high_signs p target f h l = record {
  number = sign_number false f h;
  below = λ e. absurd (true≢false (sym e ∙ ap (λ (z : Float). lt f z) zero_is ∙ not_below f h));
  above = l;
}

pub signs : (p target c : Float) → finite p ≡ true → T (positive target) → T (positive c) → Signs p target ((p ⊖ target) ⊘ c)
unfolding sub add neg sum lt
signs nan target c f t p = absurd (false≢true f)
signs (inf s) target c f t p = absurd (false≢true f)
signs (fin s m e) nan c f t p = absurd t
signs (fin s m e) (inf u) c f t p = absurd t
signs (fin s m e) (fin true n d) c f t p = absurd t
signs (fin true m e) (fin false n d) c f t p =
    let a = m * up e * down d in
    let b = n * up d * down e in
    let v = round binary64 true (a + b) (down e * down d) in
    low_signs (fin true m e) (fin false n d) (v ⊘ c) (div_keeps true v c (round_keeps binary64 true (a + b) (down e * down d)) p) (lt→ltb 0 (a + b) (more a b (mul-pos (mul-pos (ltb→lt 0 n t) (up_pos d)) (down_pos e))))
  where
    more : (a b : ℕ) → 0 < b → 0 < a + b
    more a b h = omega arith
signs (fin false m e) (fin false n d) c f t p = go (ltb a b) (ltb→lt a b) (nltb→le a b)
  where
    a : ℕ
    a = m * up e * down d

    b : ℕ
    b = n * up d * down e

    k : ℕ
    k = down e * down d

    same : a ≡ b → T (lt +0 (round binary64 false (a - b) k ⊘ c)) → ⊥
    same z h = subst T (quotient_zero k c (mul-pos (down_pos e) (down_pos d)) p) (subst (λ (w : ℕ). T (lt (fin false 0 (pos 0)) (round binary64 false w k ⊘ c))) (none a b z) (subst (λ (w : Float). T (lt w (round binary64 false (a - b) k ⊘ c))) zero_is h))
      where
        none : (a b : ℕ) → a ≡ b → a - b ≡ 0
        none a b z = omega arith

    go : (q : Bool) → (T q → a < b) → (T (not q) → b ≤ a) → Signs (fin false m e) (fin false n d) (cond q (round binary64 true (b - a) k) (round binary64 false (a - b) k) ⊘ c)
    go true l g = low_signs (fin false m e) (fin false n d) (round binary64 true (b - a) k ⊘ c) (div_keeps true (round binary64 true (b - a) k) c (round_keeps binary64 true (b - a) k) p) (lt→ltb a b (l tt))
    go false l g = high_signs (fin false m e) (fin false n d) (round binary64 false (a - b) k ⊘ c) (div_keeps false (round binary64 false (a - b) k) c (round_keeps binary64 false (a - b) k) p) (above (eq-or-lt_of_le (g tt)))
      where
        above : (b ≡ a) ⊎ (b < a) → T (lt +0 (round binary64 false (a - b) k ⊘ c)) → T (lt (fin false n d) (fin false m e))
        above (inl z) h = absurd (same (sym z) h)
        above (inr z) h = lt→ltb b a z
