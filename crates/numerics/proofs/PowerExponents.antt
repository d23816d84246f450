-- Orders between exponents t⁺ l - t⁻ k, for the laws of the power: monotony, sums in t, what B times such an exponent is for t = (P - M) / B, and what the nearness of l and k leaves. Assumes nothing.
use Rattle.std.specs.Prelude.{◌≡◌, refl, ℕ, ◌+◌, ◌*◌, ◌≤◌, ◌<◌}
use Rattle.std.proofs.Common.{sym, ◌∙◌, ap, subst, le_refl, le_antisymm, le_trans, le_of_eq, add-le-add, mul-pos, mul_comm, mul-le-mul_right, mul-le-mul_left, arith}
use Rattle.numerics.specs.Frac.{Frac, ◌⊠◌}
use Rattle.numerics.specs.Exponential.{Signed, plus_of, raised, lowered}
use Rattle.numerics.proofs.ExpBoundSums.{◌≼◌, sum_of, times_of}
use Rattle.numerics.proofs.ExponentOrder.{Equal, equal_of, equal_scaled}
use Rattle.numerics.specs.Power.{product_bound}

-- ---- t⁺ l - t⁻ k grows with l and falls with k
fit : (P M B a b c d e f a' b' c' d' e' f' : ℕ) → a * c' + b' * c ≤ a' * c + b * c' → d' * f + e * f' ≤ d * f' + e' * f
    → (P * (a * f) + M * (e * c)) * (B * (c' * f')) + (P * (b' * f') + M * (d' * c')) * (B * (c * f)) ≤ (P * (a' * f') + M * (e' * c')) * (B * (c * f)) + (P * (b * f) + M * (d * c)) * (B * (c' * f'))
fit P M B a b c d e f a' b' c' d' e' f' h g =
    le_trans (le_of_eq (turn P M B a b' c d' e f c' f'))
    (le_trans (add-le-add (mul-le-mul_right (P * B * f * f') h) (mul-le-mul_right (M * B * c * c') g))
    (le_of_eq (sym (turn P M B a' b c' d e' f' c f ∙ swap (a' * c + b * c') (P * B * f' * f) (P * B * f * f') (d * f' + e' * f) (M * B * c' * c) (M * B * c * c') (omega arith) (omega arith)))))
  where
    turn : (P M B a b' c d' e f c' f' : ℕ) → (P * (a * f) + M * (e * c)) * (B * (c' * f')) + (P * (b' * f') + M * (d' * c')) * (B * (c * f)) ≡ (a * c' + b' * c) * (P * B * f * f') + (d' * f + e * f') * (M * B * c * c')
    turn P M B a b' c d' e f c' f' = omega arith

    swap : (x p q y r s : ℕ) → p ≡ q → r ≡ s → x * p + y * r ≡ x * q + y * s
    swap x p q y r s e f = rw (e, f) refl

pub product_bound_mono : (t l k l' k' : Signed) → l ≼ l' → k' ≼ k → product_bound t l k ≼ product_bound t l' k'
product_bound_mono t l k l' k' h g = fit t.plus t.minus t.bot l.plus l.minus l.bot k.plus k.minus k.bot l'.plus l'.minus l'.bot k'.plus k'.minus k'.bot h g

-- ---- t l, and |t|
abbrev pub product : Signed → Signed → Signed
product t l = record { plus = t.plus * l.plus + t.minus * l.minus; minus = t.plus * l.minus + t.minus * l.plus; bot = t.bot * l.bot; good = mul-pos t.good l.good }

abbrev pub magnitude : Signed → Frac
magnitude t = record { top = t.plus + t.minus; bot = t.bot; good = t.good }

-- ---- B (t⁺ l - t⁻ k) + M k = P l
times_plain : (P M B a b c d e f : ℕ) → P * a * (B * (c * f) * f) + (B * (P * (b * f) + M * (d * c)) * f + M * e * (B * (c * f))) * c ≡ (B * (P * (a * f) + M * (e * c)) * f + M * d * (B * (c * f))) * c + P * b * (B * (c * f) * f)
times_plain P M B a b c d e f = omega arith

pub product_bound_times : (t l k : Signed) → Equal (times_of t.plus l) (sum_of (times_of t.bot (product_bound t l k)) (times_of t.minus k))
product_bound_times t l k = equal_of (times_of t.plus l) (sum_of (times_of t.bot (product_bound t l k)) (times_of t.minus k)) (times_plain t.plus t.minus t.bot l.plus l.minus l.bot k.plus k.minus k.bot)

-- ---- (s + t) of l and k
pub product_bound_sum : (s t l k : Signed) → Equal (product_bound (sum_of s t) l k) (sum_of (product_bound s l k) (product_bound t l k))
product_bound_sum s t l k =
    equal_scaled (product_bound (sum_of s t) l k) (sum_of (product_bound s l k) (product_bound t l k)) (l.bot * k.bot) (plain s.plus s.minus s.bot t.plus t.minus t.bot (l.plus * k.bot) (k.minus * l.bot) (l.bot * k.bot))
    (plain s.plus s.minus s.bot t.plus t.minus t.bot (l.minus * k.bot) (k.plus * l.bot) (l.bot * k.bot)) (bots s.bot t.bot (l.bot * k.bot))
  where
    plain : (sp sm sb tp tm tb u v z : ℕ) → (sp * u + sm * v) * (tb * z) + (tp * u + tm * v) * (sb * z) ≡ ((sp * tb + tp * sb) * u + (sm * tb + tm * sb) * v) * z
    plain sp sm sb tp tm tb u v z = omega arith

    bots : (sb tb z : ℕ) → sb * z * (tb * z) ≡ sb * tb * z * z
    bots sb tb z = omega arith

-- ---- t l against t⁺ l - t⁻ k, where t has one sign or l = k
pub product_nonneg : (t l k : Signed) → t.minus ≡ 0 → Equal (product t l) (product_bound t l k)
product_nonneg t l k z = equal_scaled (product t l) (product_bound t l k) k.bot (rw z (omega arith)) (rw z (omega arith)) (bots t.bot l.bot k.bot)
  where
    bots : (B c f : ℕ) → B * (c * f) ≡ B * c * f
    bots B c f = omega arith

pub product_nonpos : (t l k : Signed) → t.plus ≡ 0 → Equal (product t k) (product_bound t l k)
product_nonpos t l k z = equal_scaled (product t k) (product_bound t l k) l.bot (rw z (omega arith)) (rw z (omega arith)) (bots t.bot l.bot k.bot)
  where
    bots : (B c f : ℕ) → B * (c * f) ≡ B * f * c
    bots B c f = omega arith

pub product_one : (t n : Signed) → Equal (product t n) (product_bound t n n)
product_one t n = equal_scaled (product t n) (product_bound t n n) n.bot (share t.plus t.minus n.plus n.minus n.bot) (share t.plus t.minus n.minus n.plus n.bot) (omega arith)
  where
    share : (P M a b c : ℕ) → P * (a * c) + M * (b * c) ≡ (P * a + M * b) * c
    share P M a b c = omega arith

-- ---- t (L ± d) is t L ± |t| d. With L = (u - v) / c and d / e for d: x = u e, y = v e, D = d c, z = c e
tops : (P M B u v e d c : ℕ) → (P * u + M * v) * (B * e) + (P + M) * d * (B * c) ≡ B * (P * (u * e) + M * (v * e) + (P + M) * (d * c))
tops P M B u v e d c = omega arith

rests : (P M B u v e : ℕ) → (P * v + M * u) * (B * e) ≡ B * (P * (v * e) + M * (u * e))
rests P M B u v e = omega arith

bots : (B c e : ℕ) → B * c * (B * e) ≡ B * (B * (c * e))
bots B c e = omega arith

pub product_raised : (t L : Signed) (d : Frac) → Equal (product_bound t (raised L d) (lowered L d)) (raised (product t L) (magnitude t ⊠ d))
product_raised t L d =
    equal_of (product_bound t (raised L d) (lowered L d)) (raised (product t L) (magnitude t ⊠ d))
    (rw (tops t.plus t.minus t.bot L.plus L.minus d.bot d.top L.bot, rests t.plus t.minus t.bot L.plus L.minus d.bot, bots t.bot L.bot d.bot)
    (plain t.plus t.minus t.bot (L.plus * d.bot) (L.minus * d.bot) (d.top * L.bot) (L.bot * d.bot)))
  where
    plain : (P M B x y D z : ℕ) → (P * ((x + D) * z) + M * ((y + D) * z)) * (B * (B * z)) + B * (P * y + M * x) * (B * (z * z)) ≡ B * (P * x + M * y + (P + M) * D) * (B * (z * z)) + (P * (y * z) + M * (x * z)) * (B * (B * z))
    plain P M B x y D z = omega arith

pub product_lowered : (t L : Signed) (d : Frac) → Equal (product_bound t (lowered L d) (raised L d)) (lowered (product t L) (magnitude t ⊠ d))
product_lowered t L d =
    equal_of (product_bound t (lowered L d) (raised L d)) (lowered (product t L) (magnitude t ⊠ d))
    (rw (rests t.plus t.minus t.bot L.minus L.plus d.bot, tops t.plus t.minus t.bot L.minus L.plus d.bot d.top L.bot, bots t.bot L.bot d.bot)
    (plain t.plus t.minus t.bot (L.plus * d.bot) (L.minus * d.bot) (d.top * L.bot) (L.bot * d.bot)))
  where
    plain : (P M B x y D z : ℕ) → (P * (x * z) + M * (y * z)) * (B * (B * z)) + B * (P * y + M * x + (P + M) * D) * (B * (z * z)) ≡ B * (P * x + M * y) * (B * (z * z)) + (P * ((y + D) * z) + M * ((x + D) * z)) * (B * (B * z))
    plain P M B x y D z = omega arith

-- ---- steps of s / (2 (P + M + 1)): two of them, taken P + M times, are at most s
pub step_pos : (t : Signed) (s : Frac) → 0 < s.bot * (2 * (t.plus + t.minus + 1))
step_pos t s = mul-pos s.good (omega arith)

abbrev pub step : Signed → Frac → Frac
step t s = record { top = s.top; bot = s.bot * (2 * (t.plus + t.minus + 1)); good = step_pos t s }

-- (P + M) (l - k) ≤ s
abbrev pub Apart : Signed → Frac → Signed → Signed → Type 0
Apart t s l k = (t.plus + t.minus) * (l.plus * k.bot + k.minus * l.bot) * s.bot ≤ s.top * (l.bot * k.bot) + (t.plus + t.minus) * (l.minus * k.bot + k.plus * l.bot) * s.bot

two_steps : (kp km kb u v : ℕ) → ((kp * v + u * kb) * v + u * (kb * v)) * kb + km * (kb * v * v) ≡ km * v * v * kb + kp * (kb * v * v) + 2 * u * (kb * kb * v)
two_steps kp km kb u v = omega arith

apart_plain : (w st sb X Y Z n : ℕ) → X ≡ Y + 2 * st * Z → n ≡ w + 1 → w * X * sb ≤ st * (Z * (sb * (2 * n))) + w * Y * sb
apart_plain w st sb X Y Z n e f = rw (e, f) (omega arith)

pub apart : (t : Signed) (s : Frac) (k : Signed) → Apart t s (raised (raised k (step t s)) (step t s)) k
apart t s k =
    let w = t.plus + t.minus in
    let v = s.bot * (2 * (w + 1)) in
    le_trans (apart_plain w s.top s.bot (((k.plus * v + s.top * k.bot) * v + s.top * (k.bot * v)) * k.bot + k.minus * (k.bot * v * v)) (k.minus * v * v * k.bot + k.plus * (k.bot * v * v)) (k.bot * k.bot * v) (w + 1) (two_steps k.plus k.minus k.bot s.top v) refl)
    (add-le-add (le_of_eq (turn s.top k.bot v)) (le_refl (w * (k.minus * v * v * k.bot + k.plus * (k.bot * v * v)) * s.bot)))
  where
    turn : (a b v : ℕ) → a * (b * b * v * v) ≡ a * (b * v * v * b)
    turn a b v = omega arith

-- ---- orders that hold where l and k are so near
-- U - U' is the top of l, W - W' that of -k, over z = (bot of l) (bot of k)
first_plain : (P M B U W l a z : ℕ) → U * l ≡ a * z → B * (P * U + M * W) * l + M * a * (B * z) ≡ ((P + M) * U + M * W) * (B * l)
first_plain P M B U W l a z e = le_antisymm (omega (arith, ap (λ (y : ℕ). M * B * y) e)) (omega (arith, ap (λ (y : ℕ). M * B * y) e))

core_above : (P M U W U' W' z kp km kb st sb : ℕ) → km * z ≡ W * kb → kp * z ≡ W' * kb → (P + M) * (U + W) * sb ≤ st * z + (P + M) * (U' + W') * sb
    → ((P + M) * U + M * W) * (kb * sb) + (P * km * sb + 0 * kb) * z ≤ (P * kp * sb + st * kb) * z + ((P + M) * U' + M * W') * (kb * sb)
core_above P M U W U' W' z kp km kb st sb e f h = rw (low P km sb kb z W e, high P kp sb st kb z W' f) (plain P M U W U' W' z kb st sb h)
  where
    low : (P a s b z w : ℕ) → a * z ≡ w * b → (P * a * s + 0 * b) * z ≡ P * w * (b * s)
    low P a s b z w e = omega (arith, ap (λ (y : ℕ). P * s * y) e)

    high : (P a s t b z w : ℕ) → a * z ≡ w * b → (P * a * s + t * b) * z ≡ P * w * (b * s) + t * z * b
    high P a s t b z w e = omega (arith, ap (λ (y : ℕ). P * s * y) e)

    plain : (P M U W U' W' z b t s : ℕ) → (P + M) * (U + W) * s ≤ t * z + (P + M) * (U' + W') * s → ((P + M) * U + M * W) * (b * s) + P * W * (b * s) ≤ P * W' * (b * s) + t * z * b + ((P + M) * U' + M * W') * (b * s)
    plain P M U W U' W' z b t s h = omega (arith, mul-le-mul_right b h)

scaled : (a b c d E z x : ℕ) → a * x + b * z ≤ c * z + d * x → a * E * x + b * (z * E) ≤ c * (z * E) + d * E * x
scaled a b c d E z x h = omega (arith, mul-le-mul_right E h)

pub gap_above : (t : Signed) (s : Frac) (l k : Signed) → Apart t s l k → sum_of (times_of t.bot (product_bound t l k)) (times_of t.minus l) ≼ sum_of (times_of t.plus k) (plus_of s)
gap_above t s l k h =
    let P = t.plus in
    let M = t.minus in
    let B = t.bot in
    let U = l.plus * k.bot in
    let W = k.minus * l.bot in
    let U' = l.minus * k.bot in
    let W' = k.plus * l.bot in
    let z = l.bot * k.bot in
    rw (first_plain P M B U W l.bot l.plus z (turn l.plus k.bot l.bot), first_plain P M B U' W' l.bot l.minus z (turn l.minus k.bot l.bot), bot B z l.bot)
    (scaled ((P + M) * U + M * W) (P * k.minus * s.bot + 0 * k.bot) (P * k.plus * s.bot + s.top * k.bot) ((P + M) * U' + M * W') (B * l.bot) z (k.bot * s.bot)
    (core_above P M U W U' W' z k.plus k.minus k.bot s.top s.bot (turn' k.minus l.bot k.bot) (turn' k.plus l.bot k.bot) h))
  where
    turn : (a b c : ℕ) → a * b * c ≡ a * (c * b)
    turn a b c = omega arith

    turn' : (a b c : ℕ) → a * (b * c) ≡ a * b * c
    turn' a b c = omega arith

    bot : (B z l : ℕ) → B * z * l ≡ z * (B * l)
    bot B z l = omega arith

core_below : (P M U W U' W' z E lp lm lb st sb : ℕ) → lp * z ≡ U * lb → lm * z ≡ U' * lb → (P + M) * (U + W) * sb ≤ st * z + (P + M) * (U' + W') * sb
    → P * lp * (z * E * sb) + (((P + M) * W + M * U) * E * sb + 0 * (z * E)) * lb ≤ (((P + M) * W' + M * U') * E * sb + st * (z * E)) * lb + P * lm * (z * E * sb)
core_below P M U W U' W' z E lp lm lb st sb e f h =
    rw (pull P lp z E sb U lb e, pull P lm z E sb U' lb f)
    (le_trans (le_of_eq (left P M U W z E lb sb)) (le_trans (mul-le-mul_right (E * lb) h) (le_of_eq (right P M U' W' z E lb st sb))))
  where
    pull : (P a z E s U b : ℕ) → a * z ≡ U * b → P * a * (z * E * s) ≡ P * U * s * (E * b)
    pull P a z E s U b e = omega (arith, ap (λ (y : ℕ). P * E * s * y) e)

    left : (P M U W z E b s : ℕ) → P * U * s * (E * b) + (((P + M) * W + M * U) * E * s + 0 * (z * E)) * b ≡ (P + M) * (U + W) * s * (E * b)
    left P M U W z E b s = omega arith

    right : (P M U W z E b t s : ℕ) → (t * z + (P + M) * (U + W) * s) * (E * b) ≡ (((P + M) * W + M * U) * E * s + t * (z * E)) * b + P * U * s * (E * b)
    right P M U W z E b t s = omega arith

turned : (t : Signed) (s : Frac) (l k : Signed) → Apart t s l k
    → (t.plus + t.minus) * (l.plus * k.bot + k.minus * l.bot) * s.bot ≤ s.top * (k.bot * l.bot) + (t.plus + t.minus) * (l.minus * k.bot + k.plus * l.bot) * s.bot
turned t s l k h = subst (λ (z : ℕ). (t.plus + t.minus) * (l.plus * k.bot + k.minus * l.bot) * s.bot ≤ s.top * z + (t.plus + t.minus) * (l.minus * k.bot + k.plus * l.bot) * s.bot) (mul_comm l.bot k.bot) h

pub gap_below : (t : Signed) (s : Frac) (l k : Signed) → Apart t s l k → times_of t.plus l ≼ sum_of (sum_of (times_of t.bot (product_bound t k l)) (times_of t.minus k)) (plus_of s)
gap_below t s l k h =
    let P = t.plus in
    let M = t.minus in
    let B = t.bot in
    let U = l.plus * k.bot in
    let W = k.minus * l.bot in
    let U' = l.minus * k.bot in
    let W' = k.plus * l.bot in
    let z = k.bot * l.bot in
    rw (first_plain P M B W' U' k.bot k.plus z (turn k.plus l.bot k.bot), first_plain P M B W U k.bot k.minus z (turn k.minus l.bot k.bot), bot B z k.bot)
    (core_below P M U W U' W' z (B * k.bot) l.plus l.minus l.bot s.top s.bot (turn' l.plus k.bot l.bot) (turn' l.minus k.bot l.bot) (turned t s l k h))
  where
    turn : (a b c : ℕ) → a * b * c ≡ a * (c * b)
    turn a b c = omega arith

    turn' : (a b c : ℕ) → a * (b * c) ≡ a * b * c
    turn' a b c = omega arith

    bot : (B z l : ℕ) → B * z * l ≡ z * (B * l)
    bot B z l = omega arith

core_product : (P M U W U' W' z y y' st sb : ℕ) → y ≡ y' → z ≤ y → (P + M) * (U + W) * sb ≤ st * z + (P + M) * (U' + W') * sb
    → (P * U + M * W) * (y' * sb) + (P * W + M * U) * sb * y ≤ ((P * W' + M * U') * sb + st * y') * y + (P * U' + M * W') * (y' * sb)
core_product P M U W U' W' z y y' st sb e n h =
    rw (sym e)
    (le_trans (le_of_eq (left P M U W y sb))
    (le_trans (mul-le-mul_right y h) (le_trans (le_of_eq (middle (st * z) ((P + M) * (U' + W') * sb) y)) (le_trans (add-le-add (mul-le-mul_right y (mul-le-mul_left st n)) (le_refl ((P + M) * (U' + W') * sb * y))) (le_of_eq (right P M U' W' y st sb))))))
  where
    left : (P M U W y s : ℕ) → (P * U + M * W) * (y * s) + (P * W + M * U) * s * y ≡ (P + M) * (U + W) * s * y
    left P M U W y s = omega arith

    right : (P M U W y t s : ℕ) → t * y * y + (P + M) * (U + W) * s * y ≡ ((P * W + M * U) * s + t * y) * y + (P * U + M * W) * (y * s)
    right P M U W y t s = omega arith

    middle : (a b y : ℕ) → (a + b) * y ≡ a * y + b * y
    middle a b y = omega arith

pub gap_product : (t : Signed) (s : Frac) (l k : Signed) → Apart t s l k → product_bound t l k ≼ raised (product_bound t k l) s
gap_product t s l k h =
    core_product t.plus t.minus (l.plus * k.bot) (k.minus * l.bot) (l.minus * k.bot) (k.plus * l.bot) (l.bot * k.bot) (t.bot * (l.bot * k.bot)) (t.bot * (k.bot * l.bot)) s.top s.bot
    (ap (λ (z : ℕ). t.bot * z) (mul_comm l.bot k.bot)) (more t.bot (l.bot * k.bot) t.good) h
  where
    more : (b z : ℕ) → 0 < b → z ≤ b * z
    more b z h = omega (arith, mul-le-mul_right z h)
