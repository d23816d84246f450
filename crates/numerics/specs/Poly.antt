-- Polynomials in one variable with whole coefficients, the constant's first, at a fraction s. `ev_mul` and `ev_add`: the value of a product and of a sum.
-- `dominates`: one polynomial is at most another at every s up to 1 / M, by a test that computes. Assumes nothing.
use Rattle.std.specs.Prelude.{◌≡◌, refl, List, [], ◌∷◌, Bool, T, eqb}
use Rattle.std.proofs.Common.{sym, ap, ap₂, ◌∙◌, arith, eqb→eq}
use Prim.Native.Nat.{ℕ, zero, suc, ◌+◌, ◌-◌, ◌*◌, ◌/◌, ◌%◌, ◌≤◌, ◌<◌}
use native.Mathlib.Nat.{le_refl, le_trans, le_of_eq, mul-pos, mul-le-mul_right, mul-le-mul_left, le_of_mul-le-mul_right, eq_of_mul-eq-mul_right, lt-div-mul-add, le_of_lt, zero-lt-suc}
use Rattle.numerics.specs.Frac.{Frac, ◌⊑◌, ◌⊞◌, ◌⊠◌, nat, ⊑_trans}

-- ---- equal fractions
abbrev pub Eq : Frac → Frac → Type 0
Eq p q = p.top * q.bot ≡ q.top * p.bot

pub eq_sym : (p q : Frac) → Eq p q → Eq q p
eq_sym p q h = sym h

pub eq_trans : (p q r : Frac) → Eq p q → Eq q r → Eq p r
eq_trans p q r h k = eq_of_mul-eq-mul_right q.bot q.good (p.top * r.bot) (r.top * p.bot) (omega (arith, ap (λ (z : ℕ). z * r.bot) h, ap (λ (z : ℕ). z * p.bot) k))

pub eq-⊞ : (p q r s : Frac) → Eq p q → Eq r s → Eq (p ⊞ r) (q ⊞ s)
eq-⊞ p q r s h k = omega (arith, ap (λ (z : ℕ). z * (r.bot * s.bot)) h, ap (λ (z : ℕ). z * (p.bot * q.bot)) k)

pub eq-⊠ : (p q r s : Frac) → Eq p q → Eq r s → Eq (p ⊠ r) (q ⊠ s)
eq-⊠ p q r s h k = turn p.top p.bot q.top q.bot r.top r.bot s.top s.bot h k
  where
    turn : (a b c d e f g h : ℕ) → a * d ≡ c * b → e * h ≡ g * f → a * e * (d * h) ≡ c * g * (b * f)
    turn a b c d e f g h x y = native.Mathlib.Nat.mul-mul-mul_comm a e d h ∙ ap₂ ◌*◌ x y ∙ native.Mathlib.Nat.mul-mul-mul_comm c b g f

-- ---- values
unfoldable pub ev : List ℕ → Frac → Frac
ev [] s = nat 0
ev (c ∷ cs) s = nat c ⊞ s ⊠ ev cs s

unfoldable pub padd : List ℕ → List ℕ → List ℕ
padd [] q = q
padd (c ∷ p) [] = c ∷ p
padd (c ∷ p) (d ∷ q) = (c + d) ∷ padd p q

unfoldable pub pscale : ℕ → List ℕ → List ℕ
pscale k [] = []
pscale k (c ∷ p) = (k * c) ∷ pscale k p

unfoldable pub pmul : List ℕ → List ℕ → List ℕ
unfolding padd pscale
pmul [] q = []
pmul (c ∷ p) q = padd (pscale c q) (0 ∷ pmul p q)

pub ev_add : (p q : List ℕ) (s : Frac) → Eq (ev (padd p q) s) (ev p s ⊞ ev q s)
unfolding ev padd
ev_add [] q s = omega arith
ev_add (c ∷ p) [] s = omega arith
ev_add (c ∷ p) (d ∷ q) s =
    eq_trans (nat (c + d) ⊞ s ⊠ ev (padd p q) s) (nat (c + d) ⊞ s ⊠ (ev p s ⊞ ev q s)) (nat c ⊞ s ⊠ ev p s ⊞ (nat d ⊞ s ⊠ ev q s))
    (eq-⊞ (nat (c + d)) (nat (c + d)) (s ⊠ ev (padd p q) s) (s ⊠ (ev p s ⊞ ev q s)) refl (eq-⊠ s s (ev (padd p q) s) (ev p s ⊞ ev q s) refl (ev_add p q s)))
    (mix c d s.top s.bot (ev p s).top (ev p s).bot (ev q s).top (ev q s).bot)
  where
    mix : (c d a b e f g h : ℕ) → ((c + d) * (b * (f * h)) + a * (e * h + g * f) * 1) * (1 * (b * f) * (1 * (b * h))) ≡ ((c * (b * f) + a * e * 1) * (1 * (b * h)) + (d * (b * h) + a * g * 1) * (1 * (b * f))) * (1 * (b * (f * h)))
    mix c d a b e f g h = omega arith

pub ev_scale : (k : ℕ) (p : List ℕ) (s : Frac) → Eq (ev (pscale k p) s) (nat k ⊠ ev p s)
unfolding ev pscale
ev_scale k [] s = omega arith
ev_scale k (c ∷ p) s =
    eq_trans (nat (k * c) ⊞ s ⊠ ev (pscale k p) s) (nat (k * c) ⊞ s ⊠ (nat k ⊠ ev p s)) (nat k ⊠ (nat c ⊞ s ⊠ ev p s))
    (eq-⊞ (nat (k * c)) (nat (k * c)) (s ⊠ ev (pscale k p) s) (s ⊠ (nat k ⊠ ev p s)) refl (eq-⊠ s s (ev (pscale k p) s) (nat k ⊠ ev p s) refl (ev_scale k p s)))
    (mix k c s.top s.bot (ev p s).top (ev p s).bot)
  where
    mix : (k c a b e f : ℕ) → (k * c * (b * (1 * f)) + a * (k * e) * 1) * (1 * (1 * (b * f))) ≡ k * (c * (b * f) + a * e * 1) * (1 * (b * (1 * f)))
    mix k c a b e f = omega arith

pub ev_mul : (p q : List ℕ) (s : Frac) → Eq (ev (pmul p q) s) (ev p s ⊠ ev q s)
unfolding ev pmul
ev_mul [] q s = omega arith
ev_mul (c ∷ p) q s =
    eq_trans (ev (padd (pscale c q) (0 ∷ pmul p q)) s) (ev (pscale c q) s ⊞ ev (0 ∷ pmul p q) s) ((nat c ⊞ s ⊠ ev p s) ⊠ ev q s)
    (ev_add (pscale c q) (0 ∷ pmul p q) s)
    (eq_trans (ev (pscale c q) s ⊞ (nat 0 ⊞ s ⊠ ev (pmul p q) s)) ((nat c ⊠ ev q s) ⊞ (nat 0 ⊞ s ⊠ (ev p s ⊠ ev q s))) ((nat c ⊞ s ⊠ ev p s) ⊠ ev q s)
    (eq-⊞ (ev (pscale c q) s) (nat c ⊠ ev q s) (nat 0 ⊞ s ⊠ ev (pmul p q) s) (nat 0 ⊞ s ⊠ (ev p s ⊠ ev q s)) (ev_scale c q s)
    (eq-⊞ (nat 0) (nat 0) (s ⊠ ev (pmul p q) s) (s ⊠ (ev p s ⊠ ev q s)) refl (eq-⊠ s s (ev (pmul p q) s) (ev p s ⊠ ev q s) refl (ev_mul p q s))))
    (mix c s.top s.bot (ev p s).top (ev p s).bot (ev q s).top (ev q s).bot))
  where
    mix : (c a b e f g h : ℕ) → (c * g * (1 * (b * (f * h))) + (0 * (b * (f * h)) + a * (e * g) * 1) * (1 * h)) * (1 * (b * f) * h) ≡ (c * (b * f) + a * e * 1) * g * (1 * h * (1 * (b * (f * h))))
    mix c a b e f g h = omega arith

pub le_of_Eq : (p q : Frac) → Eq p q → p ⊑ q
le_of_Eq p q h = le_of_eq h

-- ---- one polynomial at most another, for s up to 1 / M: what is too much at a degree is carried down, divided by M and rounded up
carry : ℕ → ℕ → ℕ
carry M zero = 0
carry M (suc e) = suc e / M + 1

unfoldable pub excess : ℕ → List ℕ → List ℕ → ℕ
unfolding carry
excess M [] q = 0
excess M (a ∷ p) [] = a + carry M (excess M p [])
excess M (a ∷ p) (b ∷ q) = a + carry M (excess M p q) - b

carry_up : (M e : ℕ) → 0 < M → e ≤ carry M e * M
unfolding carry
carry_up M zero P = Prim.Native.Nat.zero-le
carry_up M (suc e) P = le_trans (le_of_lt (lt-div-mul-add {a = suc e} P)) (le_of_eq (shape (suc e / M) M))
  where
    shape : (x y : ℕ) → x * y + y ≡ (x + 1) * y
    shape x y = omega arith

-- a + s * A ≤ a + c + s * B, where A ≤ B + e, s ≤ 1 / M and e ≤ c * M
step : (a c e M st sb At Ab Bt Bb : ℕ) → 0 < M → st * M ≤ sb → e ≤ c * M → At * (Bb * 1) ≤ (Bt * 1 + e * Bb) * Ab
    → (a * (sb * Ab) + st * At * 1) * (1 * (sb * Bb)) ≤ ((a + c) * (sb * Bb) + st * Bt * 1) * (1 * (sb * Ab))
step a c e M st sb At Ab Bt Bb P hs hc hA =
    le_of_mul-le-mul_right {k = M} (le_trans (le_of_eq l) (le_trans (add (a * (sb * sb * (Ab * Bb) * M)) p1 p2 p3 p4 p5 h1 h2 h3) (le_of_eq (sym r)))) P
  where
    p1 : ℕ
    p1 = st * sb * M * (At * Bb)

    p2 : ℕ
    p2 = st * sb * M * (Bt * Ab)

    p3 : ℕ
    p3 = st * M * (sb * e * (Ab * Bb))

    p4 : ℕ
    p4 = e * (sb * sb * (Ab * Bb))

    p5 : ℕ
    p5 = c * M * (sb * sb * (Ab * Bb))

    h1 : p1 ≤ p2 + p3
    h1 = le_trans (mul-le-mul_left (st * sb * M) (omega (arith, hA))) (le_of_eq (spread st sb M Bt Ab e Bb))
      where
        spread : (st sb M Bt Ab e Bb : ℕ) → st * sb * M * ((Bt * 1 + e * Bb) * Ab) ≡ st * sb * M * (Bt * Ab) + st * M * (sb * e * (Ab * Bb))
        spread st sb M Bt Ab e Bb = omega arith

    h2 : p3 ≤ p4
    h2 = le_trans (mul-le-mul_right (sb * e * (Ab * Bb)) hs) (le_of_eq (turn sb e (Ab * Bb)))
      where
        turn : (sb e x : ℕ) → sb * (sb * e * x) ≡ e * (sb * sb * x)
        turn sb e x = omega arith

    h3 : p4 ≤ p5
    h3 = mul-le-mul_right (sb * sb * (Ab * Bb)) hc

    add : (p0 p1 p2 p3 p4 p5 : ℕ) → p1 ≤ p2 + p3 → p3 ≤ p4 → p4 ≤ p5 → p0 + p1 ≤ p0 + p5 + p2
    add p0 p1 p2 p3 p4 p5 x y z = omega arith

    l : (a * (sb * Ab) + st * At * 1) * (1 * (sb * Bb)) * M ≡ a * (sb * sb * (Ab * Bb) * M) + p1
    l = left a sb Ab st At Bb M
      where
        left : (a sb Ab st At Bb M : ℕ) → (a * (sb * Ab) + st * At * 1) * (1 * (sb * Bb)) * M ≡ a * (sb * sb * (Ab * Bb) * M) + st * sb * M * (At * Bb)
        left a sb Ab st At Bb M = omega arith

    r : ((a + c) * (sb * Bb) + st * Bt * 1) * (1 * (sb * Ab)) * M ≡ a * (sb * sb * (Ab * Bb) * M) + p5 + p2
    r = right a c sb Bb st Bt Ab M
      where
        right : (a c sb Bb st Bt Ab M : ℕ) → ((a + c) * (sb * Bb) + st * Bt * 1) * (1 * (sb * Ab)) * M ≡ a * (sb * sb * (Ab * Bb) * M) + c * M * (sb * sb * (Ab * Bb)) + st * sb * M * (Bt * Ab)
        right a c sb Bb st Bt Ab M = omega arith

pub excess_up : (M : ℕ) (p q : List ℕ) (s : Frac) → 0 < M → s.top * M ≤ s.bot → ev p s ⊑ ev q s ⊞ nat (excess M p q)
unfolding ev excess
excess_up M [] q s P h = omega arith
excess_up M (a ∷ p) [] s P h =
    let e = excess M p [] in
    let c = carry M e in
    let k = step a c e M s.top s.bot (ev p s).top (ev p s).bot 0 1 P h (carry_up M e P) (excess_up M p [] s P h) in
    tidy a c s.top s.bot (ev p s).top (ev p s).bot s.good k
  where
    tidy : (a c st sb At Ab : ℕ) → 0 < sb → (a * (sb * Ab) + st * At * 1) * (1 * (sb * 1)) ≤ ((a + c) * (sb * 1) + st * 0 * 1) * (1 * (sb * Ab)) → (a * (sb * Ab) + st * At * 1) * (1 * 1) ≤ (0 * 1 + (a + c) * 1) * (1 * (sb * Ab))
    tidy a c st sb At Ab P h = le_of_mul-le-mul_right {k = sb} (omega (arith, h)) P
excess_up M (a ∷ p) (b ∷ q) s P h =
    let e = excess M p q in
    let c = carry M e in
    let k = step a c e M s.top s.bot (ev p s).top (ev p s).bot (ev q s).top (ev q s).bot P h (carry_up M e P) (excess_up M p q s P h) in
    ⊑_trans (nat a ⊞ s ⊠ ev p s) (nat (a + c) ⊞ s ⊠ ev q s) (nat b ⊞ s ⊠ ev q s ⊞ nat (a + c - b)) k (last (a + c) b (s.bot * (ev q s).bot) (s.top * (ev q s).top))
  where
    last : (n b B t : ℕ) → (n * B + t * 1) * (1 * B * 1) ≤ ((b * B + t * 1) * 1 + (n - b) * (1 * B)) * (1 * B)
    last n b B t =
        let m : n ≤ b + (n - b) = omega arith in
        omega (arith, mul-le-mul_right (B * B) m)

unfoldable pub dominates : ℕ → List ℕ → List ℕ → Bool
unfolding excess
dominates M p q = eqb (excess M p q) 0

pub dominated : (M : ℕ) (p q : List ℕ) (s : Frac) → 0 < M → s.top * M ≤ s.bot → T (dominates M p q) → ev p s ⊑ ev q s
unfolding dominates
dominated M p q s P h t =
    let e : excess M p q ≡ 0 = eqb→eq (excess M p q) 0 t in
    ⊑_trans (ev p s) (ev q s ⊞ nat (excess M p q)) (ev q s) (excess_up M p q s P h) (rw e (omega arith))
