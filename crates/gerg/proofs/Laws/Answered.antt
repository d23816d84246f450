-- What rows 10 to 12 leave of an answered state. Row 10's test passes a NaN; row 12's, on the stiffness and on cp, a sum with cv in it, passes none. Assumes nothing.
use mathlib.Core.Path.{◌≡◌, refl, sym, ap, ◌∙◌, subst}
use mathlib.Core.Bool.{Bool, true, false, not, ◌&&◌, ◌||◌, beq, false≢true}
use Prim.Native.Nat.{ℕ, ◌*◌}
use native.Mathlib.Omega.{arith}
use borrow.Author.Tests.{not-false}
use lib.IntN.{pos}
use lib.Dec.{T, eqb, eqb→eq}
use lib.Ieee.{Float, nan, inf, fin, up, down, level, add, lt, le, eq}
use lib.Ieee.Fits.{and_l}
use lib.Ieee.Scale.{finite}
use Rattle.numerics.specs.Tests.{or_false, and_true, holds}
use Rattle.numerics.specs.Double.{◌⊕◌, ◌⊗◌, ◌⊘◌, +0}
use Rattle.elementary.specs.Power.{powi_byte_of}
use Rattle.gerg_tables.specs.declared.Tables.{Tables}
use Rattle.gerg_reducing.specs.declared.GergModel.{GergModel}
use Rattle.gerg.specs.declared.GergState.{GergState}
use Rattle.gerg.specs.declared.Range.{Range}
use Rattle.gerg.specs.Evaluate.{evaluate_of, stiffness_of, pressure_slope_of, cv_of, cp_of, pressure_out, finite_state, parts_of, state_of, state_from}
pub use Rattle.gerg.specs.Answered.{Answered}
use Rattle.numerics.specs.Zero.{zero_is, above_zero}
use Rattle.gerg.proofs.Laws.Admitted.{evaluate_admitted}
use Rattle.std.specs.Prelude.{Ok}

-- ---- row 11
-- what zero is level with is level with zero
level_zero : (s : Bool) (a b : ℕ) → a ≡ 0 → T (level false a s b) → T (level s b false a)
level_zero s a b z t = subst (λ (k : ℕ). T (level s k false a)) same (subst (λ (k : ℕ). T (level s k false k)) (sym z) (go s))
  where
    same : a ≡ b
    same = eqb→eq a b (and_l (eqb a b) (beq false s || eqb a 0) t)

    go : (s : Bool) → T (level s 0 false 0)
    go true = tt
    go false = tt

zero_level : (p : Float) → T (eq (fin false 0 (pos 0)) p) → T (eq p (fin false 0 (pos 0)))
unfolding eq
zero_level nan t = absurd t
zero_level (inf s) t = absurd t
zero_level (fin s m e) t = level_zero s (0 * 1 * down e) (m * up e * 1) (omega arith) t

not_zero : (p : Float) → T (le +0 p) → eq p +0 ≡ false → T (lt +0 p)
unfolding le
not_zero p t e = go (lt +0 p) t
  where
    level_with : T (eq +0 p) → ⊥
    level_with t = subst T e (subst (λ (z : Float). T (eq p z)) (sym zero_is) (zero_level p (subst (λ (z : Float). T (eq z p)) zero_is t)))

    go : (b : Bool) → T (b || eq +0 p) → T b
    go true t = tt
    go false t = absurd (level_with t)

pub pressure_in : (high p : Float) → pressure_out high p ≡ false → T (lt +0 p) × T (le p high)
unfolding pressure_out
pressure_in high p e =
    let parts = or_false (not (le +0 p && le p high)) (eq p +0) e in
    let ends = and_true (le +0 p) (le p high) (not-false (le +0 p && le p high) parts.0) in
    (not_zero p (holds (le +0 p) ends.0) parts.1, holds (le p high) ends.1)

-- ---- row 12
-- a sum is finite only where its first term is
term_finite : (x y : Float) → finite (x ⊕ y) ≡ true → finite x ≡ true
unfolding add
term_finite nan y e = absurd (false≢true e)
term_finite (inf s) nan e = absurd (false≢true e)
term_finite (inf true) (inf true) e = absurd (false≢true e)
term_finite (inf true) (inf false) e = absurd (false≢true e)
term_finite (inf false) (inf true) e = absurd (false≢true e)
term_finite (inf false) (inf false) e = absurd (false≢true e)
term_finite (inf s) (fin t n d) e = absurd (false≢true e)
term_finite (fin s m d) y e = refl

numbers : (s : GergState) → finite_state s ≡ true → (finite s.cp ≡ true) × (finite s.dp_drho ≡ true)
unfolding finite_state
numbers s e =
    let e5 = and_true _ (finite s.dp_dt) e in
    let e4 = and_true _ (finite s.dp_drho) e5.0 in
    let e3 = and_true _ (finite s.speed_of_sound) e4.0 in
    let e2 = and_true _ (finite s.helmholtz_energy) e3.0 in
    let e1 = and_true (finite s.cp) (finite s.internal_energy) e2.0 in
    (e1.0, e4.1)

-- cv is a term of cp
cv_finite : (s : GergState) (temperature rho mass : Float) → s ≡ state_of s.derivatives temperature rho mass → finite s.cp ≡ true → finite s.cv ≡ true
unfolding state_of state_from parts_of cp_of
cv_finite s temperature rho mass q e =
    let a = s.derivatives in
    let rest = temperature ⊗ powi_byte_of (pressure_slope_of a rho ⊘ rho) 2 ⊘ stiffness_of a temperature in
    let cp : s.cp ≡ cv_of a ⊕ rest = ap (λ (z : GergState). z.cp) q in
    let cv : s.cv ≡ cv_of a = ap (λ (z : GergState). z.cv) q in
    ap finite cv ∙ term_finite (cv_of a) rest (ap finite (sym cp) ∙ e)

density_same : (s : GergState) (temperature rho mass : Float) → s ≡ state_of s.derivatives temperature rho mass → s.molar_density ≡ rho
unfolding state_of state_from parts_of
density_same s temperature rho mass q = ap (λ (z : GergState). z.molar_density) q

pub answered : (t : Tables) (m : GergModel) (range : Range) (temperature rho : Float) (s : GergState) → evaluate_of t m range temperature rho ≡ Ok s → Answered range rho s
answered t m range temperature rho s e =
    let a = evaluate_admitted t m range temperature rho s e in
    let p = pressure_in range.pressure_high s.pressure_pa a.pressure_within in
    let n = numbers s a.numbers_finite in
    record {
      density = density_same s temperature rho m.molar_mass a.state;
      pressure_above = p.0;
      pressure_at_most = p.1;
      stiffness = above_zero s.dp_drho n.1 a.stiffness_positive;
      cv = above_zero s.cv (cv_finite s temperature rho m.molar_mass a.state n.0) a.cv_positive;
    }
