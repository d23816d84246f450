-- A search tries fewer than 600 interior densities: each leaves at most 0.91 of the width, and two doubles of the range are 2 ^ -63 apart at least. Assumes nothing.
use mathlib.Core.Path.{◌≡◌, refl, sym, ap, subst}
use mathlib.Core.Logic.{inl, inr}
use mathlib.Core.List.{List, [], ◌∷◌}
use Prim.Native.Nat.{ℕ, zero, suc, ◌-◌, ◌*◌, ◌^◌, ◌≤◌, ◌<◌, zero-le, suc-le-suc}
use native.Mathlib.Nat.{lt_of_lt_of_le, lt_of_le_of_lt, le_of_eq, mul-le-mul_right, mul-lt-mul_of_pos_right, lt_of_mul-lt-mul_right, pow-suc, pow-zero}
use native.Mathlib.Omega.{arith}
use lib.Dec.{lit<}
use lib.Ieee.{Float}
use lib.ListN.{length}
use Rattle.gerg_search.specs.Steps.{step_of, moved_by, moved_of}
use Rattle.gerg_search.specs.Run.{on_try, counted, trials_from}
use Rattle.gerg_search.specs.States.{left_by}
use Rattle.interval.specs.declared.Interval.{Interval}
use Rattle.gerg_search.specs.declared.Options.{Options}
use Rattle.gerg_search.specs.Sample.{Sample}
use Rattle.gerg_search.specs.declared.Stage.{Stage}
use Rattle.gerg_search.specs.declared.Stage.TheVariants.{Interior}
use Rattle.gerg_search.specs.declared.Search.{Search}
use Rattle.gerg_search.specs.declared.Step.{Step}
use Rattle.gerg_search.specs.declared.Step.TheVariants.{Try, Accepted, Refused}
use Rattle.numerics.specs.Spacing.{unit, unit_pos, count}
use Rattle.numerics.specs.MiddleLaws.{floor, ceiling}
use Rattle.gerg_search.proofs.Laws.Shrink.{Shrunk}
use Rattle.gerg_search.proofs.Laws.Inner.{Inner, Narrowed, Gone, steps_on, stays_inner}

abbrev width : Interval → ℕ
width b = count b.hi - count b.lo

-- after k more trials the width would be below 2 ^ -63
abbrev Room : ℕ → ℕ → Type 0
Room k w = w * 2 ^ 63 * 91 ^ k < unit * 100 ^ k

room_less : (w w' u A B : ℕ) → 100 * w' ≤ 91 * w → w * 2 ^ 63 * (A * 91) < u * (B * 100) → w' * 2 ^ 63 * A < u * B
room_less w w' u A B h r = lt_of_mul-lt-mul_right 100 (omega (arith, r, mul-le-mul_right (2 ^ 63 * A) h))

room_suc : (k w w' : ℕ) → 100 * w' ≤ 91 * w → Room (suc k) w → Room k w'
room_suc k w w' h r = room_less w w' unit (91 ^ k) (100 ^ k) h (subst (λ (z : ℕ). w * 2 ^ 63 * z < unit * (100 ^ k * 100)) (pow-suc 91 k) (subst (λ (z : ℕ). w * 2 ^ 63 * 91 ^ suc k < unit * z) (pow-suc 100 k) r))

room_none : (w : ℕ) → unit ≤ w * 2 ^ 63 → Room 0 w → ⊥
room_none w h r = go (91 ^ 0) (100 ^ 0) (pow-zero 91) (pow-zero 100) r
  where
    go : (a b : ℕ) → a ≡ 1 → b ≡ 1 → w * 2 ^ 63 * a < unit * b → ⊥
    go a b p q r = omega (arith, subst (λ (z : ℕ). w * 2 ^ 63 * z < unit * 1) p (subst (λ (z : ℕ). w * 2 ^ 63 * a < unit * z) q r))

-- the whole range has room for 598
room_all : (w : ℕ) → w ≤ unit * 2 ^ 15 → Room 598 w
room_all w h = go w unit (91 ^ 598) (100 ^ 598) (2 ^ 15) (2 ^ 63) unit_pos (lit< tt) h
  where
    go : (w u A B c d : ℕ) → 0 < u → c * d * A < B → w ≤ u * c → w * d * A < u * B
    go w u A B c d p l h = lt_of_le_of_lt (mul-le-mul_right A (mul-le-mul_right d h)) (lt_of_le_of_lt (le_of_eq (regroup u c d A)) (lt_of_lt_of_le (mul-lt-mul_of_pos_right l p) (le_of_eq (native.Mathlib.Nat.mul_comm B u))))
      where
        regroup : (u c d A : ℕ) → u * c * d * A ≡ c * d * A * u
        regroup u c d A = omega arith

-- the part that a shrunk trial leaves
leaves : (o : Options) (v : Float → Sample) (s : Search) (b : Interval) → Shrunk s.bracket.lo s.density s.bracket.hi → Narrowed o v s b → 100 * width b ≤ 91 * width s.bracket
leaves o v s b t n = elim n.part [
  | inl p ↦ subst (λ (z : Float). 100 * (count z - count b.lo) ≤ 91 * width s.bracket) (sym p.0) (subst (λ (z : Float). 100 * (count s.bracket.hi - count z) ≤ 91 * width s.bracket) (sym p.1) t.right)
  | inr p ↦ subst (λ (z : Float). 100 * (count b.hi - count z) ≤ 91 * width s.bracket) (sym p.0) (subst (λ (z : Float). 100 * (count z - count s.bracket.lo) ≤ 91 * width s.bracket) (sym p.1) t.left)
]

module _ (o : Options) (v : Float → Sample) where
  -- an interior state's list begins with its density
  pub list_is : (n : ℕ) (s : Search) → s.stage ≡ Interior → trials_from o v (suc n) s ≡ s.density ∷ on_try (step_of o s (v s.density)) (λ x. trials_from o v n (moved_of s (v s.density) x)) []
  unfolding trials_from
  list_is n s e = ap (λ (g : Stage). counted g s.density (on_try (step_of o s (v s.density)) (λ x. trials_from o v n (moved_of s (v s.density) x)) [])) e

  rest : (n k : ℕ) (s : Search) (a : Step) → ((x : Float) → a ≡ Try x → length (trials_from o v n (moved_of s (v s.density) x)) ≤ k) → length (on_try a (λ x. trials_from o v n (moved_of s (v s.density) x)) []) ≤ k
  rest n k s (Try x) h = h x refl
  rest n k s (Accepted x) h = zero-le
  rest n k s (Refused m) h = zero-le

  one_more : (n k : ℕ) (s : Search) → s.stage ≡ Interior → ((x : Float) → step_of o s (v s.density) ≡ Try x → length (trials_from o v n (moved_of s (v s.density) x)) ≤ k) → length (trials_from o v (suc n) s) ≤ suc k
  one_more n k s e h = subst (λ (l : List Float). length l ≤ suc k) (sym (list_is n s e)) (suc-le-suc (rest n k s (step_of o s (v s.density)) h))

  shrunk_on : (s : Search) (x : Float) (g : Gone o v s x) → Shrunk (moved_of s (v s.density) x).bracket.lo (moved_of s (v s.density) x).density (moved_of s (v s.density) x).bracket.hi
  shrunk_on s x g = subst (λ (z : Search). Shrunk z.bracket.lo z.density z.bracket.hi) (sym g.moved) (unfold moved_by in g.shrunk)

  bounded : (n k : ℕ) (s : Search) → Inner o v s → Shrunk s.bracket.lo s.density s.bracket.hi → Room k (width s.bracket) → length (trials_from o v n s) ≤ k
  bounded zero k s i t p = unfold trials_from in zero-le
  bounded (suc n) zero s i t p = absurd (room_none (width s.bracket) (floor s.bracket.lo s.bracket.hi i.ranged) p)
  bounded (suc n) (suc k) s i t p =
      one_more n k s i.stage
      (λ x e.
      let g = steps_on o v s x i e in
      bounded n k (moved_of s (v s.density) x) (stays_inner o v s x i g) (shrunk_on s x g)
      (subst (λ (z : Search). Room k (width z.bracket)) (sym g.moved) (unfold moved_by in room_suc k (width s.bracket) (width (left_by s g.f)) (leaves o v s (left_by s g.f) t g.narrowed) p)))

  -- from the first interior trial on, which may be at an end
  pub first_bounded : (n : ℕ) (s : Search) → Inner o v s → length (trials_from o v n s) ≤ 599
  first_bounded zero s i = unfold trials_from in zero-le
  first_bounded (suc n) s i =
      one_more n 598 s i.stage
      (λ x e.
      let g = steps_on o v s x i e in
      bounded n 598 (moved_of s (v s.density) x) (stays_inner o v s x i g) (shrunk_on s x g)
      (subst (λ (z : Search). Room 598 (width z.bracket)) (sym g.moved) (unfold moved_by in room_all (width (left_by s g.f)) (ceiling (left_by s g.f).lo (left_by s g.f).hi g.narrowed.ranged))))
