-- Lists of densities, each greater than those before it. Assumes nothing.
use mathlib.Core.Path.{◌≡◌, sym, ap, ◌∙◌, subst}
use mathlib.Core.Logic.{◌⊎◌, inl, inr}
use mathlib.Core.Bool.{false, not, true≢false}
use mathlib.Core.List.{List, [], ◌∷◌, ◌++◌}
use Prim.Native.Nat.{ℕ, ◌+◌, ◌-◌, ◌*◌, ◌^◌, ◌≤◌, ◌<◌}
use native.Mathlib.Nat.{lt_trans, eq-or-lt_of_le}
use native.Mathlib.Omega.{arith}
use lib.Ieee.{Float, nan, eq}
use lib.ListN.{length, get_or, length-append, get_or-append}
use lib.Seq.{get_or-append_seam}
use Rattle.numerics.specs.Double.{+0}
use Rattle.numerics.specs.Finite.{eq_self}
use Rattle.numerics.specs.Order.{less_numbers, positive_above}
use Rattle.numerics.specs.Spacing.{unit, count, Good, same}

-- a double from 2 ^ -10 to 2 ^ 15
pub record Density (x : Float) : Type 0 where
  pub good : Good x
  pub least : unit ≤ count x * 2 ^ 10
  pub most : count x ≤ unit * 2 ^ 15

pub record Rising (l : List Float) : Type 0 where
  pub each : (i : ℕ) → i < length l → Density (get_or l i nan)
  pub order : (i j : ℕ) → i < j → j < length l → count (get_or l i nan) < count (get_or l j nan)

pub rising_none : Rising []
rising_none = record { each = λ i h. absurd (none i h); order = λ i j h k. absurd (none j k) }
  where
    none : (i : ℕ) → i < 0 → ⊥
    none i h = omega arith

abbrev pub last : List Float → Float
last l = get_or l (length l - 1) nan

pub last_more : (l : List Float) (x : Float) → last (l ++ (x ∷ [])) ≡ x
last_more l x =
    let n : length (l ++ (x ∷ [])) - 1 ≡ length l = omega (arith, length-append l (x ∷ [])) in
    ap (λ (k : ℕ). get_or (l ++ (x ∷ [])) k nan) n ∙ get_or-append_seam l x [] nan

pub strictly : (x y : Float) → count x ≤ count y → (count x ≡ count y → ⊥) → count x < count y
strictly x y h n = elim (eq-or-lt_of_le h) [ inl e ↦ absurd (n e) | inr l ↦ l ]

module _ (l : List Float) (x : Float) (r : Rising l) (d : Density x) (h : 0 < length l → count (last l) < count x) where
  under : (i : ℕ) → i < length l → count (get_or l i nan) < count x
  under i k = elim (eq-or-lt_of_le {n = i} {m = length l - 1} (omega arith)) [ inl e ↦ subst (λ (z : ℕ). count (get_or l z nan) < count x) (sym e) (h (omega arith)) | inr m ↦ lt_trans (r.order i (length l - 1) m (omega arith)) (h (omega arith)) ]

  whole : length (l ++ (x ∷ [])) ≡ length l + 1
  whole = length-append l (x ∷ [])

  place : (i : ℕ) → i < length (l ++ (x ∷ [])) → (i < length l) ⊎ (i ≡ length l)
  place i k = elim (eq-or-lt_of_le {n = i} {m = length l} (omega (arith, whole))) [ inl e ↦ inr e | inr m ↦ inl m ]

  at_front : (i : ℕ) → i < length l → get_or (l ++ (x ∷ [])) i nan ≡ get_or l i nan
  at_front i k = get_or-append l (x ∷ []) nan i k

  at_end : (i : ℕ) → i ≡ length l → get_or (l ++ (x ∷ [])) i nan ≡ x
  at_end i e = ap (λ (n : ℕ). get_or (l ++ (x ∷ [])) n nan) e ∙ get_or-append_seam l x [] nan

  -- one more, above the last
  pub rising_more : Rising (l ++ (x ∷ []))
  rising_more = record {
    each = λ i k. elim (place i k) [ inl m ↦ subst (λ (z : Float). Density z) (sym (at_front i m)) (r.each i m) | inr e ↦ subst (λ (z : Float). Density z) (sym (at_end i e)) d ];
    order = λ i j g k. elim (place j k) [
      | inl m ↦ (let n : i < length l = omega arith in rw (at_front i n, at_front j m) (r.order i j g m))
      | inr e ↦ (let n : i < length l = omega arith in rw (at_front i n, at_end j e) (under i n))
    ];
  }

-- ---- doubles that a test finds unlike
pub unlike_count : (x y : Float) → Good x → Good y → eq x y ≡ false → count x ≡ count y → ⊥
unlike_count x y g h e c =
    let s = same x y g h c in
    true≢false (sym (ap not (less_numbers +0 x (positive_above x g.above)).1) ∙ sym (eq_self x) ∙ ap (λ (z : Float). eq x z) s ∙ e)
