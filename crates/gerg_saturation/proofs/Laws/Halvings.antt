-- What is left of the halvings at each turn of their loop. Assumes nothing.
use mathlib.Core.Path.{◌≡◌, sym, ap, ◌∙◌, subst}
use mathlib.Core.Bool.{Bool, true, false}
use mathlib.Core.List.{List, [], ◌∷◌}
use Prim.Native.Nat.{ℕ, suc, ◌+◌, ◌-◌, ◌≤◌, ◌<◌}
use native.Mathlib.Numerals.{add-one}
use native.Mathlib.Omega.{arith}
use lib.Ieee.{Float}
use lib.ListN.{length}
use Rattle.std.specs.Prelude.{Some, Ok, Err}
use Rattle.numerics.specs.Double.{pick}
use Rattle.gerg_refusals.specs.declared.Refusal.{Refusal}
use Rattle.gerg_refusals.specs.declared.Refusal.TheVariants as refusal
use Rattle.gerg_saturation.specs.Answer.{Tried}
use Rattle.interval.specs.Interval.{middle_of, narrowed_of, on_end}
use Rattle.gerg_saturation.specs.Halvings.{between_of, onward, ends_of, search_of, trials_from, numbered, answered_of, halvings_from, halvings_of}
use Rattle.gerg_saturation.specs.declared.PureSaturation.{PureSaturation}
use Rattle.interval.specs.declared.Interval.{Interval}
use Rattle.gerg_saturation.specs.declared.Verdict.TheVariants.{Accepted, Apart}

-- after k halvings with `trials` trials the interval is b: what is left ends where the whole ends, and with those made its trials are as many
pub record Ahead (v : Float → Tried) (limit : ℕ) (first : Interval) (k trials : ℕ) (b : Interval) : Type 0 where
  pub few : k ≤ limit
  pub fewer : trials ≤ k
  pub answer : halvings_from v (length (trials_from v limit first)) (limit - k) k b ≡ halvings_of v limit first
  pub count : trials + length (trials_from v (limit - k) b) ≡ length (trials_from v limit first)

module _ (v : Float → Tried) (limit : ℕ) (first : Interval) where
  pub begins : Ahead v limit first 0 0 first
  unfolding halvings_of
  begins = let e : limit - 0 ≡ limit = omega arith in record { few = omega arith; fewer = omega arith; answer = rw e; count = rw e (omega arith) }

  pub done : (k trials : ℕ) (b : Interval) → Ahead v limit first k trials b → limit ≤ k → Err (refusal.SaturationNotConverged trials) ≡ halvings_of v limit first
  unfolding halvings_from trials_from
  done k trials b a h =
      let e : limit - k ≡ 0 = omega arith in
      let n : trials + 0 ≡ length (trials_from v limit first) = subst (λ (z : ℕ). trials + length (trials_from v z b) ≡ length (trials_from v limit first)) e a.count in
      let m : trials ≡ length (trials_from v limit first) = omega (arith, n) in
      ap (λ (z : ℕ). Err (refusal.SaturationNotConverged z)) m ∙ subst (λ (z : ℕ). halvings_from v (length (trials_from v limit first)) z k b ≡ halvings_of v limit first) e a.answer

  module _ (k trials : ℕ) (b : Interval) (a : Ahead v limit first k trials b) (h : k < limit) where
    left : limit - k ≡ suc (limit - (k + 1))
    left = omega (arith, h)

    -- the answer by the verdict w at the middle, and the trials
    answer_at : (w : Tried) → w ≡ v (middle_of b) → answered_of (k + 1) w (onward b (middle_of b) w (λ c. halvings_from v (length (trials_from v limit first)) (limit - (k + 1)) (k + 1) c) (Err (refusal.SaturationNotConverged (length (trials_from v limit first))))) ≡ halvings_of v limit first
    unfolding halvings_from
    answer_at w e =
        rw (e, add-one k)
        (subst (λ (z : ℕ). halvings_from v (length (trials_from v limit first)) z k b ≡ halvings_of v limit first) (left ∙ ap (λ (z : ℕ). suc (limit - z)) (add-one k)) a.answer)

    count_at : (w : Tried) (n : ℕ) → w ≡ v (middle_of b) → n ≡ pick (between_of b (middle_of b)) (trials + 1) trials → n + length (onward b (middle_of b) w (λ c. trials_from v (limit - (k + 1)) c) []) ≡ length (trials_from v limit first)
    unfolding trials_from
    count_at w n e f =
        rw (e, f)
        (go (between_of b (middle_of b)) (onward b (middle_of b) (v (middle_of b)) (λ c. trials_from v (limit - (k + 1)) c) [])
        (subst (λ (z : ℕ). trials + length (trials_from v z b) ≡ length (trials_from v limit first)) left a.count))
      where
        go : (q : Bool) (rest : List Float) → trials + length (pick q (middle_of b ∷ rest) rest) ≡ length (trials_from v limit first) → pick q (trials + 1) trials + length rest ≡ length (trials_from v limit first)
        go true rest e = omega (arith, e)
        go false rest e = e

    fewer_at : (n : ℕ) → n ≡ pick (between_of b (middle_of b)) (trials + 1) trials → n ≤ k + 1
    fewer_at n e = go (between_of b (middle_of b)) e
      where
        go : (q : Bool) → n ≡ pick q (trials + 1) trials → n ≤ k + 1
        go true e = omega (arith, e, a.fewer)
        go false e = omega (arith, e, a.fewer)

    -- ---- x is the middle, w the verdict there, n the trials with it
    module _ (x : Float) (w : Tried) (n : ℕ) (i : x ≡ middle_of b) (e : w ≡ v x) (f : n ≡ pick (between_of b x) (trials + 1) trials) where
      is : w ≡ v (middle_of b)
      is = e ∙ ap v i

      trials_is : n ≡ pick (between_of b (middle_of b)) (trials + 1) trials
      trials_is = f ∙ ap (λ (z : Float). pick (between_of b z) (trials + 1) trials) i

      pub accepted : (s : PureSaturation) → w ≡ Ok (Accepted s) → Ok (Some (numbered (k + 1) s)) ≡ halvings_of v limit first
      unfolding answered_of
      accepted s g = answer_at (Ok (Accepted s)) (sym g ∙ is)

      pub refused : (r : Refusal) → w ≡ Err r → Err r ≡ halvings_of v limit first
      unfolding answered_of
      refused r g = answer_at (Err r) (sym g ∙ is)

      pub ended : (d : Float) → w ≡ Ok (Apart d) → on_end b x ≡ true → Err (refusal.SaturationNotConverged n) ≡ halvings_of v limit first
      unfolding answered_of onward
      ended d g t =
          let u : on_end b (middle_of b) ≡ true = ap (on_end b) (sym i) ∙ t in
          let y : n + 0 ≡ length (trials_from v limit first) = rw u at (count_at (Ok (Apart d)) n (sym g ∙ is) trials_is) in
          let m : n ≡ length (trials_from v limit first) = omega (arith, y) in
          ap (λ (z : ℕ). Err (refusal.SaturationNotConverged z)) m ∙ (rw u at (answer_at (Ok (Apart d)) (sym g ∙ is)))

      pub again : (d : Float) (c : Interval) → w ≡ Ok (Apart d) → on_end b x ≡ false → c ≡ narrowed_of b x d → Ahead v limit first (k + 1) n c
      unfolding answered_of onward
      again d c g t j =
          let u : on_end b (middle_of b) ≡ false = ap (on_end b) (sym i) ∙ t in
          let q : c ≡ narrowed_of b (middle_of b) d = j ∙ ap (λ (z : Float). narrowed_of b z d) i in
          record {
            few = omega (arith, h);
            fewer = fewer_at n trials_is;
            answer = rw q (rw u at (answer_at (Ok (Apart d)) (sym g ∙ is)));
            count = rw q (rw u at (count_at (Ok (Apart d)) n (sym g ∙ is) trials_is));
          }

-- ---- a refusal at the low end
pub low_refused : (v : Float → Tried) (limit : ℕ) (b : Interval) (r : Refusal) → v b.lo ≡ Err r → Err r ≡ search_of v limit b
unfolding search_of ends_of
low_refused v limit b r e = rw e
