-- What every answer of `outer_roots` keeps, whatever the file, the mixture, the range, the temperature and the pressure. Assumes nothing.
use mathlib.Core.Path.{◌≡◌, ap, ◌∙◌}
use mathlib.Core.List.{List}
use Prim.Native.Nat.{ℕ, ◌+◌, ◌*◌, ◌^◌, ◌≤◌, ◌<◌}
use native.Mathlib.Nat.{lt_trans, mul-le-mul}
use native.Mathlib.Omega.{arith}
use lib.Dec.{T}
use lib.Ieee.{Float, nan, lt}
use lib.ListN.{length, get_or}
use Rattle.numerics.specs.Spacing.{count→lt}
use Rattle.gerg_tables.specs.declared.Tables.{Tables}
use Rattle.gerg_reducing.specs.declared.GergModel.{GergModel}
use Rattle.gerg.specs.declared.Range.{Range}
use Rattle.gerg_flash.specs.Roots.{searched_of, roots_of, roots_memory}
use Rattle.gerg_refusals.specs.Answer.{number_of, value_of}
use Rattle.gerg_root_list.specs.RootList.{roots_in}
use Rattle.std.specs.Prelude.{Ok}
use Rattle.gerg_flash.proofs.Laws.Few.{searched_few}
use Rattle.gerg_root_list.proofs.Laws.RootList.{root_list}
use Rattle.gerg_flash.proofs.Laws.RootsRise.{searched_rises}
use Rattle.gerg_flash.proofs.Laws.Values.{roots_told}
use Rattle.gerg_root_list.proofs.Laws.Written.{list_length, density_at, past_stay, refused_stays, Accepted}
use Rattle.gerg_flash.proofs.Laws.Accepted.{roots_accepted}

-- ---- of an accepted call, which answers n roots
module _ (t : Tables) (m : GergModel) (gradients : List (List Float)) (range : Range) (temperature pressure : Float) (out : List Float) (n : ℕ) (e : roots_of t m gradients range temperature pressure (length out) ≡ Ok n) where
  accepted : Accepted m (length out) n (searched_of t m gradients range temperature pressure)
  accepted = roots_accepted t m gradients range temperature pressure (length out) n e

  -- it has a root at least
  pub some_root : 0 < n
  some_root = omega (arith, accepted.some, accepted.count)

  -- as many doubles as it needs were lent
  pub needed_lent : n * (4 + m.components) ≤ length out
  needed_lent = omega (arith, ap (λ (c : ℕ). c * (4 + m.components)) accepted.count, accepted.room)

  density : (i : ℕ) → i < n → get_or (roots_memory t m gradients range temperature pressure out) (i * (4 + m.components)) nan ≡ get_or (root_list (roots_in (searched_of t m gradients range temperature pressure))) i nan
  unfolding roots_memory
  density i h = density_at m (searched_of t m gradients range temperature pressure) (roots_of t m gradients range temperature pressure (length out)) n out e needed_lent i h

  -- "Root lists rise strictly": of two roots as they are written, 4 + the list's length doubles each with the density first, the later has the greater density
  pub root_lists_rise : (i j : ℕ) → i < j → j < n → T (lt (get_or (roots_memory t m gradients range temperature pressure out) (i * (4 + m.components)) nan) (get_or (roots_memory t m gradients range temperature pressure out) (j * (4 + m.components)) nan))
  root_lists_rise i j h k =
      let l = root_list (roots_in (searched_of t m gradients range temperature pressure)) in
      let r = searched_rises t m gradients range temperature pressure in
      let whole : length l ≡ n = list_length (roots_in (searched_of t m gradients range temperature pressure)) ∙ accepted.count in
      let b : j < length l = omega (arith, whole) in
      rw (density i (lt_trans h k), density j k)
      (count→lt (get_or l i nan) (get_or l j nan) (r.each i (lt_trans h b)).good (r.each j b).good (r.order i j h b))

  -- "doubles of a lent answer past those needed stay as lent, for roots too"
  pub past_needed_stay : (i : ℕ) → n * (4 + m.components) ≤ i → get_or (roots_memory t m gradients range temperature pressure out) i nan ≡ get_or out i nan
  unfolding roots_memory
  past_needed_stay i h = past_stay m (searched_of t m gradients range temperature pressure) (roots_of t m gradients range temperature pressure (length out)) n out e i h

-- ---- of every call
module _ (t : Tables) (m : GergModel) (gradients : List (List Float)) (range : Range) (temperature pressure : Float) where
  -- "Every row leaves all lent memory as it was"
  pub refusal_leaves_memory : (out : List Float) → (number_of (roots_of t m gradients range temperature pressure (length out)) ≡ 0 → ⊥) → roots_memory t m gradients range temperature pressure out ≡ out
  unfolding roots_memory
  refusal_leaves_memory out h = refused_stays m (searched_of t m gradients range temperature pressure) (roots_of t m gradients range temperature pressure (length out)) out h

  -- number 0 is an accepted call
  pub accepted_roots : (lent : ℕ) → number_of (roots_of t m gradients range temperature pressure lent) ≡ 0 → (n : ℕ) × (roots_of t m gradients range temperature pressure lent ≡ Ok n)
  accepted_roots lent z = (roots_told t m gradients range temperature pressure lent).accepted z

  -- the value of every row but 24 is 0
  pub value_zero : (lent : ℕ) → (number_of (roots_of t m gradients range temperature pressure lent) ≡ 24 → ⊥) → value_of (roots_of t m gradients range temperature pressure lent) ≡ 0
  value_zero lent h = (roots_told t m gradients range temperature pressure lent).other h

  -- and of a list of at most 21 components below 2 ^ 32
  pub value_below : (lent : ℕ) → m.components ≤ 21 → value_of (roots_of t m gradients range temperature pressure lent) < 2 ^ 32
  value_below lent few =
      let g : 4 + m.components ≤ 25 = omega arith in
      omega (arith, (roots_told t m gradients range temperature pressure lent).most, mul-le-mul (searched_few t m gradients range temperature pressure) g)
