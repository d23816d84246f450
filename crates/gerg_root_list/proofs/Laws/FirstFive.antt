-- A component that is not one of the first five, among the listed ones. Assumes nothing.
use mathlib.Core.Bool.{false, ◌||◌}
use mathlib.Core.List.{List}
use mathlib.Core.Path.{◌≡◌, refl, ap, ◌∙◌}
use Prim.Native.Nat.{ℕ, zero, suc, ◌≤◌}
use native.Mathlib.Omega.{arith}
use lib.Dec.{leb}
use lib.ListN.{length, get_or, take}
use lib.Seq.{take-suc}
use Rattle.std.specs.List.{list_any}
use Rattle.std.proofs.lemmas.List.Recursion.{or_push}
use Rattle.numerics.specs.Iterate.{iter}

-- a test of the first n, and the loop over them
pub any_first : (xs : List ℕ) (n : ℕ) → n ≤ length xs → list_any (leb 5) (take n xs) ≡ iter (λ k b. b || leb 5 (get_or xs k 0)) n false
unfolding iter
any_first xs zero h = refl
any_first xs (suc n) h =
    ap (list_any (leb 5)) (take-suc xs n 0 h) ∙ or_push (list_any (leb 5)) (leb 5) refl (λ x l. refl) (take n xs) (get_or xs n 0) ∙ ap (λ b. b || leb 5 (get_or xs n 0)) (any_first xs n (omega arith))
