-- The grid in the first places of an array. Assumes nothing.
use mathlib.Core.List.{List, ◌++◌}
use mathlib.Core.Path.{◌≡◌, ap, ◌∙◌}
use Prim.Native.Nat.{ℕ}
use native.Mathlib.Omega.{arith}
use lib.Ieee.{Float}
use lib.ListN.{length, take, drop, length-append}
use Rattle.std.proofs.Math.Seq.{take-append_seam}
use Rattle.std.proofs.lemmas.List.{length-drop}
use Rattle.gerg_grid.specs.Grid.{grid_of}
use Rattle.gerg_grid.specs.GridArray.{HoldsGrid}
use Rattle.gerg_grid.proofs.Laws.GridFew.{grid_few}
use Rattle.gerg_grid.proofs.Laws.GridRises.{grid_some}

pub held : (n : ℕ) (l a : List Float) → l ≡ grid_of → n ≡ length l → length a ≡ 386 → HoldsGrid (l ++ drop n a) n
held n l a e h k =
    let same : length l ≡ length grid_of = ap length e in
    record {
      is = ap (λ (m : ℕ). take m (l ++ drop n a)) h ∙ take-append_seam l (drop n a) ∙ e;
      some = omega (arith, h, same, grid_some);
      most = omega (arith, h, same, grid_few);
      length = omega (arith, length-append l (drop n a), length-drop n a, h, k, same, grid_few);
    }
