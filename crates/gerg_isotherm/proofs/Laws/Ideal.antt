-- The rows of one component's ideal part: what they keep of other rows, and that each is there when the last is written. Assumes nothing.
use mathlib.Core.Bool.{false}
use mathlib.Core.List.{List}
use mathlib.Core.Path.{◌≡◌}
use Prim.Native.Nat.{ℕ, ◌+◌, ◌*◌, ◌<◌, ◌≤◌}
use native.Mathlib.Omega.{arith}
use lib.Ieee.{Float, eq}
use Rattle.numerics.specs.Double.{◌⊘◌, +0}
use Rattle.gerg_tables.specs.Tables.{n0i, th0i}
use Rattle.gerg_isotherm.specs.declared.part.Part.{Part}
use Rattle.gerg_isotherm.specs.declared.part.Part.TheVariants.{Sinh, Cosh}
use Rattle.gerg_isotherm.specs.Isotherm.{written, base_cell, cell_of, part_row, ideal_row}
use Rattle.gerg_isotherm.proofs.Laws.Written.{Apart, below, Holds, Sized, sized, written_keeps, written_makes}
use Rattle.gerg_isotherm.proofs.Laws.Kept.{pick_either}

module _ (f : ℕ → Float) (at n : ℕ) (doubles : List Float) (x temperature : Float) where
  abbrev pub There : List Float → Type 0
  There l = Holds f at n l

  pub part_keeps : (part : Part) (i j lo hi place : ℕ) (l : List Float) → Apart at n lo hi → lo ≤ place → place + 3 ≤ hi → There l → There (part_row part doubles x temperature i j place l)
  unfolding part_row
  part_keeps part i j lo hi place l a from to h = pick_either There (eq (th0i doubles i j) +0) l _ h (λ e. written_keeps f _ at n lo hi place l a from h 3 to)

  pub ideal_keeps : (i : ℕ) (l : List Float) → Apart at n (624 + 15 * i) (639 + 15 * i) → There l → There (ideal_row doubles x temperature i l)
  unfolding ideal_row
  ideal_keeps i l a h =
      part_keeps Cosh i 3 _ _ (636 + 15 * i) _ a (omega arith) (omega arith)
      (part_keeps Sinh i 2 _ _ (633 + 15 * i) _ a (omega arith) (omega arith)
      (part_keeps Cosh i 1 _ _ (630 + 15 * i) _ a (omega arith) (omega arith)
      (part_keeps Sinh i 0 _ _ (627 + 15 * i) _ a (omega arith) (omega arith)
      (written_keeps f _ at n _ _ (624 + 15 * i) l a (omega arith) h 3 (omega arith)))))

module _ (doubles : List Float) (x temperature : Float) (i : ℕ) (h : i < 21) where
  -- what the parts of an ideal row from j = 1, 2, 3 on make of a list
  abbrev last : List Float → List Float
  last l = part_row Cosh doubles x temperature i 3 (636 + 15 * i) l

  abbrev last_two : List Float → List Float
  last_two l = last (part_row Sinh doubles x temperature i 2 (633 + 15 * i) l)

  abbrev last_three : List Float → List Float
  last_three l = last_two (part_row Cosh doubles x temperature i 1 (630 + 15 * i) l)

  last_keeps : (f : ℕ → Float) (at n : ℕ) (l : List Float) → at + n ≤ 636 + 15 * i → Holds f at n l → Holds f at n (last l)
  last_keeps f at n l to there = part_keeps f at n doubles x temperature Cosh i 3 (636 + 15 * i) (639 + 15 * i) (636 + 15 * i) l (below to) (omega arith) (omega arith) there

  last_two_keep : (f : ℕ → Float) (at n : ℕ) (l : List Float) → at + n ≤ 633 + 15 * i → Holds f at n l → Holds f at n (last_two l)
  last_two_keep f at n l to there =
      last_keeps f at n _ (omega arith) (part_keeps f at n doubles x temperature Sinh i 2 (633 + 15 * i) (636 + 15 * i) (633 + 15 * i) l (below to) (omega arith) (omega arith) there)

  last_three_keep : (f : ℕ → Float) (at n : ℕ) (l : List Float) → at + n ≤ 630 + 15 * i → Holds f at n l → Holds f at n (last_three l)
  last_three_keep f at n l to there =
      last_two_keep f at n _ (omega arith) (part_keeps f at n doubles x temperature Cosh i 1 (630 + 15 * i) (633 + 15 * i) (630 + 15 * i) l (below to) (omega arith) (omega arith) there)

  part_made : (part : Part) (j place : ℕ) (l : List Float) → place + 3 ≤ 939 → eq (th0i doubles i j) +0 ≡ false → Sized l →
      Holds (cell_of part x (n0i doubles i (3 + j)) (th0i doubles i j ⊘ temperature)) place 3 (part_row part doubles x temperature i j place l)
  unfolding part_row
  part_made part j place l to e size = rw e (written_makes _ place l size 3 to)

  base_sized : (l : List Float) → Sized l → Sized (written (base_cell doubles x temperature i) (624 + 15 * i) 3 l)
  base_sized l size = sized (written_makes _ (624 + 15 * i) l size 3 (omega arith))

  part_sized : (part : Part) (j place : ℕ) (l : List Float) → Sized l → Sized (part_row part doubles x temperature i j place l)
  part_sized part j place l size = part_keeps _ 0 0 doubles x temperature part i j place (place + 3) place l (below (omega arith)) (omega arith) (omega arith) size

  pub base_in : (l : List Float) → Sized l → Holds (base_cell doubles x temperature i) (624 + 15 * i) 3 (ideal_row doubles x temperature i l)
  unfolding ideal_row
  base_in l size =
      let f = base_cell doubles x temperature i in
      last_three_keep f _ 3 _ (omega arith)
      (part_keeps f _ 3 doubles x temperature Sinh i 0 (627 + 15 * i) (630 + 15 * i) (627 + 15 * i) _ (below (omega arith)) (omega arith) (omega arith)
      (written_makes f (624 + 15 * i) l size 3 (omega arith)))

  pub sinh₀_in : eq (th0i doubles i 0) +0 ≡ false → (l : List Float) → Sized l →
      Holds (cell_of Sinh x (n0i doubles i (3 + 0)) (th0i doubles i 0 ⊘ temperature)) (627 + 15 * i) 3 (ideal_row doubles x temperature i l)
  unfolding ideal_row
  sinh₀_in e l size = last_three_keep _ _ 3 _ (omega arith) (part_made Sinh 0 (627 + 15 * i) _ (omega arith) e (base_sized l size))

  pub cosh₁_in : eq (th0i doubles i 1) +0 ≡ false → (l : List Float) → Sized l →
      Holds (cell_of Cosh x (n0i doubles i (3 + 1)) (th0i doubles i 1 ⊘ temperature)) (630 + 15 * i) 3 (ideal_row doubles x temperature i l)
  unfolding ideal_row
  cosh₁_in e l size = last_two_keep _ _ 3 _ (omega arith) (part_made Cosh 1 (630 + 15 * i) _ (omega arith) e (part_sized Sinh 0 _ _ (base_sized l size)))

  pub sinh₂_in : eq (th0i doubles i 2) +0 ≡ false → (l : List Float) → Sized l →
      Holds (cell_of Sinh x (n0i doubles i (3 + 2)) (th0i doubles i 2 ⊘ temperature)) (633 + 15 * i) 3 (ideal_row doubles x temperature i l)
  unfolding ideal_row
  sinh₂_in e l size = last_keeps _ _ 3 _ (omega arith) (part_made Sinh 2 (633 + 15 * i) _ (omega arith) e (part_sized Cosh 1 _ _ (part_sized Sinh 0 _ _ (base_sized l size))))

  pub cosh₃_in : eq (th0i doubles i 3) +0 ≡ false → (l : List Float) → Sized l →
      Holds (cell_of Cosh x (n0i doubles i (3 + 3)) (th0i doubles i 3 ⊘ temperature)) (636 + 15 * i) 3 (ideal_row doubles x temperature i l)
  unfolding ideal_row
  cosh₃_in e l size = part_made Cosh 3 (636 + 15 * i) _ (omega arith) e (part_sized Sinh 2 _ _ (part_sized Cosh 1 _ _ (part_sized Sinh 0 _ _ (base_sized l size))))
