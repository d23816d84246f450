-- Laws of the rows that the sums read. Assumes nothing.
use mathlib.Core.Bool.{false, ◌||◌}
use mathlib.Core.List.{List}
use mathlib.Core.Path.{◌≡◌}
use Prim.Native.Nat.{ℕ, suc, ◌<◌, ◌≤◌}
use native.Mathlib.Nat.{add-zero}
use native.Mathlib.Omega.{arith}
use lib.Dec.{leb}
use borrow.Author.Tests.{leb-false}
use Rattle.std.proofs.lemmas.Bool.{or_parts}
use lib.Ieee.{Float, nan}
use lib.ListN.{get_or}
use Rattle.gerg_tables.specs.declared.Tables.{Tables}
use Rattle.gerg_tables.specs.Tables.{Shaped, m_numb}
use Rattle.gerg_reducing.specs.Reduced.{absent}
use Rattle.gerg_isotherm.specs.Rows.{Row}

-- the departure function of a pair that has one
pub number_in : (t : Tables) (x : List Float) (i j : ℕ) → Shaped t → i < j → j < 21 → (absent (get_or x j nan) || leb 128 (m_numb t.integers i j)) ≡ false →
    (0 < m_numb t.integers i j) × (m_numb t.integers i j ≤ 10)
number_in t x i j shaped h g e = shaped.numbers i j h g (leb-false 128 (m_numb t.integers i j) (or_parts (absent (get_or x j nan)) _ e).1)

-- the first cell of a row
pub row_first : (f : ℕ → Float) (at n : ℕ) (l : List Float) → Row f at (suc n) l → get_or l at nan ≡ f 0
row_first f at n l row = rw add-zero at (row 0 (omega arith))
