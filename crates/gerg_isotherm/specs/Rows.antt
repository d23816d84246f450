-- What the cells of an isotherm hold, as the sums read them.
use Rattle.std.specs.Prelude.{false, ◌||◌, List, ◌≡◌, ℕ, ◌+◌, ◌-◌, ◌*◌, ◌<◌, leb, Float, get_or}
use Rattle.std.specs.Float.{nan}
use Rattle.std.specs.Float.Ieee.{eq}
use Rattle.numerics.specs.Double.{◌⊘◌, +0}
use Rattle.gerg_tables.specs.declared.Tables.{Tables}
use Rattle.gerg_tables.specs.Tables.{n0i, th0i, kpol, kexp, m_numb, kpolij, kexpij}
use Rattle.gerg_reducing.specs.Reduced.{absent}
use Rattle.gerg_isotherm.specs.declared.part.Part.TheVariants.{Sinh, Cosh}
use Rattle.gerg_isotherm.specs.Isotherm.{pure_cell, departure_cell, base_cell, cell_of}

-- n cells from a place on hold f 0, f 1, ..
abbrev pub Row : (ℕ → Float) → ℕ → ℕ → List Float → Type 0
Row f at n l = (k : ℕ) → k < n → get_or l (at + k) nan ≡ f k

-- three cells of a part that is there unless its th0i is 0
abbrev pub PartRow : Float → (ℕ → Float) → ℕ → List Float → Type 0
PartRow theta f at l = eq theta +0 ≡ false → Row f at 3 l

-- the five rows of component i
pub record IdealRows (doubles : List Float) (x temperature : Float) (i : ℕ) (l : List Float) : Type 0 where
  pub base : Row (base_cell doubles x temperature i) (624 + 15 * i) 3 l
  pub sinh₀ : PartRow (th0i doubles i 0) (cell_of Sinh x (n0i doubles i (3 + 0)) (th0i doubles i 0 ⊘ temperature)) (627 + 15 * i) l
  pub cosh₁ : PartRow (th0i doubles i 1) (cell_of Cosh x (n0i doubles i (3 + 1)) (th0i doubles i 1 ⊘ temperature)) (630 + 15 * i) l
  pub sinh₂ : PartRow (th0i doubles i 2) (cell_of Sinh x (n0i doubles i (3 + 2)) (th0i doubles i 2 ⊘ temperature)) (633 + 15 * i) l
  pub cosh₃ : PartRow (th0i doubles i 3) (cell_of Cosh x (n0i doubles i (3 + 3)) (th0i doubles i 3 ⊘ temperature)) (636 + 15 * i) l

-- all that the sums read
pub record Rows (t : Tables) (x : List Float) (temperature tau : Float) (l : List Float) : Type 0 where
  pub pure : (i : ℕ) → i < 21 → absent (get_or x i nan) ≡ false → Row (pure_cell t.doubles tau i) (24 * i) (kpol t.integers i + kexp t.integers i) l
  pub ideal : (i : ℕ) → i < 21 → absent (get_or x i nan) ≡ false → IdealRows t.doubles (get_or x i nan) temperature i l
  pub departure : (i j : ℕ) → i < j → j < 21 → absent (get_or x i nan) ≡ false → (absent (get_or x j nan) || leb 128 (m_numb t.integers i j)) ≡ false →
      Row (departure_cell t.doubles tau (m_numb t.integers i j - 1)) (504 + 12 * (m_numb t.integers i j - 1))
      (kpolij t.integers (m_numb t.integers i j - 1) + kexpij t.integers (m_numb t.integers i j - 1)) l
