-- What the derivatives take from the temperature alone, worked out once for all densities at it: cells of one array.
--   24 × i + k, below 504: tau^toik of term k of component i
--   504 + 12 × m + k, below 624: tau^tijk of term k of departure function m
--   624 + 15 × i, below 939: five times three numbers of component i's ideal part
-- A cell that no sum reads holds 0.
use Rattle.std.specs.Prelude.{◌||◌, List, ℕ, zero, suc, ◌+◌, ◌-◌, ◌*◌, leb, Float, get_or, set, replicate}
use Rattle.std.specs.Float.{nan}
use Rattle.std.specs.Float.Ieee.{eq}
use Rattle.numerics.specs.Double.{◌⊗◌, ◌⊘◌, +0, pick}
use Rattle.numerics.specs.Iterate.{iter, range}
use Rattle.elementary_ln.specs.Ln.{ln_of}
use Rattle.elementary.specs.Power.{powf_of, powi_byte_of}
use Rattle.gerg_tables.specs.declared.Tables.{Tables}
use Rattle.gerg_tables.specs.Tables.{n0i, th0i, toik, tijk, kpol, kexp, m_numb, kpolij, kexpij}
use Rattle.gerg_reducing.specs.declared.GergModel.{GergModel}
use Rattle.gerg_reducing.specs.Reduced.{absent, tau_of}
use Rattle.gerg_isotherm.specs.declared.part.Part.{Part}
use Rattle.gerg_isotherm.specs.declared.part.Part.TheVariants.{Sinh, Cosh}
use Rattle.gerg_isotherm.specs.Parts.{function, slope}

-- f 0, f 1, .., f (n - 1) written from a place on
unfoldable pub written : (ℕ → Float) → ℕ → ℕ → List Float → List Float
written f at n l = iter (λ k c. set c (at + k) (f k)) n l

abbrev pub three : Float → Float → Float → ℕ → Float
three a b c zero = a
three a b c (suc zero) = b
three a b c (suc (suc k)) = c

-- the powers of tau of component i, and of departure function m
abbrev pub pure_cell : List Float → Float → ℕ → ℕ → Float
pure_cell doubles tau i k = powf_of tau (toik doubles i k)

abbrev pub departure_cell : List Float → Float → ℕ → ℕ → Float
departure_cell doubles tau m k = powf_of tau (tijk doubles m k)

-- ln x, n0i 2 over T, n0i 3 times ln T
unfoldable pub base_cell : List Float → Float → Float → ℕ → ℕ → Float
base_cell doubles x temperature i = three (ln_of x) (n0i doubles i 1 ⊘ temperature) (n0i doubles i 2 ⊗ ln_of temperature)

-- what a part adds to a0 and its derivatives, or takes from them: c its coefficient, v the quotient of its th0i and T
unfoldable pub cell_of : Part → Float → Float → Float → ℕ → Float
cell_of part x c v = three (x ⊗ c ⊗ ln_of (function part v)) (slope part (x ⊗ c ⊗ v) v) (x ⊗ c ⊗ powi_byte_of (v ⊘ function part v) 2)

-- three numbers of the ideal part, left where th0i is 0
unfoldable pub part_row : Part → List Float → Float → Float → ℕ → ℕ → ℕ → List Float → List Float
part_row part doubles x temperature i j at l =
    pick (eq (th0i doubles i j) +0) l (written (cell_of part x (n0i doubles i (3 + j)) (th0i doubles i j ⊘ temperature)) at 3 l)

unfoldable pub ideal_row : List Float → Float → Float → ℕ → List Float → List Float
ideal_row doubles x temperature i l =
    part_row Cosh doubles x temperature i 3 (636 + 15 * i)
    (part_row Sinh doubles x temperature i 2 (633 + 15 * i)
    (part_row Cosh doubles x temperature i 1 (630 + 15 * i)
    (part_row Sinh doubles x temperature i 0 (627 + 15 * i)
    (written (base_cell doubles x temperature i) (624 + 15 * i) 3 l))))

unfoldable pub pure_row : Tables → Float → ℕ → List Float → List Float
pure_row t tau i l = written (pure_cell t.doubles tau i) (24 * i) (kpol t.integers i + kexp t.integers i) l

-- the powers of departure function m
unfoldable pub departure_row : Tables → Float → ℕ → List Float → List Float
departure_row t tau m l = written (departure_cell t.doubles tau m) (504 + 12 * m) (kpolij t.integers m + kexpij t.integers m) l

-- those that the pair i, j uses
unfoldable pub pair_row : Tables → List Float → Float → ℕ → ℕ → List Float → List Float
pair_row t x tau i j l = pick (absent (get_or x j nan) || leb 128 (m_numb t.integers i j)) l (departure_row t tau (m_numb t.integers i j - 1) l)

unfoldable pub component_rows : Tables → List Float → Float → Float → ℕ → List Float → List Float
component_rows t x temperature tau i l =
    pick (absent (get_or x i nan)) l
    (range (pair_row t x tau i) (i + 1) 21
    (ideal_row t.doubles (get_or x i nan) temperature i
    (pure_row t tau i l)))

unfoldable pub all_rows : Tables → List Float → Float → Float → List Float → List Float
all_rows t x temperature tau l = iter (component_rows t x temperature tau) 21 l

unfoldable pub zero_cells : List Float
zero_cells = replicate 939 +0

unfoldable pub isotherm_of : Tables → GergModel → Float → List Float
isotherm_of t m temperature = all_rows t m.fractions temperature (tau_of m temperature) zero_cells
