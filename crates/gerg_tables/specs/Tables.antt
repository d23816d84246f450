-- The tables as two flat arrays, and what stands where in them, by the names of the NIST AGA8 code. Components, terms and departure functions are counted from 0 here: component i is document 01's i + 1. A place that the file has no record for holds 0.
use Rattle.std.specs.Prelude.{List, ℕ, ◌+◌, ◌*◌, ◌≤◌, ◌<◌, Float, get_or}
use Rattle.std.specs.Float.{nan}
use Rattle.gerg_tables.specs.declared.Tables.{Tables}

-- the tables of two lent arrays
abbrev pub tables : List Float → List ℕ → Tables
tables doubles integers = record { doubles = doubles; integers = integers }

-- Tc: critical temperature of component i, K
abbrev pub tc : List Float → ℕ → Float
tc doubles i = get_or doubles (2 * i) nan

-- MMiGERG: molar mass of component i, g/mol
abbrev pub mmi_gerg : List Float → ℕ → Float
mmi_gerg doubles i = get_or doubles (2 * i + 1) nan

-- n0i 1 to 7 of component i, j from 0
abbrev pub n0i : List Float → ℕ → ℕ → Float
n0i doubles i j = get_or doubles (42 + 11 * i + j) nan

-- th0i 4 to 7 of component i, j from 0
abbrev pub th0i : List Float → ℕ → ℕ → Float
th0i doubles i j = get_or doubles (49 + 11 * i + j) nan

-- noik, toik: coefficient and exponent of tau of term k of component i
abbrev pub noik : List Float → ℕ → ℕ → Float
noik doubles i k = get_or doubles (273 + 48 * i + 2 * k) nan

abbrev pub toik : List Float → ℕ → ℕ → Float
toik doubles i k = get_or doubles (274 + 48 * i + 2 * k) nan

-- btij, bvij, gtij, gvij, fij of the pair i, j with i ≤ j
abbrev pub btij : List Float → ℕ → ℕ → Float
btij doubles i j = get_or doubles (1281 + 105 * i + 5 * j) nan

abbrev pub bvij : List Float → ℕ → ℕ → Float
bvij doubles i j = get_or doubles (1282 + 105 * i + 5 * j) nan

abbrev pub gtij : List Float → ℕ → ℕ → Float
gtij doubles i j = get_or doubles (1283 + 105 * i + 5 * j) nan

abbrev pub gvij : List Float → ℕ → ℕ → Float
gvij doubles i j = get_or doubles (1284 + 105 * i + 5 * j) nan

abbrev pub fij : List Float → ℕ → ℕ → Float
fij doubles i j = get_or doubles (1285 + 105 * i + 5 * j) nan

-- cijk, eijk, gijk, nijk, tijk of term k of departure function m
abbrev pub cijk : List Float → ℕ → ℕ → Float
cijk doubles m k = get_or doubles (3486 + 60 * m + 5 * k) nan

abbrev pub eijk : List Float → ℕ → ℕ → Float
eijk doubles m k = get_or doubles (3487 + 60 * m + 5 * k) nan

abbrev pub gijk : List Float → ℕ → ℕ → Float
gijk doubles m k = get_or doubles (3488 + 60 * m + 5 * k) nan

abbrev pub nijk : List Float → ℕ → ℕ → Float
nijk doubles m k = get_or doubles (3489 + 60 * m + 5 * k) nan

abbrev pub tijk : List Float → ℕ → ℕ → Float
tijk doubles m k = get_or doubles (3490 + 60 * m + 5 * k) nan

-- kpol, kexp: number of polynomial and of exponential terms of component i
abbrev pub kpol : List ℕ → ℕ → ℕ
kpol integers i = get_or integers (2 * i) 0

abbrev pub kexp : List ℕ → ℕ → ℕ
kexp integers i = get_or integers (2 * i + 1) 0

-- coik, doik: exponents of delta in the damping and in the factor of term k; bytes of signed numbers
abbrev pub coik : List ℕ → ℕ → ℕ → ℕ
coik integers i k = get_or integers (42 + 48 * i + 2 * k) 0

abbrev pub doik : List ℕ → ℕ → ℕ → ℕ
doik integers i k = get_or integers (43 + 48 * i + 2 * k) 0

-- mNumb: number, from 1, of the departure function of the pair i, j with i < j; byte of a signed number
abbrev pub m_numb : List ℕ → ℕ → ℕ → ℕ
m_numb integers i j = get_or integers (1050 + 21 * i + j) 0

-- kpolij, kexpij: number of polynomial and of exponential terms of departure function m
abbrev pub kpolij : List ℕ → ℕ → ℕ
kpolij integers m = get_or integers (1491 + 2 * m) 0

abbrev pub kexpij : List ℕ → ℕ → ℕ
kexpij integers m = get_or integers (1492 + 2 * m) 0

-- dijk: exponent of delta in term k of departure function m; byte of a signed number
abbrev pub dijk : List ℕ → ℕ → ℕ → ℕ
dijk integers m k = get_or integers (1511 + 12 * m + k) 0

-- What an accepted file has: at most 24 terms a component, at most 12 a departure function, and for a pair no mNumb, or that of one of at most ten functions.
pub record Shaped (t : Tables) : Type 0 where
  pub terms : (i : ℕ) → i < 21 → kpol t.integers i + kexp t.integers i ≤ 24
  pub departures : (m : ℕ) → m < 10 → kpolij t.integers m + kexpij t.integers m ≤ 12
  pub numbers : (i j : ℕ) → i < j → j < 21 → m_numb t.integers i j < 128 → (0 < m_numb t.integers i j) × (m_numb t.integers i j ≤ 10)
