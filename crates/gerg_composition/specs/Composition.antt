-- The composition derivative of the residual Helmholtz energy, absent species included.
use Rattle.std.specs.Prelude.{Bool, ◌&&◌, ◌||◌, List, ℕ, ◌+◌, ◌-◌, leb, Float, get_or, set, replicate}
use Rattle.std.specs.Float.{nan}
use Rattle.std.specs.Float.Ieee.{eq, neg}
use Rattle.numerics.specs.Double.{◌⊕◌, ◌⊗◌, +0, pick}
use Rattle.numerics.specs.Iterate.{iter, range}
use Rattle.elementary_exp.specs.Exp.{exp_of}
use Rattle.elementary.specs.Power.{powf_of, powi_byte_of}
use Rattle.gerg_tables.specs.declared.Tables.{Tables}
use Rattle.gerg_tables.specs.Tables.{kpol, kexp, coik, doik, noik, toik, m_numb, fij, kpolij, kexpij, dijk, cijk, eijk, gijk, nijk, tijk}
use Rattle.gerg_composition.specs.declared.Both.{Both}
use Rattle.gerg_composition.specs.declared.Pair.{Pair}

-- exp(−delta^c) past kpol, "a damping of 1 under fugacity" for c = 0; exp(−0) before
unfoldable pub damping_factor : Float → Bool → ℕ → Float
damping_factor delta damped c = exp_of (neg (pick damped (powi_byte_of delta c) +0))

-- "Powers here are powi for delta, powf for tau": term k of component i, from 0
unfoldable pub pure_term : Tables → Float → Float → ℕ → ℕ → Float
pure_term t delta tau i k =
    noik t.doubles i k ⊗ powi_byte_of delta (doik t.integers i k) ⊗ powf_of tau (toik t.doubles i k)
    ⊗ damping_factor delta (leb (kpol t.integers i) k) (coik t.integers i k)

-- all terms of component i, added to g
unfoldable pub pure_terms : Tables → Float → Float → ℕ → Float → Float
pure_terms t delta tau i g = iter (λ k sum. sum ⊕ pure_term t delta tau i k) (kpol t.integers i + kexp t.integers i) g

-- c delta² + e delta + g past kpolij, 0 before
unfoldable pub departure_exponent : Tables → Float → ℕ → ℕ → Float
departure_exponent t delta m k =
    pick (leb (kpolij t.integers m) k)
    (cijk t.doubles m k ⊗ delta ⊗ delta ⊕ eijk t.doubles m k ⊗ delta ⊕ gijk t.doubles m k) +0

-- term k of departure function m for the pair i, j
unfoldable pub departure_term : Tables → Float → Float → ℕ → ℕ → ℕ → ℕ → Float
departure_term t delta tau i j m k =
    fij t.doubles i j ⊗ nijk t.doubles m k ⊗ powi_byte_of delta (dijk t.integers m k) ⊗ powf_of tau (tijk t.doubles m k)
    ⊗ exp_of (departure_exponent t delta m k)

-- x_j times the term is added to element i, x_i times it to element j
unfoldable pub departure_step : Tables → Pair → Float → Float → ℕ → ℕ → Both → Both
departure_step t p delta tau m k both = record {
  first = both.first ⊕ p.xj ⊗ departure_term t delta tau p.i p.j m k;
  second = both.second ⊕ p.xi ⊗ departure_term t delta tau p.i p.j m k;
}

unfoldable pub departure_terms : Tables → Pair → Float → Float → ℕ → Both → Both
departure_terms t p delta tau m both = iter (departure_step t p delta tau m) (kpolij t.integers m + kexpij t.integers m) both

abbrev pub placed : ℕ → ℕ → Both → List Float → List Float
placed i j both g = set (set g i both.first) j both.second

-- "a negative mNumb means no departure term"; none either where both fractions are 0
unfoldable pub departure_pair : Tables → List Float → Float → Float → ℕ → ℕ → List Float → List Float
departure_pair t x delta tau i j g =
    pick (leb 128 (m_numb t.integers i j) || (eq (get_or x i nan) +0 && eq (get_or x j nan) +0)) g
    (placed i j
    (departure_terms t (record { i = i; j = j; xi = get_or x i nan; xj = get_or x j nan }) delta tau (m_numb t.integers i j - 1) (record { first = get_or g i nan; second = get_or g j nan }))
    g)

-- component i: its own terms, present or not, then its pairs i < j
unfoldable pub composition_row : Tables → List Float → Float → Float → ℕ → List Float → List Float
composition_row t x delta tau i g =
    range (departure_pair t x delta tau i) (i + 1) 21 (set g i (pure_terms t delta tau i (get_or g i nan)))

-- the derivatives by mole fraction at fixed delta and tau
unfoldable pub composition : Tables → List Float → Float → Float → List Float
composition t x delta tau = iter (composition_row t x delta tau) 21 (replicate 21 +0)
