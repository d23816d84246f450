-- The terms of the nine derivatives and their sums over components, terms and pairs. Order of operations is the Rust's. Components, terms, pairs and departure functions are counted from 0, as in the tables.
use Rattle.std.specs.Prelude.{◌||◌, List, ℕ, ◌+◌, ◌-◌, leb, ltb, Float, get_or}
use Rattle.std.specs.Float.{nan}
use Rattle.std.specs.Float.Ieee.{eq, neg}
use Rattle.numerics.specs.Double.{◌⊕◌, ◌⊖◌, ◌⊗◌, ◌⊘◌, +0, pick}
use Rattle.numerics.specs.Iterate.{iter, range}
use Rattle.elementary_exp.specs.Exp.{exp_of}
use Rattle.elementary_ln.specs.Ln.{ln_of}
use Rattle.elementary.specs.Power.{powf_of, powi_byte_of, signed_double_of}
use Rattle.gerg_tables.specs.declared.Tables.{Tables}
use Rattle.gerg_tables.specs.Tables.{n0i, th0i, noik, toik, fij, cijk, eijk, gijk, nijk, tijk, kpol, kexp, coik, doik, m_numb, kpolij, kexpij, dijk}
use Rattle.gerg_reducing.specs.Reduced.{absent, thousand}
use Rattle.gerg_isotherm.specs.declared.part.Part.{Part}
use Rattle.gerg_isotherm.specs.declared.part.Part.TheVariants.{Sinh, Cosh}
use Rattle.gerg_isotherm.specs.Parts.{function, slope}
use Rattle.gerg_derivatives.specs.declared.derivatives.GergDerivatives.{GergDerivatives}
use Rattle.gerg_derivatives.specs.declared.parts.Exponent.{Exponent}
use Rattle.gerg_derivatives.specs.Parts.{damping_of, damped_term, ideal_added, ideal_taken, departed_term}

-- the exponent of delta in the damping, 0 among the polynomial terms; "A coik of 0 past kpol is no damping here"
unfoldable pub damping_exponent : List ℕ → ℕ → ℕ → ℕ
damping_exponent integers i k = pick (ltb k (kpol integers i)) 0 (coik integers i k)

-- term k of component i, whose fraction is x
unfoldable pub pure_term : Tables → Float → Float → Float → ℕ → ℕ → GergDerivatives → GergDerivatives
pure_term t x delta tau i k a =
    damped_term
    (record {
      x = x;
      n = noik t.doubles i k;
      delta_power = powf_of delta (signed_double_of (doik t.integers i k));
      tau_power = powf_of tau (toik t.doubles i k);
      exponential = exp_of (neg (damping_of delta (damping_exponent t.integers i k)));
      t = toik t.doubles i k;
      d = signed_double_of (doik t.integers i k);
      q = signed_double_of (damping_exponent t.integers i k);
      damping = damping_of delta (damping_exponent t.integers i k);
    })
    a

unfoldable pub pure_terms : Tables → Float → Float → Float → ℕ → GergDerivatives → GergDerivatives
pure_terms t x delta tau i a = iter (pure_term t x delta tau i) (kpol t.integers i + kexp t.integers i) a

-- the logarithms and n0i 1 to 3 of component i
unfoldable pub ideal_base : List Float → Float → Float → Float → ℕ → GergDerivatives → GergDerivatives
ideal_base doubles x temperature rho i a =
    ideal_added
    (x ⊗ (ln_of (rho ⊘ thousand) ⊕ ln_of x ⊕ n0i doubles i 0 ⊕ n0i doubles i 1 ⊘ temperature ⊖ n0i doubles i 2 ⊗ ln_of temperature))
    (x ⊗ (n0i doubles i 2 ⊕ n0i doubles i 1 ⊘ temperature))
    (x ⊗ n0i doubles i 2)
    a

-- a part of sinh is added, one of cosh taken
abbrev pub combined : Part → Float → Float → Float → GergDerivatives → GergDerivatives
combined Sinh = ideal_added
combined Cosh = ideal_taken

-- n0i and th0i 4 to 7: c their coefficient, v the quotient of th0i and T; the square is powi's with n = 2
unfoldable pub part_term : Part → Float → Float → Float → GergDerivatives → GergDerivatives
part_term part x c v a = combined part (x ⊗ c ⊗ ln_of (function part v)) (slope part (x ⊗ c ⊗ v) v) (x ⊗ c ⊗ powi_byte_of (v ⊘ function part v) 2) a

-- "th0i = 0 is passed over"; j = 0 stands for 4
unfoldable pub ideal_term : Part → List Float → Float → Float → ℕ → ℕ → GergDerivatives → GergDerivatives
ideal_term part doubles x temperature i j a = pick (eq (th0i doubles i j) +0) a (part_term part x (n0i doubles i (3 + j)) (th0i doubles i j ⊘ temperature) a)

-- the ideal part of component i, in the order of its numbers
unfoldable pub ideal_part : List Float → Float → Float → Float → ℕ → GergDerivatives → GergDerivatives
ideal_part doubles x temperature rho i a =
    ideal_term Cosh doubles x temperature i 3
    (ideal_term Sinh doubles x temperature i 2
    (ideal_term Cosh doubles x temperature i 1
    (ideal_term Sinh doubles x temperature i 0
    (ideal_base doubles x temperature rho i a))))

-- the exponent c + e + g past kpolij, c and e with their powers of delta; 0 among the polynomial terms
abbrev pub exponent_from : Float → Float → Float → Exponent
exponent_from c e g = record { c = c; e = e; exponential = exp_of (c ⊕ e ⊕ g) }

unfoldable pub exponent_of : Tables → Float → ℕ → ℕ → Exponent
exponent_of t delta m k =
    pick (ltb k (kpolij t.integers m)) (exponent_from +0 +0 +0)
    (exponent_from (cijk t.doubles m k ⊗ delta ⊗ delta) (eijk t.doubles m k ⊗ delta) (gijk t.doubles m k))

-- term k of departure function m
unfoldable pub departure_term : Tables → Float → Float → Float → ℕ → ℕ → GergDerivatives → GergDerivatives
departure_term t factor delta tau m k a =
    departed_term
    (record {
      factor = factor;
      n = nijk t.doubles m k;
      delta_power = powf_of delta (signed_double_of (dijk t.integers m k));
      tau_power = powf_of tau (tijk t.doubles m k);
      t = tijk t.doubles m k;
      d = signed_double_of (dijk t.integers m k);
      exponent = exponent_of t delta m k;
    })
    a

unfoldable pub departure_terms : Tables → Float → Float → Float → ℕ → GergDerivatives → GergDerivatives
departure_terms t factor delta tau m a = iter (departure_term t factor delta tau m) (kpolij t.integers m + kexpij t.integers m) a

-- the pair i, j: "a negative mNumb means no departure term"
unfoldable pub departure_pair : Tables → List Float → Float → Float → ℕ → ℕ → GergDerivatives → GergDerivatives
departure_pair t x delta tau i j a =
    pick (absent (get_or x j nan) || leb 128 (m_numb t.integers i j)) a
    (departure_terms t (get_or x i nan ⊗ get_or x j nan ⊗ fij t.doubles i j) delta tau (m_numb t.integers i j - 1) a)

-- component i: its pure terms, its ideal part, its pairs with the later components
unfoldable pub component : Tables → List Float → Float → Float → Float → Float → ℕ → GergDerivatives → GergDerivatives
component t x temperature rho delta tau i a =
    pick (absent (get_or x i nan)) a
    (range (departure_pair t x delta tau i) (i + 1) 21
    (ideal_part t.doubles (get_or x i nan) temperature rho i
    (pure_terms t (get_or x i nan) delta tau i a)))

unfoldable pub components_of : Tables → List Float → Float → Float → Float → Float → GergDerivatives → GergDerivatives
components_of t x temperature rho delta tau a = iter (component t x temperature rho delta tau) 21 a
