-- Row 2: the first fault of the tables. Components are counted from 0 here.
use Rattle.std.specs.Prelude.{◌≡◌, Bool, false, not, ◌&&◌, ◌||◌, cond, List, ℕ, zero, suc, ◌+◌, ◌-◌, ◌*◌, ltb, eqb, get_or, Float, Result, Ok, Err}
use Rattle.std.specs.Float.{nan}
use Rattle.std.specs.Float.Ieee.{lt}
use Rattle.std.specs.Float.Ieee.Scale.{finite}
use Rattle.numerics.specs.Double.{+0}
use Rattle.gerg_refusals.specs.declared.Fault.{Fault}
use Rattle.gerg_refusals.specs.Answer.{and_then}
use Rattle.gerg_refusals.specs.declared.Fault.TheVariants.{Btij, Bvij, Gtij, Gvij, Fij, Critical, NotPositive, Departure}
use Rattle.gerg_tables.specs.Tables.{tc, mmi_gerg, btij, bvij, m_numb}

-- whether f holds at one of the n numbers from a on
unfoldable pub some : (ℕ → Bool) → ℕ → ℕ → Bool
some f zero a = false
some f (suc n) a = f a || some f n (a + 1)

-- .. at one of the components from a on
abbrev pub some_from : (ℕ → Bool) → ℕ → Bool
some_from f a = some f (21 - a) a

abbrev pub positive : Float → Bool
positive x = lt +0 x

-- btij, bvij, gtij, gvij, fij of a pair for q from 0 to 4
abbrev pub pair_number : List Float → ℕ → ℕ → ℕ → Float
pair_number doubles q i j = get_or doubles (1281 + 105 * i + 5 * j + q) nan

-- not finite, at one of the pairs i ≤ j
abbrev pub nonfinite : List Float → ℕ → ℕ → ℕ → Bool
nonfinite doubles q i j = not (finite (pair_number doubles q i j))

unfoldable pub some_nonfinite : List Float → ℕ → Bool
some_nonfinite doubles q = some_from (λ i. some_from (nonfinite doubles q i) i) 0

-- the fault where the test holds
abbrev pub fault_if : Bool → Fault → Result (Unit {0}) Fault
fault_if test fault = cond test (Err fault) (Ok tt)

-- the first of two faults
abbrev pub first_of : Result (Unit {0}) Fault → Result (Unit {0}) Fault → Result (Unit {0}) Fault
first_of a b = and_then a (λ u. b)

-- the first of the faults f i, f (i + 1), .., n of them
unfoldable pub first : (ℕ → Result (Unit {0}) Fault) → ℕ → ℕ → Result (Unit {0}) Fault
first f zero i = Ok tt
first f (suc n) i = first_of (f i) (first f n (i + 1))

-- "nonfinite bt, bv, gt, gv, f (1 to 5)"
abbrev pub of_number : ℕ → Fault
of_number zero = Btij
of_number (suc zero) = Bvij
of_number (suc (suc zero)) = Gtij
of_number (suc (suc (suc zero))) = Gvij
of_number (suc (suc (suc (suc q)))) = Fij

abbrev pub number_fault : List Float → ℕ → Result (Unit {0}) Fault
number_fault doubles q = fault_if (some_nonfinite doubles q) (of_number q)

-- every number of the pairs is finite
abbrev pub PairsFinite : List Float → Type 0
PairsFinite doubles = first (number_fault doubles) 5 0 ≡ Ok tt

-- "Tc nonfinite or mass not finite and positive (6)"
abbrev pub bad_critical : List Float → ℕ → Bool
bad_critical doubles i = not (finite (tc doubles i) && finite (mmi_gerg doubles i) && positive (mmi_gerg doubles i))

-- "bt or bv not positive (7)"
abbrev pub not_positive : List Float → ℕ → ℕ → Bool
not_positive doubles i j = not (positive (btij doubles i j) && positive (bvij doubles i j))

unfoldable pub component_fault : List Float → ℕ → Result (Unit {0}) Fault
component_fault doubles i = first_of (fault_if (bad_critical doubles i) Critical) (fault_if (some_from (not_positive doubles i) i) NotPositive)

-- "a mNumb, i < j, 0 or above the functions (8)"; from 128 on the byte is a negative number
abbrev pub bad_number : List ℕ → ℕ → ℕ → ℕ → Bool
bad_number integers count i j = ltb (m_numb integers i j) 128 && (eqb (m_numb integers i j) 0 || ltb count (m_numb integers i j))

unfoldable pub some_bad_number : List ℕ → ℕ → Bool
some_bad_number integers count = some_from (λ i. some_from (bad_number integers count i) (i + 1)) 0

-- "then by component", "last"
unfoldable pub fault_of : List Float → List ℕ → ℕ → Result (Unit {0}) Fault
fault_of doubles integers count =
    first_of (first (number_fault doubles) 5 0) (first_of (first (component_fault doubles) 21 0) (fault_if (some_bad_number integers count) Departure))
