-- The tables of an accepted file. Components, terms and departure functions are counted from 0 here.
use Rattle.std.specs.Prelude.{Bool, ◌&&◌, cond, List, [], ◌∷◌, ◌++◌, ℕ, zero, suc, ◌+◌, ◌-◌, ◌*◌, leb, ltb, Float, replicate}
use Rattle.numerics.specs.Double.{+0}
use Rattle.numerics.specs.Fill.{tabulate}
use Rattle.gerg_file.specs.Kinds as Kinds
use Rattle.gerg_file.specs.Bytes.{byte, double_at}
use Rattle.gerg_file.specs.Counts.{sum, terms_of, departures_of, component_record}
use Rattle.gerg_file.specs.declared.Layout.{Layout}
use Rattle.gerg_tables.specs.declared.Tables.{Tables}

-- f 0, f 1, .., f (n - 1), one after the other
unfoldable pub flat : {A : Type 0} → (ℕ → List A) → ℕ → List A
flat f zero = []
flat f (suc n) = flat f n ++ f n

-- n numbers in a row, which begin at `at`
unfoldable pub doubles_at : List ℕ → ℕ → ℕ → List Float
doubles_at s at n = tabulate (λ k. double_at s (at + 8 * k)) n

unfoldable pub bytes_at : List ℕ → ℕ → ℕ → List ℕ
bytes_at s at n = tabulate (λ k. byte s (at + k)) n

-- `per` numbers of each of `count` records of `size` bytes, where those of the first record begin at `at`
unfoldable pub run_of : {A : Type 0} → (ℕ → ℕ → List A) → ℕ → ℕ → ℕ → ℕ → List A
run_of numbers at size count per = flat (λ k. numbers (at + size * k) per) count

-- `Records` of one size in a row, of which `before` stand before record 0 in their section, which begins at `base`; the file has those from `first` to `end` - 1
pub record Records : Type 0 where
  pub base : ℕ
  pub size : ℕ
  pub before : ℕ
  pub first : ℕ
  pub end : ℕ

-- where the numbers stand that begin `offset` bytes into record k
abbrev pub place : Records → ℕ → ℕ → ℕ
place r offset k = r.base + (offset + r.size * (r.before + k))

abbrev pub present : Records → ℕ → Bool
present r k = leb r.first k && ltb k r.end

-- `per` numbers of each of the records 0 to count - 1, zeros where the file has no record
unfoldable pub row_of : {A : Type 0} → A → (ℕ → ℕ → List A) → Records → ℕ → ℕ → ℕ → List A
row_of z numbers r offset count per = flat (λ k. cond (present r k) (numbers (place r offset k) per) (replicate per z)) count

-- the record of component i, kind 2: Tc, MMiGERG; n0i, th0i; kpol, kexp
abbrev pub critical_of : List ℕ → ℕ → List Float
critical_of s i = double_at s (component_record i + (Kinds.component).tc) ∷ double_at s (component_record i + (Kinds.component).mass) ∷ []

unfoldable pub critical : List ℕ → List Float
critical s = flat (critical_of s) 21

unfoldable pub ideal : List ℕ → List Float
ideal s = run_of (doubles_at s) ((Kinds.revision).size + (Kinds.component).ideal) (Kinds.component).size 21 11

unfoldable pub counts : List ℕ → List ℕ
counts s = run_of (bytes_at s) ((Kinds.revision).size + (Kinds.component).counts) (Kinds.component).size 21 2

-- the terms of component i, kind 3, in the section that begins at `from`: noik, toik; coik, doik
unfoldable pub terms : List ℕ → ℕ → ℕ → Records
terms s from i = record { base = from; size = (Kinds.term).size; before = sum (terms_of s) i; first = 0; end = terms_of s i }

unfoldable pub term_doubles : List ℕ → ℕ → List Float
term_doubles s from = flat (λ i. row_of +0 (doubles_at s) (terms s from i) (Kinds.term).doubles 24 2) 21

unfoldable pub term_integers : List ℕ → ℕ → List ℕ
term_integers s from = flat (λ i. row_of 0 (bytes_at s) (terms s from i) (Kinds.term).exponents 24 2) 21

-- the pairs i ≤ j of component i, kind 4: btij, bvij, gtij, gvij, fij; mNumb. The rows before it have 21, 20, .. pairs; its own begins with the pair i, i, so that a record for j = 0 would stand i places before that: after 20 + 19 + .. records
unfoldable pub pairs : ℕ → ℕ → Records
pairs from i = record { base = from; size = (Kinds.pair).size; before = sum (λ h. 20 - h) i; first = i; end = 21 }

unfoldable pub pair_doubles : List ℕ → ℕ → List Float
pair_doubles s from = flat (λ i. row_of +0 (doubles_at s) (pairs from i) (Kinds.pair).doubles 21 5) 21

unfoldable pub pair_integers : List ℕ → ℕ → List ℕ
pair_integers s from = flat (λ i. row_of 0 (bytes_at s) (pairs from i) (Kinds.pair).number 21 1) 21

-- the departure functions, kind 5: kpolij, kexpij
unfoldable pub functions : ℕ → ℕ → Records
functions from count = record { base = from; size = (Kinds.function).size; before = 0; first = 0; end = count }

unfoldable pub function_integers : List ℕ → ℕ → ℕ → List ℕ
function_integers s from count = row_of 0 (bytes_at s) (functions from count) (Kinds.function).counts 10 2

-- the terms of departure function m, kind 6: cijk, eijk, gijk, nijk, tijk; dijk
unfoldable pub departures : List ℕ → ℕ → ℕ → ℕ → ℕ → Records
departures s functions count from m =
    record {
      base = from;
      size = (Kinds.departure).size;
      before = sum (departures_of s functions count) m;
      first = 0;
      end = departures_of s functions count m;
    }

unfoldable pub departure_doubles : List ℕ → ℕ → ℕ → ℕ → List Float
departure_doubles s functions count from = flat (λ m. row_of +0 (doubles_at s) (departures s functions count from m) (Kinds.departure).doubles 12 5) 10

unfoldable pub departure_integers : List ℕ → ℕ → ℕ → ℕ → List ℕ
departure_integers s functions count from = flat (λ m. row_of 0 (bytes_at s) (departures s functions count from m) (Kinds.departure).exponent 12 1) 10

-- "held as flat arrays": Tc, MMiGERG; n0i, th0i; noik, toik; btij, bvij, gtij, gvij, fij; cijk, eijk, gijk, nijk, tijk
unfoldable pub doubles : List ℕ → Layout → List Float
doubles s l =
    critical s
    ++ (ideal s ++ (term_doubles s l.terms ++ (pair_doubles s l.pairs ++ departure_doubles s l.functions l.count l.departures)))

-- kpol, kexp; coik, doik; mNumb; kpolij, kexpij; dijk
unfoldable pub integers : List ℕ → Layout → List ℕ
integers s l =
    counts s
    ++ (term_integers s l.terms
    ++ (pair_integers s l.pairs
    ++ (function_integers s l.functions l.count ++ departure_integers s l.functions l.count l.departures)))

unfoldable pub loaded : List ℕ → Layout → Tables
loaded s l = record { doubles = doubles s l; integers = integers s l }

-- a file that is refused has no tables
unfoldable pub no_tables : Tables
no_tables = record { doubles = replicate 4086 +0; integers = replicate 1631 0 }
