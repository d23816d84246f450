-- Each number of the tables of a layout, by its place in the flat arrays: the file's number in the record that holds it, or 0 where there is none.
use mathlib.Core.Path.{◌≡◌, refl, ap, ◌∙◌}
use mathlib.Core.Bool.{cond}
use mathlib.Core.List.{List, ◌++◌}
use Prim.Native.Nat.{ℕ, ◌+◌, ◌*◌, ◌<◌}
use native.Mathlib.Omega.{arith}
use lib.ListN.{get_or}
use lib.Ieee.{Float, nan}
use Rattle.numerics.specs.Double.{+0}
use Rattle.gerg_file.specs.Kinds as Kinds
use Rattle.gerg_file.specs.Bytes.{byte, double_at}
use Rattle.gerg_file.specs.declared.Layout.{Layout}
use Rattle.gerg_coefficients.specs.Load.{Records, present, place, critical_of, critical, ideal, counts, terms, term_doubles, term_integers, pairs, pair_doubles, pair_integers, functions, function_integers, departures, departure_doubles, departure_integers, doubles, integers}
use Rattle.gerg_coefficients.proofs.Put.{length_critical}
use Rattle.gerg_coefficients.proofs.Whole.{length_ideal, length_terms, length_pairs, length_counts, length_term_bytes, length_pair_bytes, length_functions}
use Rattle.gerg_coefficients.proofs.Lookup.{in_first, in_second, get_flat, get_run_double, get_run_byte, get_row_byte, get_rows, get_byte_rows}

-- number c of record k of r, the numbers beginning `offset` bytes into the record
abbrev pub file_double : List ℕ → Records → ℕ → ℕ → ℕ → Float
file_double s r offset k c = cond (present r k) (double_at s (place r offset k + 8 * c)) +0

abbrev pub file_byte : List ℕ → Records → ℕ → ℕ → ℕ → ℕ
file_byte s r offset k c = cond (present r k) (byte s (place r offset k + c)) 0

module _ (s : List ℕ) (l : Layout) where
  -- blocks of the array of doubles
  in_critical : (p : ℕ) → p < 42 → get_or (doubles s l) p nan ≡ get_or (critical s) p nan
  unfolding doubles
  in_critical p h = in_first nan (critical s) _ 42 p (length_critical s) h

  in_ideal : (p : ℕ) → p < 231 → get_or (doubles s l) (42 + p) nan ≡ get_or (ideal s) p nan
  unfolding doubles
  in_ideal p h = in_second nan (critical s) _ 42 p (length_critical s) ∙ in_first nan (ideal s) _ 231 p (length_ideal s 0) h

  past_ideal : (p : ℕ) → get_or (doubles s l) (273 + p) nan ≡ get_or (term_doubles s l.terms ++ (pair_doubles s l.pairs ++ departure_doubles s l.functions l.count l.departures)) p nan
  unfolding doubles
  past_ideal p =
      ap (λ (q : ℕ). get_or (doubles s l) q nan) (let e : 273 + p ≡ 42 + (231 + p) = omega arith in e)
      ∙ in_second nan (critical s) _ 42 (231 + p) (length_critical s) ∙ in_second nan (ideal s) _ 231 p (length_ideal s 0)

  in_terms : (p : ℕ) → p < 1008 → get_or (doubles s l) (273 + p) nan ≡ get_or (term_doubles s l.terms) p nan
  in_terms p h = past_ideal p ∙ in_first nan (term_doubles s l.terms) _ 1008 p (length_terms s l.terms) h

  past_terms : (p : ℕ) → get_or (doubles s l) (1281 + p) nan ≡ get_or (pair_doubles s l.pairs ++ departure_doubles s l.functions l.count l.departures) p nan
  past_terms p =
      ap (λ (q : ℕ). get_or (doubles s l) q nan) (let e : 1281 + p ≡ 273 + (1008 + p) = omega arith in e)
      ∙ past_ideal (1008 + p) ∙ in_second nan (term_doubles s l.terms) _ 1008 p (length_terms s l.terms)

  in_pairs : (p : ℕ) → p < 2205 → get_or (doubles s l) (1281 + p) nan ≡ get_or (pair_doubles s l.pairs) p nan
  in_pairs p h = past_terms p ∙ in_first nan (pair_doubles s l.pairs) (departure_doubles s l.functions l.count l.departures) 2205 p (length_pairs s l.pairs) h

  in_departures : (p : ℕ) → get_or (doubles s l) (3486 + p) nan ≡ get_or (departure_doubles s l.functions l.count l.departures) p nan
  in_departures p =
      ap (λ (q : ℕ). get_or (doubles s l) q nan) (let e : 3486 + p ≡ 1281 + (2205 + p) = omega arith in e)
      ∙ past_terms (2205 + p) ∙ in_second nan (pair_doubles s l.pairs) (departure_doubles s l.functions l.count l.departures) 2205 p (length_pairs s l.pairs)

  -- Tc, MMiGERG of component i
  pub critical_number : (i c : ℕ) → i < 21 → c < 2 → get_or (doubles s l) (2 * i + c) nan ≡ get_or (critical_of s i) c nan
  unfolding critical
  critical_number i c h g = in_critical (2 * i + c) (omega arith) ∙ get_flat nan (critical_of s) 2 (λ k. refl) 21 i c h g

  -- n0i 1 to 7, th0i 4 to 7
  pub ideal_number : (i c : ℕ) → i < 21 → c < 11
      → get_or (doubles s l) (42 + (11 * i + c)) nan ≡ double_at s ((Kinds.revision).size + (Kinds.component).ideal + (Kinds.component).size * i + 8 * c)
  unfolding ideal
  ideal_number i c h g = in_ideal (11 * i + c) (omega arith) ∙ get_run_double s _ _ 21 11 i c h g

  -- noik, toik of term k of component i
  pub term_number : (i k c : ℕ) → i < 21 → k < 24 → c < 2
      → get_or (doubles s l) (273 + (48 * i + (2 * k + c))) nan ≡ file_double s (terms s l.terms i) (Kinds.term).doubles k c
  unfolding term_doubles
  term_number i k c h g b = in_terms (48 * i + (2 * k + c)) (omega arith) ∙ get_rows s (terms s l.terms) _ 24 2 21 i k c h g b

  -- btij, bvij, gtij, gvij, fij of the pair i, j
  pub pair_number : (i j c : ℕ) → i < 21 → j < 21 → c < 5
      → get_or (doubles s l) (1281 + (105 * i + (5 * j + c))) nan ≡ file_double s (pairs l.pairs i) (Kinds.pair).doubles j c
  unfolding pair_doubles
  pair_number i j c h g b = in_pairs (105 * i + (5 * j + c)) (omega arith) ∙ get_rows s (pairs l.pairs) _ 21 5 21 i j c h g b

  -- cijk, eijk, gijk, nijk, tijk of term k of departure function m
  pub departure_number : (m k c : ℕ) → m < 10 → k < 12 → c < 5
      → get_or (doubles s l) (3486 + (60 * m + (5 * k + c))) nan ≡ file_double s (departures s l.functions l.count l.departures m) (Kinds.departure).doubles k c
  unfolding departure_doubles
  departure_number m k c h g b =
      in_departures (60 * m + (5 * k + c)) ∙ get_rows s (departures s l.functions l.count l.departures) _ 12 5 10 m k c h g b

  -- blocks of the array of integers
  in_counts : (p : ℕ) → p < 42 → get_or (integers s l) p 0 ≡ get_or (counts s) p 0
  unfolding integers
  in_counts p h = in_first 0 (counts s) _ 42 p (length_counts s 0) h

  past_counts : (p : ℕ) → get_or (integers s l) (42 + p) 0 ≡ get_or (term_integers s l.terms ++ (pair_integers s l.pairs ++ (function_integers s l.functions l.count ++ departure_integers s l.functions l.count l.departures))) p 0
  unfolding integers
  past_counts p = in_second 0 (counts s) _ 42 p (length_counts s 0)

  in_term_bytes : (p : ℕ) → p < 1008 → get_or (integers s l) (42 + p) 0 ≡ get_or (term_integers s l.terms) p 0
  in_term_bytes p h = past_counts p ∙ in_first 0 (term_integers s l.terms) _ 1008 p (length_term_bytes s l.terms) h

  past_term_bytes : (p : ℕ) → get_or (integers s l) (1050 + p) 0 ≡ get_or (pair_integers s l.pairs ++ (function_integers s l.functions l.count ++ departure_integers s l.functions l.count l.departures)) p 0
  past_term_bytes p =
      ap (λ (q : ℕ). get_or (integers s l) q 0) (let e : 1050 + p ≡ 42 + (1008 + p) = omega arith in e)
      ∙ past_counts (1008 + p) ∙ in_second 0 (term_integers s l.terms) _ 1008 p (length_term_bytes s l.terms)

  in_pair_bytes : (p : ℕ) → p < 441 → get_or (integers s l) (1050 + p) 0 ≡ get_or (pair_integers s l.pairs) p 0
  in_pair_bytes p h = past_term_bytes p ∙ in_first 0 (pair_integers s l.pairs) _ 441 p (length_pair_bytes s l.pairs) h

  past_pair_bytes : (p : ℕ) → get_or (integers s l) (1491 + p) 0 ≡ get_or (function_integers s l.functions l.count ++ departure_integers s l.functions l.count l.departures) p 0
  past_pair_bytes p =
      ap (λ (q : ℕ). get_or (integers s l) q 0) (let e : 1491 + p ≡ 1050 + (441 + p) = omega arith in e)
      ∙ past_term_bytes (441 + p) ∙ in_second 0 (pair_integers s l.pairs) _ 441 p (length_pair_bytes s l.pairs)

  in_functions : (p : ℕ) → p < 20 → get_or (integers s l) (1491 + p) 0 ≡ get_or (function_integers s l.functions l.count) p 0
  in_functions p h = past_pair_bytes p ∙ in_first 0 (function_integers s l.functions l.count) (departure_integers s l.functions l.count l.departures) 20 p (length_functions s l.functions l.count) h

  in_departure_bytes : (p : ℕ) → get_or (integers s l) (1511 + p) 0 ≡ get_or (departure_integers s l.functions l.count l.departures) p 0
  in_departure_bytes p =
      ap (λ (q : ℕ). get_or (integers s l) q 0) (let e : 1511 + p ≡ 1491 + (20 + p) = omega arith in e)
      ∙ past_pair_bytes (20 + p) ∙ in_second 0 (function_integers s l.functions l.count) (departure_integers s l.functions l.count l.departures) 20 p (length_functions s l.functions l.count)

  -- kpol, kexp of component i
  pub count_number : (i c : ℕ) → i < 21 → c < 2 → get_or (integers s l) (2 * i + c) 0 ≡ byte s ((Kinds.revision).size + (Kinds.component).counts + (Kinds.component).size * i + c)
  unfolding counts
  count_number i c h g = in_counts (2 * i + c) (omega arith) ∙ get_run_byte s _ _ 21 2 i c h g

  -- coik, doik of term k of component i
  pub term_byte : (i k c : ℕ) → i < 21 → k < 24 → c < 2
      → get_or (integers s l) (42 + (48 * i + (2 * k + c))) 0 ≡ file_byte s (terms s l.terms i) (Kinds.term).exponents k c
  unfolding term_integers
  term_byte i k c h g b = in_term_bytes (48 * i + (2 * k + c)) (omega arith) ∙ get_byte_rows s (terms s l.terms) _ 24 2 21 i k c h g b

  -- mNumb of the pair i, j
  pub pair_byte : (i j c : ℕ) → i < 21 → j < 21 → c < 1
      → get_or (integers s l) (1050 + (21 * i + (1 * j + c))) 0 ≡ file_byte s (pairs l.pairs i) (Kinds.pair).number j c
  unfolding pair_integers
  pair_byte i j c h g b = in_pair_bytes (21 * i + (1 * j + c)) (omega arith) ∙ get_byte_rows s (pairs l.pairs) _ 21 1 21 i j c h g b

  -- kpolij, kexpij of departure function m
  pub function_byte : (m c : ℕ) → m < 10 → c < 2 → get_or (integers s l) (1491 + (2 * m + c)) 0 ≡ file_byte s (functions l.functions l.count) (Kinds.function).counts m c
  unfolding function_integers
  function_byte m c h g = in_functions (2 * m + c) (omega arith) ∙ get_row_byte s (functions l.functions l.count) _ 10 2 m c h g

  -- dijk of term k of departure function m
  pub departure_byte : (m k c : ℕ) → m < 10 → k < 12 → c < 1
      → get_or (integers s l) (1511 + (12 * m + (1 * k + c))) 0 ≡ file_byte s (departures s l.functions l.count l.departures m) (Kinds.departure).exponent k c
  unfolding departure_integers
  departure_byte m k c h g b =
      in_departure_bytes (12 * m + (1 * k + c)) ∙ get_byte_rows s (departures s l.functions l.count l.departures) _ 12 1 10 m k c h g b
