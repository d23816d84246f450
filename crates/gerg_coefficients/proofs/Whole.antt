-- The two arrays whole: their blocks stored one after the other.
use mathlib.Core.Path.{◌≡◌, refl, ◌∙◌}
use mathlib.Core.List.{List, [], ◌++◌, append_assoc}
use Prim.Native.Nat.{ℕ, ◌+◌, ◌*◌}
use native.Mathlib.Omega.{arith}
use lib.ListN.{length, length-append, replicate}
use lib.Seq.{sets}
use lib.Ieee.{Float}
use Rattle.numerics.specs.Double.{+0}
use Rattle.gerg_file.specs.declared.Layout.{Layout}
use Rattle.gerg_coefficients.specs.Load.{flat, doubles_at, bytes_at, Records, row_of, critical, ideal, counts, terms, term_doubles, term_integers, pairs, pair_doubles, pair_integers, functions, function_integers, departures, departure_doubles, departure_integers, doubles, integers}
use Rattle.gerg_coefficients.specs.Filling.{padded}
use Rattle.gerg_coefficients.proofs.Padded.{padded_none, padded_all, stored_on}
use Rattle.gerg_coefficients.proofs.Put.{length_flat, length_run, length_doubles_at, length_bytes_at, length_critical}
use Rattle.gerg_coefficients.proofs.Rows.{length_row}

-- rows of one length
length_rows : {A : Type 0} (z : A) (numbers : ℕ → ℕ → List A) → ((at n : ℕ) → length (numbers at n) ≡ n) → (f : ℕ → Records) (offset count per n : ℕ)
    → length (flat (λ i. row_of z numbers (f i) offset count per) n) ≡ per * count * n
length_rows z numbers sized f offset count per n =
    length_flat (λ i. row_of z numbers (f i) offset count per) (per * count) (λ k. length_row z numbers sized (f k) offset count per) n

module _ (s : List ℕ) (from : ℕ) where
  pub length_ideal : length (ideal s) ≡ 231
  unfolding ideal
  length_ideal = length_run (doubles_at s) (length_doubles_at s) _ _ 11 0 21

  pub length_counts : length (counts s) ≡ 42
  unfolding counts
  length_counts = length_run (bytes_at s) (length_bytes_at s) _ _ 2 0 21

  pub length_terms : length (term_doubles s from) ≡ 1008
  unfolding term_doubles
  length_terms = length_rows +0 (doubles_at s) (length_doubles_at s) (terms s from) _ 24 2 21

  pub length_term_bytes : length (term_integers s from) ≡ 1008
  unfolding term_integers
  length_term_bytes = length_rows 0 (bytes_at s) (length_bytes_at s) (terms s from) _ 24 2 21

  pub length_pairs : length (pair_doubles s from) ≡ 2205
  unfolding pair_doubles
  length_pairs = length_rows +0 (doubles_at s) (length_doubles_at s) (pairs from) _ 21 5 21

  pub length_pair_bytes : length (pair_integers s from) ≡ 441
  unfolding pair_integers
  length_pair_bytes = length_rows 0 (bytes_at s) (length_bytes_at s) (pairs from) _ 21 1 21

  pub length_functions : (count : ℕ) → length (function_integers s from count) ≡ 20
  unfolding function_integers
  length_functions count = length_row 0 (bytes_at s) (length_bytes_at s) (functions from count) _ 10 2

module _ (s : List ℕ) (functions count from : ℕ) where
  pub length_departures : length (departure_doubles s functions count from) ≡ 600
  unfolding departure_doubles
  length_departures = length_rows +0 (doubles_at s) (length_doubles_at s) (departures s functions count from) _ 12 5 10

  pub length_departure_bytes : length (departure_integers s functions count from) ≡ 120
  unfolding departure_integers
  length_departure_bytes = length_rows 0 (bytes_at s) (length_bytes_at s) (departures s functions count from) _ 12 1 10

-- the length of two lists one after the other
joined : {A : Type 0} (a b : List A) {m n : ℕ} → length a ≡ m → length b ≡ n → length (a ++ b) ≡ m + n
joined a b e g = length-append a b ∙ rw (e, g)

module _ (s : List ℕ) (l : Layout) where
  abbrev to_ideal : List Float
  to_ideal = critical s ++ ideal s

  abbrev to_terms : List Float
  to_terms = to_ideal ++ term_doubles s l.terms

  abbrev to_pairs : List Float
  to_pairs = to_terms ++ pair_doubles s l.pairs

  length_to_ideal : length to_ideal ≡ 273
  length_to_ideal = joined (critical s) (ideal s) (length_critical s) (length_ideal s 0)

  length_to_terms : length to_terms ≡ 1281
  length_to_terms = joined to_ideal _ length_to_ideal (length_terms s l.terms)

  length_to_pairs : length to_pairs ≡ 3486
  length_to_pairs = joined to_terms _ length_to_terms (length_pairs s l.pairs)

  all_doubles : to_pairs ++ departure_doubles s l.functions l.count l.departures ≡ doubles s l
  unfolding doubles
  all_doubles = simp append_assoc

  -- each block by what its call gives
  pub doubles_stored : {o₀ o₁ o₂ o₃ o₄ : List Float} → o₀ ≡ replicate 4086 +0 → o₁ ≡ sets (sets o₀ 0 (critical s)) 42 (ideal s)
      → ((a : List Float) → length a ≡ 273 → o₁ ≡ padded 4086 +0 a → o₂ ≡ padded 4086 +0 (a ++ term_doubles s l.terms))
      → ((a : List Float) → length a ≡ 1281 → o₂ ≡ padded 4086 +0 a → o₃ ≡ padded 4086 +0 (a ++ pair_doubles s l.pairs))
      → ((a : List Float) → length a ≡ 3486 → o₃ ≡ padded 4086 +0 a
      → o₄ ≡ padded 4086 +0 (a ++ departure_doubles s l.functions l.count l.departures))
      → o₄ ≡ doubles s l
  doubles_stored {o₀} zeros e₁ e₂ e₃ e₄ =
      let c = length_critical s in
      let i = length_ideal s 0 in
      let first = stored_on 4086 +0 [] (critical s) 0 refl (omega arith) (zeros ∙ padded_none 4086 +0) refl in
      let second = stored_on 4086 +0 (critical s) (ideal s) 42 c (omega arith) first e₁ in
      e₄ to_pairs length_to_pairs (e₃ to_terms length_to_terms (e₂ to_ideal length_to_ideal second))
      ∙ padded_all 4086 +0 (to_pairs ++ departure_doubles s l.functions l.count l.departures)
      (joined to_pairs _ length_to_pairs (length_departures s l.functions l.count l.departures))
      ∙ all_doubles

  abbrev to_term_bytes : List ℕ
  to_term_bytes = counts s ++ term_integers s l.terms

  abbrev to_pair_bytes : List ℕ
  to_pair_bytes = to_term_bytes ++ pair_integers s l.pairs

  abbrev to_functions : List ℕ
  to_functions = to_pair_bytes ++ function_integers s l.functions l.count

  length_to_term_bytes : length to_term_bytes ≡ 1050
  length_to_term_bytes = joined (counts s) _ (length_counts s 0) (length_term_bytes s l.terms)

  pub length_to_pair_bytes : length to_pair_bytes ≡ 1491
  length_to_pair_bytes = joined to_term_bytes _ length_to_term_bytes (length_pair_bytes s l.pairs)

  length_to_functions : length to_functions ≡ 1511
  length_to_functions = joined to_pair_bytes _ length_to_pair_bytes (length_functions s l.functions l.count)

  all_integers : to_functions ++ departure_integers s l.functions l.count l.departures ≡ integers s l
  unfolding integers
  all_integers = simp append_assoc

  pub integers_stored : {o₀ o₁ o₂ o₃ o₄ o₅ : List ℕ} → o₀ ≡ replicate 1631 0 → o₁ ≡ sets o₀ 0 (counts s)
      → ((a : List ℕ) → length a ≡ 42 → o₁ ≡ padded 1631 0 a → o₂ ≡ padded 1631 0 (a ++ term_integers s l.terms))
      → ((a : List ℕ) → length a ≡ 1050 → o₂ ≡ padded 1631 0 a → o₃ ≡ padded 1631 0 (a ++ pair_integers s l.pairs))
      → ((a : List ℕ) → length a ≡ 1491 → o₃ ≡ padded 1631 0 a → o₄ ≡ padded 1631 0 (a ++ function_integers s l.functions l.count))
      → ((a : List ℕ) → length a ≡ 1511 → o₄ ≡ padded 1631 0 a
      → o₅ ≡ padded 1631 0 (a ++ departure_integers s l.functions l.count l.departures))
      → o₅ ≡ integers s l
  integers_stored {o₀} zeros e₁ e₂ e₃ e₄ e₅ =
      let c = length_counts s 0 in
      let first = stored_on 1631 0 [] (counts s) 0 refl (omega arith) (zeros ∙ padded_none 1631 0) e₁ in
      e₅ to_functions length_to_functions
      (e₄ to_pair_bytes length_to_pair_bytes (e₃ to_term_bytes length_to_term_bytes (e₂ (counts s) c first)))
      ∙ padded_all 1631 0 (to_functions ++ departure_integers s l.functions l.count l.departures)
      (joined to_functions _ length_to_functions (length_departure_bytes s l.functions l.count l.departures))
      ∙ all_integers
