-- One row more of each section, stored into an array of zeros.
use mathlib.Core.Path.{◌≡◌, refl}
use mathlib.Core.List.{List, ◌++◌}
use Prim.Native.Nat.{ℕ, ◌+◌, ◌-◌, ◌*◌, ◌≤◌, ◌<◌}
use native.Mathlib.Omega.{arith}
use lib.ListN.{length}
use lib.Seq.{sets}
use lib.Ieee.{Float}
use Rattle.numerics.specs.Double.{+0}
use Rattle.gerg_file.specs.Kinds as Kinds
use Rattle.gerg_file.specs.Counts.{sum, terms_of, departures_of}
use Rattle.gerg_coefficients.specs.Load.{flat, doubles_at, bytes_at, run_of, row_of, terms, pairs, functions, function_integers, departures}
use Rattle.gerg_coefficients.specs.Filling.{padded}
use Rattle.gerg_coefficients.proofs.Put.{length_doubles_at, length_bytes_at}
use Rattle.gerg_coefficients.proofs.Rows.{row_on, section_on}

-- the terms of component i
module _ (s : List ℕ) (from i at count : ℕ) (h : i < 21) (limit : terms_of s i ≤ 24) (e : count ≡ terms_of s i) (p : at ≡ from + (Kinds.term).size * sum (terms_of s) i) where
  pub terms_on : (a : List Float) {o o' : List Float} → length a ≡ 273 → o ≡ padded 4086 +0 (a ++ flat (λ i. row_of +0 (doubles_at s) (terms s from i) (Kinds.term).doubles 24 2) i)
      → o' ≡ sets o (273 + 48 * i) (run_of (doubles_at s) (at + (Kinds.term).doubles) (Kinds.term).size count 2) → o' ≡ padded 4086 +0 (a ++ flat (λ i. row_of +0 (doubles_at s) (terms s from i) (Kinds.term).doubles 24 2) (i + 1))
  unfolding terms
  terms_on a la inv t =
      section_on 4086 +0 (doubles_at s) (length_doubles_at s) (terms s from) (Kinds.term).doubles 24 2 273 i (273 + 48 * i) (at + (Kinds.term).doubles) count (terms s from i) a refl
      (omega arith) limit la (omega arith) (omega arith) (omega arith) (omega arith) inv t

  pub term_bytes_on : (a : List ℕ) {o o' : List ℕ} → length a ≡ 42 → o ≡ padded 1631 0 (a ++ flat (λ i. row_of 0 (bytes_at s) (terms s from i) (Kinds.term).exponents 24 2) i)
      → o' ≡ sets o (42 + 48 * i) (run_of (bytes_at s) (at + (Kinds.term).exponents) (Kinds.term).size count 2) → o' ≡ padded 1631 0 (a ++ flat (λ i. row_of 0 (bytes_at s) (terms s from i) (Kinds.term).exponents 24 2) (i + 1))
  unfolding terms
  term_bytes_on a la inv t =
      section_on 1631 0 (bytes_at s) (length_bytes_at s) (terms s from) (Kinds.term).exponents 24 2 42 i (42 + 48 * i) (at + (Kinds.term).exponents) count (terms s from i) a refl
      (omega arith) limit la (omega arith) (omega arith) (omega arith) (omega arith) inv t

-- the pairs of component i
module _ (s : List ℕ) (from i at : ℕ) (h : i < 21) (p : at ≡ from + (Kinds.pair).size * (sum (λ h. 20 - h) i + i)) where
  pub pairs_on : (a : List Float) {o o' : List Float} → length a ≡ 1281 → o ≡ padded 4086 +0 (a ++ flat (λ i. row_of +0 (doubles_at s) (pairs from i) (Kinds.pair).doubles 21 5) i)
      → o' ≡ sets o (1281 + 105 * i + 5 * i) (run_of (doubles_at s) (at + (Kinds.pair).doubles) (Kinds.pair).size (21 - i) 5) → o' ≡ padded 4086 +0 (a ++ flat (λ i. row_of +0 (doubles_at s) (pairs from i) (Kinds.pair).doubles 21 5) (i + 1))
  unfolding pairs
  pairs_on a la inv t =
      section_on 4086 +0 (doubles_at s) (length_doubles_at s) (pairs from) (Kinds.pair).doubles 21 5 1281 i (1281 + 105 * i + 5 * i) (at + (Kinds.pair).doubles) (21 - i) (pairs from i) a refl
      (omega arith) (omega arith) la (omega arith) (omega arith) (omega arith) (omega arith) inv t

  pub pair_bytes_on : (a : List ℕ) {o o' : List ℕ} → length a ≡ 1050 → o ≡ padded 1631 0 (a ++ flat (λ i. row_of 0 (bytes_at s) (pairs from i) (Kinds.pair).number 21 1) i)
      → o' ≡ sets o (1050 + 21 * i + i) (run_of (bytes_at s) (at + (Kinds.pair).number) (Kinds.pair).size (21 - i) 1) → o' ≡ padded 1631 0 (a ++ flat (λ i. row_of 0 (bytes_at s) (pairs from i) (Kinds.pair).number 21 1) (i + 1))
  unfolding pairs
  pair_bytes_on a la inv t =
      section_on 1631 0 (bytes_at s) (length_bytes_at s) (pairs from) (Kinds.pair).number 21 1 1050 i (1050 + 21 * i + i) (at + (Kinds.pair).number) (21 - i) (pairs from i) a refl
      (omega arith) (omega arith) la (omega arith) (omega arith) (omega arith) (omega arith) inv t

-- the departure functions
pub functions_on : (s : List ℕ) (from count : ℕ) → count ≤ 10 → (a : List ℕ) {o o' : List ℕ} → length a ≡ 1491 → o ≡ padded 1631 0 a
    → o' ≡ sets o 1491 (run_of (bytes_at s) (from + (Kinds.function).counts) (Kinds.function).size count 2) → o' ≡ padded 1631 0 (a ++ function_integers s from count)
unfolding functions function_integers
functions_on s from count h a la inv t =
    row_on 0 (bytes_at s) (length_bytes_at s) (functions from count) (Kinds.function).counts 10 2 1631 1491 1491 (from + (Kinds.function).counts) count a
    (omega arith) h la (omega arith) (omega arith) (omega arith) (omega arith) inv t

-- the terms of departure function i
module _ (s : List ℕ) (functions count from i at terms : ℕ) (h : i < 10) (limit : departures_of s functions count i ≤ 12) (e : terms ≡ departures_of s functions count i)
    (p : at ≡ from + (Kinds.departure).size * sum (departures_of s functions count) i)
  where
    pub departures_on : (a : List Float) {o o' : List Float} → length a ≡ 3486 → o ≡ padded 4086 +0 (a ++ flat (λ i. row_of +0 (doubles_at s) (departures s functions count from i) (Kinds.departure).doubles 12 5) i)
        → o' ≡ sets o (3486 + 60 * i) (run_of (doubles_at s) (at + (Kinds.departure).doubles) (Kinds.departure).size terms 5) → o' ≡ padded 4086 +0 (a ++ flat (λ i. row_of +0 (doubles_at s) (departures s functions count from i) (Kinds.departure).doubles 12 5) (i + 1))
    unfolding departures
    departures_on a la inv t =
        section_on 4086 +0 (doubles_at s) (length_doubles_at s) (departures s functions count from) (Kinds.departure).doubles 12 5 3486 i (3486 + 60 * i) (at + (Kinds.departure).doubles) terms (departures s functions count from i) a refl
        (omega arith) limit la (omega arith) (omega arith) (omega arith) (omega arith) inv t

    pub departure_bytes_on : (a : List ℕ) {o o' : List ℕ} → length a ≡ 1511 → o ≡ padded 1631 0 (a ++ flat (λ i. row_of 0 (bytes_at s) (departures s functions count from i) (Kinds.departure).exponent 12 1) i)
        → o' ≡ sets o (1511 + 12 * i) (run_of (bytes_at s) (at + (Kinds.departure).exponent) (Kinds.departure).size terms 1) → o' ≡ padded 1631 0 (a ++ flat (λ i. row_of 0 (bytes_at s) (departures s functions count from i) (Kinds.departure).exponent 12 1) (i + 1))
    unfolding departures
    departure_bytes_on a la inv t =
        section_on 1631 0 (bytes_at s) (length_bytes_at s) (departures s functions count from) (Kinds.departure).exponent 12 1 1511 i (1511 + 12 * i) (at + (Kinds.departure).exponent) terms (departures s functions count from i) a refl
        (omega arith) limit la (omega arith) (omega arith) (omega arith) (omega arith) inv t
