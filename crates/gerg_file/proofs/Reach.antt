-- How far a walk over records comes: no record that it looks at ends past 28,377, where the longest file ends.
use mathlib.Core.Path.{◌≡◌, refl, sym}
use mathlib.Core.Bool.{Bool, true, false, ◌&&◌}
use mathlib.Core.List.{List}
use Prim.Native.Nat.{ℕ, zero, suc, ◌+◌, ◌-◌, ◌*◌, ◌≤◌, ◌<◌}
use native.Mathlib.Nat.{mul-suc, mul-zero, mul-le-mul_left}
use native.Mathlib.Omega.{arith}
use lib.Dec.{leb, eqb}
use lib.ListN.{length}
use Rattle.numerics.specs.Double.{pick}
use Rattle.gerg_refusals.specs.Answer.{and_then}
use Rattle.gerg_file.specs.File.{Walk}
use Rattle.std.specs.Prelude.{Ok, Err}
use Rattle.gerg_refusals.specs.declared.Refusal.TheVariants.{File}
use Rattle.gerg_file.specs.Kinds as Kinds
use Rattle.gerg_file.specs.Bytes.{byte, term_count}
use Rattle.gerg_file.specs.File.{place, chain, counted, numbered, group, component_step, term_row, pair_row, function_step, departure_row, same_at, revision, after_revision, after_components, after_terms, after_pairs, function_count, after_functions, after_departures, at_end}
use Rattle.gerg_file.proofs.WellFormed.{components_limit, functions_limits, count_at_most}

-- the bytes of n things from number i on, where number h has at most size h
unfoldable pub room : (ℕ → ℕ) → ℕ → ℕ → ℕ
room size zero i = 0
room size (suc n) i = size i + room size n (i + 1)

pub room_of : (c n i : ℕ) → room (λ h. c) n i ≡ c * n
unfolding room
room_of c zero i = sym (mul-zero c)
room_of c (suc n) i = let r = room_of c n (i + 1) in omega (arith, mul-suc c n)

pub room_of_pairs : room (λ i. (Kinds.pair).size * (22 - i)) 21 1 ≡ (Kinds.pair).size * 231
unfolding room
room_of_pairs = refl

-- where a walk stands that goes on, and after a test
follow_place : (w : Walk) (f : ℕ → Walk) (a b : ℕ) → place w ≤ a → ((p : ℕ) → w ≡ Ok p → p ≤ a → place (f p) ≤ p + b) → place (and_then w f) ≤ a + b
follow_place (Ok p) f a b h g = let r = g p refl h in omega arith
follow_place (Err r) f a b h g = omega arith

pick_place : (b : Bool) (p q a : ℕ) → p ≤ a → q ≤ a → place (pick b (Ok p) (Err (File q))) ≤ a
pick_place true p q a h g = h
pick_place false p q a h g = g

-- things in a row, numbered up to `last`
module _ (step : ℕ → ℕ → Walk) (size : ℕ → ℕ) (last : ℕ) (each : (i at : ℕ) → 0 < i → i ≤ last → place (step i at) ≤ at + size i) where
  pub chain_place : (n i at : ℕ) → 0 < i → i + n ≤ suc last → place (chain step n i at) ≤ at + room size n i
  unfolding chain room
  chain_place zero i at l h = omega arith
  chain_place (suc n) i at l h =
      let r = follow_place (step i at) (chain step n (i + 1)) (at + size i) (room size n (i + 1)) (each i at l (omega arith))
      (λ p e q. chain_place n (i + 1) p (omega arith) (omega arith)) in
      omega arith

pub equal_place : (step : ℕ → ℕ → Walk) (c last : ℕ) → ((i at : ℕ) → 0 < i → i ≤ last → place (step i at) ≤ at + c)
    → (n i at : ℕ) → 0 < i → i + n ≤ suc last → place (chain step n i at) ≤ at + c * n
equal_place step c last each n i at l h =
    let r = chain_place step (λ h. c) last each n i at l h in let q = room_of c n i in omega arith

-- one record, a run of them, the terms of one component or departure function
module _ (s : List ℕ) where
  pub counted_place : (kind size counts limit lead at : ℕ) → place (counted s kind size counts limit lead at) ≤ at + size
  counted_place kind size counts limit lead at =
      pick_place (leb (at + size) (length s) && eqb (byte s at) kind && eqb (byte s (at + 1)) lead && leb (term_count s (at + counts)) limit)
      (at + size) at (at + size) (omega arith) (omega arith)

  pub numbered_place : (kind size lead number at : ℕ) → place (numbered s kind size lead number at) ≤ at + size
  numbered_place kind size lead number at =
      pick_place (leb (at + size) (length s) && eqb (byte s at) kind && eqb (byte s (at + 1)) lead && eqb (byte s (at + 2)) number)
      (at + size) at (at + size) (omega arith) (omega arith)

  run_place : (kind size lead n first at : ℕ) → 0 < first → place (chain (numbered s kind size lead) n first at) ≤ at + size * n
  run_place kind size lead n first at l =
      equal_place (numbered s kind size lead) size (first + n) (λ i at l h. numbered_place kind size lead i at) n first at l (omega arith)

  group_place : (kind size base counts stride limit i at : ℕ) → term_count s (base + (counts + stride * (i - 1))) ≤ limit
      → place (group s kind size base counts stride i at) ≤ at + size * limit
  group_place kind size base counts stride limit i at h =
      let r = run_place kind size i (term_count s (base + (counts + stride * (i - 1)))) 1 at (omega arith) in
      omega (arith, mul-le-mul_left size h)

-- where each section ends at most
abbrev pub components_end : ℕ
components_end = (Kinds.revision).size + (Kinds.component).size * 21

abbrev pub terms_end : ℕ
terms_end = components_end + (Kinds.term).size * 24 * 21

abbrev pub pairs_end : ℕ
pairs_end = terms_end + (Kinds.pair).size * 231

abbrev pub functions_end : ℕ
functions_end = pairs_end + (Kinds.function).size * 10

abbrev pub departures_end : ℕ
departures_end = functions_end + (Kinds.departure).size * 12 * 10

module _ (s : List ℕ) where
  counts_at : (a b c : ℕ) → a ≡ b → term_count s b ≤ c → term_count s a ≤ c
  counts_at a b c q h = rw q h

  pub terms_limited : (p : ℕ) → after_components s ≡ Ok p → (i : ℕ) → i < 21
      → term_count s ((Kinds.revision).size + ((Kinds.component).counts + (Kinds.component).size * i)) ≤ 24
  terms_limited p e i h =
      counts_at ((Kinds.revision).size + ((Kinds.component).counts + (Kinds.component).size * i))
      ((Kinds.revision).size + (Kinds.component).size * i + (Kinds.component).counts) 24 (omega arith) (components_limit s p e i h)

  pub departures_limited : (p : ℕ) → after_functions s ≡ Ok p → (m : ℕ) → m < function_count s
      → term_count s (place (after_pairs s) + ((Kinds.function).counts + (Kinds.function).size * m)) ≤ 12
  departures_limited p e m h =
      counts_at (place (after_pairs s) + ((Kinds.function).counts + (Kinds.function).size * m))
      (place (after_pairs s) + (Kinds.function).size * m + (Kinds.function).counts) 12 (omega arith) (functions_limits s p e m h)

  pub component_place : (i at : ℕ) → place (component_step s i at) ≤ at + (Kinds.component).size
  component_place i at = counted_place s _ _ _ _ i at

  pub term_place : (p : ℕ) → after_components s ≡ Ok p → (i at : ℕ) → 0 < i → i ≤ 21 → place (term_row s i at) ≤ at + (Kinds.term).size * 24
  term_place p e i at l h = group_place s _ _ _ _ _ 24 i at (terms_limited p e (i - 1) (omega arith))

  pub pair_place : (i at : ℕ) → 0 < i → place (pair_row s i at) ≤ at + (Kinds.pair).size * (22 - i)
  pair_place i at l = run_place s _ _ i (22 - i) i at l

  pub function_place : (i at : ℕ) → place (function_step s i at) ≤ at + (Kinds.function).size
  function_place i at = counted_place s _ _ _ _ i at

  pub departure_place : (p : ℕ) → after_functions s ≡ Ok p → (i at : ℕ) → 0 < i → i ≤ function_count s
      → place (departure_row s (place (after_pairs s)) i at) ≤ at + (Kinds.departure).size * 12
  departure_place p e i at l h = group_place s _ _ _ _ _ 12 i at (departures_limited p e (i - 1) (omega arith))

  pub revision_place : place (after_revision s) ≤ (Kinds.revision).size
  unfolding after_revision
  revision_place = pick_place (eqb (byte s 0) (Kinds.revision).kind && same_at s 1 revision) (Kinds.revision).size 0 (Kinds.revision).size (omega arith) (omega arith)

  pub components_place : place (after_components s) ≤ components_end
  unfolding after_components
  components_place =
      follow_place (after_revision s) (chain (component_step s) 21 1) (Kinds.revision).size ((Kinds.component).size * 21) revision_place
      (λ p e h. equal_place (component_step s) (Kinds.component).size 21 (λ i at l g. component_place i at) 21 1 p (omega arith) (omega arith))

  pub terms_place : place (after_terms s) ≤ terms_end
  unfolding after_terms
  terms_place =
      follow_place (after_components s) (chain (term_row s) 21 1) components_end ((Kinds.term).size * 24 * 21) components_place
      (λ p e h. equal_place (term_row s) ((Kinds.term).size * 24) 21 (term_place p e) 21 1 p (omega arith) (omega arith))

  pub pairs_place : place (after_pairs s) ≤ pairs_end
  unfolding after_pairs
  pairs_place =
      follow_place (after_terms s) (chain (pair_row s) 21 1) terms_end ((Kinds.pair).size * 231) terms_place
      (λ p e h.
      rw room_of_pairs at
      (chain_place (pair_row s) (λ i. (Kinds.pair).size * (22 - i)) 21 (λ i at l g. pair_place i at l) 21 1 p (omega arith) (omega arith)))

  pub functions_place : place (after_functions s) ≤ functions_end
  unfolding after_functions
  functions_place =
      follow_place (after_pairs s) (chain (function_step s) (function_count s) 1) pairs_end ((Kinds.function).size * 10) pairs_place
      (λ p e h.
      let c = count_at_most s in
      let r = equal_place (function_step s) (Kinds.function).size (function_count s) (λ i at l g. function_place i at) (function_count s) 1 p (omega arith) (omega arith) in
      omega arith)

  pub departures_place : place (after_departures s) ≤ departures_end
  unfolding after_departures
  departures_place =
      follow_place (after_functions s) (chain (departure_row s (place (after_pairs s))) (function_count s) 1) functions_end ((Kinds.departure).size * 12 * 10)
      functions_place
      (λ p e h.
      let c = count_at_most s in
      let r = equal_place (departure_row s (place (after_pairs s))) ((Kinds.departure).size * 12) (function_count s) (departure_place p e) (function_count s) 1 p
      (omega arith) (omega arith) in
      omega arith)

  pub end_place : place (and_then (after_departures s) (at_end s)) ≤ departures_end
  end_place =
      let r = follow_place (after_departures s) (at_end s) departures_end 0 departures_place
      (λ p e h. pick_place (eqb p (length s)) p p (p + 0) (omega arith) (omega arith)) in
      omega arith
