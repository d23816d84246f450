-- A walk refuses by row 1 alone, with where it has come.
use mathlib.Core.Path.{◌≡◌, sym}
use mathlib.Core.Bool.{Bool, true, false}
use mathlib.Core.List.{List}
use Prim.Native.Nat.{ℕ, zero, suc, ◌+◌, ◌-◌, ◌*◌}
use native.Mathlib.Omega.{arith}
use Rattle.std.specs.Prelude.{Ok, Err}
use Rattle.numerics.specs.Double.{pick}
use Rattle.gerg_refusals.specs.declared.Refusal.{Refusal}
use Rattle.gerg_refusals.specs.declared.Refusal.TheVariants.{File}
use Rattle.gerg_refusals.specs.Refusal.{value_of}
use Rattle.gerg_file.specs.Kinds as Kinds
use Rattle.gerg_file.specs.Bytes.{term_count}
use Rattle.gerg_refusals.specs.Answer.{and_then}
use Rattle.gerg_file.specs.File.{Walk, place, chain, counted, numbered, group, component_step, term_row, pair_row, function_step, departure_row, after_revision, after_components, after_terms, after_pairs, function_count, after_functions, after_departures, at_end}

abbrev pub Filed : Walk → Type 0
Filed w = (r : Refusal) → w ≡ Err r → r ≡ File (value_of r)

pick_filed : (b : Bool) (at bad : ℕ) → Filed (pick b (Ok at) (Err (File bad)))
pick_filed true at bad r e = let z : ◌≡◌ {A = ℕ} 0 1 = cc in absurd (omega arith)
pick_filed false at bad r e = let q : File bad ≡ r = cc in rw (sym q)

follow_filed : (w : Walk) (f : ℕ → Walk) → Filed w → ((at : ℕ) → Filed (f at)) → Filed (and_then w f)
follow_filed (Ok at) f h g r e = g at r e
follow_filed (Err r) f h g q e = h q e

chain_filed : (step : ℕ → ℕ → Walk) → ((i at : ℕ) → Filed (step i at)) → (n i at : ℕ) → Filed (chain step n i at)
unfolding chain
chain_filed step g zero i at r e = let z : ◌≡◌ {A = ℕ} 0 1 = cc in absurd (omega arith)
chain_filed step g (suc n) i at r e = follow_filed (step i at) (chain step n (i + 1)) (g i at) (chain_filed step g n (i + 1)) r e

module _ (s : List ℕ) where
  counted_filed : (kind size counts limit lead at : ℕ) → Filed (counted s kind size counts limit lead at)
  counted_filed kind size counts limit lead at = pick_filed _ (at + size) at

  numbered_filed : (kind size lead number at : ℕ) → Filed (numbered s kind size lead number at)
  numbered_filed kind size lead number at = pick_filed _ (at + size) at

  run_filed : (kind size lead n first at : ℕ) → Filed (chain (numbered s kind size lead) n first at)
  run_filed kind size lead = chain_filed (numbered s kind size lead) (numbered_filed kind size lead)

  groups_filed : (kind size base counts stride n at : ℕ) → Filed (chain (group s kind size base counts stride) n 1 at)
  groups_filed kind size base counts stride n at =
      chain_filed (group s kind size base counts stride)
      (λ i at. run_filed kind size i (term_count s (base + (counts + stride * (i - 1)))) 1 at) n 1 at

  components_filed : Filed (after_components s)
  unfolding after_components after_revision
  components_filed =
      follow_filed (after_revision s) (chain (component_step s) 21 1) (pick_filed _ (Kinds.revision).size 0)
      (chain_filed (component_step s) (counted_filed _ _ _ _) 21 1)

  terms_filed : Filed (after_terms s)
  unfolding after_terms
  terms_filed = follow_filed (after_components s) (chain (term_row s) 21 1) components_filed (groups_filed _ _ _ _ _ 21)

  pairs_filed : Filed (after_pairs s)
  unfolding after_pairs
  pairs_filed =
      follow_filed (after_terms s) (chain (pair_row s) 21 1) terms_filed
      (chain_filed (pair_row s) (λ i at. run_filed _ _ i (22 - i) i at) 21 1)

  functions_filed : Filed (after_functions s)
  unfolding after_functions
  functions_filed =
      follow_filed (after_pairs s) (chain (function_step s) (function_count s) 1) pairs_filed
      (chain_filed (function_step s) (counted_filed _ _ _ _) (function_count s) 1)

  pub departures_filed : Filed (after_departures s)
  unfolding after_departures
  departures_filed =
      follow_filed (after_functions s) (chain (departure_row s (place (after_pairs s))) (function_count s) 1) functions_filed
      (groups_filed _ _ _ _ _ (function_count s))

  pub end_filed : Filed (and_then (after_departures s) (at_end s))
  end_filed = follow_filed (after_departures s) (at_end s) departures_filed (λ at. pick_filed _ at at)
