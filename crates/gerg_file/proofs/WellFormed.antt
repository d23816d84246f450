-- What a well-formed file has: the walk's steps, read back from its end.
use mathlib.Core.Path.{◌≡◌, refl, sym, ap, ◌∙◌}
use mathlib.Core.Bool.{Bool, true, false, ◌&&◌, cond}
use mathlib.Core.List.{List}
use Prim.Native.Nat.{ℕ, zero, suc, ◌+◌, ◌*◌, ◌≤◌, ◌<◌}
use native.Mathlib.Nat.{mul-suc, mul-zero}
use native.Mathlib.Omega.{arith}
use borrow.Author.Tests.{leb-true, eqb-true}
use lib.Dec.{leb, eqb}
use lib.ListN.{length}
use Rattle.numerics.specs.Tests.{and_true}
use Rattle.numerics.specs.Double.{pick}
use Rattle.gerg_refusals.specs.Answer.{and_then}
use Rattle.gerg_file.specs.File.{Walk}
use Rattle.std.specs.Prelude.{Ok, Err}
use Rattle.gerg_refusals.specs.declared.Refusal.TheVariants.{File}
use Rattle.gerg_file.specs.declared.Layout.{Layout}
use Rattle.gerg_file.specs.Kinds as Kinds
use Rattle.gerg_file.specs.Bytes.{byte, term_count}
use Rattle.gerg_file.specs.File.{place, chain, counted, component_step, term_row, pair_row, function_step, departure_row, functions, same_at, revision, after_revision, after_components, after_terms, after_pairs, function_count, after_functions, after_departures, at_end, verdict, file_of}

-- a walk that came through: so did each of its parts
pub follow_to : (w : Walk) (f : ℕ → Walk) (p : ℕ) → and_then w f ≡ Ok p → (w ≡ Ok (place w)) × (f (place w) ≡ Ok p)
follow_to (Ok at) f p e = (refl, e)
follow_to (Err r) f p e = let z : ◌≡◌ {A = ℕ} 0 1 = cc in absurd (omega arith)

pub pick_to : (b : Bool) (at bad p : ℕ) → pick b (Ok at) (Err (File bad)) ≡ Ok p → (b ≡ true) × (p ≡ at)
pick_to true at bad p e = (refl, cc)
pick_to false at bad p e = let z : ◌≡◌ {A = ℕ} 0 1 = cc in absurd (omega arith)

-- step k of n steps of one size
module _ (step : ℕ → ℕ → Walk) (size : ℕ) (sized : (i at p : ℕ) → step i at ≡ Ok p → p ≡ at + size) where
  pub chain_step : (n i at p : ℕ) → chain step n i at ≡ Ok p → (k : ℕ) → k < n → step (i + k) (at + size * k) ≡ Ok (at + size * k + size)
  unfolding chain
  chain_step zero i at p e k h = absurd (omega arith)
  chain_step (suc n) i at p e zero h =
      let q = follow_to (step i at) (chain step n (i + 1)) p e in
      let b : i + 0 ≡ i = omega arith in
      let a : at + size * 0 ≡ at = omega (arith, mul-zero size) in
      rw (a, b) (q.0 ∙ ap Ok (sized i at (place (step i at)) q.0))
  chain_step (suc n) i at p e (suc k) h =
      let q = follow_to (step i at) (chain step n (i + 1)) p e in
      let g = sized i at (place (step i at)) q.0 in
      let b : i + suc k ≡ i + 1 + k = omega arith in
      let a : at + size * suc k ≡ at + size + size * k = omega (arith, mul-suc size k) in
      rw (a, b) (chain_step n (i + 1) (at + size) p (rw g at q.1) k (omega arith))

-- a record with counts that was passed
abbrev counted_test : List ℕ → ℕ → ℕ → ℕ → ℕ → Bool
counted_test s kind size lead at = leb (at + size) (length s) && eqb (byte s at) kind && eqb (byte s (at + 1)) lead

pub counted_size : (s : List ℕ) (kind size counts limit lead at p : ℕ) → counted s kind size counts limit lead at ≡ Ok p → p ≡ at + size
counted_size s kind size counts limit lead at p e =
    (pick_to (counted_test s kind size lead at && leb (term_count s (at + counts)) limit) (at + size) at p e).1

pub counted_limit : (s : List ℕ) (kind size counts limit lead at p : ℕ) → counted s kind size counts limit lead at ≡ Ok p
    → term_count s (at + counts) ≤ limit
counted_limit s kind size counts limit lead at p e =
    leb-true _ _
    (and_true (counted_test s kind size lead at) (leb (term_count s (at + counts)) limit)
    (pick_to (counted_test s kind size lead at && leb (term_count s (at + counts)) limit) (at + size) at p e).0).1

-- at most n functions are counted
at_most : (b : Bool) (x n : ℕ) → x ≤ n → cond b (suc x) 0 ≤ suc n
at_most true x n h = omega arith
at_most false x n h = omega arith

pub functions_limit : (s : List ℕ) (n at : ℕ) → functions s n at ≤ n
unfolding functions
functions_limit s zero at = omega arith
functions_limit s (suc n) at = at_most (eqb (byte s at) (Kinds.function).kind) (functions s n (at + (Kinds.function).size)) n (functions_limit s n (at + (Kinds.function).size))

-- the limits of the counts of a section that came through
module _ (s : List ℕ) where
  revision_size : (p : ℕ) → after_revision s ≡ Ok p → p ≡ (Kinds.revision).size
  unfolding after_revision
  revision_size p e = (pick_to (eqb (byte s 0) (Kinds.revision).kind && same_at s 1 revision) (Kinds.revision).size 0 p e).1

  -- "at most 24"
  pub components_limit : (p : ℕ) → after_components s ≡ Ok p → (i : ℕ) → i < 21
      → term_count s ((Kinds.revision).size + (Kinds.component).size * i + (Kinds.component).counts) ≤ 24
  unfolding after_components
  components_limit p e i h =
      let t = follow_to (after_revision s) (chain (component_step s) 21 1) p e in
      let q : chain (component_step s) 21 1 (Kinds.revision).size ≡ Ok p = rw (revision_size (place (after_revision s)) t.0) at t.1 in
      counted_limit s _ _ _ 24 (1 + i) ((Kinds.revision).size + (Kinds.component).size * i) _
      (chain_step (component_step s) (Kinds.component).size (counted_size s _ _ _ _) 21 1 (Kinds.revision).size _ q i h)

  -- "at most 12 each"
  pub functions_limits : (p : ℕ) → after_functions s ≡ Ok p → (m : ℕ) → m < function_count s
      → term_count s (place (after_pairs s) + (Kinds.function).size * m + (Kinds.function).counts) ≤ 12
  unfolding after_functions
  functions_limits p e m h =
      counted_limit s _ _ _ 12 (1 + m) (place (after_pairs s) + (Kinds.function).size * m) _
      (chain_step (function_step s) (Kinds.function).size (counted_size s _ _ _ _) (function_count s) 1 (place (after_pairs s)) p
      (follow_to (after_pairs s) (chain (function_step s) (function_count s) 1) p e).1 m h)

  pub count_at_most : function_count s ≤ 10
  unfolding function_count
  count_at_most = functions_limit s 10 (place (after_pairs s))

-- the layout of a well-formed file
verdict_to : (s : List ℕ) (w : Walk) (l : Layout) → verdict s w ≡ Ok l
    → (w ≡ Ok l.length) × (record { terms = place (after_components s); pairs = place (after_terms s); functions = place (after_pairs s); count = function_count s; departures = place (after_functions s); length = place w } ≡ l)
unfolding verdict
verdict_to s (Ok at) l e =
    let q : record { terms = place (after_components s); pairs = place (after_terms s); functions = place (after_pairs s); count = function_count s; departures = place (after_functions s); length = at } ≡ l = cc in
    (ap (λ (l : Layout). Ok l.length) q, q)
verdict_to s (Err r) l e = let z : ◌≡◌ {A = ℕ} 0 1 = cc in absurd (omega arith)

module _ (s : List ℕ) (l : Layout) (e : file_of s ≡ Ok l) where
  whole : (and_then (after_departures s) (at_end s) ≡ Ok l.length) × (record { terms = place (after_components s); pairs = place (after_terms s); functions = place (after_pairs s); count = function_count s; departures = place (after_functions s); length = place (and_then (after_departures s) (at_end s)) } ≡ l)
  unfolding file_of
  whole = verdict_to s (and_then (after_departures s) (at_end s)) l e

  departures_end : after_departures s ≡ Ok (place (after_departures s))
  departures_end = (follow_to (after_departures s) (at_end s) l.length whole.0).0

  -- the length is the file's
  pub length_is : l.length ≡ length s
  length_is =
      let q = (follow_to (after_departures s) (at_end s) l.length whole.0).1 in
      let p = pick_to (eqb (place (after_departures s)) (length s)) (place (after_departures s)) (place (after_departures s)) l.length q in
      p.1 ∙ eqb-true _ _ p.0

  functions_end : after_functions s ≡ Ok (place (after_functions s))
  unfolding after_departures
  functions_end = (follow_to (after_functions s) _ _ departures_end).0

  pairs_end : after_pairs s ≡ Ok (place (after_pairs s))
  unfolding after_functions
  pairs_end = (follow_to (after_pairs s) _ _ functions_end).0

  terms_end : after_terms s ≡ Ok (place (after_terms s))
  unfolding after_pairs
  terms_end = (follow_to (after_terms s) _ _ pairs_end).0

  components_end : after_components s ≡ Ok (place (after_components s))
  unfolding after_terms
  components_end = (follow_to (after_components s) _ _ terms_end).0

  revision_end : after_revision s ≡ Ok (place (after_revision s))
  unfolding after_components
  revision_end = (follow_to (after_revision s) _ _ components_end).0

  components_at : place (after_revision s) ≡ (Kinds.revision).size
  components_at = revision_size s (place (after_revision s)) revision_end

  pub terms_limit : (i : ℕ) → i < 21 → term_count s ((Kinds.revision).size + (Kinds.component).size * i + (Kinds.component).counts) ≤ 24
  terms_limit = components_limit s (place (after_components s)) components_end

  pub functions_at : place (after_pairs s) ≡ l.functions
  functions_at = ap (λ (l : Layout). l.functions) whole.1

  pub count_is : function_count s ≡ l.count
  count_is = ap (λ (l : Layout). l.count) whole.1

  -- "0 to 10 departure functions"
  pub count_limit : l.count ≤ 10
  count_limit = rw count_is at (count_at_most s)

  through : (p : ℕ) → and_then (after_pairs s) (chain (function_step s) (function_count s) 1) ≡ Ok p
      → chain (function_step s) l.count 1 l.functions ≡ Ok p
  through p g = rw (functions_at, count_is) at (follow_to (after_pairs s) (chain (function_step s) (function_count s) 1) p g).1

  pub departures_limit : (m : ℕ) → m < l.count → term_count s (l.functions + (Kinds.function).size * m + (Kinds.function).counts) ≤ 12
  departures_limit m h =
      let c = count_is in rw functions_at at (functions_limits s (place (after_functions s)) functions_end m (omega arith))

  terms_at : place (after_components s) ≡ l.terms
  terms_at = ap (λ (l : Layout). l.terms) whole.1

  pairs_at : place (after_terms s) ≡ l.pairs
  pairs_at = ap (λ (l : Layout). l.pairs) whole.1

  departures_at : place (after_functions s) ≡ l.departures
  departures_at = ap (λ (l : Layout). l.departures) whole.1

  end_at : place (after_departures s) ≡ l.length
  end_at =
      sym (pick_to (eqb (place (after_departures s)) (length s)) (place (after_departures s)) (place (after_departures s)) l.length
      (follow_to (after_departures s) (at_end s) l.length whole.0).1).1

  -- the sections, from where each begins to where the next does
  section : (w : Walk) (f : ℕ → Walk) (a b p : ℕ) → and_then w f ≡ Ok p → place w ≡ a → p ≡ b → f a ≡ Ok b
  section w f a b p g x y = ap f (sym x) ∙ (follow_to w f p g).1 ∙ ap Ok y

  pub components_walk : chain (component_step s) 21 1 (Kinds.revision).size ≡ Ok l.terms
  unfolding after_components
  components_walk = section (after_revision s) (chain (component_step s) 21 1) (Kinds.revision).size l.terms (place (after_components s)) components_end components_at terms_at

  pub terms_walk : chain (term_row s) 21 1 l.terms ≡ Ok l.pairs
  unfolding after_terms
  terms_walk = section (after_components s) (chain (term_row s) 21 1) l.terms l.pairs (place (after_terms s)) terms_end terms_at pairs_at

  pub pairs_walk : chain (pair_row s) 21 1 l.pairs ≡ Ok l.functions
  unfolding after_pairs
  pairs_walk = section (after_terms s) (chain (pair_row s) 21 1) l.pairs l.functions (place (after_pairs s)) pairs_end pairs_at functions_at

  pub functions_walk : chain (function_step s) l.count 1 l.functions ≡ Ok l.departures
  unfolding after_functions
  functions_walk = through (place (after_functions s)) functions_end ∙ ap Ok departures_at

  last : (p : ℕ) → and_then (after_functions s) (chain (departure_row s (place (after_pairs s))) (function_count s) 1) ≡ Ok p
      → chain (departure_row s l.functions) l.count 1 l.departures ≡ Ok p
  last p g = rw (departures_at, functions_at, count_is) at (follow_to (after_functions s) (chain (departure_row s (place (after_pairs s))) (function_count s) 1) p g).1

  pub departures_walk : chain (departure_row s l.functions) l.count 1 l.departures ≡ Ok l.length
  unfolding after_departures
  departures_walk = last (place (after_departures s)) departures_end ∙ ap Ok end_at
