-- Row 1's offset is at most 28,377, and a file that is longer is refused by its first 28,378 bytes alone.
use mathlib.Core.Path.{◌≡◌, refl, sym, ap, ◌∙◌}
use mathlib.Core.List.{List, [], ◌∷◌}
use Prim.Native.Nat.{ℕ, zero, suc, ◌+◌, ◌-◌, ◌*◌, ◌≤◌, ◌<◌}
use native.Mathlib.Nat.{mul-le-mul_left}
use native.Mathlib.Omega.{arith}
use borrow.Author.Tests.{le-leb, ne_eqb}
use lib.Dec.{leb}
use lib.ListN.{length, take}
use lib.Seq.{get_or-take, length-take-le}
use Rattle.gerg_refusals.specs.Answer.{and_then}
use Rattle.gerg_file.specs.File.{Walk}
use Rattle.std.specs.Prelude.{Ok, Err}
use Rattle.gerg_refusals.specs.declared.Refusal.{Refusal}
use Rattle.gerg_refusals.specs.declared.Refusal.TheVariants.{File}
use Rattle.gerg_file.proofs.Filed.{Filed, departures_filed, end_filed}
use Rattle.gerg_refusals.specs.Refusal.{value_of}
use Rattle.gerg_file.specs.Kinds as Kinds
use Rattle.gerg_file.specs.Bytes.{byte, term_count}
use Rattle.gerg_file.specs.File.{place, chain, counted, numbered, group, component_step, term_row, pair_row, function_step, departure_row, same_at, revision, functions, after_revision, after_components, after_terms, after_pairs, function_count, after_functions, after_departures, at_end, verdict, file_of}
use Rattle.gerg_file.proofs.WellFormed.{count_at_most}
use Rattle.gerg_file.proofs.Reach.{room, room_of, room_of_pairs, numbered_place, terms_limited, departures_limited, component_place, term_place, pair_place, function_place, departure_place, revision_place, components_place, terms_place, pairs_place, functions_place, departures_place, end_place}

-- ---- the offset
verdict_bad : (s : List ℕ) (w : Walk) (r : Refusal) → verdict s w ≡ Err r → w ≡ Err r
unfolding verdict
verdict_bad s (Err b) r e = cc
verdict_bad s (Ok p) r e = absurd (let z : ◌≡◌ {A = ℕ} 0 1 = cc in omega arith)

pub malformed_is : (s : List ℕ) (r : Refusal) → file_of s ≡ Err r → r ≡ File (value_of r)
unfolding file_of
malformed_is s r e = end_filed s r (verdict_bad s (and_then (after_departures s) (at_end s)) r e)

-- "offset of that record, or of the first byte over"
pub malformed_at_most : (s : List ℕ) (at : ℕ) → file_of s ≡ Err (File at) → at ≤ 28377
unfolding file_of
malformed_at_most s at e =
    let q : place (and_then (after_departures s) (at_end s)) ≡ at = ap place (verdict_bad s (and_then (after_departures s) (at_end s)) (File at) e) in
    let r = end_place s in
    omega arith

-- ---- walks over two files that agree where the walks look
step_same : (w : Walk) (f f' : ℕ → Walk) → ((p : ℕ) → w ≡ Ok p → f p ≡ f' p) → and_then w f ≡ and_then w f'
step_same (Ok p) f f' g = g p refl
step_same (Err r) f f' g = refl

follow_same : (w w' : Walk) (f f' : ℕ → Walk) → w ≡ w' → ((p : ℕ) → w ≡ Ok p → f p ≡ f' p) → and_then w f ≡ and_then w' f'
follow_same w w' f f' e g = step_same w f f' g ∙ ap (λ (w : Walk). and_then w f') e

reached : (w : Walk) (p a : ℕ) → w ≡ Ok p → place w ≤ a → p ≤ a
reached w p a e h = let q : place w ≡ p = ap place e in omega arith

module _ (step step' : ℕ → ℕ → Walk) (size : ℕ → ℕ) (last n : ℕ)
    (bound : (i at : ℕ) → 0 < i → i ≤ last → place (step i at) ≤ at + size i)
    (each : (i at : ℕ) → 0 < i → i ≤ last → at + size i ≤ n → step i at ≡ step' i at)
  where
    chain_same : (k i at : ℕ) → 0 < i → i + k ≤ suc last → at + room size k i ≤ n → chain step k i at ≡ chain step' k i at
    unfolding chain room
    chain_same zero i at l h f = refl
    chain_same (suc k) i at l h f =
        follow_same (step i at) (step' i at) (chain step k (i + 1)) (chain step' k (i + 1)) (each i at l (omega arith) (omega arith))
        (λ p e.
        let q = reached (step i at) p (at + size i) e (bound i at l (omega arith)) in
        chain_same k (i + 1) p (omega arith) (omega arith) (omega arith))

equal_same : (step step' : ℕ → ℕ → Walk) (c last n : ℕ) → ((i at : ℕ) → 0 < i → i ≤ last → place (step i at) ≤ at + c)
    → ((i at : ℕ) → 0 < i → i ≤ last → at + c ≤ n → step i at ≡ step' i at)
    → (k i at : ℕ) → 0 < i → i + k ≤ suc last → at + c * k ≤ n → chain step k i at ≡ chain step' k i at
equal_same step step' c last n bound each k i at l h f =
    let q = room_of c k i in chain_same step step' (λ h. c) last n bound each k i at l h (omega arith)

-- the walk of a file that is too long ends with a refusal
over : (w : Walk) (s : List ℕ) → Filed w → place w < length s → and_then w (at_end s) ≡ Err (File (place w))
over (Ok p) s f h = let e = ne_eqb p (length s) (λ q. omega arith) in rw e
over (Err r) s f h = ap Err (f r refl)

overlong : (s : List ℕ) → 28378 ≤ length s → file_of s ≡ Err (File (place (after_departures s)))
unfolding file_of verdict
overlong s h =
    let r = departures_place s in
    ap (verdict s) (over (after_departures s) s (departures_filed s) (omega arith))

module _ (s t : List ℕ) (same : (i : ℕ) → i < 28378 → byte s i ≡ byte t i) (ls : 28378 ≤ length s) (lt : 28378 ≤ length t) where
  counts_same : (at : ℕ) → at + 2 ≤ 28378 → term_count s at ≡ term_count t at
  counts_same at h = let a = same at (omega arith) in let b = same (at + 1) (omega arith) in omega arith

  holds_same : (n : ℕ) → n ≤ 28378 → leb n (length s) ≡ leb n (length t)
  holds_same n h = le-leb n (length s) (omega arith) ∙ sym (le-leb n (length t) (omega arith))

  counted_same : (kind size counts limit lead at : ℕ) → counts + 2 ≤ size → at + size ≤ 28378
      → counted s kind size counts limit lead at ≡ counted t kind size counts limit lead at
  counted_same kind size counts limit lead at h f =
      let l = holds_same (at + size) f in
      let a = same at (omega arith) in
      let b = same (at + 1) (omega arith) in
      let c = counts_same (at + counts) (omega arith) in
      cc

  numbered_same : (kind size lead number at : ℕ) → 3 ≤ size → at + size ≤ 28378 → numbered s kind size lead number at ≡ numbered t kind size lead number at
  numbered_same kind size lead number at h f =
      let l = holds_same (at + size) f in
      let a = same at (omega arith) in
      let b = same (at + 1) (omega arith) in
      let c = same (at + 2) (omega arith) in
      cc

  run_same : (kind size lead n first at : ℕ) → 3 ≤ size → 0 < first → at + size * n ≤ 28378
      → chain (numbered s kind size lead) n first at ≡ chain (numbered t kind size lead) n first at
  run_same kind size lead n first at h l f =
      equal_same (numbered s kind size lead) (numbered t kind size lead) size (first + n) 28378
      (λ i at l g. numbered_place s kind size lead i at) (λ i at l g f. numbered_same kind size lead i at h f) n first at l (omega arith) f

  group_same : (kind size base counts stride limit i at : ℕ) → 3 ≤ size → base + (counts + stride * (i - 1)) + 2 ≤ 28378
      → term_count s (base + (counts + stride * (i - 1))) ≤ limit → at + size * limit ≤ 28378
      → group s kind size base counts stride i at ≡ group t kind size base counts stride i at
  group_same kind size base counts stride limit i at h g m f =
      let n = term_count s (base + (counts + stride * (i - 1))) in
      run_same kind size i n 1 at h (omega arith) (omega (arith, mul-le-mul_left size m))
      ∙ ap (λ (k : ℕ). chain (numbered t kind size i) k 1 at) (counts_same (base + (counts + stride * (i - 1))) g)

  bytes_same : (bs : List ℕ) (at : ℕ) → at + length bs ≤ 28378 → same_at s at bs ≡ same_at t at bs
  unfolding same_at
  bytes_same [] at h = refl
  bytes_same (b ∷ bs) at h = let a = same at (omega arith) in let r = bytes_same bs (at + 1) (omega arith) in cc

  functions_same : (k at : ℕ) → at + (Kinds.function).size * k ≤ 28378 → functions s k at ≡ functions t k at
  unfolding functions
  functions_same zero at h = refl
  functions_same (suc k) at h = let a = same at (omega arith) in let r = functions_same k (at + (Kinds.function).size) (omega arith) in cc

  -- section by section
  revision_same : after_revision s ≡ after_revision t
  unfolding after_revision
  revision_same = let n : length revision ≡ 40 = refl in let a = same 0 (omega arith) in let r = bytes_same revision 1 (omega arith) in cc

  components_same : after_components s ≡ after_components t
  unfolding after_components
  components_same =
      follow_same (after_revision s) (after_revision t) (chain (component_step s) 21 1) (chain (component_step t) 21 1) revision_same
      (λ p e.
      let q = reached (after_revision s) p _ e (revision_place s) in
      equal_same (component_step s) (component_step t) (Kinds.component).size 21 28378 (λ i at l h. component_place s i at)
      (λ i at l h f. counted_same _ _ _ _ i at (omega arith) f) 21 1 p (omega arith) (omega arith) (omega arith))

  terms_same : after_terms s ≡ after_terms t
  unfolding after_terms
  terms_same =
      follow_same (after_components s) (after_components t) (chain (term_row s) 21 1) (chain (term_row t) 21 1) components_same
      (λ p e.
      let q = reached (after_components s) p _ e (components_place s) in
      equal_same (term_row s) (term_row t) ((Kinds.term).size * 24) 21 28378 (term_place s p e)
      (λ i at l h f. group_same _ _ _ _ _ 24 i at (omega arith) (omega arith) (terms_limited s p e (i - 1) (omega arith)) f)
      21 1 p (omega arith) (omega arith) (omega arith))

  pairs_same : after_pairs s ≡ after_pairs t
  unfolding after_pairs
  pairs_same =
      follow_same (after_terms s) (after_terms t) (chain (pair_row s) 21 1) (chain (pair_row t) 21 1) terms_same
      (λ p e.
      let q = reached (after_terms s) p _ e (terms_place s) in
      let r = room_of_pairs in
      chain_same (pair_row s) (pair_row t) (λ i. (Kinds.pair).size * (22 - i)) 21 28378 (λ i at l h. pair_place s i at l)
      (λ i at l h f. run_same _ _ i (22 - i) i at (omega arith) l f) 21 1 p (omega arith) (omega arith) (omega arith))

  count_same : function_count s ≡ function_count t
  unfolding function_count
  count_same =
      let r = pairs_place s in
      functions_same 10 (place (after_pairs s)) (omega arith) ∙ ap (λ (w : Walk). functions t 10 (place w)) pairs_same

  after_functions_same : after_functions s ≡ after_functions t
  unfolding after_functions
  after_functions_same =
      follow_same (after_pairs s) (after_pairs t) (chain (function_step s) (function_count s) 1) (chain (function_step t) (function_count t) 1) pairs_same
      (λ p e.
      let q = reached (after_pairs s) p _ e (pairs_place s) in
      let c = count_at_most s in
      equal_same (function_step s) (function_step t) (Kinds.function).size (function_count s) 28378 (λ i at l h. function_place s i at)
      (λ i at l h f. counted_same _ _ _ _ i at (omega arith) f) (function_count s) 1 p (omega arith) (omega arith) (omega arith)
      ∙ ap (λ (k : ℕ). chain (function_step t) k 1 p) count_same)

  departures_same : after_departures s ≡ after_departures t
  unfolding after_departures
  departures_same =
      follow_same (after_functions s) (after_functions t) (chain (departure_row s (place (after_pairs s))) (function_count s) 1)
      (chain (departure_row t (place (after_pairs t))) (function_count t) 1) after_functions_same
      (λ p e.
      let q = reached (after_functions s) p _ e (functions_place s) in
      let b = pairs_place s in
      let c = count_at_most s in
      equal_same (departure_row s (place (after_pairs s))) (departure_row t (place (after_pairs s))) ((Kinds.departure).size * 12) (function_count s) 28378
      (departure_place s p e)
      (λ i at l h f. group_same _ _ _ _ _ 12 i at (omega arith) (omega arith) (departures_limited s p e (i - 1) (omega arith)) f)
      (function_count s) 1 p (omega arith) (omega arith) (omega arith)
      ∙ ap (λ (w : Walk). chain (departure_row t (place w)) (function_count s) 1 p) pairs_same
      ∙ ap (λ (k : ℕ). chain (departure_row t (place (after_pairs t))) k 1 p) count_same)

-- a file of more bytes, and its first 28,378: refused at one offset
pub record Overlong (s : List ℕ) : Type 0 where
  pub at : ℕ
  pub whole : file_of s ≡ Err (File at)
  pub cut : file_of (take 28378 s) ≡ Err (File at)

pub cut_file : (s : List ℕ) → 28378 ≤ length s → Overlong s
cut_file s h =
    let n = length-take-le 28378 s h in
    let e = departures_same s (take 28378 s) (λ i l. sym (get_or-take 28378 s i 0 l)) h (omega arith) in
    record {
      at = place (after_departures s);
      whole = overlong s h;
      cut = overlong (take 28378 s) (omega arith) ∙ ap (λ (w : Walk). Err (File (place w))) (sym e);
    }
