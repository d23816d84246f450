-- The loops over the halvings of a crossing and over the points of a grid, which a refusal leaves at once. Assumes nothing.
use mathlib.Core.Bool.{true, false}
use mathlib.Core.List.{List}
use mathlib.Core.Path.{◌≡◌, refl, sym, ap, ◌∙◌}
use Prim.Native.Nat.{ℕ, ◌+◌, ◌-◌, ◌≤◌, ◌<◌}
use native.Mathlib.Nat.{le_refl}
use native.Mathlib.Omega.{arith}
use lib.Ieee.{Float, nan}
use lib.ListN.{length, get_or, take, drop}
use Rattle.std.specs.Prelude.{Result, Ok, Err}
use Rattle.std.proofs.lemmas.List.Edits.{length-between, get_or-between}
use Rattle.numerics.specs.Iterate.{iter, range, iter_begins, iter_turn, iter_done, range_begins, range_turn, range_done}
use Rattle.gerg_refusals.specs.Answer.{and_then}
use Rattle.gerg_refusals.specs.declared.Refusal.{Refusal}
use Rattle.interval.specs.Interval.{middle_of}
use Rattle.gerg_scan_steps.specs.Halving.{tried_of, halved_of, unhalved, crossing_of}
use Rattle.gerg_scan_steps.specs.Sample.{Sample}
use Rattle.gerg_scan_steps.specs.Answers.{mapped}
use Rattle.gerg_scan_steps.specs.Left.{left_by, before, step_left, scan_left}
use Rattle.gerg_scan_steps.specs.Scan.{begun_at, rootless, scan_step, scan_of}
use Rattle.gerg_scan_steps.specs.declared.Halving.{Halving}
use Rattle.gerg_scan_steps.specs.declared.Scan.{Scan}
use Rattle.gerg_scan_steps.specs.declared.Scanned.{Scanned}
use Rattle.gerg_scan_steps.proofs.Laws.Answers.{iter_rests, range_rests, left_turn, left_stops, left_done}

-- ---- a crossing: so far after k halvings
module _ (v : Float → Sample) (tolerance lo hi : Float) where
  abbrev pub halved : ℕ → Result Halving Refusal
  halved k = iter (λ j h. and_then h (halved_of v tolerance)) k (Ok (unhalved lo hi))

  pub halved_first : Ok (unhalved lo hi) ≡ halved 0
  halved_first = iter_begins _ _

  pub halved_more : (k : ℕ) (h : Halving) (t : Result Halving Refusal) → Ok h ≡ halved k → h.stopped ≡ false → t ≡ tried_of tolerance h (middle_of h.ends) (v (middle_of h.ends)) → t ≡ halved (k + 1)
  unfolding halved_of
  halved_more k h t e s i = iter_turn _ k _ e (i ∙ rw s)

  pub halved_ended : (k : ℕ) (h : Halving) → Ok h ≡ halved k → k ≤ 100 → h.stopped ≡ true → Ok h ≡ crossing_of v tolerance lo hi
  unfolding crossing_of halved_of
  halved_ended k h e l s = iter_rests _ k 100 _ l (λ j. rw s) e

  pub halved_refused : (k : ℕ) (r : Refusal) → Err r ≡ halved k → k ≤ 100 → Err r ≡ crossing_of v tolerance lo hi
  unfolding crossing_of
  halved_refused k r e l = iter_rests _ k 100 _ l (λ j. refl) e

  pub halved_all : (k : ℕ) (h : Halving) → Ok h ≡ halved k → k ≡ 100 → Ok h ≡ crossing_of v tolerance lo hi
  unfolding crossing_of
  halved_all k h e i = iter_done _ k 100 _ e i

-- ---- the points behind the first
module _ (grid : List Float) where
  abbrev pub rest : List Float
  rest = take (length grid - 1) (drop 1 grid)

  pub rest_length : 0 < length grid → length rest + 1 ≡ length grid
  rest_length h = omega (arith, length-between grid 1 (length grid) (le_refl (length grid)))

  pub at_rest : (k : ℕ) → k < length rest → get_or rest k nan ≡ get_or grid (k + 1) nan
  at_rest k l =
      let n : length rest ≡ length grid - 1 = length-between grid 1 (length grid) (le_refl (length grid)) in
      let next : 1 + k ≡ k + 1 = omega arith in
      get_or-between grid 1 (length grid) k nan (omega (arith, n, l)) ∙ ap (λ (j : ℕ). get_or grid j nan) next

-- ---- a scan: so far at the first i points
module _ (v : Float → Sample) (target : Float) (grid : List Float) where
  abbrev pub scanned : ℕ → Result Scanned Refusal
  scanned i = range (λ j s. and_then s (scan_step v target (get_or grid j nan))) 1 i (mapped rootless (begun_at (get_or grid 0 nan) (v (get_or grid 0 nan))))

  pub scanned_first : (s : Result Scanned Refusal) → s ≡ mapped rootless (begun_at (get_or grid 0 nan) (v (get_or grid 0 nan))) → s ≡ scanned 1
  scanned_first s e = e ∙ range_begins _ 1 _

  pub scanned_more : (k : ℕ) (s : Scanned) (t : Result Scanned Refusal) → k < length (rest grid) → Ok s ≡ scanned (k + 1) → t ≡ scan_step v target (get_or (rest grid) k nan) s → t ≡ scanned (k + 1 + 1)
  scanned_more k s t l e i = range_turn _ 1 (k + 1) _ (omega arith) e (i ∙ rw (at_rest grid k l))

  pub scanned_refused : (i : ℕ) (r : Refusal) → i ≤ length grid → Err r ≡ scanned i → Err r ≡ scan_of v target grid
  unfolding scan_of
  scanned_refused i r l e = range_rests _ 1 i (length grid) _ l (λ j. refl) e

  pub scanned_all : (i : ℕ) (s : Result Scanned Refusal) → s ≡ scanned i → i ≡ length grid → s ≡ scan_of v target grid
  unfolding scan_of
  scanned_all i s e k = range_done _ 1 i (length grid) _ e k

  -- what the whole scan leaves, from what it has made of the first i points
  abbrev pub leaving : ℕ → Scanned → Type 0
  leaving i s = scan_left v target grid ≡ left_by (λ j. scan_step v target (get_or grid j nan)) (λ j. step_left v target (get_or grid j nan)) i (length grid - i) s

  pub left_first : (s : Scan) → Ok s ≡ begun_at (get_or grid 0 nan) (v (get_or grid 0 nan)) → leaving 1 (rootless s)
  unfolding scan_left
  left_first s e = rw (sym e)

  pub left_unbegun : (r : Refusal) → Err r ≡ begun_at (get_or grid 0 nan) (v (get_or grid 0 nan)) → rootless (before (get_or grid 0 nan)) ≡ scan_left v target grid
  unfolding scan_left
  left_unbegun r e = rw (sym e)

  pub left_more : (k : ℕ) (s t : Scanned) → k < length (rest grid) → leaving (k + 1) s → Ok t ≡ scan_step v target (get_or (rest grid) k nan) s → leaving (k + 1 + 1) t
  left_more k s t l e i =
      let n : length (rest grid) ≡ length grid - 1 = length-between grid 1 (length grid) (le_refl (length grid)) in
      left_turn _ _ (k + 1) _ (length grid - (k + 1 + 1)) s t (omega (arith, n, l)) e (i ∙ rw (at_rest grid k l))

  pub left_refused : (k : ℕ) (s : Scanned) (r : Refusal) → k < length (rest grid) → leaving (k + 1) s → Err r ≡ scan_step v target (get_or (rest grid) k nan) s → step_left v target (get_or (rest grid) k nan) s ≡ scan_left v target grid
  left_refused k s r l e i =
      let n : length (rest grid) ≡ length grid - 1 = length-between grid 1 (length grid) (le_refl (length grid)) in
      rw (at_rest grid k l) (left_stops _ _ (k + 1) _ (length grid - (k + 1 + 1)) s r (omega (arith, n, l)) e (i ∙ rw (at_rest grid k l)))

  pub left_all : (i : ℕ) (s : Scanned) → leaving i s → i ≡ length grid → s ≡ scan_left v target grid
  left_all i s e n =
      let none : length grid - i ≡ 0 = omega (arith, n) in
      left_done _ _ i _ s none e
