-- At most as many roots are kept as a scan found. Assumes nothing.
use mathlib.Core.Bool.{Bool, true, false, ◌&&◌}
use mathlib.Core.List.{List, []}
use Prim.Native.Nat.{ℕ, ◌+◌, ◌≤◌, zero-le}
use native.Mathlib.Nat.{le_trans}
use native.Mathlib.Omega.{arith}
use lib.Ieee.{Float, lt}
use lib.ListN.{length, get_or}
use Rattle.std.specs.Prelude.{Result, Ok, Err, IfOk}
use Rattle.std.proofs.lemmas.Result.{IfOk-weaker}
use Rattle.numerics.specs.Double.{pick}
use Rattle.numerics.specs.Growing.{one_more, none_more}
use Rattle.gerg_refusals.specs.declared.Refusal.{Refusal}
use Rattle.gerg_refusals.specs.declared.Refusal.TheVariants as refusal
use Rattle.gerg_scan_steps.proofs.Laws.Answers.{steps_keep, left_keeps, match_ok}
use Rattle.gerg_scan_steps.specs.declared.Point.{Point}
use Rattle.gerg_scan_steps.specs.declared.Scanned.{Scanned}
use Rattle.gerg_root_list.specs.RootList.{Outcome, joined_by, limit_of, keep_step, no_point, kept_of, found_of}
use Rattle.gerg_root_list.specs.Left.{left_of, found_left}
use Rattle.gerg_root_list.specs.declared.Root.{Root}

module _ (root : Float → Outcome) (target : Float) where
  joined_more : (o : Outcome) (k : List Root) → IfOk (joined_by o k) (λ r. length r ≤ length k + 1)
  unfolding joined_by
  joined_more (Ok g) k = one_more k g
  joined_more (Err r) k = tt

  -- a step keeps one root at most
  pub keep_more : (first last : Float) (p : Point) (k : List Root) → IfOk (keep_step root target first last p k) (λ r. length r ≤ length k + 1)
  unfolding keep_step
  keep_more first last p k = go (lt first p.density && lt p.density last) (lt (limit_of target) p.residual)
    where
      go : (a b : Bool) → IfOk (pick a (Ok k) (pick b (Err refusal.RootNotConverged) (joined_by (root p.density) k))) (λ r. length r ≤ length k + 1)
      go true b = none_more (length k)
      go false true = tt
      go false false = joined_more (root p.density) k

  pub kept_few : (s : Scanned) → IfOk (kept_of root target s) (λ k. length k ≤ length s.roots.items)
  unfolding kept_of
  kept_few s =
      steps_keep (λ i k. length k ≤ i) (λ r. Unit {0}) (λ i. keep_step root target s.scan.first_negative s.scan.last_negative (get_or s.roots.items i no_point)) (length s.roots.items) (Ok []) (omega arith)
      (λ i k l h. IfOk-weaker (keep_step root target s.scan.first_negative s.scan.last_negative (get_or s.roots.items i no_point) k) _ _ (λ r g. omega arith) (keep_more s.scan.first_negative s.scan.last_negative (get_or s.roots.items i no_point) k))

  pub found_few : (n : ℕ) (s : Result Scanned Refusal) → IfOk s (λ t. length t.roots.items ≤ n) → IfOk (found_of root target s) (λ k. length k ≤ n)
  unfolding found_of
  found_few n (Ok s) h = IfOk-weaker (kept_of root target s) _ _ (λ r g. le_trans g h) (kept_few s)
  found_few n (Err r) h = tt

  -- ---- and so many are left where one is refused
  left_few : (s : Scanned) → length (left_of root target s) ≤ length s.roots.items
  unfolding left_of
  left_few s =
      left_keeps (λ i. keep_step root target s.scan.first_negative s.scan.last_negative (get_or s.roots.items i no_point)) (λ i k. k) (λ i k. length k ≤ i) (λ k. length k ≤ length s.roots.items) (length s.roots.items) 0 [] (omega arith)
      (λ i k l h. omega (arith, l, h))
      (λ i k l h.
      match_ok _ (keep_step root target s.scan.first_negative s.scan.last_negative (get_or s.roots.items i no_point) k)
      (IfOk-weaker (keep_step root target s.scan.first_negative s.scan.last_negative (get_or s.roots.items i no_point) k) _ _ (λ r g. omega (arith, h, g)) (keep_more s.scan.first_negative s.scan.last_negative (get_or s.roots.items i no_point) k))
      (omega (arith, l, h)))

  pub found_left_few : (n : ℕ) (s : Result Scanned Refusal) → IfOk s (λ t. length t.roots.items ≤ n) → length (found_left root target s) ≤ n
  found_left_few n (Ok s) h = le_trans (left_few s) h
  found_left_few n (Err r) h = zero-le
