-- The loop over a scan's roots, which a refusal leaves at once. Assumes nothing.
use mathlib.Core.List.{List, []}
use mathlib.Core.Path.{◌≡◌, refl, sym, ap, ◌∙◌}
use Prim.Native.Nat.{ℕ, ◌+◌, ◌-◌, ◌≤◌, ◌<◌}
use native.Mathlib.Omega.{arith}
use lib.Ieee.{Float}
use lib.ListN.{length, get_or}
use Rattle.std.specs.Prelude.{Ok, Err}
use Rattle.std.proofs.lemmas.Result.{IfOk-at_ok}
use Rattle.numerics.specs.Iterate.{iter, iter_begins, iter_turn, iter_done}
use Rattle.gerg_refusals.specs.Answer.{and_then}
use Rattle.gerg_refusals.specs.declared.Refusal.{Refusal}
use Rattle.gerg_scan_steps.specs.Left.{left_by}
use Rattle.gerg_scan_steps.specs.declared.Scanned.{Scanned}
use Rattle.gerg_scan_steps.proofs.Laws.Answers.{iter_rests, left_turn, left_stops, left_done}
use Rattle.gerg_root_list.specs.RootList as is
use Rattle.gerg_root_list.specs.Left.{left_of}
use Rattle.gerg_root_list.specs.declared.Root.{Root}
use Rattle.gerg_root_list.proofs.Laws.KeptFew.{keep_more}

-- what is kept of the first i
module _ (root : Float → is.Outcome) (target : Float) (s : Scanned) where
  abbrev pub kept : ℕ → is.Kept
  kept i = iter (λ j k. and_then k (is.keep_step root target s.scan.first_negative s.scan.last_negative (get_or s.roots.items j is.no_point))) i (Ok [])

  pub kept_first : (k : List Root) → k ≡ [] → Ok k ≡ kept 0
  kept_first k e = ap Ok e ∙ iter_begins _ _

  pub kept_more : (i : ℕ) (k : List Root) (t : is.Kept) → Ok k ≡ kept i → t ≡ is.keep_step root target s.scan.first_negative s.scan.last_negative (get_or s.roots.items i is.no_point) k → t ≡ kept (i + 1)
  kept_more i k t e n = iter_turn _ i _ e n

  pub kept_few : (i : ℕ) (k r : List Root) → Ok r ≡ is.keep_step root target s.scan.first_negative s.scan.last_negative (get_or s.roots.items i is.no_point) k → length r ≤ length k + 1
  kept_few i k r e = IfOk-at_ok (λ q. length q ≤ length k + 1) (sym e) (keep_more root target s.scan.first_negative s.scan.last_negative (get_or s.roots.items i is.no_point) k)

  pub kept_refused : (i : ℕ) (r : Refusal) → i ≤ length s.roots.items → Err r ≡ kept i → Err r ≡ is.kept_of root target s
  unfolding is.kept_of
  kept_refused i r l e = iter_rests _ i (length s.roots.items) _ l (λ j. refl) e

  pub kept_all : (i : ℕ) (k : is.Kept) → k ≡ kept i → i ≡ length s.roots.items → k ≡ is.kept_of root target s
  unfolding is.kept_of
  kept_all i k e n = iter_done _ i (length s.roots.items) _ e n

  -- what all roots leave, from what is kept of the first i
  abbrev pub leaving : ℕ → List Root → Type 0
  leaving i k =
      left_of root target s ≡ left_by (λ j. is.keep_step root target s.scan.first_negative s.scan.last_negative (get_or s.roots.items j is.no_point)) (λ j k. k) i (length s.roots.items - i) k

  pub left_first : (k : List Root) → k ≡ [] → leaving 0 k
  unfolding left_of
  left_first k e =
      let all : length s.roots.items - 0 ≡ length s.roots.items = omega arith in
      rw (e, all)

  pub left_more : (i : ℕ) (k r : List Root) → i < length s.roots.items → leaving i k → Ok r ≡ is.keep_step root target s.scan.first_negative s.scan.last_negative (get_or s.roots.items i is.no_point) k → leaving (i + 1) r
  left_more i k r l e n = left_turn _ _ i _ (length s.roots.items - (i + 1)) k r (omega (arith, l)) e n

  pub left_refused : (i : ℕ) (k : List Root) (r : Refusal) → i < length s.roots.items → leaving i k → Err r ≡ is.keep_step root target s.scan.first_negative s.scan.last_negative (get_or s.roots.items i is.no_point) k → k ≡ left_of root target s
  left_refused i k r l e n = left_stops _ _ i _ (length s.roots.items - (i + 1)) k r (omega (arith, l)) e n

  pub left_all : (i : ℕ) (k : List Root) → leaving i k → i ≡ length s.roots.items → k ≡ left_of root target s
  left_all i k e n =
      let none : length s.roots.items - i ≡ 0 = omega (arith, n) in
      left_done _ _ i _ k none e
