-- The roots that are kept of a rising list rise, whatever each gives. Assumes nothing.
use mathlib.Core.Path.{◌≡◌, refl, sym, ap, ◌∙◌}
use mathlib.Core.Bool.{Bool, true, false, ◌&&◌}
use mathlib.Core.List.{List, [], ◌∷◌, ◌++◌}
use Prim.Native.Nat.{ℕ, zero, suc, ◌≤◌, ◌<◌}
use native.Mathlib.Nat.{le_refl}
use native.Mathlib.Omega.{arith}
use lib.Ieee.{Float, nan, lt}
use lib.ListN.{length, get_or}
use Rattle.std.proofs.lemmas.Result.{IfOk-weaker}
use Rattle.std.specs.Prelude.{Result, Ok, Err, IfOk}
use Rattle.numerics.specs.Double.{pick}
use Rattle.numerics.specs.Spacing.{count}
use Rattle.gerg_refusals.specs.declared.Refusal.{Refusal}
use Rattle.gerg_refusals.specs.declared.Refusal.TheVariants as refusal
use Rattle.gerg_grid.proofs.Laws.Rising.{Rising, rising_none, rising_more, last, last_more}
use Rattle.gerg_scan_steps.specs.Scan.{densities}
use Rattle.gerg_scan_steps.specs.declared.Point.{Point}
use Rattle.gerg_scan_steps.specs.declared.Scanned.{Scanned}
use Rattle.gerg_scan_steps.proofs.Laws.Answers.{steps_keep, left_keeps, match_ok}
use Rattle.gerg_root_list.specs.RootList.{Outcome, joined_by, limit_of, keep_step, no_point, kept_of, found_of}
use Rattle.gerg_root_list.specs.Left.{left_of, found_left}
use Rattle.gerg_root_list.specs.declared.Root.{Root}
use Rattle.gerg_root_list.proofs.Laws.RootList.{root_list}

-- what a root gives has its density first
abbrev pub Headed : (Float → Outcome) → Type 0
Headed give = (x : Float) (root : Root) → give x ≡ Ok root → get_or root.head 0 nan ≡ x

-- the list of one root more
list_more : (l : List Root) (root : Root) → root_list (l ++ (root ∷ [])) ≡ root_list l ++ (get_or root.head 0 nan ∷ [])
unfolding root_list
list_more [] root = refl
list_more (x ∷ l) root = ap (λ (z : List Float). get_or x.head 0 nan ∷ z) (list_more l root)

-- the density of a point
density_is : (ps : List Point) (i : ℕ) → (get_or ps i no_point).density ≡ get_or (densities ps) i nan
density_is [] i = refl
density_is (p ∷ ps) zero = refl
density_is (p ∷ ps) (suc i) = density_is ps i

length_is : (ps : List Point) → length (densities ps) ≡ length ps
length_is [] = refl
length_is (p ∷ ps) = ap suc (length_is ps)

module _ (give : Float → Outcome) (headed : Headed give) (target first final : Float) (ds : List Float) (r : Rising ds) where
  -- i roots are looked at: those kept rise, and all roots to come are above them
  record Above (i : ℕ) (k : List Root) : Type 0 where
    rises : Rising (root_list k)
    under : (j : ℕ) → i ≤ j → j < length ds → 0 < length (root_list k) → count (last (root_list k)) < count (get_or ds j nan)

  passed : (i : ℕ) (k : List Root) → Above i k → Above (suc i) k
  passed i k a = record { rises = a.rises; under = λ j h l p. a.under j (omega arith) l p }

  joined : (i : ℕ) (k : List Root) (o : Outcome) → i < length ds → give (get_or ds i nan) ≡ o → Above i k → IfOk (joined_by o k) (Above (suc i))
  unfolding joined_by
  joined i k (Err n) h e a = tt
  joined i k (Ok g) h e a =
      let d = headed (get_or ds i nan) g e in
      let l : root_list (k ++ (g ∷ [])) ≡ root_list k ++ (get_or ds i nan ∷ []) = list_more k g ∙ ap (λ (z : Float). root_list k ++ (z ∷ [])) d in
      record {
        rises = rw l (rising_more (root_list k) (get_or ds i nan) a.rises (r.each i h) (λ p. a.under i (le_refl i) h p));
        under = λ j m n p. rw l (rw (last_more (root_list k) (get_or ds i nan)) (r.order i j m n));
      }

  stepped : (i : ℕ) (p : Point) (k : List Root) → i < length ds → p.density ≡ get_or ds i nan → Above i k → IfOk (keep_step give target first final p k) (Above (suc i))
  unfolding keep_step
  stepped i p k h e a = go (lt first p.density && lt p.density final) (lt (limit_of target) p.residual)
    where
      go : (q s : Bool) → IfOk (pick q (Ok k) (pick s (Err refusal.RootNotConverged) (joined_by (give p.density) k))) (Above (suc i))
      go true s = passed i k a
      go false true = tt
      go false false = joined i k (give p.density) h (ap give (sym e)) a

  empty : Above 0 []
  unfolding root_list
  empty = record { rises = rising_none; under = λ j h l p. absurd (none p) }
    where
      none : 0 < 0 → ⊥
      none p = omega arith

kept_rises : (give : Float → Outcome) → Headed give → (target : Float) (s : Scanned) → Rising (densities s.roots.items) → IfOk (kept_of give target s) (λ k. Rising (root_list k))
unfolding kept_of
kept_rises give headed target s r =
    IfOk-weaker (kept_of give target s) (Above give headed target s.scan.first_negative s.scan.last_negative (densities s.roots.items) r (length s.roots.items)) _ (λ k a. a.rises)
    (steps_keep (Above give headed target s.scan.first_negative s.scan.last_negative (densities s.roots.items) r) (λ r. Unit {0}) (λ i. keep_step give target s.scan.first_negative s.scan.last_negative (get_or s.roots.items i no_point)) (length s.roots.items) (Ok [])
    (empty give headed target s.scan.first_negative s.scan.last_negative (densities s.roots.items) r)
    (λ i k l a. stepped give headed target s.scan.first_negative s.scan.last_negative (densities s.roots.items) r i (get_or s.roots.items i no_point) k (rw (length_is s.roots.items) l) (density_is s.roots.items i) a))

pub found_rises : (give : Float → Outcome) → Headed give → (target : Float) (s : Result Scanned Refusal) → IfOk s (λ t. Rising (densities t.roots.items)) → IfOk (found_of give target s) (λ k. Rising (root_list k))
unfolding found_of
found_rises give g target (Ok s) r = kept_rises give g target s r
found_rises give g target (Err n) r = tt

-- ---- and those that are left where one is refused
left_rises : (give : Float → Outcome) → Headed give → (target : Float) (s : Scanned) → Rising (densities s.roots.items) → Rising (root_list (left_of give target s))
unfolding left_of
left_rises give headed target s r =
    left_keeps (λ i. keep_step give target s.scan.first_negative s.scan.last_negative (get_or s.roots.items i no_point)) (λ i k. k)
    (Above give headed target s.scan.first_negative s.scan.last_negative (densities s.roots.items) r) (λ k. Rising (root_list k)) (length s.roots.items) 0 []
    (empty give headed target s.scan.first_negative s.scan.last_negative (densities s.roots.items) r) (λ i k l a. a.rises)
    (λ i k l a.
    match_ok _ (keep_step give target s.scan.first_negative s.scan.last_negative (get_or s.roots.items i no_point) k)
    (stepped give headed target s.scan.first_negative s.scan.last_negative (densities s.roots.items) r i (get_or s.roots.items i no_point) k (rw (length_is s.roots.items) (omega (arith, l))) (density_is s.roots.items i) a) a.rises)

pub found_left_rises : (give : Float → Outcome) → Headed give → (target : Float) (s : Result Scanned Refusal) → IfOk s (λ t. Rising (densities t.roots.items)) → Rising (root_list (found_left give target s))
unfolding root_list
found_left_rises give g target (Ok s) r = left_rises give g target s r
found_left_rises give g target (Err n) r = rising_none
